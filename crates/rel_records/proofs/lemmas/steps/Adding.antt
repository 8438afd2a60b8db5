-- The link and the block count are written: a file has its next data block, and what is kept in memory is of the disk.
use Rattle.std.proofs.Common.{◌≡◌, ◌≢◌, ℕ, suc, ◌+◌, ◌-◌, List, [], ◌∷◌, ◌++◌, length, refl, sym, ◌∙◌, ap, arith, subst}
use Rattle.std.proofs.Common.{IsTrue, length-append, slice_index, take, drop}
use Rattle.std.specs.Prelude.{Bool, Contains, Some, nat_eq, slice_get, ◌||◌}
use Rattle.d64_image.proofs.Images.{sector-put_other, sector-put_same, length-put}
use Rattle.d64_image.specs.Images.{Image, IsImage, IsSector, Sector, put, sector}
use Rattle.d64_image.specs.declared.place.Place.{Place}
use Rattle.disk_layout.proofs.lemmas.counts.Counts.{uncounted-face}
use Rattle.disk_layout.proofs.lemmas.counts.Faces.{with_slot}
use Rattle.disk_layout.proofs.lemmas.growth.Commit.{grown}
use Rattle.disk_layout.proofs.lemmas.growth.GrowthRecords.{get-seam}
use Rattle.disk_layout.proofs.lemmas.lists.Once.{Contains-here, EachOnce-apart, EachOnce-left}
use Rattle.std.proofs.lemmas.List.Elements.{Contains-append_left, Contains-append_right}
use Rattle.disk_layout.specs.Directory.{map_place, slot_in}
use Rattle.disk_layout.specs.Entries.{IsRecounted, uncounted}
use Rattle.disk_layout.specs.Layout.{File, Layout, count_field, exchanged, file_owns, is_rel, owners, record_length}
use Rattle.disk_layout.specs.Layout.{sides_for}
use Rattle.disk_layout.specs.Map.{IsMapOf}
use Rattle.disk_layout.specs.Records.{empty_record, record_count, records}
use Rattle.disk_layout.specs.View.{blocks_free}
use Rattle.disk_layout.specs.declared.slot.Slot.{Slot}
use Rattle.rel_records.proofs.lemmas.steps.Others.{others-kept, places-more}
use Rattle.rel_records.specs.growth.Growth.{full, records_had}
use Rattle.rel_records.specs.Others.{HasRecords, KeepsOthers, KeepsPlaces}
use Rattle.rel_records.specs.growth.Preparing.{IsPrepared}
use Rattle.rel_records.specs.growth.Steps.{HasBlockMore, IsFilledUp, taken_next}
use Rattle.rel_records.specs.Written.{grown_by}
use Rattle.rel_records.specs.declared.growth.step_parts.Growing.{Growing}
use Rattle.rel_records.proofs.lemmas.steps.Committing.{IsReadyToLink, committed-has, entry-unowned, g-owned, last-in}
use Rattle.rel_records.proofs.lemmas.steps.Committing.{records-longer}
use Rattle.rel_records.proofs.lemmas.steps.Counting.{IsReadyToCount, after-same, before-same, clean-again, counted-has}
use Rattle.rel_records.proofs.lemmas.steps.Counting.{header-same, map-now, same-entry, slot-records}
use Rattle.rel_records.proofs.lemmas.steps.LaidOut.{IsStep, blocks-are, each, few-sides, many, next, place, size-is}
use Rattle.rel_records.proofs.lemmas.steps.LaidOut.{some, split}
use Rattle.rel_records.proofs.lemmas.steps.LastBlocks.{counts, filled, linked, made, records_more, some-more, total-is}

-- entries that are the same but for the count are relative together
pub is_rel-same : (s t : Slot) → uncounted s ≡ uncounted t → is_rel s ≡ is_rel t
is_rel-same s t e = ap (λ k. nat_eq k 132 || nat_eq k 196) (uncounted-face s t e).kind

-- c is the image to which the link is written
module _ {a : Image} {l : Layout} {n : ℕ} {f : File} {p q : Growing} {fresh : Place} {block : Sector}
    (step : IsStep a l n f p q fresh block) (up : IsFilledUp f) (c : Image) (x : IsImage c) (v : IsSector q.last)
    (ready : IsPrepared a c l f (grown f fresh (slice_index block 1) q.sides.items) fresh q.map.bytes block) where
  open step use {at, laid}

  abbrev before : List File
  before = take n l.files

  abbrev after : List File
  after = drop (suc n) l.files

  abbrev u : ℕ
  u = slice_index block 1

  abbrev ss : List Place
  ss = q.sides.items

  abbrev g : File
  g = grown f fresh u ss

  abbrev L : ℕ
  L = record_length f.slot

  abbrev N : ℕ
  N = length f.blocks

  pub to_link : IsReadyToLink a c l before after f fresh u ss q.map.bytes block q.last at.front at.last_place
  to_link = record {
    full = x.size;
    is_layout = at.clean.layout;
    split = split step;
    rel = at.rel;
    once = (next step).once;
    long = (next step).long;
    count = (next step).count;
    few = few-sides step;
    some = some step;
    prepared = ready;
    zero_there = (made step).ends;
    last_there = refl;
    blocks = at.last_is;
    link = (linked step).link;
  }

  abbrev b : Image
  b = put c at.last_place q.last

  -- the link makes the file longer
  pub linked-has : HasRecords a b l n (grown_by L (records_more f) (records a f))
  linked-has =
      let P : ℕ → Type 0 = λ k. HasRecords a b l k (grown_by L (records_more f) (records a f)) in
      subst P (place step) (committed-has to_link (full L N) (records_more f) x v (some-more step) (filled step up)
      (counts step ∙ total-is step))

  abbrev d : Place
  d = f.slot.sector

  pub to_count : IsReadyToCount a c l before after f fresh u ss q.map.bytes block q.last q.directory at.front at.last_place
  to_count = record {
    to_link = to_link;
    recount = recount;
    counted = counted;
    right = λ strays was. (next step).map strays
        (let P : Sector → Type 0 = λ s. IsMapOf s (strays ++ map_place ∷ owners l) in subst P (sym at.map) was);
  }
    where
      recount : IsRecounted (sector a d) q.directory f.slot.number
      recount =
          let P : Sector → Type 0 = λ s. IsRecounted s q.directory f.slot.number in
          let Q : ℕ → Type 0 = λ k. IsRecounted p.directory q.directory k in
          subst P at.directory (subst Q at.number laid.recounted)

      counted : count_field (slot_in d q.directory f.slot.number) ≡ N + 1 + sides_for (N + 1)
      counted =
          ap (λ k. count_field (slot_in d q.directory k)) (sym at.number)
          ∙ laid.count d
          ∙ omega (arith, ap length (blocks-are step), length-append f.blocks (fresh ∷ []), (next step).count)

  abbrev e : Image
  e = put b d q.directory

  -- the count makes the image as clean as it was
  pub counted-has' : HasRecords a e l n (grown_by L (records_more f) (records a f))
  counted-has' =
      let P : ℕ → Type 0 = λ k. HasRecords a e l k (grown_by L (records_more f) (records a f)) in
      subst P (place step) (counted-has to_count (full L N) (records_more f) x v (some-more step) (filled step up)
      (counts step ∙ total-is step))

  abbrev t : Slot
  t = slot_in d q.directory f.slot.number

  abbrev h : File
  h = with_slot g t

  abbrev m : Layout
  m = exchanged l before h after

  same : uncounted f.slot ≡ uncounted t
  same = same-entry to_count

  full-b : length b ≡ 683
  full-b = length-put c at.last_place q.last ∙ x.size

  entry-apart : (y : Place) → Contains (file_owns g) y → d ≢ y
  entry-apart y own = entry-unowned to_link y (g-owned to_link y own)

  fresh-in : Contains (f.blocks ++ fresh ∷ []) fresh
  fresh-in = Contains-append_right f.blocks (fresh ∷ []) fresh (Contains-here fresh [])

  pub last-fresh : at.last_place ≢ fresh
  last-fresh s = EachOnce-apart f.blocks (fresh ∷ []) (EachOnce-left (f.blocks ++ fresh ∷ []) ss (each step))
      at.last_place (last-in to_link)
      (let P : Place → Type 0 = Contains (fresh ∷ []) in subst P (sym s) (Contains-here fresh []))

  pub block-there : sector e fresh ≡ block
  block-there =
      sector-put_other b d fresh q.directory (entry-apart fresh (Contains-append_left g.blocks ss fresh fresh-in))
      ∙ sector-put_other c at.last_place fresh q.last last-fresh
      ∙ ready.block

  pub there : slice_get m.files n ≡ Some h
  there = let P : ℕ → Type 0 = λ k. slice_get (before ++ h ∷ after) k ≡ Some h in
      subst P (place step) (get-seam before after h)

  pub kept : KeepsOthers a e l m n
  kept =
      let P : ℕ → Type 0 = λ k. KeepsOthers a e l m k in
      subst P (place step) (others-kept a e l before after f h (split step) (sym same) (before-same to_count)
      (after-same to_count) (header-same to_count))

  -- at the end the file has a block more, and what is in memory is of the image
  pub block-more : (z : Growing) → z.map.bytes ≡ q.map.bytes → z.sector ≡ q.sector → z.number ≡ q.number
      → z.size ≡ q.size → z.sides.items ≡ ss → z.blocks.items ≡ q.blocks.items → z.last ≡ block
      → z.directory ≡ q.directory → HasBlockMore a e l n f p z
  block-more z map sector' number size sides blocks last directory =
      let same-more : records_more f ≡ full L (N + 1) - records_had f = ap (λ k. full L (N + 1) - k) (sym up) in
      record {
        run = record {
          layout = m;
          file = h;
          at = record {
            strays = at.strays;
            clean = clean-again to_count at.strays at.clean;
            there = there;
            rel = let P : Bool → Type 0 = IsTrue in subst P (is_rel-same f.slot t same) at.rel;
            place = sector' ∙ laid.places.sector ∙ at.place;
            number = number ∙ laid.places.number ∙ at.number;
            size = size ∙ size-is step ∙ (uncounted-face f.slot t same).length;
            sides = sides;
            blocks = blocks ∙ blocks-are step;
            map = map ∙ sym (map-now to_count);
            front = f.blocks;
            last_place = fresh;
            last_is = refl;
            last = last ∙ sym block-there;
            directory = directory ∙ sym (sector-put_same b d q.directory full-b);
          };
          stays = clean-again to_count;
          others = kept;
          records_are =
              slot-records to_count
              ∙ records-longer to_link (full L N) (records_more f) x v (some-more step) (filled step up)
              (counts step ∙ total-is step)
              ∙ ap (λ j. grown_by L j (records a f)) same-more;
          same_size = sym (uncounted-face f.slot t same).length;
          places = let P : ℕ → Type 0 = λ j. KeepsPlaces a f h (grown_by L j (records a f)) in
              subst P same-more (places-more a f h (records_more f) (empty_record L) (some-more step));
          count = length-append f.blocks (fresh ∷ []);
          filled =
              let one : length (f.blocks ++ fresh ∷ []) ≡ N + 1 = length-append f.blocks (fresh ∷ []) in
              let P : ℕ → Type 0 = λ k. record_count k u L ≡ full L k in
              let Q : ℕ → Type 0 = λ s. record_count (length (f.blocks ++ fresh ∷ [])) u s
              ≡ full s (length (f.blocks ++ fresh ∷ [])) in
              subst Q (uncounted-face f.slot t same).length (subst P (sym one) (counts step));
        };
        free = ap (λ s. blocks_free s + taken_next N) map
            ∙ ap (λ k. blocks_free q.map.bytes + taken_next k) (sym (many step)) ∙ laid.places.free;
      }
