-- The last block is filled: the file has all whole records that fit.
use Rattle.std.proofs.Common.{◌≡◌, ◌≢◌, ℕ, suc, ◌+◌, ◌-◌, ◌*◌, ◌<◌, ◌≤◌, ◌⊎◌, inl, inr, List, ◌∷◌, ◌++◌, get_or, length}
use Rattle.std.proofs.Common.{refl, sym, ◌∙◌, ap, arith, subst, length-append, slice_index, take, drop}
use Rattle.std.specs.Prelude.{Contains, Some, replicate, slice_get}
use Rattle.std.proofs.lemmas.Bool.{cases_lt}
use Rattle.d64_image.proofs.Images.{put_is_image, sector-put_other, sector-put_same}
use Rattle.d64_image.specs.Images.{Image, IsImage, IsSector, Sector, put, sector}
use Rattle.d64_image.specs.declared.place.Place.{Place}
use Rattle.disk_layout.proofs.lemmas.growth.Commit.{alone}
use Rattle.disk_layout.proofs.lemmas.growth.GrowthRecords.{count-full, get-seam}
use Rattle.disk_layout.proofs.lemmas.growth.Refills.{ended, records-more}
use Rattle.disk_layout.proofs.lemmas.growth.SideWrites.{same-layout}
use Rattle.disk_layout.specs.Chain.{EachOnce}
use Rattle.disk_layout.specs.Directory.{map_place}
use Rattle.disk_layout.specs.Layout.{File, Layout, exchanged, file_owns, owners, record_length}
use Rattle.disk_layout.specs.Records.{empty_record, filler, joined, record_count, records}
use Rattle.std.proofs.lemmas.List.Elements.{Contains-append_left}
use Rattle.rel_records.proofs.lemmas.Kept.{keeps_then}
use Rattle.rel_records.proofs.lemmas.filling.Ending.{ended-clean, ended-has, ended-others, map-stays}
use Rattle.rel_records.proofs.lemmas.filling.Fulls.{full-inside}
use Rattle.rel_records.proofs.lemmas.filling.Standing.{blocks-once, blocks-some, entry-in, file-rel, had-fit, had-full}
use Rattle.rel_records.proofs.lemmas.filling.Standing.{last-at, last-in, place, pos, same-last, split}
use Rattle.rel_records.proofs.lemmas.filling.Tails.{tail-before, tail-new, tail-other}
use Rattle.rel_records.specs.Others.{HasRecords, KeepsOthers}
use Rattle.rel_records.specs.Usable.{StaysClean}
use Rattle.rel_records.specs.Written.{IsGrowingBy, grown_by}
use Rattle.rel_records.specs.declared.growth.step_parts.Growing.{Growing}
use Rattle.rel_records.specs.growth.Growth.{full, records_had}
use Rattle.rel_records.specs.growth.Steps.{HasFilled, IsAt, IsEnd}
use Rattle.rel_records.proofs.lemmas.filling.ReadyToEnd.{IsReadyToEnd, ready-has}
use Rattle.rel_records.proofs.lemmas.whole.Filled.{filled-whole, ready-whole}

-- the last block is written: the file has all whole records that fit
module _ (a x : Image) (l : Layout) (n : ℕ) (f : File) (p : Growing) (w : IsImage a) (wx : IsImage x)
    (at0 : IsAt a l n f p) (ready : IsReadyToEnd a x l n f p) (bytes : Sector) (fresh : IsSector bytes)
    (end : IsEnd (length f.blocks) (record_length f.slot) (records_had f * record_length f.slot)
    (sector x ready.at.last_place) bytes) where
  abbrev at : IsAt x l n f p
  at = ready.at

  abbrev b : Image
  b = put x at.last_place bytes

  v : IsImage b
  v = put_is_image x at.last_place bytes wx fresh

  abbrev u : ℕ
  u = slice_index bytes 1

  abbrev h : File
  h = ended f u

  abbrev m : Layout
  m = exchanged l (take n l.files) h (drop (suc n) l.files)

  some : 1 ≤ length f.blocks
  some = omega (arith, blocks-some x l n f p at)

  -- the last block's first byte ends the chain
  ends : slice_index bytes 0 ≡ 0
  ends =
      let c = (file-rel x l n f p at).chain.2 in
      end.ends ∙ ap (λ q. slice_index (sector x q) 0) (sym (same-last x l n f p at)) ∙ c.ends.0

  -- all whole records are there
  counts : record_count (length f.blocks) u (record_length f.slot) ≡ full (record_length f.slot) (length f.blocks)
  counts =
      let e : length f.blocks - 1 + 1 ≡ length f.blocks = omega (arith, some) in
      let P : ℕ → Type 0 = λ k. record_count k u (record_length f.slot) ≡ full (record_length f.slot)
      (length f.blocks) in
      subst P e (count-full (length f.blocks - 1) u (record_length f.slot)
      (full (record_length f.slot) (length f.blocks)) (pos x l n f p at) (file-rel x l n f p at).length_high
      (ap (full (record_length f.slot)) (sym e)) end.index)

  -- how many empty records are added
  abbrev more : ℕ
  more = full (record_length f.slot) (length f.blocks) - records_had f

  total-is : full (record_length f.slot) (length f.blocks) ≡ records_had f + more
  total-is = omega (arith, had-full x l n f p at wx)

  low : (i : ℕ) → i < records_had f * record_length f.slot → get_or (joined x f.blocks) i 0 ≡ get_or (joined b f.blocks)
      i 0
  low i lt = sym (tail-before x f.blocks (length f.blocks - 1) (records_had f * record_length f.slot)
      (record_length f.slot) (full (record_length f.slot) (length f.blocks)) at.last_place bytes wx v
      (blocks-once x l n f p at) (last-at x l n f p at) end.kept end.filled i lt)

  high : (i : ℕ) → records_had f * record_length f.slot ≤ i → i < full (record_length f.slot) (length f.blocks)
      * record_length f.slot → get_or (joined b f.blocks) i 0 ≡ filler (record_length f.slot)
      (full (record_length f.slot) (length f.blocks)) i
  high i lo hi = elim (cases_lt i (254 * (length f.blocks - 1))) [
    | inl lt ↦
        tail-other x f.blocks (length f.blocks - 1) (records_had f * record_length f.slot) (record_length f.slot)
        (full (record_length f.slot) (length f.blocks)) at.last_place bytes wx v (blocks-once x l n f p at)
        (last-at x l n f p at) end.kept end.filled i (inl lt)
        ∙ ready.bytes i lo lt
    | inr ge ↦ tail-new x f.blocks (length f.blocks - 1) (records_had f * record_length f.slot) (record_length f.slot)
        (full (record_length f.slot) (length f.blocks)) at.last_place bytes wx v (blocks-once x l n f p at)
        (last-at x l n f p at) end.kept end.filled i lo ge
        (omega (arith, hi, some, full-inside (record_length f.slot) (length f.blocks)))
  ]

  -- the records, with the empty ones behind
  records-filled : records b h ≡ grown_by (record_length f.slot) more (records x f)
  records-filled =
      let fits : full (record_length f.slot) (length f.blocks) * record_length f.slot ≤ 254 * length f.blocks =
      full-inside (record_length f.slot) (length f.blocks) in
      let P : ℕ → Type 0 = λ k. k * record_length f.slot ≤ 254 * length f.blocks in
      let Q : ℕ → Type 0 = λ k. (i : ℕ) → records_had f * record_length f.slot ≤ i → i < k * record_length f.slot
      → get_or (joined b f.blocks) i 0 ≡ filler (record_length f.slot) k i in
      records-more x b f h (records_had f) more wx v refl (pos x l n f p at) refl (counts
      ∙ total-is) (had-fit x l n f p at wx) (subst P total-is fits) low (subst Q total-is high)

  before' : l.files ≡ take n l.files ++ f ∷ drop (suc n) l.files
  before' = split x l n f p at

  more-records : length (records x f) ≤ length (grown_by (record_length f.slot) more (records x f))
  more-records = omega (arith, length-append (records x f) (replicate more (empty_record (record_length f.slot))))

  ended-here : HasRecords x b l n (grown_by (record_length f.slot) more (records x f))
  ended-here =
      let P : ℕ → Type 0 = λ k. HasRecords x b l k (grown_by (record_length f.slot) more (records x f)) in
      subst P (place x l n f p at) (ended-has x l (take n l.files) (drop (suc n) l.files) f at.clean.layout before'
      at.rel at.last_place bytes (last-in x l n f p at) wx (file-rel x l n f p at) (same-last x l n f p at) u ends
      refl _ more-records records-filled)

  -- so the image is one that growth may leave
  pub filled-has : IsGrowingBy a l n f more b
  filled-has =
      let first : HasRecords a x l n (records a f) = ready-has a x l n f p at.there ready in
      let P : List (List ℕ) → Type 0 = λ rs. HasRecords x b l n (grown_by (record_length f.slot) more rs) in (
        more,
        omega arith,
        has_then' first (subst P ready.same ended-here),
        λ never wa. filled-whole x l n f p wx at bytes end.index ends (ready-whole a x l n f p at0 ready wa),
      )
    where
      has_then' : HasRecords a x l n (records a f)
          → HasRecords x b l n (grown_by (record_length f.slot) more (records a f))
          → HasRecords a b l n (grown_by (record_length f.slot) more (records a f))
      has_then' first second = record {
        layout = second.layout;
        is_layout = second.is_layout;
        others = keeps_then a x b l l second.layout n ready.others second.others;
        file = second.file;
        there = second.there;
        records = second.records;
        places = λ y e.
            let same : f ≡ y = cc in
            let k = second.places f at.there in
            let long : length (records x f) ≡ length (records a f) = ap length ready.same in
            let P : File → Type 0 =
            λ z. (length (records a z) ≤ length (grown_by (record_length f.slot) more (records a f)))
            × ((file_owns second.file ≡ file_owns z)
            ⊎ (length (records a z) < length (grown_by (record_length f.slot) more (records a f)))) in
            subst P same (
              omega (arith, k.0, long),
              elim k.1 [
                | inl s ↦ inl s
                | inr lt ↦ inr (omega (arith, lt, long))
              ],
            );
      }

  last-not-entry : at.last_place ≢ f.slot.sector
  last-not-entry e =
      let once = (let P : Layout → Type 0 = λ k. EachOnce (map_place ∷ owners k) in
      subst P (sym (same-layout l (take n l.files) (drop (suc n) l.files) f before')) at.clean.layout.once) in
      (alone l (take n l.files) (drop (suc n) l.files) f once at.last_place
      (Contains-append_left f.blocks f.sides at.last_place (last-in x l n f p at))).directory
      (let P : Place → Type 0 = Contains l.directory in subst P (sym e) (entry-in x l n f p at))

  ended-stays : StaysClean x l b m
  ended-stays = ended-clean x l (take n l.files) (drop (suc n) l.files) f at.clean.layout before' at.rel at.last_place
      bytes (last-in x l n f p at) wx (file-rel x l n f p at) (same-last x l n f p at) u ends refl

  -- and what is in memory is of it
  pub filled-up : (z : Growing) → z.map.bytes ≡ p.map.bytes → z.sector ≡ p.sector → z.number ≡ p.number → z.size ≡ p.size
      → z.sides.items ≡ p.sides.items → z.blocks.items ≡ p.blocks.items → z.last ≡ bytes → z.directory ≡ p.directory
      → HasFilled a b l n f p z
  filled-up z map sector' number size sides blocks last directory = record {
    run = record {
      layout = m;
      file = h;
      at = record {
        strays = at.strays;
        clean = ended-stays at.strays at.clean;
        there = (let P : ℕ → Type 0 = λ k. slice_get (take n l.files ++ h ∷ drop (suc n) l.files) k ≡ Some h in
            subst P (place x l n f p at) (get-seam (take n l.files) (drop (suc n) l.files) h));
        rel = at.rel;
        place = sector' ∙ at.place;
        number = number ∙ at.number;
        size = size ∙ at.size;
        sides = sides ∙ at.sides;
        blocks = blocks ∙ at.blocks;
        map = map ∙ at.map
            ∙ sym (map-stays x l (take n l.files) (drop (suc n) l.files) f at.clean.layout before' at.rel at.last_place
            bytes (last-in x l n f p at) wx);
        front = at.front;
        last_place = at.last_place;
        last_is = at.last_is;
        last = last ∙ sym (sector-put_same x at.last_place bytes wx.size);
        directory = directory ∙ at.directory
            ∙ sym (sector-put_other x at.last_place f.slot.sector bytes last-not-entry);
      };
      stays = λ strays was. ended-stays strays (ready.stays strays was);
      others =
          let P : ℕ → Type 0 = λ k. KeepsOthers x b l m k in
          keeps_then a x b l l m n ready.others
          (subst P (place x l n f p at) (ended-others x l (take n l.files) (drop (suc n) l.files) f at.clean.layout
          before' at.rel at.last_place bytes (last-in x l n f p at) wx u));
      records_are = records-filled ∙ ap (grown_by (record_length f.slot) more) ready.same;
      same_size = refl;
      places = (
        omega (arith, length-append (records a f) (replicate more (empty_record (record_length f.slot)))),
        inl refl,
      );
      count = refl;
      filled = counts;
    };
    blocks = refl;
    map = map;
  }
