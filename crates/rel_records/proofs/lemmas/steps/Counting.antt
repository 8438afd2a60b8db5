-- The block count behind the write that makes a file longer: from there to an image as clean as the first.
use Rattle.std.proofs.Common.{◌≡◌, ◌≢◌, ℕ, ◌+◌, ◌<◌, List, [], ◌∷◌, ◌++◌, length, refl, sym, ◌∙◌, ap, subst}
use Rattle.std.proofs.Common.{IsTrue, length-append}
use Rattle.std.specs.Prelude.{Contains, flat_map, replicate, take, drop}
use Rattle.std.specs.List.{AllByRecursion}
use Rattle.std.proofs.lemmas.Grind.{flat_map-append}
use Rattle.std.proofs.lemmas.List.Elements.{Contains-append_left, Contains-append_right}
use Rattle.d64_image.proofs.Images.{length-put, sector-put_other}
use Rattle.d64_image.specs.Images.{Image, IsImage, IsSector, Sector, put, sector}
use Rattle.d64_image.specs.declared.place.Place.{Place}
use Rattle.disk_layout.proofs.lemmas.chains.Chains.{AgreeAt}
use Rattle.disk_layout.proofs.lemmas.counts.Counts.{IsLayout-recount, new-slot, uncounted-face}
use Rattle.disk_layout.proofs.lemmas.counts.Faces.{with_slot}
use Rattle.disk_layout.proofs.lemmas.growth.Commit.{all-join, all-left, all-right, alone, grown, own-once}
use Rattle.disk_layout.proofs.lemmas.layouts.Agree.{records-agree}
use Rattle.disk_layout.proofs.lemmas.layouts.Layouts.{get-contains}
use Rattle.disk_layout.proofs.lemmas.lists.Lists.{all-map}
use Rattle.disk_layout.proofs.lemmas.lists.Once.{EachOnce-apart, flat_map-in}
use Rattle.disk_layout.specs.Clean.{IsExactFile}
use Rattle.disk_layout.specs.Directory.{map_place, slot_in}
use Rattle.disk_layout.specs.Entries.{IsRecounted, uncounted}
use Rattle.disk_layout.specs.Layout.{File, IsLayout, Layout, count_field, exchanged, file_owns, is_rel, owners}
use Rattle.disk_layout.specs.Layout.{record_length, sides_for}
use Rattle.disk_layout.specs.Map.{IsMapOf}
use Rattle.disk_layout.specs.Records.{IsFilled, empty_record, joined, pieces, record_count, records}
use Rattle.disk_layout.specs.Rest.{header_of}
use Rattle.disk_layout.specs.Side.{side_sector}
use Rattle.disk_layout.specs.declared.slot.Slot.{Slot}
use Rattle.rel_records.proofs.lemmas.steps.Preparing.{after-stays, before-stays}
use Rattle.rel_records.proofs.lemmas.steps.Others.{has-records, places-more}
use Rattle.rel_records.specs.Others.{HasRecords}
use Rattle.rel_records.specs.Usable.{StaysClean}
use Rattle.rel_records.proofs.lemmas.steps.Committing.{IsReadyToLink, committed, entry-in, entry-same, entry-unowned}
use Rattle.rel_records.proofs.lemmas.steps.Committing.{g-owned, last-in, last-mine, other-last, records-longer}

pub owners-slot : (l : Layout) (before after : List File) (g : File) (t : Slot)
    → owners (exchanged l before (with_slot g t) after) ≡ owners (exchanged l before g after)
unfolding owners
owners-slot l before after g t = ap (λ xs. l.directory ++ xs) (flat_map-append file_owns before (with_slot g t ∷ after)
    ∙ sym (flat_map-append file_owns before (g ∷ after)))

-- exact side sectors stay exact where they stay
pub exact-stay : (a b : Image) (fs : List File) → AgreeAt a b (flat_map file_owns fs)
    → AllByRecursion (λ f. IsTrue (is_rel f.slot) → IsExactFile a f) fs → AllByRecursion (λ f. IsTrue (is_rel f.slot)
    → IsExactFile b f) fs
exact-stay a b fs same all = all-map _ _ fs (λ f c h t. record {
  sides = λ j q e. sym
      (same q (flat_map-in file_owns fs f q c (Contains-append_right f.blocks f.sides q (get-contains f.sides j q e))))
      ∙ (h t).sides j q e;
  count = (h t).count;
}) all

-- all is ready for the link on c and for the count behind it: what the link needs, the directory sector's bytes with
-- the count, and the map of the new owners
pub record IsReadyToCount (a c : Image) (l : Layout) (before after : List File) (f : File) (fresh : Place) (u : ℕ)
    (ss : List Place) (map' block last_bytes entry_bytes : Sector) (front : List Place) (last : Place) : Type 0 where
  pub to_link : IsReadyToLink a c l before after f fresh u ss map' block last_bytes front last
  pub recount : IsRecounted (sector a f.slot.sector) entry_bytes f.slot.number
  pub counted : count_field (slot_in f.slot.sector entry_bytes f.slot.number)
      ≡ length f.blocks + 1 + sides_for (length f.blocks + 1)
  pub right : (strays : List Place) → IsMapOf (sector a map_place) (strays ++ map_place ∷ owners l)
      → IsMapOf map' (strays ++ map_place ∷ owners (exchanged l before (grown f fresh u ss) after))

module _ {a c : Image} {l : Layout} {before after : List File} {f : File} {fresh : Place} {u : ℕ} {ss : List Place}
    {map' block last_bytes entry_bytes : Sector} {front : List Place} {last : Place}
    (to_count : IsReadyToCount a c l before after f fresh u ss map' block last_bytes entry_bytes front last) where
  open to_count use {to_link, recount, counted, right}
  open to_count.to_link use {full, is_layout, split, rel, once, long, few, prepared}
  open to_count.to_link.prepared use {preparing}

  abbrev g : File
  g = grown f fresh u ss

  -- the image after that write
  abbrev b : Image
  b = put c last last_bytes

  -- the directory sector
  abbrev d : Place
  d = f.slot.sector

  full-b : length b ≡ 683
  full-b = length-put c last last_bytes ∙ full

  recount-b : IsRecounted (sector b d) entry_bytes f.slot.number
  recount-b = let P : Sector → Type 0 = λ s. IsRecounted s entry_bytes f.slot.number in
      subst P (sym (entry-same to_link)) recount

  -- the file and the image at the end
  abbrev slot : Slot
  slot = slot_in d entry_bytes f.slot.number

  abbrev e : Image
  e = put b d entry_bytes

  pub counted-layout : IsLayout e (exchanged l before (with_slot g slot) after)
  counted-layout = IsLayout-recount b (exchanged l before g after) before after g (committed to_link) refl rel
      entry_bytes full-b recount-b

  pub same-entry : uncounted f.slot ≡ uncounted slot
  same-entry = new-slot b (exchanged l before g after) before after g (committed to_link) refl rel
      entry_bytes full-b recount-b

  -- what others own is as it was
  around : (fs : List File) → AgreeAt a c (flat_map file_owns fs) → ((q : Place) → Contains (flat_map file_owns fs) q
      → ¬ (Contains (file_owns g) q)) → ((q : Place) → Contains (flat_map file_owns fs) q → d ≢ q)
      → AgreeAt a e (flat_map file_owns fs)
  around fs same apart entry q own = same q own ∙ sym (sector-put_other b d q entry_bytes (entry q own)
      ∙ sector-put_other c last q last_bytes (other-last to_link q (apart q own)))

  owned-before : (q : Place) → Contains (flat_map file_owns before) q
      → Contains (flat_map file_owns (before ++ g ∷ after)) q
  owned-before q own = rw (flat_map-append file_owns before (g ∷ after))
      (Contains-append_left (flat_map file_owns before) (file_owns g ++ flat_map file_owns after) q own)

  owned-after : (q : Place) → Contains (flat_map file_owns after) q
      → Contains (flat_map file_owns (before ++ g ∷ after)) q
  owned-after q own = rw (flat_map-append file_owns before (g ∷ after))
      (Contains-append_right (flat_map file_owns before) (file_owns g ++ flat_map file_owns after) q
      (Contains-append_right (file_owns g) (flat_map file_owns after) q own))

  pub before-same : AgreeAt a e (flat_map file_owns before)
  before-same = around before (before-stays a c l before after f g is_layout split rel long few preparing)
      (λ q own mine. (alone l before after g once q mine).before own)
      (λ q own. entry-unowned to_link q (owned-before q own))

  pub after-same : AgreeAt a e (flat_map file_owns after)
  after-same = around after (after-stays a c l before after f g is_layout split rel long few preparing)
      (λ q own mine. (alone l before after g once q mine).after own)
      (λ q own. entry-unowned to_link q (owned-after q own))

  exact-now : IsExactFile e (with_slot g slot)
  exact-now = record {
    sides = λ j q at.
        let mine : Contains ss q = get-contains ss j q at in
        let own : Contains (file_owns g) q = Contains-append_right g.blocks ss q mine in
        let apart : last ≢ q = λ same. EachOnce-apart g.blocks ss (own-once l before after g once) last
        (Contains-append_left f.blocks (fresh ∷ []) last (last-in to_link)) (let P : Place → Type 0 = Contains ss in
        subst P (sym same) mine) in
        sector-put_other b d q entry_bytes (entry-unowned to_link q (g-owned to_link q own))
        ∙ sector-put_other c last q last_bytes apart
        ∙ prepared.sides j q at
        ∙ ap (side_sector j g.blocks ss) (uncounted-face f.slot slot same-entry).length;
    count = counted ∙ ap (λ n. n + sides_for n) (sym (length-append f.blocks (fresh ∷ [])));
  }

  pub map-now : sector e map_place ≡ map'
  unfolding owners
  map-now =
      sector-put_other b d map_place entry_bytes (λ x. is_layout.directory.not_map (let P : Place
      → Type 0 = Contains l.directory in subst P x (entry-in to_link)))
      ∙ sector-put_other c last map_place last_bytes
      (λ x. once.0 (map-out last x (g-owned to_link last (last-mine to_link))))
      ∙ prepared.map
    where
      map-out : (q : Place) → q ≡ map_place → Contains (flat_map file_owns (before ++ g ∷ after)) q
          → Contains (owners (exchanged l before g after)) map_place
      map-out q x own = let P : Place → Type 0 = Contains (l.directory ++ flat_map file_owns (before ++ g ∷ after)) in
          subst P x (Contains-append_right l.directory (flat_map file_owns (before ++ g ∷ after)) q own)

  -- at the end the image is as clean as it was
  pub clean-again : StaysClean a l e (exchanged l before (with_slot g slot) after)
  clean-again strays was =
      let exact = let P : List File → Type 0 = λ fs. AllByRecursion (λ x. IsTrue (is_rel x.slot) → IsExactFile a x)
      fs in subst P split was.files in
      let behind = all-right (λ x. IsTrue (is_rel x.slot) → IsExactFile a x) before (f ∷ after) exact in
      record {
        layout = counted-layout;
        files = all-join (λ x. IsTrue (is_rel x.slot) → IsExactFile e x) before (with_slot g slot ∷ after)
            (exact-stay a e before before-same (all-left (λ x. IsTrue (is_rel x.slot) → IsExactFile a x) before
            (f ∷ after) exact))
            (λ t. exact-now, exact-stay a e after after-same behind.1);
        map = rw (map-now, owners-slot l before after g slot) (right strays was.map);
      }

  -- the file's blocks at the end are those after the commit
  entry-blocks : AgreeAt b e g.blocks
  entry-blocks q own = sym (sector-put_other b d q entry_bytes
      (entry-unowned to_link q (g-owned to_link q (Contains-append_left g.blocks ss q own))))

  pub header-same : header_of e ≡ header_of a
  header-same = ap (λ s. take 4 s ++ drop 144 s) (map-now ∙ sym prepared.map) ∙ preparing.header

  pub slot-records : records e (with_slot g slot) ≡ records b g
  unfolding records
  slot-records =
      ap (λ L. pieces L (record_count (length g.blocks) u L) (joined e g.blocks))
      (sym (uncounted-face f.slot slot same-entry).length)
      ∙ sym (records-agree b e g entry-blocks)

  -- and so at the end
  module _ (n m : ℕ) (w : IsImage c) (v : IsSector last_bytes) (some_more : 0 < m)
      (filled : IsFilled a f front last n (n + m) last_bytes block) (counts : record_count (length f.blocks + 1) u
      (record_length f.slot) ≡ n + m) where
    pub counted-has : HasRecords a e l (length before)
        (records a f ++ replicate m (empty_record (record_length f.slot)))
    counted-has = has-records a e l before after f (with_slot g slot) _ split (sym same-entry) before-same after-same
        header-same counted-layout (places-more a f (with_slot g slot) m (empty_record (record_length f.slot))
        some_more) (slot-records ∙ records-longer to_link n m w v some_more filled counts)
