-- Before the write that makes a file longer the disk has the layout and the records that it had.
use Rattle.std.proofs.Common.{◌≡◌, ℕ, ◌≤◌, inl, inr, true, false, List, ◌∷◌, ◌++◌, length, refl, sym, ◌∙◌, subst}
use Rattle.std.proofs.Common.{IsTrue, IsFalse}
use Rattle.std.specs.Prelude.{Contains, slice_get, Some, flat_map}
use Rattle.std.proofs.lemmas.Grind.{flat_map-append}
use Rattle.std.proofs.lemmas.List.Elements.{Contains-append_left, Contains-append_right}
use Rattle.d64_image.specs.Images.{Image, sector}
use Rattle.d64_image.specs.declared.place.Place.{Place}
use Rattle.disk_layout.proofs.lemmas.chains.Chains.{AgreeAt, links-agree}
use Rattle.disk_layout.proofs.lemmas.growth.Commit.{IsLayout-replace, alone, own-once}
use Rattle.disk_layout.proofs.lemmas.growth.SideWrites.{IsLonger, IsSide-shorter, file-there, same-layout}
use Rattle.disk_layout.proofs.lemmas.layouts.Agree.{owned-block, owned-side, owned-by_files, owned-directory}
use Rattle.disk_layout.proofs.lemmas.layouts.Agree.{records-agree}
use Rattle.disk_layout.proofs.lemmas.layouts.Exact.{exact-side}
use Rattle.disk_layout.proofs.lemmas.layouts.Layouts.{get-contains}
use Rattle.disk_layout.proofs.lemmas.layouts.Frames.{HasChain-frame, IsSide-frame, KeepsFiles, all_blocks, block-owned}
use Rattle.disk_layout.proofs.lemmas.layouts.Frames.{side-owned}
use Rattle.disk_layout.proofs.lemmas.lists.Once.{Contains-here, EachOnce-apart}
use Rattle.disk_layout.specs.Chain.{EachOnce}
use Rattle.disk_layout.specs.Directory.{map_place}
use Rattle.disk_layout.specs.Layout.{File, IsFile, IsLayout, IsRelFile, IsSide, Layout, exchanged, file_owns, is_rel}
use Rattle.disk_layout.specs.Layout.{owners}
use Rattle.disk_layout.specs.Records.{records}
use Rattle.rel_records.proofs.lemmas.steps.Others.{has-records, places-same}
use Rattle.rel_records.specs.Others.{HasRecords}
use Rattle.rel_records.specs.growth.Preparing.{IsPreparing}

-- the file stands among those of the layout
pub file-in : (l : Layout) (before after : List File) (f : File) → l.files ≡ before ++ f ∷ after → Contains l.files f
file-in l before after f split = rw split (Contains-append_right before (f ∷ after) f (Contains-here f after))

module _ (a c : Image) (l : Layout) (before after : List File) (f g : File) (h : IsLayout a l)
    (split : l.files ≡ before ++ f ∷ after) (rel : IsTrue (is_rel f.slot)) (long : IsLonger f g)
    (few : length g.sides ≤ 6) (p : IsPreparing a c l f g) where
  once : EachOnce (map_place ∷ owners (exchanged l before f after))
  once = rw (same-layout l before after f split) h.once

  -- a sector that is owned, and not by the file as a side sector, is as it was
  stays : (q : Place) → Contains (owners l) q → ¬ (Contains f.sides q) → sector a q ≡ sector c q
  stays q own none = elim (p.each q) [
    | inl e ↦ sym e
    | inr x ↦ elim x [
      | inl free ↦ absurd (free own)
      | inr s ↦ absurd (none (get-contains f.sides s.number q s.there))
    ]
  ]

  side-mine : (q : Place) → Contains f.sides q → Contains (file_owns f) q
  side-mine q d = Contains-append_right f.blocks f.sides q d

  pub directory-stays : AgreeAt a c l.directory
  directory-stays q d = stays q (owned-directory l q d) (λ s. (alone l before after f once q (side-mine q s)).directory
      d)

  pub blocks-stay : AgreeAt a c f.blocks
  blocks-stay q d = stays q (owned-block l f q (file-in l before after f split) d)
      (EachOnce-apart f.blocks f.sides (own-once l before after f once) q d)

  pub in-before : (q : Place) → Contains (flat_map file_owns before) q → Contains (flat_map file_owns l.files) q
  in-before q d = rw (split, flat_map-append file_owns before (f ∷ after))
      (Contains-append_left (flat_map file_owns before) (file_owns f ++ flat_map file_owns after) q d)

  pub in-after : (q : Place) → Contains (flat_map file_owns after) q → Contains (flat_map file_owns l.files) q
  in-after q d = rw (split, flat_map-append file_owns before (f ∷ after))
      (Contains-append_right (flat_map file_owns before) (file_owns f ++ flat_map file_owns after) q
      (Contains-append_right (file_owns f) (flat_map file_owns after) q d))

  pub before-stays : AgreeAt a c (flat_map file_owns before)
  before-stays q d = stays q (owned-by_files l q (in-before q d))
      (λ s. (alone l before after f once q (side-mine q s)).before d)

  pub after-stays : AgreeAt a c (flat_map file_owns after)
  after-stays q d = stays q (owned-by_files l q (in-after q d))
      (λ s. (alone l before after f once q (side-mine q s)).after d)

  keeps : (fs : List File) → AgreeAt a c (flat_map file_owns fs) → KeepsFiles a c fs
  keeps fs same = record {
    links = links-agree a c (all_blocks fs) (λ q d. same q (block-owned fs q d));
    sides = λ q d. same q (side-owned fs q d);
  }

  file : IsFile a f
  file = file-there a l before after f h split

  sides-are : (r : IsRelFile a f) (j : ℕ) (q : Place) → slice_get f.sides j ≡ Some q → IsSide c f j q
  sides-are r j q at = elim (p.each q) [
    | inl e ↦ IsSide-frame a c f j q (sym e) (r.sides j q at)
    | inr x ↦ elim x [
      | inl free ↦ absurd (free (owned-side l f q (file-in l before after f split) (get-contains f.sides j q at)))
      | inr s ↦
          let number : s.number ≡ j = sym (r.sides s.number q s.there).number ∙ (r.sides j q at).number in
          let P : ℕ → Type 0 = λ k. IsSide c f k q in
          subst P number (IsSide-shorter c f g s.number q long (exact-side c g s.number q few s.exact))
    ]
  ]

  -- the layout stays
  pub preparing-layout : IsLayout c l
  preparing-layout =
      let r = file.rel rel in
      let now : IsRelFile c f = record {
        chain = HasChain-frame a c f (links-agree a c f.blocks blocks-stay) r.chain;
        length_low = r.length_low;
        length_high = r.length_high;
        count = r.count;
        first_side = r.first_side;
        sides = sides-are r;
      } in
      let P : Layout → Type 0 = λ m. IsLayout c m in
      subst P (same-layout l before after f split) (IsLayout-replace a c l before after f f h split refl directory-stays
      (keeps before before-stays)
      (keeps after after-stays)
      (record {
        closed = file.closed;
        rel = λ t. now;
        empty = λ t z. absurd (differ t rel);
        plain = λ t z. absurd (differ t rel);
      })
      once)
    where
      differ : IsFalse (is_rel f.slot) → IsTrue (is_rel f.slot) → ⊥
      differ n t = let e : true ≡ false = sym t ∙ n in cc

  -- and the records, and what is asked to stay of other files
  pub preparing-records : records c f ≡ records a f
  preparing-records = sym (records-agree a c f blocks-stay)

  pub preparing-has : HasRecords a c l (length before) (records a f)
  preparing-has = has-records a c l before after f f (records a f) split refl before-stays after-stays p.header
      (let P : Layout → Type 0 = λ k. IsLayout c k in subst P (sym (same-layout l before after f split))
      preparing-layout)
      (places-same a f f (records a f) refl refl)
      preparing-records
