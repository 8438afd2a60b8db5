-- An image without one of its files: the others are whole.
use Rattle.std.proofs.Common.{◌≡◌, ◌≢◌, ℕ, ◌+◌, ◌*◌, inl, inr, List, [], ◌∷◌, ◌++◌, IsTrue, ap, drop}
use Rattle.std.proofs.Common.{refl, subst, suc, sym, take, ◌∙◌}
use Rattle.std.proofs.lemmas.List.Elements.{Contains-append_cases, Contains-append_left, Contains-append_right}
use Rattle.std.specs.List.{AllByRecursion}
use Rattle.std.specs.Prelude.{Contains, Some, flat_map, slice_get}
use Rattle.d64_image.proofs.Images.{sector-put_other, sector-put_same}
use Rattle.d64_image.specs.Images.{Image, IsImage, sector}
use Rattle.d64_image.specs.declared.place.Place.{Place}
use Rattle.disk_layout.proofs.lemmas.growth.Commit.{all-join, all-left, all-right}
use Rattle.disk_layout.proofs.lemmas.layouts.Agree.{map-unowned, owned-by_files}
use Rattle.disk_layout.proofs.lemmas.layouts.Layouts.{get-contains}
use Rattle.disk_layout.proofs.lemmas.lists.Lists.{all-map, contains-get}
use Rattle.disk_layout.proofs.lemmas.lists.Once.{Contains-cases, Contains-here, Contains-there, all-in, flat_map-in}
use Rattle.disk_layout.proofs.lemmas.counts.Recount.{flat_map-out}
use Rattle.disk_layout.proofs.lemmas.whole.Files.{AreExact}
use Rattle.disk_layout.specs.Clean.{IsExactFile}
use Rattle.disk_layout.specs.Directory.{map_place}
use Rattle.disk_layout.specs.Layout.{File, IsLayout, Layout, file_owns, is_rel, owners}
use Rattle.disk_layout.specs.Whole.{IsWhole}
use Rattle.rel_records.proofs.lemmas.whole.Created.{exact-long}
use Rattle.file_changes.proofs.Mapped.{AreExactFiles, IsRemapped}
use Rattle.file_changes.proofs.Reslotted.{place, split, unowned}
use Rattle.file_changes.proofs.Unlisted.{unlisted}
use Rattle.file_changes.specs.Deletes.{IsWithout}
use Rattle.file_changes.specs.Entries.{without_file}
use Rattle.file_changes.specs.Patches.{patched}

module _ (a : Image) (l : Layout) (n : ℕ) (f : File) (h : IsLayout a l) (files : AreExactFiles a l.files)
    (at : slice_get l.files n ≡ Some f) (image : IsImage a) where
  abbrev m : Layout
  m = without_file l n

  abbrev b : Image
  b = patched a f.slot.sector (32 * f.slot.number + 2) (0 ∷ [])

  -- a file of the new layout is one of the old
  old-file : (y : File) → Contains (without_file l n).files y → Contains l.files y
  old-file y on =
      let P : List File → Type 0 = λ fs. Contains fs y in
      subst P (sym (split a l n f h at)) (elim (Contains-append_cases (take n l.files) (drop (suc n) l.files) y on) [
        | inl c ↦ Contains-append_left (take n l.files) (f ∷ drop (suc n) l.files) y c
        | inr c ↦ Contains-append_right (take n l.files) (f ∷ drop (suc n) l.files) y
            (Contains-there y f (drop (suc n) l.files) c)
      ])

  -- what the new layout owns the old one owns
  pub owned-before : (q : Place) → Contains (map_place ∷ owners (without_file l n)) q → Contains (map_place ∷ owners l) q
  unfolding owners
  owned-before q c = elim (Contains-cases q map_place (owners m) c) [
    | inl e ↦ (let P : Place → Type 0 = Contains (map_place ∷ owners l) in
        subst P e (Contains-here map_place (owners l)))
    | inr d ↦ Contains-there q map_place (owners l) (elim (Contains-append_cases l.directory (flat_map file_owns m.files)
        q d) [
          | inl on ↦ Contains-append_left l.directory (flat_map file_owns l.files) q on
          | inr own ↦ (let (y, there, mine) = flat_map-out file_owns m.files q own in
              owned-by_files l q (flat_map-in file_owns l.files y q (old-file y there) mine))
        ])
  ]

  module _ (c : Image) (elsewhere : (q : Place) → q ≢ map_place → q ≢ f.slot.sector → sector c q ≡ sector a q) where
    -- what files own is as it was
    same : (y : File) (q : Place) → Contains l.files y → Contains (file_owns y) q → sector c q ≡ sector a q
    same y q on there =
        let own = flat_map-in file_owns l.files y q on there in
        let P : Place → Type 0 = Contains (owners l) in
        let Q : Place → Type 0 = Contains (flat_map file_owns l.files) in
        elsewhere q (λ e. map-unowned a l h (subst P e (owned-by_files l q own)))
        (λ e. unowned a l n f h at (subst Q e own))

    exact : (j : ℕ) (y : File) → slice_get m.files j ≡ Some y → IsTrue (is_rel y.slot) → AreExact c y
    exact j y there rel i q e =
        let on = old-file y (get-contains m.files j y there) in
        same y q on (Contains-append_right y.blocks y.sides q (get-contains y.sides i q e))
        ∙ (all-in _ l.files y files on rel).sides i q e

    pub without-whole : IsLayout c (without_file l n) → IsWhole a → IsWhole c
    without-whole now w = exact-long c m now exact (λ y d.
        let on = old-file y d in
        let (i, was) = contains-get l.files y on in
        let old = w l h i y was in (
          old.counted,
          λ t q last zeros. old.ended t q last
              (sym (same y q on (Contains-append_left y.blocks y.sides q (get-contains y.blocks _ q last))) ∙ zeros),
        ))

  -- the sectors of the image after the first write
  after : (q : Place) → q ≢ map_place → q ≢ f.slot.sector → sector b q ≡ sector a q
  after q ne off = sector-put_other a f.slot.sector q _ (λ e. off (sym e))

  pub map-after : sector b map_place ≡ sector a map_place
  map-after = sector-put_other a f.slot.sector map_place _ (λ e. h.directory.not_map
      (let P : Place → Type 0 = Contains l.directory in subst P e (place a l n f h at).0))

  not-map : f.slot.sector ≢ map_place
  not-map e = h.directory.not_map (let P : Place → Type 0 = Contains l.directory in subst P e (place a l n f h at).0)

  -- relative files are exact then
  exact-file : (y : File) → Contains l.files y → (IsTrue (is_rel y.slot) → IsExactFile a y) → IsTrue (is_rel y.slot)
      → IsExactFile b y
  exact-file y on was rel = record {
    sides = λ j q e. same b after y q on (Contains-append_right y.blocks y.sides q (get-contains y.sides j q e))
        ∙ (was rel).sides j q e;
    count = (was rel).count;
  }

  pub exact-after : AreExactFiles b (without_file l n).files
  exact-after =
      let P : File → Type 0 = λ y. IsTrue (is_rel y.slot) → IsExactFile a y in
      let Q : File → Type 0 = λ y. IsTrue (is_rel y.slot) → IsExactFile b y in
      let parts : AllByRecursion P (take n l.files ++ f ∷ drop (suc n) l.files) =
      (let R : List File → Type 0 = AllByRecursion P in subst R (split a l n f h at) files) in
      all-map P Q m.files (λ y on. exact-file y (old-file y on))
      (all-join P (take n l.files) (drop (suc n) l.files)
      (all-left P (take n l.files) (f ∷ drop (suc n) l.files) parts)
      (all-right P (take n l.files) (f ∷ drop (suc n) l.files) parts).1)

  pub without-at : (c : Image) → IsRemapped b (without_file l n) c → IsWithout a l n f c
  without-at c r =
      let elsewhere : (q : Place) → q ≢ map_place → q ≢ f.slot.sector → sector c q ≡ sector a q =
      λ q ne off. r.elsewhere q ne ∙ after q ne off in
      record {
        layout = r.layout;
        entry = r.elsewhere f.slot.sector not-map ∙ sector-put_same a f.slot.sector _ image.size;
        elsewhere = elsewhere;
        header = r.header ∙ ap (λ (z : List ℕ). take 4 z ++ drop 144 z) map-after;
        whole = without-whole c elsewhere r.layout;
      }

  pub first-without : IsWithout a l n f b
  first-without = without-at b (record {
    layout = unlisted a l n f h at image;
    elsewhere = λ q ne. refl;
    header = refl;
  })
