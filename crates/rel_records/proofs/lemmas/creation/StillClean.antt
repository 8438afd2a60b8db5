-- A new file's entry leaves an image as clean as it was, where the map is that of the new owners: in a free slot, or
-- linked.
use Rattle.std.proofs.Common.{◌≡◌, ◌≢◌, List, [], ◌∷◌, ◌++◌, ap, map, subst, sym, ◌∙◌, IsTrue}
use Rattle.std.specs.List.{AllByRecursion}
use Rattle.std.specs.Prelude.{Contains, flat_map}
use Rattle.std.proofs.lemmas.List.Elements.{Contains-append_left, Contains-append_right}
use Rattle.d64_image.proofs.Images.{sector-put_other}
use Rattle.d64_image.specs.Images.{Image, Sector, put, sector}
use Rattle.d64_image.specs.declared.place.Place.{Place}
use Rattle.disk_layout.proofs.lemmas.chains.Chains.{AgreeAt}
use Rattle.disk_layout.proofs.lemmas.counts.Recounts.{reread, reslot}
use Rattle.disk_layout.proofs.lemmas.growth.Commit.{all-join, all-left, all-right}
use Rattle.disk_layout.proofs.lemmas.layouts.Agree.{owned-side}
use Rattle.disk_layout.proofs.lemmas.layouts.Layouts.{get-contains}
use Rattle.disk_layout.proofs.lemmas.lists.Once.{Contains-here, Contains-there, flat_map-in}
use Rattle.disk_layout.specs.Clean.{IsExactFile}
use Rattle.disk_layout.specs.Directory.{map_place}
use Rattle.disk_layout.specs.Layout.{File, IsLayout, Layout, count_field, file_owns, is_rel, is_rel_type, owners}
use Rattle.disk_layout.specs.Map.{IsMapOf}
use Rattle.disk_layout.specs.Side.{side_sector}
use Rattle.layout_check.specs.Keeping.{IsCleanBut}
use Rattle.rel_records.proofs.lemmas.creation.Creating.{SameEntry, with_new}

-- the directory sector at p is written, and each entry that was there says what it said
module _ (a c : Image) (l : Layout) (p : Place) (bytes : Sector) (same : AgreeAt a c (owners l))
    (off : ¬ (Contains (flat_map file_owns l.files) p))
    (stays : (f : File) → Contains l.files f → SameEntry f.slot (reslot (put c p bytes) f.slot)
    × (count_field (reslot (put c p bytes) f.slot) ≡ count_field f.slot)) where
  exact-still : (f : File) → Contains l.files f → (IsTrue (is_rel f.slot) → IsExactFile a f)
      → IsTrue (is_rel (reslot (put c p bytes) f.slot)) → IsExactFile (put c p bytes) (reread (put c p bytes) f)
  exact-still f d was t =
      let face = (stays f d).0.face in
      let old = was (ap is_rel_type face.kind ∙ t) in
      record {
        sides = λ j q at.
            let own = get-contains f.sides j q at in
            let apart : p ≢ q = λ one. off (subst (λ x. Contains (flat_map file_owns l.files) x) (sym one)
            (flat_map-in file_owns l.files f q d (Contains-append_right f.blocks f.sides q own))) in
            sector-put_other c p q bytes apart ∙ sym (same q (owned-side l f q d own)) ∙ old.sides j q at
            ∙ ap (side_sector j f.blocks f.sides) face.length;
        count = (stays f d).1 ∙ old.count;
      }

  exact-all : (fs : List File) → ((f : File) → Contains fs f → Contains l.files f)
      → AllByRecursion (λ f. IsTrue (is_rel f.slot) → IsExactFile a f) fs
      → AllByRecursion (λ f. IsTrue (is_rel f.slot) → IsExactFile (put c p bytes) f) (map (reread (put c p bytes)) fs)
  exact-all [] sub all = tt
  exact-all (f ∷ fs) sub all = (
    exact-still f (sub f (Contains-here f fs)) all.0,
    exact-all fs (λ g e. sub g (Contains-there g f fs e)) all.1,
  )

  pub still-clean : (strays ps : List Place) (fs gs : List File) (k : File) → IsCleanBut strays a l → l.files ≡ fs ++ gs
      → IsLayout (put c p bytes) (record { directory = ps; files = with_new (put c p bytes) fs gs k })
      → (IsTrue (is_rel k.slot) → IsExactFile (put c p bytes) k) → p ≢ map_place
      → IsMapOf (sector c map_place)
      (strays ++ map_place ∷ owners (record { directory = ps; files = with_new (put c p bytes) fs gs k }))
      → IsCleanBut strays (put c p bytes) (record { directory = ps; files = with_new (put c p bytes) fs gs k })
  still-clean strays ps fs gs k clean split layout exact no_map right =
      let Q : File → Type 0 = λ f. IsTrue (is_rel f.slot) → IsExactFile a f in
      let old = subst (λ ks. AllByRecursion Q ks) split clean.files in
      record {
        layout = layout;
        files = all-join (λ f. IsTrue (is_rel f.slot) → IsExactFile (put c p bytes) f)
            (map (reread (put c p bytes)) fs) (k ∷ map (reread (put c p bytes)) gs)
            (exact-all fs (λ f d. rw split (Contains-append_left fs gs f d)) (all-left Q fs gs old))
            (exact, exact-all gs (λ f d. rw split (Contains-append_right fs gs f d)) (all-right Q fs gs old));
        map = subst (λ x. IsMapOf x (strays ++ map_place ∷ owners (record {
          directory = ps;
          files = with_new (put c p bytes) fs gs k;
        }))) (sym (sector-put_other c p map_place bytes no_map)) right;
      }
