-- What a disk is whose map calls more sectors free.
use Rattle.std.proofs.Common.{◌≡◌, ◌≢◌, ◌⊎◌, ◌∷◌, ◌++◌, ◌∙◌, List, IsTrue, ap, inl, inr, subst, sym}
use Rattle.std.proofs.lemmas.Bool.{cases_eq}
use Rattle.std.specs.Prelude.{Contains, drop, take}
use Rattle.d64_image.proofs.Images.{sector-put_other, sector-put_same}
use Rattle.d64_image.specs.Images.{Image, IsImage, sector}
use Rattle.d64_image.specs.declared.place.Place.{Place}
use Rattle.disk_layout.proofs.lemmas.layouts.Agree.{IsLayout-agree, map-unowned, owned-side}
use Rattle.disk_layout.proofs.lemmas.layouts.Layouts.{get-contains}
use Rattle.disk_layout.proofs.lemmas.lists.Lists.{all-map}
use Rattle.disk_layout.specs.Clean.{IsExactFile}
use Rattle.disk_layout.specs.Directory.{map_place}
use Rattle.disk_layout.specs.Layout.{File, IsLayout, Layout, is_rel, owners}
use Rattle.disk_layout.specs.Map.{IsMapOf}
use Rattle.file_changes.proofs.FreedMaps.{freed-map}
use Rattle.file_changes.proofs.Mapped.{AreExactFiles, IsRemapped}
use Rattle.file_changes.specs.Frees.{IsFreed}
use Rattle.layout_check.specs.Keeping.{IsCleanBut}
use Rattle.layout_check.specs.Owners.{owner_of}
use Rattle.layout_check.specs.Survey.{IsSurveyOf}
use Rattle.layout_check.specs.declared.survey_outcome.Survey.{Survey}

-- whether a sector has an owner is in the table of a survey
pub owned-or : (l : Layout) (s : Survey) → IsSurveyOf l s → (p : Place)
    → Contains (map_place ∷ owners l) p ⊎ (¬ (Contains (map_place ∷ owners l) p))
unfolding owners
owned-or l s of p = elim (cases_eq (owner_of s.owners p) 255) [
  | inl e ↦ inr (λ c. (of.table.owned p).1 c e)
  | inr ne ↦ inl ((of.table.owned p).0 ne)
]

module _ (b : Image) (l m : Layout) (c : Image) (h : IsLayout b m) (image : IsImage b) (freed : IsFreed b l m c) where
  elsewhere : (p : Place) → p ≢ map_place → sector c p ≡ sector b p
  elsewhere p ne = ap (λ i. sector i p) freed.is ∙ sector-put_other b map_place p freed.map (λ e. ne (sym e))

  map-now : sector c map_place ≡ freed.map
  map-now = ap (λ i. sector i map_place) freed.is ∙ sector-put_same b map_place freed.map image.size

  pub freed-remapped : IsRemapped b m c
  freed-remapped = record {
    layout = IsLayout-agree b c m (λ q own. sym (elsewhere q (λ e.
        let P : Place → Type 0 = Contains (owners m) in map-unowned b m h (subst P e own)))) h;
    elsewhere = elsewhere;
    header = ap (λ s. take 4 s ++ drop 144 s) map-now ∙ cc (freed.freed.header.0, freed.freed.header.1);
  }

  still : (f : File) → Contains m.files f → (IsTrue (is_rel f.slot) → IsExactFile b f)
      → IsTrue (is_rel f.slot) → IsExactFile c f
  still f on was rel = record {
    sides = λ j q at. elsewhere q (λ same.
        let P : Place → Type 0 = Contains (owners m) in
        map-unowned b m h (subst P same (owned-side m f q on (get-contains f.sides j q at))))
        ∙ (was rel).sides j q at;
    count = (was rel).count;
  }

  -- and it is clean but for what nobody owned and was taken
  pub freed-clean : (strays : List Place) (s : Survey) → IsSurveyOf l s
      → ((p : Place) → Contains (map_place ∷ owners m) p → Contains (map_place ∷ owners l) p)
      → ((p : Place) → Contains strays p → ¬ (Contains (map_place ∷ owners l) p)) → AreExactFiles b m.files
      → IsMapOf (sector b map_place) (strays ++ map_place ∷ owners l) → IsCleanBut strays c m
  freed-clean strays s of less apart exact map = record {
    layout = freed-remapped.layout;
    files = all-map (λ f. IsTrue (is_rel f.slot) → IsExactFile b f) (λ f. IsTrue (is_rel f.slot) → IsExactFile c f)
        m.files still exact;
    map = subst (λ x. IsMapOf x (strays ++ map_place ∷ owners m)) (sym map-now)
        (freed-map (sector b map_place) freed.map l m strays (owned-or l s of) less apart freed.freed map);
  }
