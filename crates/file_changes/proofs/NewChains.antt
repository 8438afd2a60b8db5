-- The map and the chain of a new file are written: nobody owns them so far.
use Rattle.std.proofs.Common.{◌≡◌, inr, List, ap, length, sym, ◌∙◌}
use Rattle.std.specs.Prelude.{Contains}
use Rattle.d64_image.proofs.Images.{sector-put_other, sector-put_same}
use Rattle.d64_image.specs.Images.{Image, Sector, put, sector}
use Rattle.d64_image.specs.declared.place.Place.{Place}
use Rattle.disk_layout.specs.Directory.{map_place}
use Rattle.file_changes.specs.PutWrites.{SameBeside}
use Rattle.rel_records.specs.creation.NewFile.{ChangesOnly}

module _ (a b : Image) (map : Sector) (ps : List Place) (full : length a ≡ 683) (e : b ≡ put a map_place map)
    (apart : ¬ (Contains ps map_place)) (c : Image) (beside : SameBeside b ps c) where
  pub mapped : sector c map_place ≡ map
  mapped = beside map_place apart ∙ ap (λ i. sector i map_place) e ∙ sector-put_same a map_place map full

  pub beside-changes : ChangesOnly a map ps c
  beside-changes = record {
    map = inr mapped;
    rest = λ q off out. beside q out ∙ ap (λ i. sector i q) e ∙ sector-put_other a map_place q map (λ s. off (sym s));
  }
