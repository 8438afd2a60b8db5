-- A directory sector is right where its block counts are.
use Rattle.std.proofs.Common.{ℕ, ◌≡◌, refl, subst}
use Rattle.std.specs.Prelude.{Contains}
use Rattle.d64_image.specs.Images.{Image, Sector}
use Rattle.d64_image.specs.declared.place.Place.{Place}
use Rattle.disk_layout.proofs.lemmas.counts.Recount.{slot-there}
use Rattle.disk_layout.proofs.lemmas.counts.Recounts.{slot-of}
use Rattle.disk_layout.proofs.lemmas.layouts.Layouts.{IsLayout-one, get-contains}
use Rattle.disk_layout.proofs.lemmas.lists.Once.{flat_map-in}
use Rattle.disk_layout.specs.Directory.{slot_in}
use Rattle.disk_layout.specs.Layout.{IsLayout, Layout, count_field}
use Rattle.layout_check.proofs.lemmas.repairing.Rights.{directory-not_map, side-not_directory}
use Rattle.layout_check.specs.RepairOrder.{IsRight}
use Rattle.layout_check.specs.Recounted.{AreRightIn, owned_count}

module _ (a : Image) (l : Layout) (is : IsLayout a l) (p : Place) (bytes : Sector) where
  -- what is right has right counts
  pub right-counts : IsRight l p bytes → AreRightIn a p bytes
  right-counts right n low m f mine at =
      let P : Layout → Type 0 = λ x. Contains x.files f in
      let Q : ℕ → Type 0 = λ k. count_field (slot_in p bytes k) ≡ owned_count f in
      subst Q at.number (right.counts f (subst P (IsLayout-one a m l mine is) at.own) at.rel at.sector)

  -- and a directory sector with right counts is right: it is neither the map nor a side sector
  pub counts-right : Contains l.directory p → AreRightIn a p bytes → IsRight l p bytes
  counts-right on right = record {
    map = λ e. absurd (directory-not_map a l is (let P : Place → Type 0 = λ x. Contains l.directory x in subst P e on));
    side = λ f j own rel there. absurd
        (side-not_directory a l is p (flat_map-in (λ g. g.sides) l.files f p own (get-contains f.sides j p there)) on);
    counts = λ f own rel at.
        let (there, low, same, used) = slot-there a l.directory f.slot (slot-of a l f is own) in
        right f.slot.number low l f is (record { own = own; rel = rel; sector = at; number = refl });
  }
