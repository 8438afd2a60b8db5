-- What a job leaves that is refused by what a disk holds that can be used. Our own.
use Rattle.std.specs.Prelude.{◌≡◌, ℕ, List, length}
use Rattle.d64_image.specs.History.{History, WritesNothing}
use Rattle.d64_image.specs.declared.place.Place.{Place}
use Rattle.disk_changes.specs.Judged.{IsCleanWith}
use Rattle.disk_layout.specs.Layout.{Layout}

-- nothing is wrong with the disk but that its map calls these sectors taken, which nobody owns, this holds of its layout, and nothing was written or printed
pub record IsLeft {D W : Type 0} (S : History D) (image : List ℕ) (old new : D) (before after : W)
    (Why : Layout → Type 0) : Type 0 where
  pub size : length image ≡ 174848
  pub layout : Layout
  pub strays : List Place
  pub usable : IsCleanWith strays (S.image old) layout
  pub why : Why layout
  pub quiet : WritesNothing S old new
  pub unprinted : after ≡ before
