-- What comes of making the image of an empty shop at a path. Our own.
use Rattle.std.specs.Prelude.{◌≡◌, ◌⊎◌, List, ℕ, Option, codes, true}
use Rattle.image_file.specs.Remains.{Remains}
use Rattle.image_file.specs.paths.Rights.{Rights}
use Rattle.image_file.specs.paths.Traces.{Traces}
use Rattle.opened_files.specs.Ends.{JobEnd}
use Rattle.opened_files.specs.Makings.{IsNewEnd, IsPutAt}
use Rattle.shop_commands.specs.Images.{AreFreshBytes}

module _ {H : Type 0} (rights : Rights H) (replaced : H → (path image : List ℕ) → Type 0) (host : H) where
  -- an image was put in the place of the one to which a path leads, and of its log
  abbrev pub IsReplacedAt : (path image : List ℕ) → Type 0
  IsReplacedAt path image = (found : List ℕ) × (rights.leads host path found ≡ true) × replaced host found image

module _ {H F : Type 0} (remains : Remains F) (traces : Traces H F) (rights : Rights H)
    (replaced : H → (path image : List ℕ) → Type 0) where
  -- or made at it, or written over the file that stands there
  abbrev pub IsPlaced : H → (path image : List ℕ) → Type 0
  IsPlaced host path image =
      IsReplacedAt rights replaced host path image ⊎ IsPutAt remains traces host path image

  -- the image of an empty shop was put so at a path, and that was printed; or the job isn't done
  abbrev pub IsFormattedEnd : {W : Type 0} → (W → Option (List ℕ)) → H → (path : List ℕ) → (tills : ℕ) → W → W → JobEnd → Type 0
  IsFormattedEnd contents host path tills old new end =
      IsNewEnd contents ((image : List ℕ) × AreFreshBytes tills image × IsPlaced host path image) (codes "FORMATTED\n")
      old new end
