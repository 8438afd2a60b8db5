-- What comes of making the image of an empty shop at a path where nothing stands. Our own.
use Rattle.std.specs.Prelude.{List, ℕ, Option, codes}
use Rattle.image_file.specs.Remains.{Remains}
use Rattle.image_file.specs.paths.Traces.{Traces}
use Rattle.opened_files.specs.Ends.{JobEnd}
use Rattle.opened_files.specs.Makings.{IsMadeAt, IsNewEnd}
use Rattle.shop_commands.specs.Images.{AreFreshBytes}

-- such an image was made at a path, and that was printed; or the job isn't done
abbrev pub IsNewShopEnd : {H F W : Type 0} → Traces H F → Remains F → (W → Option (List ℕ)) → H → (path : List ℕ) → (tills : ℕ)
    → W → W → JobEnd → Type 0
IsNewShopEnd traces remains contents host path tills old new end =
    IsNewEnd contents ((image : List ℕ) × AreFreshBytes tills image × IsMadeAt remains traces host path image)
    (codes "FORMATTED\n") old new end
