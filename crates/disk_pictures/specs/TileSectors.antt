-- Which sectors the small drawing of a tile has. Our own.
use Rattle.std.specs.Prelude.{ℕ, List, [], ◌++◌, Option, if◌then◌else◌, codes, nat_eq}
use Rattle.d64_image.specs.Images.{Sector}
use Rattle.disk_layout.specs.Layout.{Layout}
use Rattle.disk_layout.specs.declared.faults.Fault.{Fault}
use Rattle.disk_pictures.specs.Pictures.{each_place}
use Rattle.disk_pictures.specs.Sectors.{Pen}
use Rattle.disk_pictures.specs.Sheets.{shade, shade_head, stroke}
use Rattle.disk_pictures.specs.Texts.{each_below}

-- the path of a shade by a pen
unfoldable pub shade_by : Pen → Option Fault → Sector → Layout → ℕ → List ℕ
shade_by pen v map l n =
    pen.rest (shade_head n)
    ++ (each_place (λ p. if nat_eq (shade v map l p) n then pen.sector p (stroke p) else []) ++ pen.rest (codes "\"/>"))

-- the small drawing by a pen
unfoldable pub small_by : Pen → Option Fault → Sector → Layout → List ℕ
small_by pen v map l = each_below 29 (shade_by pen v map l)
