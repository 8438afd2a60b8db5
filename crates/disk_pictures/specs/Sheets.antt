-- A contact sheet: an HTML page with a small drawing of each disk. All of it is our own. Bytes of a disk and of a path
-- stand in it as `show` shows them, and names also as `signs` does, and in no other way.
use Rattle.std.specs.Prelude.{ℕ, ◌+◌, ◌%◌, List, [], ◌++◌, Option, if◌then◌else◌, codes, decimal, flat_map, nat_eq}
use Rattle.d64_image.specs.Images.{Sector}
use Rattle.d64_image.specs.declared.place.Place.{Place}
use Rattle.disk_layout.specs.Layout.{Layout}
use Rattle.disk_layout.specs.View.{blocks_free}
use Rattle.disk_layout.specs.declared.faults.Fault.{Fault}
use Rattle.disk_pictures.specs.Drawings.{owner_of}
use Rattle.disk_pictures.specs.Html.{Show, escaped}
use Rattle.damaged_files.specs.reached.Names.{disk_name}
use Rattle.disk_pictures.specs.Pictures.{each_place, page_head, verdict_class}
use Rattle.disk_pictures.specs.Texts.{each_below, is_fault_at, is_free, verdict_text}
use Rattle.disk_pictures.specs.declared.owners.Owner.{Owner}
use Rattle.disk_pictures.specs.declared.verdicts.Verdict.{Verdict}
use Rattle.disk_pictures.specs.declared.owners.Owner.TheVariants as owner
use Rattle.disk_pictures.specs.declared.sheets.sheet_printing.TheConstants as sheet

-- the shade of a sector, 0 to 28: 1 the map's, 2 the directory's, 3 free, 4 taken and nobody's. A block of an entry has 5
-- to 16 and a side sector 17 to 28, by the entry's number
abbrev pub owner_shade : Sector → Place → Owner → ℕ
owner_shade map p owner.Map = 1
owner_shade map p owner.Directory = 2
owner_shade map p (owner.Blocks k) = 5 + k % 12
owner_shade map p (owner.Sides k) = 17 + k % 12
owner_shade map p owner.Nobody = if is_free map p then 3 else 4

-- and 0 for the sector of the fault
abbrev pub shade : Option Fault → Sector → Layout → Place → ℕ
shade v map l p = if is_fault_at v p then 0 else owner_shade map p (owner_of l p)

-- a sector of a small drawing: tracks from left to right, sector 0 at the top
unfoldable pub stroke : Place → List ℕ
stroke p = codes "M" ++ (decimal p.track ++ (codes " " ++ (decimal p.sector ++ codes "h.8")))

-- of a sector of another shade nothing
abbrev pub own_stroke : Option Fault → Sector → Layout → ℕ → Place → List ℕ
own_stroke v map l n p = if nat_eq (shade v map l p) n then stroke p else []

-- the beginning of the sectors of a shade
unfoldable pub shade_head : ℕ → List ℕ
shade_head n = codes "<path class=\"p" ++ (decimal n ++ codes "\" d=\"")

-- the sectors of a shade, track by track
unfoldable pub shade_path : Option Fault → Sector → Layout → ℕ → List ℕ
shade_path v map l n = shade_head n ++ (each_place (own_stroke v map l n) ++ codes "\"/>")

-- the small drawing: each sector in its shade's path
unfoldable pub small_drawing : Option Fault → Sector → Layout → List ℕ
small_drawing v map l = each_below 29 (shade_path v map l)

-- the beginning of the tile of a disk that is drawn
unfoldable pub tile_head : Verdict → List ℕ
tile_head v = codes "<figure class=\"" ++ (verdict_class v ++ codes "\"><svg viewBox=\"0 -1 37 23\" aria-hidden=\"true\">")

-- what is printed of it: its path; its name, as it is typed and as a C64 shows it; what a check reports; and how many
-- blocks the map calls free
unfoldable pub caption : Show → Show → List ℕ → Verdict → Sector → List ℕ
caption show signs path v map =
    codes "</svg><figcaption><code>" ++ (show path ++ (codes "</code> <span>" ++ (show (disk_name map)
    ++ (codes "<bdi>" ++ (signs (disk_name map) ++ (codes "</bdi></span> <b>" ++ (verdict_text v
    ++ (codes "</b> <span>" ++ (decimal (blocks_free map) ++ codes " blocks free</span></figcaption>")))))))))

-- the end of a tile, where these lines say what isn't on the disk: below a heading to click, if there are any
abbrev pub tile_end : (lines : List ℕ) → List ℕ
tile_end [] = codes "</figure>\n"
tile_end lines =
    codes "<details><summary>Not on the disk of 35 tracks</summary><pre>"
    ++ (flat_map escaped lines ++ codes "</pre></details></figure>\n")

-- the tile of a disk that is drawn, up to its end
unfoldable pub tile_text : Show → Show → List ℕ → Verdict → Sector → Layout → List ℕ
tile_text show signs path v map l = tile_head v ++ (small_drawing v.found map l ++ caption show signs path v map)

-- the beginning of the tile of an image that isn't drawn
unfoldable pub refused_head : Show → List ℕ → List ℕ
refused_head show path = codes "<figure class=\"bad\"><figcaption><code>" ++ (show path ++ codes "</code> <b>")

-- the tile of an image that isn't drawn, with the reason that is printed
unfoldable pub refused_tile : Show → List ℕ → List ℕ → List ℕ
refused_tile show path told = refused_head show path ++ (told ++ codes "</b></figcaption></figure>\n")

-- the sheet's style
unfoldable pub sheet_style : List ℕ
sheet_style = sheet.STYLE.now

-- the beginning of a sheet of n disks
unfoldable pub sheet_head : ℕ → List ℕ
sheet_head n =
    page_head ++ (codes "Disks: " ++ (decimal n
    ++ (codes "</title>\n<style>" ++ (sheet_style ++ (codes "</style>\n<h1>Disks: " ++ (decimal n ++ codes "</h1>\n<main>\n"))))))

-- the end of a sheet, with the meaning of the colours
unfoldable pub sheet_end : List ℕ
sheet_end = sheet.END.now
