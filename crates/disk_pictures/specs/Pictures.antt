-- The picture of a disk: an HTML page with an SVG drawing. All of it is our own. Bytes of the disk stand in it as
-- `show` shows them, and names also as `signs` does, and in no other way. The page that is printed shows them by `html_of`
-- and `petscii_of`.
use Rattle.std.specs.Prelude.{ℕ, ◌+◌, ◌*◌, ◌-◌, ◌/◌, ◌%◌, ◌&&◌, Bool, true, false, not, List, [], ◌++◌}
use Rattle.std.specs.Prelude.{Option, Some, None, if◌then◌else◌, codes, decimal, flat_map, length, nat_eq, slice_range}
use Rattle.d64_image.specs.Geometry.{sectors_on}
use Rattle.d64_image.specs.Images.{Sector}
use Rattle.d64_image.specs.Places.{place_at}
use Rattle.d64_image.specs.declared.place.Place.{Place}
use Rattle.disk_layout.specs.Directory.{map_place, type_byte}
use Rattle.disk_layout.specs.Layout.{File, Layout, count_field, record_length}
use Rattle.disk_layout.specs.Texts.{fault_text, place_text}
use Rattle.disk_layout.specs.declared.faults.Fault.{Fault}
use Rattle.disk_pictures.specs.Drawings.{owner_of}
use Rattle.disk_pictures.specs.Html.{Show, html_of}
use Rattle.damaged_files.specs.reached.Names.{disk_name, name_of}
use Rattle.disk_pictures.specs.Petscii.{petscii_of}
use Rattle.disk_pictures.specs.Texts.{any_below, at_place, each_below, has_records, is_at_place, is_free, numbered}
use Rattle.disk_layout.specs.Number.{place_of}
use Rattle.disk_pictures.specs.Texts.{records_in}
use Rattle.disk_pictures.specs.Sentences.{summary_text}
use Rattle.disk_pictures.specs.Texts.{verdict_text}
use Rattle.damaged_files.specs.reached.Types.{type_text}
use Rattle.disk_pictures.specs.declared.owners.Owner.{Owner}
use Rattle.disk_pictures.specs.declared.verdicts.Verdict.{Verdict}
use Rattle.disk_pictures.specs.declared.owners.Owner.TheVariants as owner
use Rattle.disk_pictures.specs.declared.pages.page.TheConstants as page

-- the classes of entry k: one of twelve colours, and one of four shapes for entries of one colour: three widths, and half
-- as long
unfoldable pub look : ℕ → List ℕ
look k = codes "c" ++ (decimal (k % 12) ++ (codes " w" ++ decimal (k / 12 % 4)))

-- how long the arc of a sector is on a ring of this radius with n sectors: 355/113 is pi
abbrev pub arc : ℕ → ℕ → ℕ
arc r n = 710 * r / (113 * n)

-- the radius of a track's ring: track 1 is outside
abbrev pub radius : ℕ → ℕ
radius t = 35400 - 800 * t

-- the beginning of a sector's circle on a ring of this radius: its one dash, which begins here, is the sector
unfoldable pub ring_text : ℕ → Place → List ℕ
ring_text r p =
    codes "<circle r=\""
    ++ (decimal r ++ (codes "\" stroke-dashoffset=\"-" ++ (decimal (p.sector * arc r (sectors_on p.track)) ++ codes
    "\"")))

-- the ring on the sector's own track, whose dash is among `dashes`
abbrev pub ring_of : Place → List ℕ
ring_of p = ring_text (radius p.track) p

-- 18/0
unfoldable pub map_arc : List ℕ
map_arc = ring_of map_place ++ codes " class=\"map\"><title>18/0 map</title></circle>\n"

-- a sector of the directory
unfoldable pub directory_arc : Place → List ℕ
directory_arc p =
    ring_of p ++ (codes " class=\"dir\"><title>" ++ (place_text p ++ codes " directory</title></circle>\n"))

-- block number o, from 1, of the n blocks of an entry of this name, in the colour of its group
unfoldable pub block_arc : Show → List ℕ → ℕ → ℕ → Place → List ℕ
block_arc show name o n p =
    ring_of p ++ (codes "><title>" ++ (place_text p ++ (codes " " ++ (show name
    ++ (codes ", block " ++ (decimal o ++ (codes " of " ++ (decimal n ++ codes "</title></circle>\n"))))))))

-- side sector j of an entry of this name, in another shade of its group's colour
unfoldable pub side_arc : Show → List ℕ → ℕ → Place → List ℕ
side_arc show name j p =
    ring_of p ++ (codes " class=\"s\"><title>" ++ (place_text p ++ (codes " " ++ (show name
    ++ (codes ", side sector " ++ (decimal j ++ codes "</title></circle>\n"))))))

-- a free sector, and one that is taken in the map and of nobody
unfoldable pub free_arc : Place → List ℕ
free_arc p = ring_of p ++ (codes " class=\"free\"><title>" ++ (place_text p ++ codes " free</title></circle>\n"))

-- a sector that the map calls taken and nobody owns
unfoldable pub lost_arc : Place → List ℕ
lost_arc p =
    ring_of p ++ (codes " class=\"lost\"><title>" ++ (place_text p ++ codes " taken, of no file</title></circle>\n"))

-- whose it is
abbrev pub is_blocks : ℕ → Owner → Bool
is_blocks k (owner.Blocks j) = nat_eq j k
is_blocks k o = false

-- it is a side sector of entry k
abbrev pub is_sides : ℕ → Owner → Bool
is_sides k (owner.Sides j) = nat_eq j k
is_sides k o = false

-- it is nobody's
abbrev pub is_nobody : Owner → Bool
is_nobody owner.Nobody = true
is_nobody o = false

-- a sector of an entry is drawn with it if it is drawn as the entry's
abbrev pub own_block : Show → Layout → ℕ → File → ℕ → Place → List ℕ
own_block show l k f n p = if is_blocks k (owner_of l p) then block_arc show (name_of f.slot) (n + 1) (length f.blocks)
    p else []

-- a side sector of an entry is drawn with it if it is drawn as the entry's
abbrev pub own_side : Show → Layout → ℕ → File → ℕ → Place → List ℕ
own_side show l k f n p = if is_sides k (owner_of l p) then side_arc show (name_of f.slot) n p else []

-- the beginning of the group of entry k, with its classes
unfoldable pub group_head : ℕ → List ℕ
group_head k = codes "<g id=\"f" ++ (decimal k ++ (codes "\" class=\"" ++ (look k ++ codes "\">\n")))

-- the group of entry k: its blocks in their order, then its side sectors
unfoldable pub file_group : Show → Layout → ℕ → File → List ℕ
file_group show l k f =
    group_head k ++ (numbered (own_block show l k f) 0 f.blocks ++ (numbered (own_side show l k f) 0 f.sides ++ codes
    "</g>\n"))

-- the group of the map and the directory
unfoldable pub system_group : Layout → List ℕ
system_group l = codes "<g id=\"m\">\n" ++ (map_arc ++ (flat_map directory_arc l.directory ++ codes "</g>\n"))

-- a sector of nobody
abbrev pub other_arc : Sector → Layout → Place → List ℕ
other_arc map l p = if is_nobody (owner_of l p) then (if is_free map p then free_arc p else lost_arc p) else []

-- the text of each sector, track by track
unfoldable pub each_place : (Place → List ℕ) → List ℕ
each_place line = each_below 35 (λ b. each_below 21 (λ s. at_place line (place_at (b + 1) s)))

-- the group of all sectors of nobody
unfoldable pub others_group : Sector → Layout → List ℕ
others_group map l = codes "<g id=\"r\">\n" ++ (each_place (other_arc map l) ++ codes "</g>\n")

-- a sector in use that the map calls free
abbrev pub is_open : Sector → Layout → Place → Bool
is_open map l p = not (is_nobody (owner_of l p)) && is_free map p

-- on the ring of its track, from where the sector begins up to the next: a dash as long as the sector's own, or none
unfoldable pub dash_text : Bool → Place → List ℕ
dash_text white p =
    if white then decimal (arc (radius p.track) (sectors_on p.track) - 200) ++ codes " 200 "
    else codes "0 " ++ (decimal (arc (radius p.track) (sectors_on p.track)) ++ codes " ")

-- the dashes of a track: over each sector in use that the map calls free
unfoldable pub track_dashes : Sector → Layout → ℕ → List ℕ
track_dashes map l t = each_below 21 (λ s. at_place (λ p. dash_text (is_open map l p) p) (place_at t s))

-- the beginning of the circle of a track's white line
unfoldable pub white_head : ℕ → List ℕ
white_head t = codes "<circle r=\"" ++ (decimal (radius t) ++ codes "\" style=\"stroke-dasharray:")

-- the white line of a track: a circle with these dashes
unfoldable pub white_ring : Sector → Layout → ℕ → List ℕ
white_ring map l t = white_head t ++ (track_dashes map l t ++ codes "\"/>\n")

-- the track has a sector in use that the map calls free
unfoldable pub is_track_open : Sector → Layout → ℕ → Bool
is_track_open map l t = any_below 21 (λ s. is_at_place (is_open map l) (place_at t s))

-- the white line of a track that has such a sector
abbrev pub own_ring : Sector → Layout → ℕ → List ℕ
own_ring map l t = if is_track_open map l t then white_ring map l t else []

-- the group of the white lines, over all sectors in use that the map calls free
unfoldable pub open_group : Sector → Layout → List ℕ
open_group map l = codes "<g class=\"open\">\n" ++ (each_below 35 (λ b. own_ring map l (b + 1)) ++ codes "</g>\n")

-- the mark of a fault at the rim, on a ring of its own
unfoldable pub rim_mark : Place → List ℕ
rim_mark p =
    ring_text 35700 p ++ (codes " stroke-dasharray=\"" ++ (decimal (arc 35700 (sectors_on p.track) - 200) ++ codes
    " 300000\" class=\"fault\"/>\n"))

-- the group of a fault: its sector in red, and a mark at the rim
unfoldable pub fault_sector : Fault → List ℕ
fault_sector f =
    codes "<g id=\"f\">\n" ++ (ring_of (place_of f) ++ (codes " class=\"edge\"><title>" ++ (fault_text f
    ++ (codes "</title></circle>\n" ++ (ring_of (place_of f) ++ (codes " class=\"fault\"><title>" ++ (fault_text f
    ++ (codes "</title></circle>\n" ++ (rim_mark (place_of f) ++ codes "</g>\n")))))))))

-- if one was found
abbrev pub fault_group : Option Fault → List ℕ
fault_group None = []
fault_group (Some f) = fault_sector f

-- the beginning of a page, up to its title
unfoldable pub page_head : List ℕ
page_head = page.HEAD.now

-- the beginning of the drawing, up to the disk's name in its middle
unfoldable pub drawing_head : List ℕ
drawing_head = page.DRAWING.now

-- the page's style
unfoldable pub style : List ℕ
style = page.STYLE.now

-- the dash of each ring: the arc of a sector less 200, and then nothing; and half as long, for entries of the fourth shape
unfoldable pub dashes : List ℕ
dashes = page.DASHES.now

-- how the result of a check is styled
abbrev pub class_by : Option Fault → Option Place → List ℕ
class_by None None = codes "good"
class_by None (Some p) = codes "bad"
class_by (Some f) cut = codes "bad"

-- the same of a verdict
abbrev pub verdict_class : Verdict → List ℕ
verdict_class v = class_by v.found v.cut

-- the head of the page: the disk's name, as it is typed and as a C64 shows it, and the style
unfoldable pub title_text : Show → Show → Sector → List ℕ
title_text show signs map =
    page_head ++ (show (disk_name map)
    ++ (codes "</title>\n<style>"
    ++ (style ++ (dashes ++ (codes "</style>\n<h1>" ++ (show (disk_name map) ++ (codes "<bdi>" ++ (signs (disk_name map)
    ++ codes "</bdi></h1>\n<p>1541 disk, id "))))))))

-- what follows: id and version; the verdict and what it says; the number of files, and free blocks as the map counts
-- them. Then the beginning of the drawing, with the disk's name in the middle
unfoldable pub told_text : Show → Verdict → Sector → Layout → List ℕ
told_text show v map l =
    show (slice_range map 162 164)
    ++ (codes " " ++ (show (slice_range map 165 167) ++ (codes "</p>\n<p class=\"" ++ (verdict_class v
    ++ (codes "\"><b>" ++ (verdict_text v ++ (codes "</b> "
    ++ (summary_text show v map l ++ (drawing_head
    ++ (show (disk_name map) ++ codes "</text></svg>\n<g transform=\"rotate(-90)\" aria-hidden=\"true\">\n"))))))))))

-- the end of the drawing, with the numbers of tracks and an arrow from sector 0 to 1
unfoldable pub tracks : List ℕ
tracks = page.TRACKS.now

-- the meaning of the colours, and the head of the table
unfoldable pub legend_text : List ℕ
legend_text = page.LEGEND.now

-- record length and number of records in two cells, if they are printed
abbrev pub cells_text : File → List ℕ
cells_text f =
    if has_records f then decimal (record_length f.slot) ++ (codes "</td><td>" ++ decimal (records_in f))
    else codes "</td><td>"

-- the name of entry k, which leads to its group, and beside it as a C64 shows it
unfoldable pub link_text : Show → Show → ℕ → List ℕ → List ℕ
link_text show signs k name =
    codes "<a href=\"#f" ++ (decimal k ++ (codes "\">" ++ (show name ++ (codes "</a><bdi>" ++ (signs name
    ++ codes "</bdi>")))))

-- the row of entry k in the table
unfoldable pub row_text : Show → Show → ℕ → File → List ℕ
row_text show signs k f =
    codes "<tr><td><i class=\"" ++ (look k ++ (codes "\"></i></td><td>" ++ (decimal (count_field f.slot)
    ++ (codes "</td><td>" ++ (link_text show signs k (name_of f.slot) ++ (codes "</td><td>"
    ++ (type_text (codes "&lt;") (type_byte f.slot)
    ++ (codes "</td><td>" ++ (cells_text f ++ codes "</td></tr>\n")))))))))

-- the end of the page
unfoldable pub end_text : List ℕ
end_text = page.END.now

-- the groups of the drawing
unfoldable pub drawing_text : Show → Option Fault → Sector → Layout → List ℕ
drawing_text show v map l =
    system_group l ++ (numbered (file_group show l) 0 l.files
    ++ (others_group map l ++ (open_group map l ++ fault_group v)))

-- the page
unfoldable pub page_text : Show → Show → Verdict → Sector → Layout → List ℕ
page_text show signs v map l =
    title_text show signs map ++ (told_text show v map l ++ (drawing_text show v.found map l ++ (tracks ++ (legend_text
    ++ (numbered (row_text show signs) 0 l.files ++ end_text)))))

-- the picture of a disk
abbrev pub picture_page : Verdict → Sector → Layout → List ℕ
picture_page v map l = page_text html_of petscii_of v map l
