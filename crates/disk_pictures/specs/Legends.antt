-- The meaning of the colours of a poster: a row for each kind of sector that the disk has. All of it is our own.
use Rattle.std.specs.Prelude.{ℕ, ◌+◌, ◌&&◌, Bool, true, false, not, List, [], ◌++◌, Option, if◌then◌else◌, codes, decimal}
use Rattle.std.specs.List.{list_any}
use Rattle.std.specs.Option.{is_some}
use Rattle.d64_image.specs.Images.{Sector}
use Rattle.d64_image.specs.Places.{places}
use Rattle.d64_image.specs.declared.place.Place.{Place}
use Rattle.disk_layout.specs.Layout.{Layout}
use Rattle.disk_layout.specs.declared.faults.Fault.{Fault}
use Rattle.disk_pictures.specs.Drawings.{owner_of}
use Rattle.disk_pictures.specs.Pictures.{is_nobody, is_open, tracks}
use Rattle.disk_pictures.specs.Texts.{is_free}
use Rattle.disk_pictures.specs.declared.owners.Owner.{Owner}
use Rattle.disk_pictures.specs.declared.owners.Owner.TheVariants as owner
use Rattle.disk_pictures.specs.declared.pages.kinds.Kind.{Kind}
use Rattle.disk_pictures.specs.declared.pages.kinds.Kind.TheVariants as kind
use Rattle.disk_pictures.specs.declared.pages.legend.Legend.{Legend}
use Rattle.disk_pictures.specs.declared.pages.legend.TheConstants as legend

-- it is a side sector of an entry
abbrev pub is_side : Owner → Bool
is_side (owner.Sides k) = true
is_side o = false

-- a sector is of this kind
abbrev pub is_of : Kind → Sector → Layout → Place → Bool
is_of kind.Free map l p = is_nobody (owner_of l p) && is_free map p
is_of kind.Lost map l p = is_nobody (owner_of l p) && not (is_free map p)
is_of kind.Side map l p = is_side (owner_of l p)
is_of kind.Used map l p = is_open map l p

-- a sector of the disk is of this kind
abbrev pub occurs : Kind → Sector → Layout → Bool
occurs k map l = list_any (is_of k map l) places

-- which rows a disk needs: those of the kinds that it has, and that of the fault if one was found
abbrev pub legend_of : Option Fault → Sector → Layout → Legend
legend_of v map l = record {
  free = occurs kind.Free map l;
  lost = occurs kind.Lost map l;
  side = occurs kind.Side map l;
  used = occurs kind.Used map l;
  fault = is_some v;
}

-- the rows that each disk needs
unfoldable pub legend_start : List ℕ
legend_start = legend.START.now

-- a sample of a kind, and what it is
unfoldable pub free_told : List ℕ
free_told = legend.FREE.now

-- of a sector that is taken in the map and nobody's
unfoldable pub lost_told : List ℕ
lost_told = legend.LOST.now

-- of a side sector
unfoldable pub side_told : List ℕ
side_told = legend.SIDE.now

-- of a sector in use that is free in the map
unfoldable pub used_told : List ℕ
used_told = legend.USED.now

-- of the fault
unfoldable pub fault_told : List ℕ
fault_told = legend.FAULT.now

-- how much room a row of this width takes: none if it isn't needed
abbrev pub room : Bool → ℕ → ℕ
room needed width = if needed then width else 0

-- a row that begins at x, if it is needed
unfoldable pub legend_row : Bool → (x : ℕ) → List ℕ → List ℕ
legend_row needed x told =
    if needed then codes "<svg x=\"" ++ (decimal x ++ (codes "\" y=\"298\" width=\"50\" height=\"4\">" ++ (told
    ++ codes "</text></svg>\n")))
    else []

-- the end of the drawing, and the rows, one beside the other
unfoldable pub poster_legend : Legend → List ℕ
poster_legend k =
    tracks ++ (legend_start ++ (legend_row k.free 84 free_told ++ (legend_row k.lost (84 + room k.free 20) lost_told
    ++ (legend_row k.side (84 + room k.free 20 + room k.lost 34) side_told
    ++ (legend_row k.used (84 + room k.free 20 + room k.lost 34 + room k.side 40) used_told
    ++ legend_row k.fault (84 + room k.free 20 + room k.lost 34 + room k.side 40 + room k.used 46) fault_told)))))
