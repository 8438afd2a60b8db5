-- Which sectors a drawing has. Our own.
use Rattle.std.specs.Prelude.{ℕ, ◌+◌, List, [], ◌∷◌, ◌++◌, Option, if◌then◌else◌, codes, flat_map, length}
use Rattle.std.specs.Prelude.{nat_eq}
use Rattle.d64_image.specs.Images.{Sector}
use Rattle.d64_image.specs.Places.{index_of}
use Rattle.d64_image.specs.declared.place.Place.{Place}
use Rattle.disk_layout.specs.Directory.{map_place}
use Rattle.disk_layout.specs.Layout.{File, Layout}
use Rattle.disk_layout.specs.declared.faults.Fault.{Fault}
use Rattle.disk_pictures.specs.Html.{Show}
use Rattle.disk_pictures.specs.Drawings.{owner_of}
use Rattle.damaged_files.specs.reached.Names.{name_of}
use Rattle.disk_pictures.specs.Pictures.{block_arc, directory_arc, each_place, fault_group, free_arc, group_head}
use Rattle.disk_pictures.specs.Pictures.{is_blocks, is_nobody, is_sides, lost_arc, map_arc, open_group, side_arc}
use Rattle.disk_pictures.specs.Texts.{is_free, numbered}

-- how a sector's arc is written, from the sector and its text, and how everything between arcs is
pub record Pen : Type 0 where
  pub sector : Place → List ℕ → List ℕ
  pub rest : List ℕ → List ℕ

-- an entry's group by a pen
unfoldable pub file_by : Pen → Show → Layout → ℕ → File → List ℕ
file_by pen show l k f =
    pen.rest (group_head k) ++ (numbered (λ n p. if is_blocks k (owner_of l p) then pen.sector p (block_arc show
    (name_of f.slot) (n + 1) (length f.blocks) p) else []) 0 f.blocks
    ++ (numbered (λ n p. if is_sides k (owner_of l p) then pen.sector p (side_arc show (name_of f.slot) n p) else []) 0
    f.sides
    ++ pen.rest (codes "</g>\n")))

-- the group of the map and the directory by a pen
unfoldable pub system_by : Pen → Layout → List ℕ
system_by pen l =
    pen.rest (codes "<g id=\"m\">\n") ++ (pen.sector map_place map_arc
    ++ (flat_map (λ p. pen.sector p (directory_arc p)) l.directory ++ pen.rest (codes "</g>\n")))

-- the group of the sectors of nobody by a pen
unfoldable pub others_by : Pen → Sector → Layout → List ℕ
others_by pen map l =
    pen.rest (codes "<g id=\"r\">\n") ++ (each_place (λ p. if is_nobody (owner_of l p)
    then pen.sector p (if is_free map p then free_arc p else lost_arc p) else []) ++ pen.rest (codes "</g>\n"))

-- the groups of the drawing by a pen
unfoldable pub drawing_by : Pen → Show → Option Fault → Sector → Layout → List ℕ
drawing_by pen show v map l =
    system_by pen l ++ (numbered (file_by pen show l) 0 l.files
    ++ (others_by pen map l ++ (pen.rest (open_group map l) ++ pen.rest (fault_group v))))

-- as the page has it
abbrev pub as_printed : Pen
as_printed = record { sector = λ p arc. arc; rest = λ text. text }

-- for each arc only the number of its sector, from 0, and nothing for what is between arcs
abbrev pub by_number : Pen
by_number = record { sector = λ p arc. index_of p ∷ []; rest = λ text. [] }

-- how often a number stands in a list
unfoldable pub times : ℕ → List ℕ → ℕ
times n [] = 0
times n (x ∷ xs) = (if nat_eq n x then 1 else 0) + times n xs
