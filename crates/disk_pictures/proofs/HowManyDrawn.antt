-- The numbers of a drawing by number are 683.
use Rattle.std.proofs.Common.{◌≡◌, ◌+◌, ℕ, Bool, true, false, [], length, subst}
use Rattle.std.specs.Prelude.{Option, Some, None, if◌then◌else◌, flat_map}
use Rattle.d64_image.proofs.Places.{index_below, place_of}
use Rattle.d64_image.specs.Images.{Image, Sector}
use Rattle.d64_image.specs.Places.{place_at}
use Rattle.d64_image.specs.declared.place.Place.{Place}
use Rattle.disk_layout.specs.Directory.{map_place}
use Rattle.disk_layout.specs.Layout.{Layout}
use Rattle.disk_layout.specs.declared.faults.Fault.{Fault}
use Rattle.disk_pictures.proofs.Counted.{AllBelow, all-append, all-below, all-flat, all-numbered, as-many}
use Rattle.disk_pictures.proofs.CountedDrawing.{number}
use Rattle.disk_pictures.proofs.DrawnNumbers.{numbers-once}
use Rattle.disk_pictures.specs.Html.{Show}
use Rattle.disk_pictures.specs.Drawings.{IsDrawn, owner_of}
use Rattle.disk_pictures.specs.Pictures.{each_place, is_blocks, is_nobody, is_sides}
use Rattle.disk_pictures.specs.Sectors.{by_number, drawing_by, file_by, others_by, system_by, times}
use Rattle.disk_pictures.specs.Texts.{at_place, numbered}

low : (q : Place) → AllBelow 683 (number q)
low q = (index_below q, tt)

low-if : (b : Bool) (q : Place) → AllBelow 683 (if b then number q else [])
low-if true q = low q
low-if false q = tt

all-low : (show : Show) (v : Option Fault) (map : Sector) (l : Layout)
    → AllBelow 683 (drawing_by by_number show v map l)
unfolding drawing_by system_by file_by others_by each_place
all-low show v map l =
    all-append 683 (system_by by_number l) _
    (all-append 683 (number map_place) _ (low map_place)
    (all-append 683 (flat_map number l.directory) [] (all-flat 683 number low l.directory) tt))
    (all-append 683 (numbered (file_by by_number show l) 0 l.files) _
    (all-numbered 683 (file_by by_number show l) (λ k f.
    all-append 683 (numbered (λ j q. if is_blocks k (owner_of l q) then number q else []) 0 f.blocks) _
    (all-numbered 683 _ (λ j q. low-if (is_blocks k (owner_of l q)) q) 0 f.blocks)
    (all-append 683 (numbered (λ j q. if is_sides k (owner_of l q) then number q else []) 0 f.sides) []
    (all-numbered 683 _ (λ j q. low-if (is_sides k (owner_of l q)) q) 0 f.sides) tt)) 0 l.files)
    (all-append 683 (others_by by_number map l) []
    (all-append 683 (each_place (λ q. if is_nobody (owner_of l q) then number q else [])) []
    (all-below 683 _ (λ b. all-below 683 _ (λ s. at (place_at (b + 1) s)) 21) 35) tt) tt))
  where
    at : (o : Option Place) → AllBelow 683 (at_place (λ q. if is_nobody (owner_of l q) then number q else []) o)
    at None = tt
    at (Some q) = low-if (is_nobody (owner_of l q)) q

pub numbers-all : (img : Image) (l : Layout) → IsDrawn img l → (show : Show) (v : Option Fault) (map : Sector)
    → length (drawing_by by_number show v map l) ≡ 683
numbers-all img l drawn show v map =
    as-many 683 (drawing_by by_number show v map l) (all-low show v map l) (λ n lt. let (p, e) = place_of n lt in
    subst (λ (m : ℕ). times m (drawing_by by_number show v map l) ≡ 1) e (numbers-once img l drawn show v map p))
