-- Which sector of an image is whose, as an object of JSON. What its members are called is our own.
use Rattle.std.specs.Prelude.{◌≡◌, ◌↔◌, ℕ, Bool, IsTrue, List, None, Option, Some, codes, flat_map, if◌then◌else◌, map, option_map}
use Rattle.d64_image.specs.Images.{Sector}
use Rattle.d64_image.specs.Places.{places}
use Rattle.d64_image.specs.declared.place.Place.{Place}
use Rattle.damaged_files.specs.reached.Sizes.{disk_of, error_of}
use Rattle.disk_layout.specs.Layout.{Layout}
use Rattle.disk_layout.specs.Texts.{place_text}
use Rattle.disk_layout.specs.declared.faults.Fault.{Fault}
use Rattle.disk_pictures.specs.Drawings.{owner_of}
use Rattle.disk_pictures.specs.Outcomes.{IsDrawnAndJudged, map_in}
use Rattle.disk_pictures.specs.Texts.{is_free}
use Rattle.disk_pictures.specs.Trims.{error_number}
use Rattle.disk_pictures.specs.declared.owners.Owner.{Owner}
use Rattle.disk_pictures.specs.declared.owners.Owner.TheVariants as owners
use Rattle.disk_pictures.specs.declared.verdicts.Verdict.{Verdict}
use Rattle.json_looks.specs.Entries.{count_if, entry_data}
use Rattle.json_looks.specs.Missing.{past_items, string_if}
use Rattle.json_looks.specs.Objects.{IsObjectPrinted, count}
use Rattle.json_looks.specs.Verdicts.{IsImageThere, found_place, found_text}
use Rattle.serde_json.specs.Data.{Data, array, member, no_members, null, object, string}
use Rattle.serde_json.specs.View.{items_of}

-- what a sector is: the map's, the directory's, a block or a side sector of a file; of one that is nobody's, whether the map calls it
-- free
abbrev pub kind_of : Sector → Place → Owner → List ℕ
kind_of bytes p owners.Map = codes "map"
kind_of bytes p owners.Directory = codes "directory"
kind_of bytes p (owners.Blocks k) = codes "block"
kind_of bytes p (owners.Sides k) = codes "side"
kind_of bytes p owners.Nobody = if is_free bytes p then codes "free" else codes "taken"

-- the file that has the sector, by its number in the directory, from 0
abbrev pub file_number : Owner → Option ℕ
file_number (owners.Blocks k) = Some k
file_number (owners.Sides k) = Some k
file_number _ = None

-- a sector: the drive's number of the error with which it was read, whose it is, and where it is
abbrev pub sector_data : (image : List ℕ) → Sector → Layout → Place → Data
sector_data image bytes l p =
    object (member (codes "error") (string_if (option_map error_number (error_of image p)))
    (member (codes "file") (count_if (file_number (owner_of l p)))
    (member (codes "kind") (string (kind_of bytes p (owner_of l p)))
    (member (codes "sector") (count p.sector)
    (member (codes "track") (count p.track) no_members)))))

-- an image of this name with these places past track 35, entries and sectors, where a file is cut short, and what a check finds
abbrev pub map_with : (name : List ℕ) → (beyond files sectors : List Data) → (short : Data) → Option Fault → Data
map_with name beyond files sectors short found =
    object (member (codes "beyond") (array (items_of beyond))
    (member (codes "files") (array (items_of files))
    (member (codes "name") (string name)
    (member (codes "refused") null
    (member (codes "sector") (count_if (option_map (λ p. p.sector) (found_place found)))
    (member (codes "sectors") (array (items_of sectors))
    (member (codes "short") short
    (member (codes "track") (count_if (option_map (λ p. p.track) (found_place found)))
    (member (codes "verdict") (string (found_text found)) no_members)))))))))

-- an image of this name with this drawn, and this reported by a check
abbrev pub map_data : (name image : List ℕ) → Verdict → Sector → Layout → Data
map_data name image v bytes l =
    map_with name (flat_map (past_items image) l.files) (map (λ f. entry_data f.slot) l.files) (map (sector_data image bytes l) places)
    (string_if (option_map place_text v.cut)) v.found

-- an image was printed as such an object, and this says whether a check finds no fault of its disk, and all is there that the image
-- says of itself
pub record IsMapShown {W : Type 0} (contents : W → Option (List ℕ)) (name image : List ℕ) (old new : W) (whole : Bool) : Type 0 where
  pub verdict : Verdict
  pub drawn : Layout
  pub judged : IsDrawnAndJudged (disk_of image) drawn verdict
  pub printed : IsObjectPrinted contents (map_data name image verdict (map_in (disk_of image)) drawn) old new
  pub told : IsTrue whole ↔ (verdict.found ≡ None) × IsImageThere image drawn
