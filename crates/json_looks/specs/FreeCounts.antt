-- The free sectors of an image as an object of JSON. What its members are called is our own.
use Rattle.std.specs.Prelude.{◌≡◌, ◌≢◌, ℕ, List, [], ◌∷◌, Option, codes, length}
use Rattle.d64_image.specs.Images.{Sector, sector}
use Rattle.d64_image.specs.Memory.{sectors_in}
use Rattle.disk_layout.specs.Directory.{map_place}
use Rattle.disk_layout.specs.Map.{map_count}
use Rattle.disk_layout.specs.View.{blocks_free}
use Rattle.command_faults.specs.declared.faults.CommandFault.{CommandFault}
use Rattle.command_faults.specs.declared.faults.CommandFault.TheVariants as faults
use Rattle.json_looks.specs.Objects.{IsObjectPrinted, count, up_to}
use Rattle.serde_json.specs.Data.{Data, array, member, no_members, null, object, string}
use Rattle.serde_json.specs.View.{items_of}

-- a track: how many of its sectors are free by the map
abbrev pub track_data : Sector → (track : ℕ) → Data
track_data bytes track =
    object (member (codes "free") (count (map_count bytes track)) (member (codes "track") (count track) no_members))

-- an image of this name: the blocks that are free for files, and the free sectors of tracks 1 to 35
abbrev pub free_data : (name : List ℕ) → Sector → Data
free_data name bytes =
    object (member (codes "free") (count (blocks_free bytes))
    (member (codes "name") (string name)
    (member (codes "refused") null
    (member (codes "tracks") (array (items_of (up_to 35 (λ track. track_data bytes track ∷ [])))) no_members))))

-- the free sectors of an image were printed as such an object
pub record AreFreePrinted {W : Type 0} (contents : W → Option (List ℕ)) (name image : List ℕ) (old new : W) : Type 0 where
  pub size : length image ≡ 174848
  pub printed : IsObjectPrinted contents (free_data name (sector (sectors_in image) map_place)) old new

-- why they weren't: the image's size, the output, or memory
abbrev pub IsFreeFault : List ℕ → CommandFault → Type 0
IsFreeFault image faults.ImageSize = length image ≢ 174848
IsFreeFault image faults.NoMemory = length image ≡ 174848
IsFreeFault image faults.File = length image ≡ 174848
IsFreeFault image _ = ⊥
