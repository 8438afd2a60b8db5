-- Directory art at 18/0, the sector of the map, which no sound disk has; it is put aside while a disk is changed. Our own.
use Rattle.std.specs.Prelude.{◌≡◌, ◌⊎◌, ◌&&◌, ◌+◌, ◌*◌, ◌∷◌, [], Bool, List, false, if◌then◌else◌, length, nat_eq, slice_index, true}
use Rattle.std.specs.Prelude.{ℕ}
use Rattle.std.specs.List.{list_any}
use Rattle.d64_image.specs.Images.{Image}
use Rattle.d64_image.specs.Memory.{disk_image, sectors_in}
use Rattle.d64_image.specs.declared.place.Place.{Place}
use Rattle.disk_changes.specs.declared.changes.Changed.{Changed}
use Rattle.disk_layout.specs.Directory.{IsDirectory}
use Rattle.disk_layout.specs.Fault.{HoldsOfDirectory, nowhere}
use Rattle.disk_layout.specs.declared.faults.Fault.{Fault}
use Rattle.disk_layout.specs.declared.slot.Slot.{Slot}
use Rattle.file_changes.specs.Patches.{patched}
use Rattle.file_rescues.specs.rescue.Art.{is_art}

-- the entry is directory art whose first block is 18/0
abbrev pub is_on_map : Slot → Bool
is_on_map s = is_art s && nat_eq (slice_index s.bytes 3) 18

-- the disk with this byte as the track of the entry's first block, if it is such art
abbrev pub with_track : ℕ → Image → Slot → Image
with_track track img s = if is_on_map s then patched img s.sector (32 * s.number + 3) (track ∷ []) else img

-- the same for each of these entries
abbrev pub with_tracks : ℕ → Image → List Slot → Image
with_tracks track img [] = img
with_tracks track img (s ∷ ss) = with_tracks track (with_track track img s) ss

-- these are the entries of the image's directory, and one at least is such art
pub record HasArt (image : List ℕ) (entries : List Slot) : Type 0 where
  pub size : length image ≡ 174848
  pub sectors : List Place
  pub directory : IsDirectory (sectors_in image) sectors entries
  pub some : list_any is_on_map entries ≡ true

-- its directory has none, or can't be read
abbrev pub HasNoArt : (image : List ℕ) → Type 0
HasNoArt image = ((entries : List Slot) × (sectors : List Place) × IsDirectory (sectors_in image) sectors entries
    × (list_any is_on_map entries ≡ false)) ⊎ ((fault : Fault) × HoldsOfDirectory nowhere (sectors_in image) fault)

-- the bytes are the image in which its art begins nowhere: its first block is none
pub record IsAside (image bytes : List ℕ) : Type 0 where
  pub entries : List Slot
  pub art : HasArt image entries
  pub is : sectors_in bytes ≡ with_tracks 0 (sectors_in image) entries

-- What comes of a change of those bytes, with the art at 18/0 again.
pub record IsBesideArt (Does : (image : List ℕ) → Changed → Type 0) (image : List ℕ) (made : Changed) : Type 0 where
  pub bytes : List ℕ
  pub aside : IsAside image bytes
  pub first : Changed
  pub does : Does bytes first
  pub back : disk_image made.disk ≡ with_tracks 18 (disk_image first.disk) aside.entries
  pub text : made.text.items ≡ first.text.items
  pub left : made.left ≡ first.left
