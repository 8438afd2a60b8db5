-- What a call on one relative file leaves of the others, and what it makes of the one. Our own.
use Rattle.std.specs.Prelude.{ℕ, ◌≡◌, ◌≢◌, ◌⊎◌, ◌<◌, ◌≤◌, List, Some, length, map, slice_get}
use Rattle.d64_image.specs.Images.{Image, sector}
use Rattle.disk_layout.specs.Entries.{SameEntries}
use Rattle.disk_layout.specs.Layout.{File, IsLayout, Layout, file_owns}
use Rattle.disk_layout.specs.Records.{records}
use Rattle.disk_layout.specs.Rest.{header_of}
use Rattle.rel_records.specs.File.{IsFileOf}
use Rattle.rel_records.specs.Usable.{StaysClean}
use Rattle.rel_records.specs.declared.rel_file.RelFile.{RelFile}

-- from old, whose layout is l, to new, whose layout is m: all files but the one at place n stay, with their slots,
-- blocks,
-- bytes, last indices and side sectors; of that one's slot all but the block count stays
pub record KeepsOthers (old new : Image) (l m : Layout) (n : ℕ) : Type 0 where
  pub directory : m.directory ≡ l.directory
  pub entries : SameEntries (map (λ f. f.slot) m.files) (map (λ f. f.slot) l.files)
  pub files : (k : ℕ) (f : File) → k ≢ n → slice_get l.files k ≡ Some f → slice_get m.files k ≡ Some f
  pub bytes : (k : ℕ) (f : File) → k ≢ n → slice_get l.files k ≡ Some f
      → map (sector new) f.blocks ≡ map (sector old) f.blocks
  pub header : header_of new ≡ header_of old

-- a file with these records, which was f in old, has no fewer than before; unless it has more, its data blocks and side
-- sectors are the same
abbrev pub KeepsPlaces : Image → File → File → List (List ℕ) → Type 0
KeepsPlaces old f g rs = (length (records old f) ≤ length rs)
    × ((file_owns g ≡ file_owns f) ⊎ (length (records old f) < length rs))

-- new is sound, all files except the one at place n are as in old, and that one has these records
pub record HasRecords (old new : Image) (l : Layout) (n : ℕ) (rs : List (List ℕ)) : Type 0 where
  pub layout : Layout
  pub is_layout : IsLayout new layout
  pub others : KeepsOthers old new l layout n
  pub file : File
  pub there : slice_get layout.files n ≡ Some file
  pub records : records new file ≡ rs
  pub places : (f : File) → slice_get l.files n ≡ Some f → KeepsPlaces old f file rs

-- what a call that is done leaves: new is as clean as old, all files except the one at place n are as in old, that one has these
-- records, and v is of it
pub record LeavesRecords (old new : Image) (l : Layout) (n : ℕ) (rs : List (List ℕ)) (v : RelFile) : Type 0 where
  pub layout : Layout
  pub clean : StaysClean old l new layout
  pub others : KeepsOthers old new l layout n
  pub file : File
  pub of : IsFileOf new layout n file v
  pub records : records new file ≡ rs
  pub places : (f : File) → slice_get l.files n ≡ Some f → KeepsPlaces old f file rs

-- what is kept in memory of any file of old except the one at place n also fits that file of new
abbrev pub KeepsRelFiles : Image → Image → Layout → ℕ → Type 0
KeepsRelFiles old new l n = (k : ℕ) (g : File) (w : RelFile) → k ≢ n → IsFileOf old l k g w → (m : Layout)
    × IsFileOf new m k g w
