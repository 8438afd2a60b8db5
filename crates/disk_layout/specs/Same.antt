-- What repair, growth and creation leave of the directory and of the files.
use Rattle.std.specs.Prelude.{
  ◌≡◌,
  ◌≢◌,
  ℕ,
  ◌+◌,
  ◌*◌,
  ◌/◌,
  ◌%◌,
  ◌≤◌,
  ◌<◌,
  ◌⊎◌,
  List,
  ◌∷◌,
  ◌++◌,
  map,
  slice_index,
  slice_range,
  Contains,
  flat_map,
}
use Rattle.d64_image.specs.Images.{Image, Sector, sector}
use Rattle.d64_image.specs.declared.place.Place.{Place}
use Rattle.disk_layout.specs.Chain.{byte}
use Rattle.disk_layout.specs.Directory.{map_place}
use Rattle.disk_layout.specs.Layout.{File, Layout}
use Rattle.disk_layout.specs.Rest.{header_of}

-- a file as repair, growth of another and creation leave it: its slot without link and block count, its blocks with
-- their bytes, its last index, its side places
pub record Stays : Type 0 where
  pub sector : Place
  pub number : ℕ
  pub entry : List ℕ
  pub blocks : List Place
  pub last : ℕ
  pub bytes : List Sector
  pub sides : List Place

-- what stays of a file of an image
abbrev pub stays_of : Image → File → Stays
stays_of img f = record {
  sector = f.slot.sector;
  number = f.slot.number;
  entry = slice_range f.slot.bytes 2 30;
  blocks = f.blocks;
  last = f.last;
  bytes = map (sector img) f.blocks;
  sides = f.sides;
}

-- byte i of a directory sector belongs to the block count of a closed REL entry
abbrev pub IsCountByte : List ℕ → ℕ → Type 0
IsCountByte bytes i = (30 ≤ i % 32) × ((slice_index bytes (32 * (i / 32) + 2) ≡ 132)
    ⊎ (slice_index bytes (32 * (i / 32) + 2) ≡ 196))

-- the directory sector at p is as it was, except for block counts of closed REL entries
abbrev pub SameButCounts : Image → Image → Place → Type 0
SameButCounts old new p = (i : ℕ) → i < 256 → IsCountByte (sector old p) i ⊎ (byte new p i ≡ byte old p i)

-- new has the files of old; only the map, side sectors and block counts may differ
pub record SameFiles (old new : Image) (l m : Layout) : Type 0 where
  pub directory : m.directory ≡ l.directory
  pub files : map (stays_of new) m.files ≡ map (stays_of old) l.files
  pub entries : (p : Place) → Contains l.directory p → SameButCounts old new p
  pub header : header_of new ≡ header_of old
  pub elsewhere : (p : Place) → p ≢ map_place → ¬ (Contains l.directory p)
      → ¬ (Contains (flat_map (λ f. f.sides) l.files) p) → sector new p ≡ sector old p

-- new has the files of old and f as well
pub record AddsFile (old new : Image) (l m : Layout) (f : File) : Type 0 where
  pub before : List Stays
  pub after : List Stays
  pub had : map (stays_of old) l.files ≡ before ++ after
  pub has : map (stays_of new) m.files ≡ before ++ stays_of new f ∷ after
  pub added : Contains m.files f
  pub header : header_of new ≡ header_of old
