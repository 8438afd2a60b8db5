-- What is checked of side sectors, one at a time (1541 User's Guide, relative file format).
use Rattle.std.specs.Prelude.{
  ℕ,
  ◌≡◌,
  ◌≢◌,
  ◌⊎◌,
  ◌<◌,
  ◌+◌,
  ◌*◌,
  List,
  [],
  ◌∷◌,
  ◌++◌,
  IsTrue,
  Some,
  length,
  slice_get,
  slice_index,
}
use Rattle.d64_image.specs.Images.{Image, Sector, sector}
use Rattle.d64_image.specs.declared.place.Place.{Place}
use Rattle.disk_layout.specs.Chain.{Names}
use Rattle.disk_layout.specs.Fault.{IsClosed, SidesLead}
use Rattle.disk_layout.specs.Layout.{is_rel, record_length, sides_for}
use Rattle.disk_layout.specs.declared.slot.Slot.{Slot}
use Rattle.layout_check.specs.Entry.{HasBlocks}

-- the bytes from this one on name the places in order, two bytes each
abbrev pub NamesEach : Sector → ℕ → List Place → Type 0
NamesEach bytes at ps = (k : ℕ) (q : Place) → slice_get ps k ≡ Some q → Names bytes (at + 2 * k) q

-- they do not name place k of the list
pub record IsMisnamed (bytes : Sector) (at : ℕ) (ps : List Place) : Type 0 where
  pub k : ℕ
  pub q : Place
  pub there : slice_get ps k ≡ Some q
  pub other : ¬ (Names bytes (at + 2 * k) q)

-- number and record length are those of side sector j of the entry
abbrev pub HasNumber : Sector → Slot → ℕ → Type 0
HasNumber bytes s j = (slice_index bytes 2 ≡ j) × (slice_index bytes 3 ≡ record_length s)

-- one of the two is not
abbrev pub HasOtherNumber : Sector → Slot → ℕ → Type 0
HasOtherNumber bytes s j = (slice_index bytes 2 ≢ j) ⊎ (slice_index bytes 3 ≢ record_length s)

-- number, record length and pointers are those of side sector j of the entry, which has these blocks
pub record HasSideFields (bytes : Sector) (s : Slot) (blocks : List Place) (j : ℕ) : Type 0 where
  pub number : slice_index bytes 2 ≡ j
  pub length_byte : slice_index bytes 3 ≡ record_length s
  pub pointers : (k : ℕ) (q : Place) → k < 120 → slice_get blocks (120 * j + k) ≡ Some q → Names bytes (16 + 2 * k) q

-- a pointer of it names another place than the block
pub record IsMispointed (bytes : Sector) (blocks : List Place) (j : ℕ) : Type 0 where
  pub k : ℕ
  pub q : Place
  pub low : k < 120
  pub there : slice_get blocks (120 * j + k) ≡ Some q
  pub other : ¬ (Names bytes (16 + 2 * k) q)

-- one of the three is not
abbrev pub HasOtherFields : Sector → Slot → List Place → ℕ → Type 0
HasOtherFields bytes s blocks j = (slice_index bytes 2 ≢ j) ⊎ ((slice_index bytes 3 ≢ record_length s)
    ⊎ IsMispointed bytes blocks j)

-- a side sector is as a sound image requires except for its link: it has these three fields, and lists all side sectors
pub record IsSoundSide (bytes : Sector) (s : Slot) (blocks sides : List Place) (j : ℕ) : Type 0 where
  pub fields : HasSideFields bytes s blocks j
  pub lists : NamesEach bytes 4 sides

-- it isn't
abbrev pub IsUnsoundSide : Sector → Slot → List Place → List Place → ℕ → Type 0
IsUnsoundSide bytes s blocks sides j = HasOtherFields bytes s blocks j ⊎ IsMisnamed bytes 4 sides

-- the sectors to which side sectors lead from the first one that the slot names on, as many as these blocks need
pub record AreLinkedSides (img : Image) (s : Slot) (blocks sides : List Place) : Type 0 where
  pub first : Place
  pub named : Names s.bytes 21 first
  pub front : List Place
  pub last : Place
  pub places : sides ≡ front ++ last ∷ []
  pub leads : SidesLead img 0 first front last
  pub count : length sides ≡ sides_for (length blocks)

-- the side sectors are linked, and each has the right fields
pub record IsWalkOfSides (img : Image) (s : Slot) (blocks sides : List Place) : Type 0 where
  pub linked : AreLinkedSides img s blocks sides
  pub judged : (j : ℕ) (q : Place) → slice_get sides j ≡ Some q → HasSideFields (sector img q) s blocks j

-- each of them lists them all
abbrev pub ListsEach : Image → List Place → Type 0
ListsEach img sides = (j : ℕ) (p : Place) → slice_get sides j ≡ Some p → NamesEach (sector img p) 4 sides

-- a closed relative entry, whose chain has these blocks
pub record IsRelEntry (img : Image) (s : Slot) (blocks : List Place) : Type 0 where
  pub closed : IsClosed img s.sector s
  pub rel : IsTrue (is_rel s)
  pub last : ℕ
  pub chain : HasBlocks img s blocks last

-- the data blocks and the side sectors of a relative entry
pub record HasParts (img : Image) (s : Slot) (blocks sides : List Place) : Type 0 where
  pub last : ℕ
  pub chain : HasBlocks img s blocks last
  pub walk : IsWalkOfSides img s blocks sides
  pub lists : ListsEach img sides
