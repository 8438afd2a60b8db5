-- Chains over all tracks of an image (1541 User's Guide, how files are stored; the D64 layout).
use Rattle.std.specs.Prelude.{ℕ, zero, suc, ◌+◌, ◌*◌, Bool, List, [], ◌∷◌, None, Option, Some, false, true}
use Rattle.std.specs.Prelude.{flat_map, if◌then◌else◌, max, nat_eq, slice_index, slice_range}
use Rattle.std.specs.List.{list_any}
use Rattle.long_chains.specs.Sectors.{sector_at}

-- a byte of a sector
abbrev pub byte_in : (image : List ℕ) → (number index : ℕ) → ℕ
byte_in image n i = slice_index image (256 * n + i)

-- a sector, and after it those of the rest of its chain, if that comes to its end
abbrev pub before : ℕ → Option (List ℕ) → Option (List ℕ)
before n None = None
before n (Some ns) = Some (n ∷ ns)

-- The chain from this sector on: track 0 in its link ends it, and otherwise the rest begins where the link leads
abbrev pub chain_from : (image : List ℕ) → (rest : ℕ → ℕ → Option (List ℕ)) → Option ℕ → Option (List ℕ)
chain_from image rest None = None
chain_from image rest (Some n) =
    if nat_eq (byte_in image n 0) 0 then Some (n ∷ []) else before n (rest (byte_in image n 0) (byte_in image n 1))

-- the sectors of the chain that begins at this track and sector, if it comes to its end within so many
unfoldable pub chain_within : (image : List ℕ) → (most : ℕ) → (track sector : ℕ) → Option (List ℕ)
chain_within image zero track sector = None
chain_within image (suc most) track sector = chain_from image (chain_within image most) (sector_at image track sector)

-- The same of any length: a chain that comes to its end has each of the image's sectors, at most 802, at most once. One that leads
-- back to itself has no end.
abbrev pub chain_of : (image : List ℕ) → (track sector : ℕ) → Option (List ℕ)
chain_of image track sector = chain_within image 802 track sector

-- these sectors, if it is said that the chain comes to its end
abbrev pub if_ended : Bool → List ℕ → Option (List ℕ)
if_ended true ns = Some ns
if_ended false ns = None

-- the sector is one of these
abbrev pub has_number : (number : ℕ) → Option (List ℕ) → Bool
has_number n None = false
has_number n (Some ns) = list_any (λ m. nat_eq m n) ns

-- the chain that begins at this track and sector comes to its end, and has this sector
abbrev pub is_on_chain : (image : List ℕ) → (track sector number : ℕ) → Bool
is_on_chain image track sector n = has_number n (chain_of image track sector)

-- what a sector has of its file: 254 bytes, or of the last one those up to its last index
abbrev pub data_in : (image : List ℕ) → (number : ℕ) → List ℕ
data_in image n =
    if nat_eq (byte_in image n 0) 0
    then slice_range image (256 * n + 2) (256 * n + max (byte_in image n 1) 1 + 1)
    else slice_range image (256 * n + 2) (256 * n + 256)

-- the bytes of a file with these sectors
abbrev pub data_of : (image : List ℕ) → List ℕ → List ℕ
data_of image ns = flat_map (data_in image) ns
