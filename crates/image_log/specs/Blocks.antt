-- The blocks of a log, and what blocks one after another stand for. Our own format: docs/LOG.md has it to the byte.
use Rattle.std.specs.Prelude.{ℕ, zero, suc, ◌+◌, ◌*◌, ◌≡◌, ◌<◌, ◌==◌, ◌&&◌, Bool, if◌then◌else◌, min, List, []}
use Rattle.std.specs.Prelude.{IsTrue, bytes_eq, drop, false, slice_index, slice_index_or, slice_set, take}
use Rattle.d64_image.specs.Images.{Image}
use Rattle.sha2.specs.Sha256.{sha256}

-- n bytes of the file from `at` on
unfoldable pub part : List ℕ → ℕ → ℕ → List ℕ
part f at n = take n (drop at f)

-- block q of the file
unfoldable pub block_at : List ℕ → ℕ → List ℕ
block_at f q = part f (4096 * q) 4096

-- the number in the two bytes at `at`, low byte first
abbrev pub pair_at : List ℕ → ℕ → ℕ
pair_at b at = slice_index b at + 256 * slice_index b (at + 1)

-- how many of the n bytes from `at` on are zero
unfoldable pub zeros_in : List ℕ → ℕ → ℕ → ℕ
zeros_in b at zero = 0
zeros_in b at (suc n) = zeros_in b at n + (if slice_index b (at + n) == 0 then 1 else 0)

-- the first two bytes say how many of the others are zero
abbrev pub counts : List ℕ → Bool
counts b = pair_at b 0 == zeros_in b 2 4094

-- bytes 2 to 9 are the first eight of the SHA-256 of the bytes after them
unfoldable pub matches : List ℕ → Bool
matches b = bytes_eq (part b 2 8) (take 8 (sha256 (drop 10 b)))

-- a whole block at this place
abbrev pub is_whole : ℕ → List ℕ → Bool
is_whole place b = counts b && ((pair_at b 12 == place) && matches b)

-- the last block of a commit
abbrev pub is_last : List ℕ → Bool
is_last b = slice_index b 10 == 2

-- a block of zeros
abbrev pub IsBlank : List ℕ → Type 0
IsBlank b = (i : ℕ) → i < 4096 → slice_index b i ≡ 0

-- the image with the first n sectors of the block: the index of each in two bytes from 16 on, its bytes from 64 on
unfoldable pub with_sectors : List ℕ → ℕ → Image → Image
with_sectors b zero image = image
with_sectors b (suc n) image =
    slice_set (with_sectors b n image) (pair_at b (16 + 2 * n)) (part b (64 + 256 * n) 256)

-- the image with all sectors of the block, of which there are 15 at most
abbrev pub written : List ℕ → Image → Image
written b image = with_sectors b (min 15 (slice_index b 11)) image

-- how many blocks from the m-th on are whole, of n at most, up to the first that isn't
unfoldable pub whole_from : (ℕ → List ℕ) → ℕ → ℕ → ℕ
whole_from blocks m zero = 0
whole_from blocks m (suc n) = if is_whole m (blocks m) then suc (whole_from blocks (suc m) n) else 0

-- how many of the first n blocks there are up to the end of the last commit that ends among them
unfoldable pub committed : (ℕ → List ℕ) → ℕ → ℕ
committed blocks zero = 0
committed blocks (suc n) = if is_last (blocks n) then suc n else committed blocks n

-- how many blocks the first commit takes that ends among the first n; 0 if none does
unfoldable pub first_commit : (ℕ → List ℕ) → ℕ → ℕ
first_commit blocks zero = 0
first_commit blocks (suc n) =
    if first_commit blocks n == 0 then (if is_last (blocks n) then suc n else 0) else first_commit blocks n

-- the image with the sectors of the first n blocks, one block after another
unfoldable pub replayed : (ℕ → List ℕ) → Image → ℕ → Image
replayed blocks image zero = image
replayed blocks image (suc n) = written (blocks n) (replayed blocks image n)

-- the first n blocks are one commit, for the places from `place` on
pub record IsCommit (blocks : ℕ → List ℕ) (place n : ℕ) : Type 0 where
  pub some : (q : ℕ) × (n ≡ suc q)
  pub whole : (q : ℕ) → q < n → IsTrue (is_whole (place + q) (blocks q))
  pub last : (q : ℕ) → suc q ≡ n → IsTrue (is_last (blocks q))
  pub more : (q : ℕ) → suc q < n → is_last (blocks q) ≡ false

-- the image with those of its first n sectors that were touched as they are now
unfoldable pub brought : List Bool → Image → ℕ → Image → Image
brought touched now zero image = image
brought touched now (suc i) image =
    if slice_index_or touched i false then slice_set (brought touched now i image) i (slice_index_or now i [])
    else brought touched now i image
