-- One record written, in one block or across two.
use Rattle.std.proofs.Common.{◌≡◌, ℕ, ◌+◌, ◌*◌, ◌<◌, ◌≤◌, ◌⊎◌, List, length, get_or, slice_index}
use Rattle.d64_image.specs.Images.{Image, Sector}
use Rattle.disk_layout.proofs.lemmas.records.Pieces.{piece, pieces-at}
use Rattle.disk_layout.specs.Layout.{File, record_length}
use Rattle.disk_layout.specs.Records.{joined, record_count, records}

-- the bytes of the joined data that a sector may change: those of record k alone
abbrev pub ChangesRecord : File → ℕ → ℕ → Sector → Sector → Type 0
ChangesRecord f r k old new = (j : ℕ) → j < 254 → (254 * r + j < k * record_length f.slot)
    ⊎ (k * record_length f.slot + record_length f.slot ≤ 254 * r + j)
    → slice_index new (2 + j) ≡ slice_index old (2 + j)

-- a record is its piece of the joined data
pub record-at : (img : Image) (f : File) (k : ℕ) (d : List ℕ)
    → k < record_count (length f.blocks) f.last (record_length f.slot)
    → get_or (records img f) k d ≡ piece (record_length f.slot) k (joined img f.blocks)
unfolding records
record-at img f k d h = pieces-at (record_length f.slot) (record_count (length f.blocks) f.last (record_length f.slot))
    (joined img f.blocks) k d h
