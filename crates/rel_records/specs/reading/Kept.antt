-- A data block that is kept while records are read in order. Our own.
use Rattle.std.specs.Prelude.{ℕ, ◌≡◌, ◌≤◌, ◌-◌, ◌*◌, ◌+◌, ◌/◌, ◌%◌, Option, Some, IfSome, if◌then◌else◌, nat_lt}
use Rattle.d64_image.specs.History.{History, OnlyReads}
use Rattle.d64_image.specs.Images.{Image}
use Rattle.rel_records.specs.File.{OfItsFile, length_of, records_in}
use Rattle.rel_records.specs.declared.reading.record_order.LastBlock.{LastBlock}
use Rattle.rel_records.specs.declared.rel_file.RelFile.{RelFile}
use Rattle.rel_records.specs.reading.Block.{IsBlock}

-- the number of the block that is kept, from 0
abbrev pub number_kept : LastBlock → Option ℕ
number_kept x = x.number

-- what is kept is a block of the file that v is of, or nothing
abbrev pub IsKept : Image → RelFile → LastBlock → Type 0
IsKept img v x = OfItsFile img v (λ l n f. IfSome x.number (λ r. IsBlock img f.blocks r x.bytes))

-- how many sectors are read for record r of L bytes if the block in which it begins is kept: one if it goes on in the
-- next block
abbrev pub next_reads : ℕ → ℕ → ℕ
next_reads L r = if nat_lt 254 ((r - 1) * L % 254 + L) then 1 else 0

-- that number is read if that block is kept
abbrev pub ReadsNear : {D : Type 0} → History D → D → D → LastBlock → RelFile → ℕ → Type 0
ReadsNear S old new x v r = number_kept x ≡ Some ((r - 1) * length_of v / 254)
    → OnlyReads S old new (next_reads (length_of v) r)

-- record r of the file that v is of is there, and lies whole in the block that is kept
pub record LiesWhole (x : LastBlock) (v : RelFile) (r : ℕ) : Type 0 where
  pub low : 1 ≤ r
  pub high : r ≤ records_in v
  pub kept : number_kept x ≡ Some ((r - 1) * length_of v / 254)
  pub whole : (r - 1) * length_of v % 254 + length_of v ≤ 254
