-- Where in its block a record begins, and how far behind that it ends; and which pointer a block has.
use Rattle.std.proofs.Common.{ℕ, ◌+◌, ◌%◌, ◌<◌, ◌≤◌, Fits, w64, lit<, mod-lt, arith}

pub start-low : (a : ℕ) → a % 254 < 254
start-low a = mod-lt a (lit< tt)

pub start-fits : (a s : ℕ) → s ≤ 254 → Fits w64 (a % 254 + s)
start-fits a s few = omega (arith, start-low a)

-- which of a side sector's pointers names the block
pub pointer-low : (block : ℕ) → block % 120 < 120
pointer-low block = mod-lt block (lit< tt)
