-- How a log begins. Our own: docs/LOG.md has it to the byte.
use Rattle.std.specs.Prelude.{ℕ, zero, suc, Bool, List, [], ◌∷◌, ◌++◌, bytes_eq, replicate}
use Rattle.image_log.specs.Blocks.{part}

-- the first n sector indices from m on, in two bytes each, low byte first
abbrev pub indices : (m n : ℕ) → List ℕ
indices m zero = []
indices m (suc n) = m ∷ 0 ∷ indices (suc m) n

-- Bytes 10 to 63 of a log's first block. More blocks of its commit follow; it has 15 sectors; its place is 0; and the
-- sectors are the first ones.
abbrev pub log_head : List ℕ
log_head = (1 ∷ 15 ∷ 0 ∷ 0 ∷ 0 ∷ 0 ∷ []) ++ indices 0 15 ++ replicate 18 0

-- what begins with these 64 bytes begins as a log
abbrev pub begins_as_log : List ℕ → Bool
begins_as_log head = bytes_eq (part head 10 54) log_head
