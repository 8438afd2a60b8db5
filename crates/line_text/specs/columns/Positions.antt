-- Where the pieces of a record begin. Positions count from 1. All of it is our own.
use Rattle.std.specs.Prelude.{◌≡◌, ◌<◌, ◌≤◌, ℕ, List, [], ◌∷◌, ⊤, length, slice_index, take}
use Rattle.line_text.specs.declared.columns.positions.Positions.{Positions}

-- the positions, lowest first
abbrev pub starts : Positions → List ℕ
starts positions = take positions.count positions.starts

-- each is greater than the one before
abbrev pub AreRising : ℕ → List ℕ → Type 0
AreRising before [] = ⊤
AreRising before (p ∷ ps) = (before < p) × AreRising p ps

-- These are positions of pieces: the first piece begins with the first byte, and they are 32 at most.
pub record ArePositions (ps : List ℕ) : Type 0 where
  pub first : slice_index ps 0 ≡ 1
  pub rising : AreRising 0 ps
  pub few : length ps ≤ 32
