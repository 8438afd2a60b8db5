-- A text with names, byte by byte.
use Rattle.std.proofs.Common.{◌≡◌, ◌≤◌, ◌++◌, ◌∷◌, ◌∙◌, [], Bool, List, arith, drop, length, ℕ}
use Rattle.std.proofs.lemmas.List.{append_assoc}
use Rattle.std.specs.Prelude.{nat_eq, slice_index_or}
use Rattle.line_text.specs.Named.{piece, rest_named}

-- a byte more was written
pub one-more : (written name : List ℕ) (begins : Bool) (rest all : List ℕ) → 1 ≤ length rest
    → written ++ rest_named name begins rest ≡ all
    → (written ++ piece name begins (slice_index_or rest 0 0))
    ++ rest_named name (nat_eq (slice_index_or rest 0 0) 10) (drop 1 rest) ≡ all
one-more written name begins [] all some is = absurd (omega (arith, some))
one-more written name begins (b ∷ bs) all some is =
    append_assoc written (piece name begins b) (rest_named name (nat_eq b 10) bs) ∙ is
