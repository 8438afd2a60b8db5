-- How long names are.
use Rattle.std.proofs.Common.{◌≤◌, ◌+◌, ℕ, List, [], ◌∷◌, Bool, true, false, arith, length}
use Rattle.std.specs.Prelude.{if◌then◌else◌, nat_eq, slice_range}
use Rattle.std.proofs.lemmas.List.{length-take}
use Rattle.disk_layout.specs.declared.slot.Slot.{Slot}
use Rattle.damaged_files.specs.reached.Names.{name_before, name_of, unpadded}

by-byte : (t : Bool) (b : ℕ) → length (if t then [] else (b ∷ [])) ≤ 1
by-byte true b = omega arith
by-byte false b = omega arith

one-more : (b : ℕ) (xs : List ℕ) → length (name_before b xs) ≤ 1 + length xs
one-more b [] = by-byte (nat_eq b 160) b
one-more b (x ∷ xs) = omega arith

pub unpadded-short : (xs : List ℕ) → length (unpadded xs) ≤ length xs
unfolding unpadded
unpadded-short [] = omega arith
unpadded-short (b ∷ bs) = omega (arith, one-more b (unpadded bs), unpadded-short bs)

range-short : (xs : List ℕ) → length (slice_range xs 5 21) ≤ 16
range-short xs = simp (length-take) (omega arith)

pub name-short : (s : Slot) → length (name_of s) ≤ 16
name-short s = omega (arith, unpadded-short (slice_range s.bytes 5 21), range-short s.bytes)
