-- Calls on a file in memory, and what a power loss leaves after them. Our own.
use Rattle.std.specs.Prelude.{ℕ, ◌+◌, ◌≡◌, ◌≤◌, List, [], ◌∷◌, drop, length}
use Rattle.std.proofs.Common.{arith, subst}
use Rattle.image_log.specs.Files.{Tears, overwritten}
use Rattle.image_log.specs.declared.mem_log.MemCall.{MemCall}
use Rattle.image_log.specs.declared.mem_log.MemCall.TheVariants.{Sync, Write}

-- what a read returns after these calls, of which the newest comes first
abbrev pub seen_after : List ℕ → List MemCall → List ℕ
seen_after first [] = first
seen_after first (Write at bytes ∷ earlier) = overwritten (seen_after first earlier) at bytes.items
seen_after first (Sync ∷ earlier) = seen_after first earlier

-- what a power loss may leave after them: all writes since the last sync are torn
abbrev pub leaves : List ℕ → List MemCall → List ℕ → Type 0
leaves first [] c = c ≡ first
leaves first (Write at bytes ∷ earlier) c = (d : List ℕ) × leaves first earlier d × Tears at bytes.items d c
leaves first (Sync ∷ earlier) c = c ≡ seen_after first earlier

-- what a power loss might have left after some of the calls from the t-th on
abbrev pub left_after : List ℕ → List MemCall → ℕ → List ℕ → Type 0
left_after first calls t c = (j : ℕ) × (t + j ≤ length calls) × leaves first (drop j calls) c

pub left_last : (first : List ℕ) (calls : List MemCall) (c : List ℕ) → left_after first calls (length calls) c
    → leaves first calls c
left_last first calls c left =
    let none : left.0 ≡ 0 = omega (arith, left.1) in
    subst (λ (j : ℕ). leaves first (drop j calls) c) none left.2
