-- Why a text isn't stored, or can be: the image, the greatest record, and records that are so already.
use Rattle.std.proofs.Common.{◌≡◌, ◌≤◌, ◌<◌, ◌⊎◌, ⊎_elim, inl, inr, ℕ, ◌-◌, List, [], ◌∷◌, length, refl, subst, arith}
use Rattle.std.specs.Prelude.{max}
use Rattle.std.proofs.lemmas.Bool.{cases_lt}
use Rattle.std.proofs.lemmas.Option.{slice_get_within}
use Rattle.d64_image.specs.History.{History}
use Rattle.disk_layout.specs.Layout.{File, record_length}
use Rattle.rel_records.specs.growth.Growth.{IsTooLarge, blocks_for, records_had}
use Rattle.disk_changes.specs.Judged.{IsUsableFault}
use Rattle.disk_changes.specs.lines.Stores.{AreLinesOf, AreSo, CanHave, NewRecord, greatest}
use Rattle.disk_changes.specs.lines.Storing.{IsStoreFault}
use Rattle.command_faults.specs.declared.faults.CommandFault.{CommandFault}
use Rattle.command_faults.specs.declared.faults.CommandFault.TheVariants as faults

-- the image isn't that of a disk that can be used
pub store-unusable : {D W : Type 0} (S : History D) (image name text : List ℕ) (a : D) (o : W) (fault : CommandFault)
    → IsUsableFault image fault
    → IsStoreFault S image name text a a o o fault
store-unusable S image name text a o faults.ImageSize told = (told, refl, refl)
store-unusable S image name text a o faults.NoMemory told = (told, refl, refl)
store-unusable S image name text a o (faults.Layout fault) told = (told.0.0, told.0.1, told.1, refl, refl)
store-unusable S image name text a o _ told = absurd told

-- the greatest number that lines give is one that the file can have
greatest-can : (L had : ℕ) (ls : List (List ℕ)) (xs : List NewRecord) → AreLinesOf L had ls xs
    → CanHave L had (greatest xs)
greatest-can L had [] [] are = inl (omega arith)
greatest-can L had [] (x ∷ xs) are = absurd are
greatest-can L had (l ∷ ls) [] are = absurd are
greatest-can L had (l ∷ ls) (x ∷ xs) are = ⊎_elim
    (λ (lt : x.number < greatest xs).
    let e : greatest xs ≡ max x.number (greatest xs) = omega (arith, lt) in
    subst (CanHave L had) e (greatest-can L had ls xs are.2))
    (λ (le : greatest xs ≤ x.number).
    let e : x.number ≡ max x.number (greatest xs) = omega (arith, le) in
    subst (CanHave L had) e are.1.reach)
    (cases_lt x.number (greatest xs))

too-large-no : (L had r : ℕ) → CanHave L had r → had < r → (720 < blocks_for L r) ⊎ (65535 < r) → ⊥
too-large-no L had r (inl le) lt big = omega (arith, le, lt)
too-large-no L had r (inr (few, blocks)) lt (inl big) = omega (arith, blocks, big)
too-large-no L had r (inr (few, blocks)) lt (inr big) = omega (arith, few, big)

pub not-too-large : (f : File) (ls : List (List ℕ)) (xs : List NewRecord)
    → AreLinesOf (record_length f.slot) (records_had f) ls xs → ¬ (IsTooLarge f (greatest xs))
not-too-large f ls xs are (lt, big) = too-large-no (record_length f.slot) (records_had f) (greatest xs)
    (greatest-can (record_length f.slot) (records_had f) ls xs are) lt big

-- records that are so already are there
pub so-there : (L : ℕ) (rs : List (List ℕ)) (xs : List NewRecord) → AreSo L rs xs → greatest xs ≤ length rs
so-there L rs [] so = omega arith
so-there L rs (x ∷ xs) so =
    omega (arith, slice_get_within rs (x.number - 1) _ so.0, so-there L rs xs so.1)
