-- Records that were stored are so, and nothing is printed of them.
use Rattle.std.proofs.Common.{◌≡◌, ◌≢◌, ◌≤◌, ◌<◌, ℕ, zero, suc, ◌-◌, List, [], ◌∷◌, ◌++◌, Some, Bool, length, set}
use Rattle.std.proofs.Common.{get_or, refl, subst, ap, ◌∙◌, arith}
use Rattle.std.specs.List.{AllByRecursion}
use Rattle.std.specs.Prelude.{if◌then◌else◌, not, slice_get}
use Rattle.std.proofs.lemmas.List.{length-set}
use Rattle.std.proofs.lemmas.Option.{get_or_from_slice_get}
use Rattle.std.proofs.lemmas.Slice.Eq.{bytes_eq-Decides}
use Rattle.line_text.specs.bytes.Lines.{padded}
use Rattle.line_text.specs.bytes.Texts.{record_line}
use Rattle.disk_changes.proofs.lemmas.lines.LastOnes.{AreNumbers, lines-numbers, ones-all, ones-apart, ones-greatest, stored-ones}
use Rattle.disk_changes.proofs.lemmas.lines.Padded.{so-stored_one}
use Rattle.disk_changes.specs.lines.Stores.{AreApart, AreLinesOf, AreSo, IsSo, NewRecord, changed_line, changed_text}
use Rattle.disk_changes.specs.lines.Stores.{greatest, last_ones, stored, with_stored}

get-set : {X : Type 0} (xs : List X) (i : ℕ) (y : X) → i < length xs → slice_get (set xs i y) i ≡ Some y
get-set [] i y lt = absurd (omega (arith, lt))
get-set (x ∷ xs) zero y lt = refl
get-set (x ∷ xs) (suc i) y lt = get-set xs i y (omega (arith, lt))

get-set_other : {X : Type 0} (xs : List X) (i j : ℕ) (y : X) → i ≢ j → slice_get (set xs i y) j ≡ slice_get xs j
get-set_other [] i j y other = refl
get-set_other (x ∷ xs) zero zero y other = absurd (other refl)
get-set_other (x ∷ xs) zero (suc j) y other = refl
get-set_other (x ∷ xs) (suc i) zero y other = refl
get-set_other (x ∷ xs) (suc i) (suc j) y other = get-set_other xs i j y (λ e. other (ap suc e))

-- a record of which there is no line stays
stays : (L : ℕ) (xs : List NewRecord) (rs : List (List ℕ)) (n : ℕ) → 1 ≤ n → AreNumbers xs
    → AllByRecursion (λ y. y.number ≢ n) xs → slice_get (stored L xs rs) (n - 1) ≡ slice_get rs (n - 1)
stays L [] rs n low all apart = refl
stays L (x ∷ xs) rs n low all apart =
    stays L xs (with_stored L x rs) n low all.1 apart.1
    ∙ get-set_other rs (x.number - 1) (n - 1) _ (λ e. apart.0 (omega (arith, e, low, all.0)))

so-apart : (L : ℕ) (xs : List NewRecord) (rs : List (List ℕ)) → AreNumbers xs → AreApart xs → greatest xs ≤ length rs
    → AreSo L (stored L xs rs) xs
so-apart L [] rs all apart few = tt
so-apart L (x ∷ xs) rs all apart few =
    let low = all.0 in (
      stays L xs (with_stored L x rs) x.number low all.1 apart.0
          ∙ get-set rs (x.number - 1) (padded L x.bytes) (omega (arith, low, few)),
      so-apart L xs (with_stored L x rs) all.1 apart.1
          (omega (arith, few, length-set rs (x.number - 1) (padded L x.bytes))),
    )

-- those that count are so, once all were stored
pub so-again : (L had : ℕ) (ls : List (List ℕ)) (xs : List NewRecord) (rs : List (List ℕ)) → AreLinesOf L had ls xs
    → greatest xs ≤ length rs → AreSo L (stored L xs rs) (last_ones xs)
so-again L had ls xs rs are few =
    let all = lines-numbers L had ls xs are in
    subst (λ (ts : List (List ℕ)). AreSo L ts (last_ones xs)) (stored-ones L xs rs all)
    (so-apart L (last_ones xs) rs (ones-all (λ x. 1 ≤ x.number) xs all) (ones-apart xs)
    (omega (arith, few, ones-greatest xs)))

same-line : (L : ℕ) (x : NewRecord) (rs : List (List ℕ)) → IsSo L rs x → changed_line L x rs ≡ []
same-line L x rs so =
    let is : get_or rs (x.number - 1) [] ≡ padded L x.bytes = get_or_from_slice_get rs (x.number - 1) (padded L x.bytes)
    [] so in
    ap (λ (t : Bool). if not t then record_line x.number x.bytes else [])
    ((bytes_eq-Decides (get_or rs (x.number - 1) []) (padded L x.bytes)).1 is)

pub so-unprinted : (L : ℕ) (xs : List NewRecord) (rs : List (List ℕ)) → AreSo L rs xs → changed_text L xs rs ≡ []
so-unprinted L [] rs so = refl
so-unprinted L (x ∷ xs) rs so =
    ap (λ (t : List ℕ). t ++ changed_text L xs (with_stored L x rs)) (same-line L x rs so.0)
    ∙ ap (changed_text L xs) (so-stored_one L rs x so.0)
    ∙ so-unprinted L xs rs so.1
