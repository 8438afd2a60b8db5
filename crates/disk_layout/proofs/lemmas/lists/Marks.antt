-- What a table of places holds after a write.
use Rattle.std.proofs.Common.{
  ◌≡◌,
  ◌≢◌,
  ◌↔◌,
  ◌<◌,
  ◌⊎◌,
  inl,
  inr,
  Bool,
  true,
  false,
  List,
  length,
  get_or,
  set,
  refl,
  sym,
  ap,
  arith,
  get_or-set_other,
  get_or-set_same,
  IsTrue,
}
use Rattle.std.specs.Prelude.{ℕ, ◌+◌, count_by, not, cond, replicate, sum_by}
use Rattle.std.proofs.Common.{◌∙◌}
use Rattle.std.proofs.lemmas.Bool.{cases_eq, cases_lt}
use Rattle.std.proofs.lemmas.List.{get_or-replicate, get_or_past, length-replicate}
use Rattle.std.proofs.lemmas.List.Folds.{sum_by-replicate}
use Rattle.std.proofs.lemmas.List.Sums.{sum_by-set}
use Rattle.d64_image.proofs.Places.{index_below, same_index}
use Rattle.d64_image.specs.Places.{index_of}
use Rattle.d64_image.specs.declared.place.Place.{Place}

pub marked : (seen : List Bool) (p : Place) → length seen ≡ 683 → (q : Place)
    → IsTrue (get_or (set seen (index_of p) true) (index_of q) false) ↔ (p ≡ q)
    ⊎ IsTrue (get_or seen (index_of q) false)
marked seen p full q =
    elim (cases_eq (index_of p) (index_of q)) [
      | inl e ↦ let lt : index_of q < length seen = omega (arith, index_below q) in
          (λ h. inl (same_index p q e), λ h. rw (e, get_or-set_same) refl)
      | inr n ↦ let ne : index_of q ≢ index_of p = λ e. n (sym e) in
          (λ h. inr (rw get_or-set_other at h), λ h. rw get_or-set_other (other n h))
    ]
  where
    other : (index_of p ≢ index_of q) → (p ≡ q) ⊎ IsTrue (get_or seen (index_of q) false)
        → IsTrue (get_or seen (index_of q) false)
    other n (inl e) = absurd (n (ap index_of e))
    other n (inr h) = h

-- no mark is set in a table of falses
pub none_marked : (n i : ℕ) → get_or (replicate n false) i false ≡ false
none_marked n i = elim (cases_lt i n) [
  | inl h ↦ get_or-replicate n i false false h
  | inr h ↦ get_or_past (replicate n false) i false (omega (arith, length-replicate {A = Bool} n false))
]

pub none_counted : (n : ℕ) → count_by not (replicate n false) ≡ n
none_counted n = sum_by-replicate (λ b. cond (not b) 1 0) n false ∙ omega arith

-- one more mark leaves one place less without a mark
pub unmarked_less : (seen : List Bool) (i : ℕ) → i < length seen → get_or seen i false ≡ false
    → count_by not (set seen i true) + 1 ≡ count_by not seen
unmarked_less seen i lt free =
    let all : sum_by (λ b. cond (not b) 1 0) (set seen i true) + cond (not (get_or seen i false)) 1 0 ≡ count_by not
    seen + 0 = sum_by-set (λ b. cond (not b) 1 0) seen i true false lt in
    omega (arith, rw free at all)
