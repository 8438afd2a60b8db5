-- The files of a layout but one or two, told by their places in the list or by what stands before and behind them.
use Rattle.std.proofs.Common.{
  ℕ,
  suc,
  Bool,
  true,
  false,
  ◌≡◌,
  ◌<◌,
  ◌+◌,
  List,
  [],
  ◌∷◌,
  ◌++◌,
  length,
  refl,
  sym,
  ap,
  arith,
}
use Rattle.std.specs.Prelude.{cond, filter, nat_eq, not, ◌&&◌}
use Rattle.std.proofs.lemmas.Bool.{false≢true}
use Rattle.std.proofs.lemmas.Bool.Decides.{nat_tests}
use Rattle.disk_layout.specs.Layout.{File}
use Rattle.disk_layout.specs.Rest.{Kept, others}

-- the same of all but two, as `others` leaves these
abbrev pub others_kept : ℕ → ℕ → ℕ → List Kept → List Kept
others_kept a b n [] = []
others_kept a b n (k ∷ ks) = filter (λ _. not (nat_eq n a) && not (nat_eq n b)) (k ∷ []) ++ others_kept a b (suc n) ks

-- the files but one, where it stands between these
pub others-around : (a n : ℕ) (before after : List File) (f : File) → a ≡ n + length before
    → others a a n (before ++ f ∷ after) ≡ before ++ after
others-around a n [] after f e = step (not (nat_eq n a) && not (nat_eq n a)) (grind (arith, nat_tests))
    (past after (suc n) (omega (arith, e)))
  where
    left : (k : ℕ) → a < k → (not (nat_eq k a) && not (nat_eq k a)) ≡ true
    left k lt = grind (arith, nat_tests)

    keep : (t : Bool) (g : File) (gs hs : List File) → t ≡ true → gs ≡ hs → cond t (g ∷ []) [] ++ gs ≡ g ∷ hs
    keep true g gs hs is same = ap (λ xs. g ∷ xs) same
    keep false g gs hs is same = absurd (false≢true is)

    past : (gs : List File) (k : ℕ) → a < k → others a a k gs ≡ gs
    past [] k lt = refl
    past (g ∷ gs) k lt = keep (not (nat_eq k a) && not (nat_eq k a)) g (others a a (suc k) gs) gs (left k lt)
        (past gs (suc k) (omega (arith, lt)))

    step : (t : Bool) → t ≡ false → others a a (suc n) after ≡ after → cond t (f ∷ []) [] ++ others a a (suc n) after
        ≡ after
    step false is same = same
    step true is same = absurd (false≢true (sym is))
others-around a n (g ∷ before) after f e = keep (not (nat_eq n a) && not (nat_eq n a)) (grind (arith, nat_tests))
    (others-around a (suc n) before after f (omega (arith, e)))
  where
    keep : (t : Bool) → t ≡ true → others a a (suc n) (before ++ f ∷ after) ≡ before ++ after
        → cond t (g ∷ []) [] ++ others a a (suc n) (before ++ f ∷ after) ≡ g ∷ (before ++ after)
    keep true is same = ap (λ xs. g ∷ xs) same
    keep false is same = absurd (false≢true is)
