-- How many records more blocks hold, and what they cost.
use Rattle.std.proofs.Common.{◌≡◌, ◌≢◌, ℕ, zero, suc, ◌+◌, ◌-◌, ◌*◌, ◌/◌, ◌%◌, ◌<◌, ◌≤◌, Bool, true, false, List, ◌++◌}
use Rattle.std.proofs.Common.{refl, sym, ◌∙◌, ap, arith, append_assoc, ap₂}
use Rattle.std.specs.Prelude.{if◌then◌else◌, nat_eq, replicate}
use Rattle.std.proofs.lemmas.Bool.{eqb-false, eqb-true, le-leb}
use Rattle.std.proofs.lemmas.List.{replicate-append-replicate}
use Rattle.std.proofs.lemmas.Nat.{le-div}
use Rattle.std.proofs.Math.Nat.{add-mul-div_left}
use Rattle.disk_layout.specs.Layout.{File, sides_for}
use Rattle.disk_layout.specs.Records.{empty_record}
use Rattle.rel_records.proofs.lemmas.filling.Fulls.{full-inside}
use Rattle.rel_records.specs.Written.{grown_by}
use Rattle.rel_records.specs.growth.Growth.{added, full, growth_writes, records_had, run_writes, side_writes}
use Rattle.rel_records.specs.growth.Steps.{step_writes}

-- a record that is there asks for no growth
pub added-none : (L c r : ℕ) → r ≤ c → added L c r ≡ 0
added-none L c r le = rw (le-leb r c le) refl

pub growth-none : (f : File) (r : ℕ) → r ≤ records_had f → growth_writes f r ≡ 0
growth-none f r le = rw (le-leb r (records_had f) le) refl

-- more blocks hold no fewer records
pub full-mono : (L m n : ℕ) → 0 < L → m ≤ n → full L m ≤ full L n
full-mono L m n pos le = le-div (full L m) (254 * n) L pos (omega (arith, full-inside L m, le))

regroup : (xs ys zs : List (List ℕ)) → (xs ++ ys) ++ zs ≡ xs ++ (ys ++ zs)
regroup xs ys zs = simp append_assoc

-- records added twice
pub grown-grown : (L j k : ℕ) (rs : List (List ℕ)) → grown_by L k (grown_by L j rs) ≡ grown_by L (j + k) rs
grown-grown L j k rs = regroup rs (replicate j (empty_record L)) (replicate k (empty_record L))
    ∙ ap (λ xs. rs ++ xs) (replicate-append-replicate j k (empty_record L))

-- 1 + 2 + .. + s
triangle : (s : ℕ) → (s + 1) * (s + 1 - 1) / 2 ≡ s * (s - 1) / 2 + s
triangle zero = refl
triangle (suc t) = ap (λ k. k / 2) (twice t) ∙ add-mul-div_left (suc t * (suc t - 1)) (suc t) (omega arith)
  where
    product : (t : ℕ) → (t + 2) * (t + 1) ≡ (t + 1) * t + 2 * (t + 1)
    product t = grind arith

    twice : (t : ℕ) → (suc t + 1) * (suc t + 1 - 1) ≡ suc t * (suc t - 1) + 2 * suc t
    twice t =
        let a : suc t + 1 ≡ t + 2 = omega arith in
        let b : suc t + 1 - 1 ≡ t + 1 = omega arith in
        let c : suc t ≡ t + 1 = omega arith in
        let d : suc t - 1 ≡ t = omega arith in
        ap₂ ◌*◌ a b ∙ product t ∙ sym (ap₂ ◌+◌ (ap₂ ◌*◌ c d) (ap (λ k. 2 * k) c))

-- the cost of a block more
side-step : (n : ℕ) → side_writes (n + 1) ≡ side_writes n + (if nat_eq (n % 120) 0 then (sides_for n) else 0)
side-step n = by (nat_eq (n % 120) 0) refl
  where
    by : (b : Bool) → nat_eq (n % 120) 0 ≡ b → side_writes (n + 1) ≡ side_writes n + (if b then (sides_for n) else 0)
    by true e =
        let z : n % 120 ≡ 0 = eqb-true (n % 120) 0 e in
        let more : sides_for (n + 1) ≡ sides_for n + 1 = omega (arith, z) in
        ap (λ s. s * (s - 1) / 2) more ∙ triangle (sides_for n)
    by false e =
        let ne : n % 120 ≢ 0 = eqb-false (n % 120) 0 e in
        let same : sides_for (n + 1) ≡ sides_for n = omega (arith, ne) in
        ap (λ s. s * (s - 1) / 2) same ∙ omega arith

pub side-mono : (n d : ℕ) → side_writes n ≤ side_writes (n + d)
side-mono n zero = let e : n + zero ≡ n = omega arith in omega (arith, ap side_writes e)
side-mono n (suc d) =
    let e : n + suc d ≡ n + d + 1 = omega arith in
    omega (arith, ap side_writes e, side-step (n + d), side-mono n d)

-- a run and a step
pub run-step : (n k : ℕ) → n ≤ k → run_writes n k + step_writes k ≡ run_writes n (k + 1)
run-step n k le =
    let e : n + (k - n) ≡ k = omega arith in
    let low : side_writes n ≤ side_writes k = omega (arith, side-mono n (k - n), ap side_writes e) in
    by (nat_eq (k % 120) 0) refl low
  where
    by : (b : Bool) → nat_eq (k % 120) 0 ≡ b → side_writes n ≤ side_writes k
        → run_writes n k + step_writes k ≡ run_writes n (k + 1)
    by true t low =
        let s : step_writes k ≡ 5 + sides_for k = ap (λ b. if b then (5 + sides_for k) else 5) t in
        let m : side_writes (k + 1) ≡ side_writes k + sides_for k = side-step k
        ∙ ap (λ b. side_writes k + (if b then (sides_for k) else 0)) t in
        omega (arith, s, m, low, le)
    by false t low =
        let s : step_writes k ≡ 5 = ap (λ b. if b then (5 + sides_for k) else 5) t in
        let m : side_writes (k + 1) ≡ side_writes k + 0 = side-step k
        ∙ ap (λ b. side_writes k + (if b then (sides_for k) else 0)) t in
        omega (arith, s, m, low, le)
