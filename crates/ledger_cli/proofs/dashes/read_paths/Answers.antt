-- Path by path.
use Rattle.std.proofs.Common.{◌≡◌, ◌≢◌, ◌<◌, ◌≤◌, ◌+◌, ◌⊎◌, ◌∙◌, List, ℕ, ap, arith, get_or, get_or-set_other, get_or-set_same, inl, inr, length, sym}
use Rattle.std.proofs.Math.ListN.{set}
use Rattle.std.proofs.lemmas.List.{get_or_default, with_items_is}
use Rattle.std.proofs.lemmas.Bool.{cases_lt}
use Rattle.std.specs.Borrow.{Bor}
use Rattle.clap.specs.Words.{Text}
use Rattle.std.specs.Vec.{with_items}
use Rattle.ledger_cli.specs.Dashes.{IsReadAs, read_path}
use Rattle.ledger_cli.proofs.dashes.read_paths.Goals as goal

-- the paths up to n are read, and the others as they were
abbrev AreReadTo : (n : ℕ) (paths now : List (Bor Text)) → Type 0
AreReadTo n paths now = (k : ℕ) (none : Bor Text) → k < length paths
    → (k < n → IsReadAs (get_or paths k none) (get_or now k none)) × (n ≤ k → get_or now k none ≡ get_or paths k none)

below-or-here : (m n : ℕ) → m < n + 1 → (m < n) ⊎ (m ≡ n)
below-or-here m n lt = elim (cases_lt m n) [ inl low ↦ inl low | inr high ↦ inr (omega (arith, lt, high)) ]

one-more : (n : ℕ) (paths now : List (Bor Text)) (d read : Bor Text) → length now ≡ length paths → n < length paths
    → read.now ≡ read_path (get_or now n d).now → AreReadTo n paths now → AreReadTo (n + 1) paths (set now n read)
one-more n paths now d read same lt is before k none there = (
  λ low. elim (below-or-here k n low) [
    | inl less ↦
        let other : k ≢ n = omega (arith, less) in
        rw (get_or-set_other now n k read none other) ((before k none there).0 less)
    | inr e ↦
        let here : get_or (set now n read) k none ≡ read = rw e (get_or-set_same now n read none (omega (arith, same, lt))) in
        let was : get_or now n d ≡ get_or paths k none = get_or_default now n d none (omega (arith, same, lt))
        ∙ ap (λ m. get_or now m none) (sym e) ∙ (before k none there).1 (omega (arith, e)) in
        ap (λ (p : Bor Text). p.now) here ∙ is ∙ ap (λ (p : Bor Text). read_path p.now) was
  ],
  λ high.
      let other : k ≢ n = omega (arith, high) in
      get_or-set_other now n k read none other ∙ (before k none there).1 (omega (arith, high)),
)

pub loop-path-init : goal.loop-path-init
loop-path-init c k none lt = (
  λ low. absurd (omega (arith, low)),
  λ high. ap (λ (ps : List (Bor Text)). get_or ps k none) c.deref_mut-path-items.ensures.value,
)

pub loop-path-preserved : goal.loop-path-preserved
loop-path-preserved c = one-more c.loop-path.path-index c.args.paths.items c.loop-path.path-items _ c.read_path.result
    (c.loop-path.auto.path-items ∙ ap length c.deref_mut-path-items.ensures.value)
    (rw (← ap length c.deref_mut-path-items.ensures.value) c.loop-path-test.true) c.read_path.ensures c.loop-path.invariant

pub returns : goal.returns
returns c =
    let paths = c.args.paths in
    let now = c.loop-path.path-items in
    let same : length now ≡ length paths.items = c.loop-path.auto.path-items ∙ ap length c.deref_mut-path-items.ensures.value in
    let is : (with_items paths now).items ≡ now = with_items_is paths now (same ∙ sym paths.ok.0) in
    record {
      count = ap length is ∙ same;
      each = λ k none lt. ap (λ (ps : List (Bor Text)). (get_or ps k none).now) is ∙ (c.loop-path.invariant k none lt).0
          (omega (arith, lt, c.loop-path-test.false, ap length c.deref_mut-path-items.ensures.value));
    }
