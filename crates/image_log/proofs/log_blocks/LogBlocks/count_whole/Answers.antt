-- One whole block more, or the first that isn't.
use Rattle.std.proofs.Common.{◌≡◌, ◌+◌, ◌-◌, suc, true, false, sym, ◌∙◌, ap, arith}
use Rattle.image_log.specs.Blocks.{block_at, is_whole, whole_from}
use Rattle.image_log.proofs.Runs.{whole_here, whole_none, whole_stops}
use Rattle.image_log.proofs.log_blocks.LogBlocks.count_whole.Goals as goal

pub loop-q-preserved : goal.loop-q-preserved
loop-q-preserved c f known =
    let B = block_at f in
    let q = c.loop-q.q in
    let left = 1024 - q in
    let e : left ≡ suc (left - 1) = omega (arith, c.loop-q-test.true) in
    let is : is_whole q (B q) ≡ true = sym (known q (omega arith) (omega (arith, c.loop-q-test.true))).whole ∙ c.if-not-self-q.false in
    let a : suc q ≡ q + 1 = omega arith in
    let b : left - 1 ≡ 1024 - (q + 1) = omega arith in
    let more = ap (whole_from B q) e ∙ whole_here B q (left - 1) is ∙ ap (λ p. suc (whole_from B p (left - 1))) a ∙ ap (λ n. suc (whole_from B (q + 1) n)) b in
    omega (arith, c.loop-q.invariant f known, more)

pub returns-then-not-self-q-clause-whole : goal.returns-then-not-self-q-clause-whole
returns-then-not-self-q-clause-whole c f known =
    let B = block_at f in
    let q = c.loop-q.q in
    let left = 1024 - q in
    let e : left ≡ suc (left - 1) = omega (arith, c.loop-q-test.true) in
    let isnt : is_whole q (B q) ≡ false = sym (known q (omega arith) (omega (arith, c.loop-q-test.true))).whole ∙ c.if-not-self-q.true in
    let none = ap (whole_from B q) e ∙ whole_stops B q (left - 1) isnt in
    omega (arith, c.loop-q.invariant f known, none)

pub returns-clause-whole : goal.returns-clause-whole
returns-clause-whole c f known =
    let B = block_at f in
    let q = c.loop-q.q in
    let b : 1024 - q ≡ 0 = omega (arith, c.loop-q-test.false, c.loop-q.auto.q-end) in
    omega (arith, c.loop-q.invariant f known, ap (whole_from B q) b ∙ whole_none B q, c.loop-q-test.false, c.loop-q.auto.q-end)
