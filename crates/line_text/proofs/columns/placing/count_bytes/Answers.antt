-- A digit, or a byte more.
use Rattle.std.proofs.Common.{◌≡◌, ◌+◌, ◌∙◌, ap, ap₂, arith, drop, sym, ℕ}
use Rattle.line_text.proofs.lemmas.columns.Places.{count-digit, count-done, count-first, count-within}
use Rattle.line_text.specs.columns.Pieces.{byte_count}
use Rattle.line_text.proofs.columns.placing.count_bytes.Goals as goal
use Rattle.line_text.proofs.columns.placing.count_bytes.Goals.{then-digits-gt0, else-digits-gt0}

pub loop-byte-preserved : goal.loop-byte-preserved
loop-byte-preserved c =
    let text = c.args.text.now in
    let rest = drop (c.loop-byte.byte-index + 1) text in
    elim c.if-digits-gt0.branch [
      | then-digits-gt0 w ↦ (
        ap₂ (λ (n d : ℕ). n + byte_count d rest) w.count-is w.digits-is
            ∙ ap (λ (n : ℕ). c.loop-byte.count + n)
            (sym (count-digit text c.loop-byte.byte-index c.loop-byte.digits c.loop-byte-test.true
            (omega (arith, w.if-digits-gt0.true)))) ∙ c.loop-byte.invariant.0,
        omega (arith, w.count-is, c.loop-byte.invariant.1),
      )
      | else-digits-gt0 w ↦
          let none : 0 ≡ c.loop-byte.digits = omega (arith, w.if-digits-gt0.false) in (
            ap₂ (λ (n d : ℕ). n + byte_count d rest) w.count-is (w.digits-is ∙ w.digits_after-digits.ensures)
                ∙ sym (count-first text c.loop-byte.byte-index c.loop-byte.count c.loop-byte-test.true)
                ∙ ap (λ (d : ℕ). c.loop-byte.count + byte_count d (drop c.loop-byte.byte-index text)) none
                ∙ c.loop-byte.invariant.0,
            omega (arith, w.count-is, c.loop-byte.invariant.1),
          )
    ]

pub returns-then-digits-gt0-2-clause-count : goal.returns-then-digits-gt0-2-clause-count
returns-then-digits-gt0-2-clause-count c =
    let l = c.loop-byte in
    sym (ap (λ (n : ℕ). l.count + n) (count-within c.args.text.now l.byte-index l.digits c.loop-byte-test.false
    (omega (arith, c.if-digits-gt0-2.true)))) ∙ l.invariant.0

pub returns-else-digits-gt0-2-clause-count : goal.returns-else-digits-gt0-2-clause-count
returns-else-digits-gt0-2-clause-count c =
    let l = c.loop-byte in
    let text = c.args.text.now in
    let none : l.digits ≡ 0 = omega (arith, c.if-digits-gt0-2.false) in
    let left : byte_count l.digits (drop l.byte-index text) ≡ 0 =
    ap (λ (d : ℕ). byte_count d (drop l.byte-index text)) none
    ∙ count-done text l.byte-index c.loop-byte-test.false in
    omega (arith, left, l.invariant.0)
