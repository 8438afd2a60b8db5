-- The line is of one record alone.
use Rattle.std.proofs.Common.{ℕ, arith, ap, ◌∙◌, refl}
use Rattle.std.specs.Prelude.{slice_index}
use Rattle.std.proofs.lemmas.Bool.{false≢true}
use Rattle.line_text.proofs.lemmas.bytes.Stored.{one-line}
use Rattle.disk_changes.proofs.lines.storing.read_last.Goals as goal

pub returns-in_err-number-clause-none : goal.returns-in_err-number-clause-none
returns-in_err-number-clause-none c = λ _ h L x few is can same.
    c.in_err-number.ensures.none refl x.number x.bytes can.low can.high can.bytes (omega (arith, can.short, few)) is

pub returns-then-not-is_last-clause-none : goal.returns-then-not-is_last-clause-none
returns-then-not-is_last-clause-none c = λ _ h L x few is can here.
    let found = c.in_ok-number.ensures.found in
    let one = one-line c.args.line.now c.in_ok-number.number x.number c.read_line.new.bytes.items x.bytes
    found.0 found.1 can.low can.high found.2 is in
    false≢true (c.if-not-is_last.ensures.1 (ap (λ (n : ℕ). slice_index c.args.last.now.places.items n) one.0 ∙ here))
