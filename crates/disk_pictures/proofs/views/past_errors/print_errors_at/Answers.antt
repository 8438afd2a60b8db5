-- One sector's line more.
use Rattle.std.proofs.Common.{arith}
use Rattle.std.proofs.lemmas.List.{take_all}
use Rattle.std.specs.Prelude.{option_map}
use Rattle.disk_pictures.proofs.Past.{numbers-all, numbers-more}
use Rattle.disk_pictures.specs.Held.{drawn_in}
use Rattle.disk_pictures.specs.PastErrors.{entry_past, past_error_line}
use Rattle.long_chains.specs.Sectors.{error_in}
use Rattle.disk_pictures.proofs.views.past_errors.print_errors_at.Goals as goal

pub loop-number-preserved : goal.loop-number-preserved
loop-number-preserved g c =
    let image = c.args.image.now in
    let drawn = option_map (λ drawn. drawn_in drawn.now) c.args.drawing in
    numbers-more (λ n. past_error_line n (entry_past image drawn n) (error_in image n)) _ _ _ c.args.numbers.now
    c.loop-number.number-index (omega (arith, c.loop-number-test.true)) c.loop-number.invariant c.in_ok-print_past_error.ensures.ok

pub returns-clause-ok : goal.returns-clause-ok
returns-clause-ok g c =
    numbers-all _ _ _ c.args.numbers.now _ (take_all c.loop-number.number-index c.args.numbers.now c.loop-number-test.false)
    c.loop-number.invariant
