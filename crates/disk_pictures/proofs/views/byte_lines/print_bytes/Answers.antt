-- One line more, and all sixteen.
use Rattle.std.proofs.Common.{◌*◌, ◌+◌, arith}
use Rattle.std.specs.Prelude.{slice_range}
use Rattle.disk_pictures.proofs.Printing.{below-more, none-below}
use Rattle.disk_pictures.proofs.lemmas.views.Viewed.{all-bytes}
use Rattle.disk_pictures.specs.Views.{bytes_line}
use Rattle.disk_pictures.proofs.views.byte_lines.print_bytes.Goals as goal

pub loop-number-init : goal.loop-number-init
loop-number-init g c = none-below _ _

pub loop-number-preserved : goal.loop-number-preserved
loop-number-preserved g c =
    below-more _ _ _ c.loop-number.number
    (λ k. bytes_line k (slice_range c.args.bytes.now (16 * k) (16 * k + 16))) c.loop-number.invariant
    c.in_ok-print_text.ensures.ok

pub returns-clause-ok : goal.returns-clause-ok
returns-clause-ok g c =
    all-bytes _ _ c.args.bytes.now c.loop-number.number
    (omega (arith, c.loop-number-test.false, c.loop-number.auto.number-end)) c.loop-number.invariant
