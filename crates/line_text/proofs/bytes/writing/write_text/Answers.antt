-- The text of some bytes more was written.
use Rattle.std.proofs.Common.{arith}
use Rattle.line_text.proofs.lemmas.bytes.Texts.{text-more}
use Rattle.line_text.proofs.bytes.writing.write_text.Goals as goal

pub loop-start-preserved : goal.loop-start-preserved
loop-start-preserved g c =
    let more = c.in_ok-start.ensures.ok in (
      more.1,
      text-more _ _ _ c.args.bytes.now c.loop-start.start c.in_ok-start.start (omega (arith, more.0)) more.1
          c.loop-start.invariant.1 more.2,
    )
