-- What there is room for.
use Rattle.std.proofs.Common.{refl}
use Rattle.served_lines.proofs.Lines.{pushed}
use Rattle.served_lines.proofs.reading.take_byte.Goals as goal

pub returns-else-byte-eq10-clause-other : goal.returns-else-byte-eq10-clause-other
returns-else-byte-eq10-clause-other c = λ no. (
  pushed c.try_push.result c.args.line.now c.try_push.new.self c.args.byte c.try_push.ensures.variant.0 c.try_push.ensures.ok
      c.try_push.ensures.err c.try_push.ensures.full,
  refl,
)
