use Rattle.std.proofs.Common.{◌≡◌}
use Rattle.image_log.specs.life.Tags.{blanked}
use Rattle.image_log.proofs.life.tags.take_tag.Given as goal

abbrev pub invariant-loop-j : goal.invariant-loop-j
invariant-loop-j l = l.sector ≡ blanked l.initial.sector l.j
