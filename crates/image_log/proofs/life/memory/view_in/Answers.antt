-- The log is opened, and then viewed.
use Rattle.std.proofs.Common.{refl, subst, sym}
use Rattle.std.specs.Prelude.{IsSome}
use Rattle.image_log.specs.Readers.{IsOpened}
use Rattle.image_log.proofs.life.memory.view_in.Goals as goal

pub returns-in-Ok-clause-some : goal.returns-in-Ok-clause-some
returns-in-Ok-clause-some g c s at =
    let t = c.open_log.ensures.goes s at in
    let f = subst (λ o. IsOpened g.V.Log.LogReader.bytes o s.log) c.in-Some.is (c.in_ok-log.ensures.log s at) in
    c.in-Ok.ensures.ok s t.0 f.0 t.1 t.2 f.2 f.1 (c.in_ok-log.ensures.named s at (subst IsSome (sym c.in-Some.is) refl))

pub returns-in-Some-clause-refused : goal.returns-in-Some-clause-refused
returns-in-Some-clause-refused g c misfit s at =
    let t = c.open_log.ensures.goes s at in
    let f = subst (λ o. IsOpened g.V.Log.LogReader.bytes o s.log) c.in-Some.is (c.in_ok-log.ensures.log s at) in
    c.in-Err.ensures.refused misfit s t.0 f.0 t.1 t.2 f.2 f.1 (c.in_ok-log.ensures.named s at (subst IsSome (sym c.in-Some.is) refl))

pub returns-clause-none : goal.returns-clause-none
returns-clause-none g c same s at = subst (λ o. IsOpened g.V.Log.LogReader.bytes o s.log) c.in-None.is (c.in_ok-log.ensures.log s at)
