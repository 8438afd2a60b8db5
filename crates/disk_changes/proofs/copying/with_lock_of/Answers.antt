-- The file was locked.
use Rattle.std.proofs.Common.{inr, refl}
use Rattle.disk_changes.proofs.copying.with_lock_of.Goals as goal

pub returns-in-Ok-clause-ok : goal.returns-in-Ok-clause-ok
returns-in-Ok-clause-ok c = inr (
  c.if-not-is_locked.ensures.0 refl,
  c.bytes.result.now,
  c.bytes.ensures.image,
  (c.in-Ok.second, c.in-Ok.ensures.ok, refl),
)
