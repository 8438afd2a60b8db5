-- Checks that a folder and its log make by themselves. Our own.
use Rattle.std.specs.Prelude.{◌≡◌, OnErr, OnOk, Result, true}
use Rattle.image_log.specs.declared.life.checks.Checks.{Checks}

-- What a check found was counted: an error is a failure, and at Ok none is counted.
pub record IsCounted {T E : Type 0} (old new : Checks) (result : Result T E) : Type 0 where
  pub failed : OnErr result (new.failed ≡ true)
  pub passed : OnOk result (new.failed ≡ old.failed)
