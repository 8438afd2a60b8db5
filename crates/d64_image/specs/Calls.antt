-- What each read and each write of a device promises, at Ok and at an error. Our own.
use Rattle.std.specs.Prelude.{◌≡◌, ◌+◌, ◌≤◌, IfErr, OnErr, OnOk, Result}
use Rattle.d64_image.specs.declared.place.Place.{Place}
use Rattle.d64_image.specs.History.{ChangesInOneStep, History, HeldOnly, OldOr, OnlyReads, TellsFailure}
use Rattle.d64_image.specs.Images.{Sector, put, sector}

-- At Ok the call returns the bytes at p. An error is this fault, and the device failed at p. The disk is the same.
pub record ReadsSector {D T E : Type 0} (S : History D) (old new : D) (p : Place) (bytes : Sector) (fault : E)
    (result : Result T E) : Type 0 where
  pub sector : OnOk result (bytes ≡ sector (S.image old) p)
  pub reads : OnlyReads S old new 1
  pub failures : TellsFailure S old new result
  pub told : IfErr result (λ e. e ≡ fault)
  pub failed : OnErr result (S.failed_at new p)

-- At Ok the bytes are at p. At an error they are and stay there, or the disk was as before at each moment of the call. The
-- error is this fault, and the device failed at p. Nothing else changes, and nothing else was ever held.
pub record WritesSector {D T E : Type 0} (S : History D) (old new : D) (p : Place) (bytes : Sector) (fault : E)
    (result : Result T E) : Type 0 where
  pub ok : OnOk result (S.image new ≡ put (S.image old) p bytes)
  pub err : OnErr result (OldOr (S.image old) (put (S.image old) p bytes) (S.image new))
  -- during the call
  pub held : HeldOnly S old new (OldOr (S.image old) (put (S.image old) p bytes))
  -- if it shows the new bytes during the call, they are there at its end, also at an error
  pub one_step : ChangesInOneStep S old new
  -- a write is counted at most once, and only at Ok
  pub counted : OnOk result (S.writes new ≤ S.writes old + 1)
  pub uncounted : OnErr result (S.writes new ≡ S.writes old)
  pub reads : S.reads new ≡ S.reads old
  pub failures : TellsFailure S old new result
  pub told : IfErr result (λ e. e ≡ fault)
  pub failed : OnErr result (S.failed_at new p)
