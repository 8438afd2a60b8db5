-- What a call gives that writes records through the shop's drive. All of it is our own.
use Rattle.std.specs.Prelude.{ℕ, ◌≡◌, IsErr, OnOk, Result, true}
use Rattle.d64_image.specs.History.{History, TellsFailure}
use Rattle.host_session.specs.Held.{Changes}
use Rattle.d64_image.specs.Images.{Image}
use Rattle.drive_channels.specs.State.{Seen}
use Rattle.drive_channels.specs.declared.faults.Dead.{Dead}
use Rattle.host_session.specs.shop.Selecting.{IsReady}

-- For each x with P: at Ok the disk is as `done` says, and the drive ready. On the way, with at most this number of
-- writes, the disk was as `held` says. At an error the device failed, and the drive is dead.
pub record Puts {D A : Type 0} (S : History D) (old new : Seen D) (result : Result (Unit {0}) Dead) (P : A → Type 0)
    (most : (x : A) → P x → ℕ) (held done : A → Image → Type 0) : Type 0 where
  pub ready : OnOk result (IsReady S new)
  pub ok : (x : A) → P x → OnOk result (done x (S.image new.disk))
  pub moments : (x : A) → (p : P x) → Changes S old.disk new.disk (most x p) (held x)
  pub failures : TellsFailure S old.disk new.disk result
  pub dies : IsErr result → new.dead ≡ true
