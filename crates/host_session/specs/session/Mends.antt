-- The result of a call that mends a shop's disk and returns a drive over it. All of it is our own.
use Rattle.std.specs.Prelude.{ℕ, ◌≡◌, IfErr, IfOk, Result}
use Rattle.d64_image.specs.History.{History}
use Rattle.host_session.specs.Held.{Changes}
use Rattle.d64_image.specs.Images.{Image}
use Rattle.drive_channels.specs.State.{Seen}
use Rattle.host_session.specs.declared.faults.OpenFault.{OpenFault}
use Rattle.host_session.specs.declared.faults.OpenFault.TheVariants.{Device}
use Rattle.host_session.specs.session.Opening.{TellsOpening, Untouched, disk_of}
use Rattle.host_session.specs.shop.Selecting.{IsReady}
use Rattle.host_session.specs.shop.Shop.{IsShop, Shop}

-- For each x with P: at Ok the disk is as `done` says, and the drive ready. The one fault is the device's, returned
-- only if it failed. On the way, with at most this number of writes, the disk was the same shop's. A disk that is as
-- `untouched_if` says isn't written.
pub record Mends {D A : Type 0} (S : History D) (old : D) (result : Result (Seen D) (OpenFault × D)) (P : A → Type 0)
    (most : ℕ) (untouched_if : Image → Type 0) (done : A → Image → Type 0) : Type 0 where
  pub ready : IfOk result (IsReady S)
  pub ok : (x : A) → P x → IfOk result (λ d. done x (S.image d.disk))
  pub err : IfErr result (λ e. e.0 ≡ Device)
  pub moments : (s : Shop) → IsShop (S.image old) s
      → Changes S old (disk_of (λ d. d.disk) result) most (λ i. IsShop i s)
  pub quiet : untouched_if (S.image old) → Untouched S old (disk_of (λ d. d.disk) result)
  pub failures : TellsOpening (λ d. d.disk) S old result
