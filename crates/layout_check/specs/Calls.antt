-- Calls that read a device and check what they read. Our own.
use Rattle.std.specs.Prelude.{ℕ, ◌≡◌, Err, IfErr, OnOk, Result}
use Rattle.d64_image.specs.History.{History, OnlyReads}
use Rattle.disk_layout.specs.Fault.{Holds, TellsFault}
use Rattle.disk_layout.specs.declared.faults.Fault.{Fault}

-- a call that makes at most n reads, no write, and meets no failure
pub record Passes {D : Type 0} (S : History D) (old new : D) (n : ℕ) : Type 0 where
  pub reads : OnlyReads S old new n
  pub failures : S.failures new ≡ S.failures old

-- a call that makes at most n reads and no write, and returns why the image isn't sound: a fault that holds of it.
-- Device is returned only if the device failed
pub record TellsUnsound {D : Type 0} (S : History D) (old new : D) (n : ℕ) (fault : Fault) : Type 0 where
  pub reads : OnlyReads S old new n
  pub failures : TellsFault {T = ℕ} S old new (Err fault)
  pub holds : Holds (S.failed_at new) (S.image old) fault

-- a call that makes at most n reads and no write, and passes or returns why the image isn't sound
pub record Judges {D T : Type 0} (S : History D) (old new : D) (n : ℕ) (result : Result T Fault) : Type 0 where
  pub ok : OnOk result (Passes S old new n)
  pub err : IfErr result (TellsUnsound S old new n)
