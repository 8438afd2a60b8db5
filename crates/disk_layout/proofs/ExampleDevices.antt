-- What is told of a device that failed, and what of one that didn't.
use Rattle.std.proofs.Common.{refl, ℕ, ◌≡◌, ◌≢◌}
use Rattle.std.specs.Prelude.{Err, Ok}
use Rattle.d64_image.specs.History.{Failed, History}
use Rattle.d64_image.specs.Images.{Image}
use Rattle.d64_image.specs.declared.place.Place.{Place}
use Rattle.disk_layout.proofs.Examples.{block_0}
use Rattle.disk_layout.specs.Fault.{Holds, TellsFault}
use Rattle.disk_layout.specs.declared.faults.Fault.TheVariants.{Device, Loop}

-- where the device counts no failure an answer is anything but Device
pub tells-chain : {D T : Type 0} (S : History D) (d : D) (answer : T) → TellsFault S d d (Ok answer)
tells-chain S d answer = refl

pub tells-loop : {D : Type 0} (S : History D) (d : D) → TellsFault {T = ℕ} S d d (Err (Loop block_0))
tells-loop S d = refl

pub tells-device : {D : Type 0} (S : History D) (d : D) → ¬ (Failed S d d)
    → ¬ (TellsFault {T = ℕ} S d d (Err (Device block_0)))
tells-device S d none h = none h

-- where the device failed at one sector alone, Device holds there, and nowhere else
pub device_there : (img : Image) (p : Place) → Holds (λ x. x ≡ p) img (Device p)
device_there img p = refl

pub device_elsewhere : (img : Image) (p q : Place) → q ≢ p → ¬ (Holds (λ x. x ≡ p) img (Device q))
device_elsewhere img p q other = other
