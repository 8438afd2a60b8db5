-- A refusal for one of two causes, neither of which is the device.
use Rattle.std.proofs.Common.{◌≡◌, ◌⊎◌, Err, Ok, Result, false, inl, inr, subst, sym}
use Rattle.std.specs.Prelude.{IfErr}
use Rattle.d64_image.specs.History.{History}
use Rattle.disk_layout.specs.declared.slot.Slot.{Slot}
use Rattle.file_changes.specs.Faults.{TellsChange, of_device}
use Rattle.command_faults.specs.declared.faults.CommandFault.{CommandFault}
use Rattle.command_faults.specs.declared.faults.CommandFault.TheVariants.{Device, NoFile}

pub told-more : (r : Result Slot CommandFault) (f : CommandFault) → IfErr r (λ e. (e ≡ NoFile) ⊎ (e ≡ f))
    → IfErr r (λ e. (e ≡ NoFile) ⊎ ((e ≡ f) ⊎ (e ≡ Device)))
told-more (Ok s) f told = tt
told-more (Err e) f (inl is) = inl is
told-more (Err e) f (inr is) = inr (inl is)

module _ {D : Type 0} (S : History D) (a b : D) where
  no-fault : (e : CommandFault) → of_device e ≡ false → S.failures b ≡ S.failures a → TellsChange {T = Slot} S a b (Err e)
  no-fault e none fine = rw none fine

  pub not-device : (r : Result Slot CommandFault) (f : CommandFault) → of_device f ≡ false → S.failures b ≡ S.failures a
      → IfErr r (λ e. (e ≡ NoFile) ⊎ (e ≡ f)) → TellsChange S a b r
  not-device (Ok s) f none fine told = fine
  not-device (Err e) f none fine (inl is) = subst (λ x. TellsChange {T = Slot} S a b (Err x)) (sym is) fine
  not-device (Err e) f none fine (inr is) = subst (λ x. TellsChange {T = Slot} S a b (Err x)) (sym is)
      (no-fault f none fine)
