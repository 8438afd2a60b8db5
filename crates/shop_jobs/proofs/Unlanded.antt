-- The end of a service whose log can't be landed.
use Rattle.std.proofs.Common.{◌≡◌, ◌⊎◌, Err, Ok, inl, inr, refl}
use Rattle.std.proofs.lemmas.Bool.{false≢true}
use Rattle.image_log.specs.declared.life.landing.LogFault.{LogFault}
use Rattle.command_faults.specs.declared.faults.CommandFault.TheVariants as faults
use Rattle.opened_files.specs.Ends.{JobEnd, log_refusal}
use Rattle.shop_jobs.specs.LandedRuns.{landing_fault, unlanded}
use Rattle.shop_jobs.specs.LandedRuns.{IsServedOut}
use Rattle.command_faults.specs.declared.faults.CommandFault.{CommandFault}

-- what is reported of a log that can't be landed: the device, or no memory
landing_lost : (r : CommandFault) → (landing_fault r ≡ faults.Device) ⊎ (landing_fault r ≡ faults.NoMemory)
landing_lost faults.NoMemory = inr refl
landing_lost _ = inl refl

-- how it ended, or that the log couldn't be landed; and a service that ended so didn't end well
pub record IsUnlanded (ended end : JobEnd) : Type 0 where
  pub told : (end ≡ ended) ⊎ ((end ≡ Err faults.Device) ⊎ (end ≡ Err faults.NoMemory))
  pub out : IsServedOut end → ⊥

lost : (ended : JobEnd) (r : CommandFault) → (r ≡ faults.Device) ⊎ (r ≡ faults.NoMemory)
    → IsUnlanded ended (Err r)
lost ended r which = elim which [
  | inl d ↦ record { told = inr (inl (rw d refl)); out = λ out. elim out [ inl ok ↦ false≢true ok | inr e ↦ cc ] }
  | inr m ↦ record { told = inr (inr (rw m refl)); out = λ out. elim out [ inl ok ↦ false≢true ok | inr e ↦ cc ] }
]

pub unlanded_is : (ended : JobEnd) (fault : LogFault) → IsUnlanded ended (unlanded ended fault)
unlanded_is (Ok printed) fault = lost (Ok printed) (landing_fault (log_refusal fault)) (landing_lost (log_refusal fault))
unlanded_is (Err faults.File) fault =
    lost (Err faults.File) (landing_fault (log_refusal fault)) (landing_lost (log_refusal fault))
unlanded_is (Err _) fault =
    record { told = inl refl; out = λ out. elim out [ inl ok ↦ false≢true ok | inr e ↦ cc ] }
