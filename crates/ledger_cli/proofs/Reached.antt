-- The file of a play comes of the one that was handed in by the sectors that it was to keep.
use Rattle.std.proofs.Common.{ℕ, List, Ok, Err, subst, sym, ⊎_elim}
use Rattle.std.proofs.Math.Path.{subst₂}
use Rattle.d64_image.specs.History.{History}
use Rattle.d64_image.specs.Keeps.{Keeps}
use Rattle.d64_image.specs.Memory.{sectors_in}
use Rattle.host_session.specs.events.Telling.{Output}
use Rattle.host_session.specs.shop.Shop.{IsShop, Shop}
use Rattle.shop_commands.specs.Plays.{IsFileFault, IsPlayEnd, IsPlayedOver, IsUntouched}
use Rattle.command_faults.specs.declared.faults.CommandFault.{CommandFault}
use Rattle.command_faults.specs.declared.faults.CommandFault.TheVariants as faults
use Rattle.opened_files.specs.Ends.{JobEnd}
use Rattle.shop_jobs.specs.Runs.{IsPlayRun}

-- a run of a script on a shop, once what it told is handed on
module _ {D T : Type 0} (h : History D) (o : Output T) (disk : D) (script : List ℕ) (old new : T) (left : D) (s : Shop)
    (is : IsShop (h.image disk) s) where
  at_ok : IsPlayEnd h o disk script old new (Ok left) → h.reached disk left
  at_ok x = (x.0.moments s is).reached

  at_err : (fault : CommandFault) → IsPlayEnd h o disk script old new (Err (fault, left)) → h.reached disk left
  at_err fault x = ⊎_elim (λ y. (y.1.moments s is).reached) (λ y. (y.2.moments s is).reached) x

module _ {F T : Type 0} (K : Keeps F) (o : Output T) (image script : List ℕ) (file after : F) (old new : T) (s : Shop)
    (is : IsShop (sectors_in image) s) where
  over_ok : IsPlayedOver K o image script file after old new (λ left. Ok left) → K.reached file after
  over_ok u = subst₂ (λ (a b : F). K.reached a b) u.is_file u.is_after
      (at_ok _ o u.disk script old new u.left s (subst (λ img. IsShop img s) (sym u.holds) is) u.ends).0

  over_err : (fault : CommandFault) → IsPlayedOver K o image script file after old new (λ left. Err (fault, left))
      → K.reached file after
  over_err fault u = subst₂ (λ (a b : F). K.reached a b) u.is_file u.is_after
      (at_err _ o u.disk script old new u.left s (subst (λ img. IsShop img s) (sym u.holds) is) fault u.ends).0

  untouched : IsUntouched file after old new → K.reached file after
  untouched u = subst (λ (f : F). K.reached file f) (sym u.0) (K.reached_same file)

  fault_reached : (fault : CommandFault) → IsFileFault K o image script file after old new fault → K.reached file after
  fault_reached faults.ImageSize x = untouched x.1
  fault_reached faults.NoMemory x = untouched x.1
  fault_reached (faults.ScriptLine line) x = untouched x.2
  fault_reached faults.File x = over_err faults.File x.1
  fault_reached faults.Device x = ⊎_elim over_ok (λ y. over_err y.0 y.1) x.1
  fault_reached _ x = untouched x.2

  -- however the play ended
  pub played_reached : (ended : JobEnd) → IsPlayRun K o image script file after old new ended → K.reached file after
  played_reached (Ok printed) x = over_ok x.done.1.1
  played_reached (Err fault) x = fault_reached fault x.fault
