-- What the faults of the calls below say.
use Rattle.std.proofs.Common.{◌≡◌, Result, Err, Ok, refl, subst, sym}
use Rattle.d64_image.specs.History.{Failed, History}
use Rattle.d64_image.specs.Images.{Image}
use Rattle.d64_image.specs.declared.place.Place.{Place}
use Rattle.disk_layout.specs.Fault.{Holds, HoldsOfClean, TellsFault, nowhere}
use Rattle.disk_layout.specs.declared.faults.Fault.{Fault}
use Rattle.disk_layout.specs.declared.faults.Fault.TheVariants as faults
use Rattle.rel_records.specs.Faults.{TellsRelFault}
use Rattle.rel_records.specs.Written.{IsDone}
use Rattle.rel_records.specs.declared.faults.RelFault.{RelFault}
use Rattle.rel_records.specs.declared.faults.RelFault.TheVariants.{Device, Exists, Full, NotFound, NotPresent, Overflow}
use Rattle.rel_records.specs.declared.faults.RelFault.TheVariants.{TooLarge}

-- a fault that isn't Device comes only where no failure was counted
pub calm : {D : Type 0} (T : Type 0) (S : History D) (old new : D) (e : RelFault) → ¬ (e ≡ Device)
    → TellsRelFault {T = T} S old new (Err e) → S.failures new ≡ S.failures old
calm T S old new NotFound other t = t
calm T S old new NotPresent other t = t
calm T S old new Overflow other t = t
calm T S old new TooLarge other t = t
calm T S old new Full other t = t
calm T S old new Exists other t = t
calm T S old new Device other t = absurd (other refl)

-- what is done told no error
pub not-err : {T E : Type 0} (x : T) (e : E) → ◌≡◌ {A = Result T E} (Ok x) (Err e) → ⊥
not-err x e h = cc

-- a fault of the layout that isn't Device is a fact of the image alone
pub fact : (failed_at : Place → Type 0) (img : Image) (fault : Fault) → ((p : Place) → ¬ (fault ≡ faults.Device p))
    → Holds failed_at img fault → Holds nowhere img fault
fact failed_at img (faults.BadLink p) other h = h
fact failed_at img (faults.Loop p) other h = h
fact failed_at img (faults.OwnedTwice p) other h = h
fact failed_at img (faults.BadType p) other h = h
fact failed_at img (faults.Unclosed p) other h = h
fact failed_at img (faults.BadSide p) other h = h
fact failed_at img (faults.BadLength p) other h = h
fact failed_at img (faults.CountWrong p) other h = h
fact failed_at img (faults.MapWrong p) other h = h
fact failed_at img (faults.Device p) other h = absurd (other p refl)

-- so is one that a check tells
pub clean-fact : (failed_at : Place → Type 0) (img : Image) (fault : Fault)
    → ((p : Place) → ¬ (fault ≡ faults.Device p)) → HoldsOfClean failed_at img fault → HoldsOfClean nowhere img fault
clean-fact failed_at img (faults.BadLink p) other h = h
clean-fact failed_at img (faults.Loop p) other h = h
clean-fact failed_at img (faults.OwnedTwice p) other h = h
clean-fact failed_at img (faults.BadType p) other h = h
clean-fact failed_at img (faults.Unclosed p) other h = h
clean-fact failed_at img (faults.BadSide p) other h = h
clean-fact failed_at img (faults.BadLength p) other h = h
clean-fact failed_at img (faults.CountWrong p) other h = h
clean-fact failed_at img (faults.MapWrong p) other h = h
clean-fact failed_at img (faults.Device p) other h = absurd (other p refl)

-- and comes only where no failure was counted
pub quiet : {D : Type 0} (T : Type 0) (S : History D) (old new : D) (fault : Fault)
    → ((p : Place) → ¬ (fault ≡ faults.Device p)) → TellsFault {T = T} S old new (Err fault)
    → S.failures new ≡ S.failures old
quiet T S old new (faults.BadLink p) other t = t
quiet T S old new (faults.Loop p) other t = t
quiet T S old new (faults.OwnedTwice p) other t = t
quiet T S old new (faults.BadType p) other t = t
quiet T S old new (faults.Unclosed p) other t = t
quiet T S old new (faults.BadSide p) other t = t
quiet T S old new (faults.BadLength p) other t = t
quiet T S old new (faults.CountWrong p) other t = t
quiet T S old new (faults.MapWrong p) other t = t
quiet T S old new (faults.Device p) other t = absurd (other p refl)

-- Device is told where the device failed
pub device-failed : {D : Type 0} (T : Type 0) (S : History D) (old new : D) (e : RelFault) → e ≡ Device
    → TellsRelFault {T = T} S old new (Err e) → Failed S old new
device-failed T S old new e is tells = subst (λ (x : RelFault). TellsRelFault {T = T} S old new (Err x)) is tells

-- what a fault that is Overflow says
pub over : (e : RelFault) → e ≡ Overflow → IsDone {T = Unit {0}} (Err e)
over e is = subst (λ (x : RelFault). IsDone {T = Unit {0}} (Err x)) (sym is) tt

pub over-fits : (e : RelFault) → e ≡ Overflow → ◌≡◌ {A = Result (Unit {0}) RelFault} (Err e) (Err TooLarge)
    → ⊥
over-fits e is h = cc

pub over-device : (e : RelFault) → e ≡ Overflow → e ≡ Device → ⊥
over-device e is h = cc

pub device-other : (e : RelFault) → e ≡ Device → e ≡ Overflow → ⊥
device-other e a b = cc
