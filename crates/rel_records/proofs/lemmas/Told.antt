-- What a call tells that passes on another call's fault, and what it tells of the device after calls without a failure.
use Rattle.std.proofs.Common.{◌≡◌, ◌⊎◌, ◌∙◌, Err, OnOk, Ok, Result, inl, inr, subst, sym, true}
use Rattle.std.specs.Prelude.{IfErr, IfOk, OnErr}
use Rattle.std.specs.Result.{IsErrAnd}
use Rattle.d64_image.proofs.Moments.{failed_later}
use Rattle.d64_image.proofs.Told.{told_after}
use Rattle.d64_image.specs.History.{Failed, History, TellsFailure}
use Rattle.rel_records.specs.Faults.{TellsRelFault, of_device}
use Rattle.rel_records.specs.Written.{IsDone}
use Rattle.rel_records.specs.declared.faults.RelFault.{RelFault}
use Rattle.rel_records.specs.declared.faults.RelFault.TheVariants.{Device, Exists, Full, NotFound, NotPresent, Overflow}
use Rattle.rel_records.specs.declared.faults.RelFault.TheVariants.{TooLarge}

-- no clause of what is done says anything
pub none-done : {T E : Type 0} (r : Result T E) (Q : E → Type 0) → IsErrAnd r Q → (P : T → Type 0) → IfOk r P
none-done (Ok x) Q h P = absurd h
none-done (Err e) Q h P = tt

pub not-done : {T E : Type 0} (r : Result T E) (Q : E → Type 0) → IsErrAnd r Q → (P : Type 0) → OnOk r P
not-done (Ok x) Q h P = absurd h
not-done (Err e) Q h P = tt

-- what follows of an answer
pub if-then : {T E : Type 0} (r : Result T E) (P : T → Type 0) (Q : Type 0) → ((x : T) → P x → Q) → IfOk r P → OnOk r Q
if-then (Ok x) P Q f h = f x h
if-then (Err e) P Q f h = tt

-- the fault is the one that is passed on
pub fault-is : {T E : Type 0} (r : Result T E) (Q : E → Type 0) → IsErrAnd r Q → (P : E → Type 0)
    → ((e : E) → Q e → P e) → IfErr r P
fault-is (Ok x) Q h P f = absurd h
fault-is (Err e) Q h P f = f e h

module _ {D : Type 0} (S : History D) (a b c : D) (same : S.failures b ≡ S.failures a) where
  -- of the device
  pub tells-after : {T E : Type 0} (r : Result T E) → TellsFailure S b c r → TellsFailure S a c r
  tells-after {E = E} r h = told_after S (λ (_ : E). true) a b c r same h

  pub tells-failed : {T E : Type 0} (r : Result T E) (Q : E → Type 0) → IsErrAnd r Q → Failed S b c
      → TellsFailure S a c r
  tells-failed (Ok x) Q h f = absurd h
  tells-failed (Err e) Q h f = failed_later S a b c same f

  pub tells-rel-after : {T : Type 0} (r : Result T RelFault) → TellsRelFault S b c r → TellsRelFault S a c r
  tells-rel-after r h = told_after S of_device a b c r same h

  pub passed-on : {T : Type 0} (r : Result T RelFault) (e : RelFault) → IsErrAnd r (λ y. y ≡ e)
      → TellsRelFault {T = T} S b c (Err e) → TellsRelFault S a c r
  passed-on (Ok x) e h told = absurd h
  passed-on {T} (Err y) e h told = let P : RelFault → Type 0 = λ f. TellsRelFault {T = T} S a c (Err f) in
      subst P (sym h) (tells-rel-after {T = T} (Err e) told)

-- each fault is one alone
pub device-not-exists : {X : Type 0} (e : RelFault) → e ≡ Device → e ≡ Exists → X
device-not-exists e is other = cc

pub device-not-full : {X : Type 0} (e : RelFault) → e ≡ Device → e ≡ Full → X
device-not-full e is other = cc

pub full-not-exists : {X : Type 0} → Full ≡ Exists → X
full-not-exists e = cc

pub exists-not-full : {X : Type 0} → Exists ≡ Full → X
exists-not-full e = cc

pub device-not-found : {X : Type 0} (e : RelFault) → e ≡ Device → e ≡ NotFound → X
device-not-found e is other = cc

pub too-large-not-full : {X : Type 0} → TooLarge ≡ Full → X
too-large-not-full e = cc

pub device-not-overflow : {X : Type 0} (e : RelFault) → e ≡ Device → e ≡ Overflow → X
device-not-overflow e is other = cc

-- what is done is no fault, and another fault isn't TooLarge
pub done-no-fault : {X T : Type 0} (x : T) (e : RelFault) → ◌≡◌ {A = Result T RelFault} (Ok x) (Err e) → X
done-no-fault x e h = cc

pub device-not-too-large : {X T : Type 0} → ◌≡◌ {A = Result T RelFault} (Err Device) (Err TooLarge) → X
device-not-too-large e = cc

pub full-not-too-large : {X T : Type 0} → ◌≡◌ {A = Result T RelFault} (Err Full) (Err TooLarge) → X
full-not-too-large e = cc

-- at an error
pub error-then : {T E : Type 0} (r : Result T E) (P Q : Type 0) → (P → Q) → OnErr r P → OnErr r Q
error-then (Ok x) P Q f h = tt
error-then (Err e) P Q f h = f h

-- a refusal of growth is not done
pub refused-undone : {X : Type 0} (r : Result (Unit {0}) RelFault) (e : RelFault) → IsErrAnd r (λ y. y ≡ e)
    → (e ≡ TooLarge) ⊎ ((e ≡ Full) ⊎ (e ≡ Device)) → IsDone r → X
refused-undone (Ok x) e h told done = absurd h
refused-undone (Err Overflow) e h (inl t) done = let both : Overflow ≡ TooLarge = h ∙ t in cc
refused-undone (Err Overflow) e h (inr (inl t)) done = let both : Overflow ≡ Full = h ∙ t in cc
refused-undone (Err Overflow) e h (inr (inr t)) done = let both : Overflow ≡ Device = h ∙ t in cc
refused-undone (Err NotFound) e h told done = absurd done
refused-undone (Err NotPresent) e h told done = absurd done
refused-undone (Err TooLarge) e h told done = absurd done
refused-undone (Err Full) e h told done = absurd done
refused-undone (Err Exists) e h told done = absurd done
refused-undone (Err Device) e h told done = absurd done

pub refusal-no-overflow : {X : Type 0} (e : RelFault) → (e ≡ TooLarge) ⊎ ((e ≡ Full) ⊎ (e ≡ Device)) → e ≡ Overflow → X
refusal-no-overflow e (inl t) o = cc
refusal-no-overflow e (inr (inl t)) o = cc
refusal-no-overflow e (inr (inr t)) o = cc

-- a cut text is told after calls without a failure
pub cut-tells : {D T : Type 0} (S : History D) (a b : D) (r : Result T RelFault) (P : Type 0)
    → IfErr r (λ e. (e ≡ Overflow) × P) → S.failures b ≡ S.failures a → TellsRelFault S a b r
cut-tells S a b (Ok x) P h same = same
cut-tells {T = T} S a b (Err e) P h same = let Q : RelFault → Type 0 = λ f. TellsRelFault {T = T} S a b (Err f) in
    subst Q (sym h.0) same

pub overflow-not-full : {X : Type 0} (e : RelFault) → e ≡ Overflow → e ≡ Full → X
overflow-not-full e is other = cc

pub device-not-present : {X : Type 0} (e : RelFault) → e ≡ Device → e ≡ NotPresent → X
device-not-present e is other = cc
