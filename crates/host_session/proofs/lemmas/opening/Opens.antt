-- What opening tells of a disk, from what its steps tell.
use Rattle.std.proofs.Common.{ℕ, ◌≡◌, ◌≢◌, ◌≤◌, ◌⊎◌, inl, inr, Err, IfErr, IsOk, Ok, OnOk, Result, ap, arith}
use Rattle.std.proofs.Common.{refl, subst, sym, ◌∙◌}
use Rattle.d64_image.proofs.Moments.{failed_later, never_failed}
use Rattle.host_session.proofs.lemmas.Held.{changes_weaker}
use Rattle.d64_image.specs.History.{Failed, History, NeverFailed}
use Rattle.host_session.specs.Held.{Changes}
use Rattle.d64_image.specs.Images.{Image}
use Rattle.host_session.specs.session.Opening.{IsAShop, Refuses, TellsJudging, TellsOpening, disk_of, number_of}
use Rattle.host_session.specs.declared.faults.OpenFault.{OpenFault}
use Rattle.host_session.specs.declared.faults.OpenFault.TheVariants as faults
use Rattle.host_session.proofs.lemmas.judging.Judging.{refused-no_shop}

-- an error handed on, with the disk
pub error-changes : {T D : Type 0} (S : History D) (a : D) (m n : ℕ) (P : Image → Type 0) (f : T
    → D) (r : Result T (OpenFault × D)) (e : OpenFault × D) → m ≤ n → r ≡ Err e → Changes S a e.1 m P
    → Changes S a (disk_of f r) n P
error-changes {T = T} {D = D} S a m n P f r e le is changes =
    subst (λ (q : Result T (OpenFault × D)). Changes S a (disk_of f q) n P) (sym is)
    (changes_weaker S a e.1 m n P P le (λ i x. x) changes)

-- and what it tells of the device
pub error-tells : {T D : Type 0} (S : History D) (a : D) (f : T → D) (r : Result T (OpenFault × D)) (e : OpenFault × D)
    → r ≡ Err e
    → ((e.0 ≡ faults.Device) × Failed S a e.1) ⊎ ((e.0 ≢ faults.Device) × (S.failures e.1 ≡ S.failures a))
    → TellsOpening f S a r
error-tells {T = T} {D = D} S a f r e is told = subst (λ (q : Result T (OpenFault × D)). TellsOpening f S a q) (sym is)
    told

module _ {T D : Type 0} (S : History D) (f : T → D) (a b : D) (same : S.failures b ≡ S.failures a)
    (r : Result T (OpenFault × D)) (told : TellsOpening f S b r) where
  -- after calls that met no failure
  pub opening-later : TellsOpening f S a r
  opening-later = by r told
    where
      by : (q : Result T (OpenFault × D)) → TellsOpening f S b q → TellsOpening f S a q
      by (Ok x) told = told ∙ same
      by (Err e) (inl (is, failed)) = inl (is, failed_later S a b e.1 same failed)
      by (Err e) (inr (other, none)) = inr (other, none ∙ same)

  -- an error that is the device's
  pub device-refused : (img : Image) → IfErr r (λ e. e.0 ≡ faults.Device)
      → IfErr r (λ e. Refuses (Failed S a e.1) img e.0)
  device-refused img device = by r told device
    where
      by : (q : Result T (OpenFault × D)) → TellsOpening f S b q → IfErr q (λ e. e.0 ≡ faults.Device)
          → IfErr q (λ e. Refuses (Failed S a e.1) img e.0)
      by (Ok x) told device = device
      by (Err e) (inl (is, failed)) device = subst (Refuses (Failed S a e.1) img) (sym device)
          (failed_later S a b e.1 same failed)
      by (Err e) (inr (other, none)) device = absurd (other device)

  -- where the device doesn't fail, there is none
  pub device-ok : IfErr r (λ e. e.0 ≡ faults.Device) → NeverFailed S a (disk_of f r) → IsOk r
  device-ok device never = by r told device never
    where
      by : (q : Result T (OpenFault × D)) → TellsOpening f S b q → IfErr q (λ e. e.0 ≡ faults.Device)
          → NeverFailed S a (disk_of f q) → IsOk q
      by (Ok x) told device never = refl
      by (Err e) (inl (is, failed)) device never =
          absurd (never_failed S a e.1 never (failed_later S a b e.1 same failed))
      by (Err e) (inr (other, none)) device never = absurd (other device)

-- what is no error
module _ {E : Type 0} (r : Result (Unit {0}) E) (none : (e : E) → r ≢ Err e) where
  pub ok-of : (A : Type 0) → OnOk r A → A
  ok-of A = by r none
    where
      by : (q : Result (Unit {0}) E) → ((e : E) → q ≢ Err e) → OnOk q A → A
      by (Ok u) none known = known
      by (Err e) none known = absurd (none e refl)

pub judged-same : {D : Type 0} (S : History D) (a b : D) (r : Result (Unit {0}) OpenFault)
    → ((e : OpenFault) → r ≢ Err e) → TellsJudging S a b r → S.failures b ≡ S.failures a
judged-same S a b (Ok u) none told = told
judged-same S a b (Err e) none told = absurd (none e refl)

-- an error handed on
module _ {T D : Type 0} (S : History D) (f : T → D) (b : D) (r : Result T (OpenFault × D)) (e : OpenFault × D)
    (is : r ≡ Err e) where
  pub error-told : ((e.0 ≡ faults.Device) × Failed S b e.1) ⊎ ((e.0 ≢ faults.Device) × (S.failures e.1 ≡ S.failures b))
      → TellsOpening f S b r
  error-told told = subst (TellsOpening f S b) (sym is) told

  pub error-device : e.0 ≡ faults.Device → IfErr r (λ e. e.0 ≡ faults.Device)
  error-device device = subst (λ (q : Result T (OpenFault × D)). IfErr q (λ e. e.0 ≡ faults.Device)) (sym is) device

-- a fault that was judged
pub judged-opening : {D : Type 0} (U : Type 0) (S : History D) (a b : D) (fault : OpenFault)
    → TellsJudging {T = U} S a b (Err fault)
    → ((fault ≡ faults.Device) × Failed S a b) ⊎ ((fault ≢ faults.Device) × (S.failures b ≡ S.failures a))
judged-opening U S a b (faults.Layout x) told = inr (λ e. omega (arith, ap number_of e), told)
judged-opening U S a b faults.NoStock told = inr (λ e. omega (arith, ap number_of e), told)
judged-opening U S a b faults.NoRequests told = inr (λ e. omega (arith, ap number_of e), told)
judged-opening U S a b (faults.BadCard r) told = inr (λ e. omega (arith, ap number_of e), told)
judged-opening U S a b (faults.BadRequestCard t) told = inr (λ e. omega (arith, ap number_of e), told)
judged-opening U S a b faults.TwoIntents told = inr (λ e. omega (arith, ap number_of e), told)
judged-opening U S a b faults.Device told = inl (refl, told)

-- what is refused is no shop's, where the device doesn't fail
pub refused-no : {D : Type 0} (S : History D) (a b : D) (fault : OpenFault) → NeverFailed S a b
    → Refuses (Failed S a b) (S.image a) fault → ¬ (IsAShop (S.image a))
refused-no S a b fault never refused (s, shop) = refused-no_shop (S.image a) fault s (by fault refused) shop
  where
    by : (x : OpenFault) → Refuses (Failed S a b) (S.image a) x → Refuses ⊥ (S.image a) x
    by (faults.Layout f) h = h
    by faults.NoStock h = h
    by faults.NoRequests h = h
    by (faults.BadCard r) h = h
    by (faults.BadRequestCard t) h = h
    by faults.TwoIntents h = h
    by faults.Device h = never_failed S a b never h
