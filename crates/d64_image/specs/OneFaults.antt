-- A disk of which one call in a run fails. Our own.
use Rattle.std.specs.Prelude.{ℕ, ◌≡◌, ◌≢◌, ◌≤◌, ◌⊎◌, Bool, Option, None, Some, Result, refl}
use Rattle.std.proofs.Common.{◌∙◌, inl, inr, ⊎_elim, sym, le_refl, arith}
use Rattle.d64_image.specs.declared.faults.DeviceFault.{DeviceFault}
use Rattle.d64_image.specs.declared.place.Place.{Place}
use Rattle.d64_image.specs.Calls.{WritesSector}
use Rattle.d64_image.specs.Counts.{calls_of}
use Rattle.d64_image.specs.Faults.{device_fault}
use Rattle.d64_image.specs.Fuses.{failed_from, failed_to}
use Rattle.d64_image.specs.History.{History, Failed, through}
use Rattle.d64_image.specs.Images.{Sector}
use Rattle.d64_image.specs.declared.one_fault.OneFault.{OneFault}

-- the disk beneath
abbrev pub faulty_disk : {D : Type 0} → OneFault D → D
faulty_disk f = f.disk

-- the place at which the one call failed; None while that is still to come
abbrev pub fault_place : {D : Type 0} → OneFault D → Option Place
fault_place f = f.place

-- how many calls pass before it, while it is still to come
abbrev pub calls_left : {D : Type 0} → OneFault D → ℕ
calls_left f = f.left

-- the next call is the one that fails
abbrev pub is_due : {D : Type 0} → OneFault D → Type 0
is_due f = (fault_place f ≡ None) × (calls_left f ≡ 0)

-- whether the disk takes the write that fails
abbrev pub is_done : {D : Type 0} → OneFault D → Bool
is_done f = f.done

-- how many of its calls failed
abbrev pub faulty_failures : {D : Type 0} → OneFault D → ℕ
faulty_failures f = calls_of f.failed

-- a write reached the disk, whatever the disk returned
pub record Reaches {D : Type 0} (h : History D) (old new : D) (p : Place) (bytes : Sector) : Type 0 where
  pub answer : Result (Unit {0}) DeviceFault
  pub written : WritesSector h old new p bytes device_fault answer

-- From old to new: the place of its fault stays. If a call failed, that was its one fault, or the disk beneath failed.
pub record IsOnce {D : Type 0} (h : History D) (old new : OneFault D) : Type 0 where
  pub beneath : h.reached (faulty_disk old) (faulty_disk new)
  pub failures : h.failures (faulty_disk old) ≤ h.failures (faulty_disk new)
  pub past : (p : Place) → fault_place old ≡ Some p → fault_place new ≡ Some p
  pub cause : (faulty_failures new ≡ faulty_failures old)
      ⊎ (((fault_place old ≡ None) × (fault_place new ≢ None)) ⊎ Failed h (faulty_disk old) (faulty_disk new))

pub once_same : {D : Type 0} (h : History D) (f : OneFault D) → IsOnce h f f
once_same h f = record {
  beneath = h.reached_same f.disk;
  failures = le_refl (h.failures f.disk);
  past = λ p e. e;
  cause = inl refl;
}

-- a fault that is still to come was to come before
was_to_come : (a b : Option Place) → ((p : Place) → a ≡ Some p → b ≡ Some p) → b ≡ None → a ≡ None
was_to_come None b past none = refl
was_to_come (Some p) b past none = sym (past p refl) ∙ none

pub once_then : {D : Type 0} (h : History D) (a b c : OneFault D) → IsOnce h a b → IsOnce h b c → IsOnce h a c
once_then h a b c x y = record {
  beneath = h.reached_then a.disk b.disk c.disk x.beneath y.beneath;
  failures = omega (arith, x.failures, y.failures);
  past = λ p e. y.past p (x.past p e);
  cause = ⊎_elim
      (λ (same : faulty_failures c ≡ faulty_failures b). ⊎_elim
      (λ e. inl (same ∙ e))
      (λ w. ⊎_elim
      (λ came. inr (inl (came.0, λ e. came.1 (was_to_come b.place c.place y.past e))))
      (λ f. inr (inr (failed_to h a.disk b.disk c.disk f y.failures)))
      w)
      x.cause)
      (λ w. ⊎_elim
      (λ came. inr (inl (was_to_come a.place b.place x.past came.0, came.1)))
      (λ f. inr (inr (failed_from h a.disk b.disk c.disk x.failures f)))
      w)
      y.cause;
}

-- The one fault was at this place, or the disk beneath failed there.
abbrev pub fails_there : {D : Type 0} → History D → OneFault D → Place → Type 0
fails_there h f p = (fault_place f ≡ Some p) ⊎ h.failed_at (faulty_disk f) p

pub failed_still : {D : Type 0} (h : History D) (a b : OneFault D) (p : Place) → IsOnce h a b → fails_there h a p
    → fails_there h b p
failed_still h a b p x failed = ⊎_elim
    (λ e. inl (x.past p e))
    (λ f. inr (h.failed_stays a.disk b.disk p x.beneath f))
    failed

-- The disk counts its own failures, and the writes to which it returned Ok.
abbrev pub one_fault : {D : Type 0} → History D → History (OneFault D)
one_fault h = record (through faulty_disk h) {
  writes = λ f. calls_of f.written;
  failures = faulty_failures;
  last = 18446744073709551615;
  up_to_last = λ f. f.failed.fits;
  reached = IsOnce h;
  reached_same = once_same h;
  reached_then = once_then h;
  failed_at = fails_there h;
  failed_stays = failed_still h;
}
