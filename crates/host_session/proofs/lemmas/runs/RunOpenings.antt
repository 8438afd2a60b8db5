-- The opening of a run.
use Rattle.std.proofs.Common.{◌≡◌, ◌≢◌, ◌≤◌, ◌⊎◌, ⊎_elim, refl, arith}
use Rattle.d64_image.specs.Images.{Image}
use Rattle.d64_image.specs.History.{History, Failed, NeverFailed}
use Rattle.host_session.specs.Held.{Changes}
use Rattle.d64_image.proofs.Moments.{never_failed}
use Rattle.host_session.specs.declared.faults.OpenFault.{OpenFault}
use Rattle.host_session.specs.declared.faults.OpenFault.TheVariants as faults
use Rattle.host_session.proofs.lemmas.judging.Judging.{refused-no_shop}
use Rattle.host_session.specs.session.Opening.{IsAShop, Refuses, Untouched}
use Rattle.host_session.specs.runs.Runs.{IsRefused}
use Rattle.host_session.specs.shop.Shop.{IsShop, Shop}

-- a fault of opening other than the device's holds whether or not that failed
holds_anyway : (failed : Type 0) (img : Image) (fault : OpenFault) → fault ≢ faults.Device → Refuses failed img fault
    → Refuses ⊥ img fault
holds_anyway failed img (faults.Layout fault) other refused = refused
holds_anyway failed img faults.NoStock other refused = refused
holds_anyway failed img faults.NoRequests other refused = refused
holds_anyway failed img (faults.BadRequestCard till) other refused = refused
holds_anyway failed img faults.TwoIntents other refused = refused
holds_anyway failed img (faults.BadCard item) other refused = refused
holds_anyway failed img faults.Device other refused = absurd (other refl)

-- a shop is refused for the device alone
pub refused_none : (failed : Type 0) (img : Image) (s : Shop) (fault : OpenFault) → Refuses failed img fault
    → fault ≢ faults.Device → IsShop img s → ⊥
refused_none failed img s fault refused other =
    refused-no_shop img fault s (holds_anyway failed img fault other refused)

module _ {D : Type 0} (h : History D) where
  pub opening_refused : (old new : D) (f : OpenFault) → Refuses (Failed h old new) (h.image old) f
      → ((IsAShop (h.image old) → ⊥) → Untouched h old new)
      → ((s : Shop) → IsShop (h.image old) s → Changes h old new 952 (λ c. IsShop c s))
      → IsRefused h old f new
  opening_refused old new f refused unfit same = record {
    refused = refused;
    same = same;
    kept = λ other. unfit (λ shop. refused_none (Failed h old new) (h.image old) shop.0 f refused other shop.1);
    unfit = unfit;
  }

  pub opening_failed : (old new : D) (f : OpenFault) → Refuses (Failed h old new) (h.image old) f
      → IsAShop (h.image old)
      → ((f ≡ faults.Device) × Failed h old new) ⊎ ((f ≢ faults.Device) × (h.failures new ≡ h.failures old))
      → NeverFailed h old new → ⊥
  opening_failed old new f refused shop fails never = ⊎_elim
      (λ x. never_failed h old new never x.1)
      (λ x. refused_none (Failed h old new) (h.image old) shop.0 f refused x.0 shop.1)
      fails

  pub opening_later : (old new : D) (f : OpenFault)
      → ((f ≡ faults.Device) × Failed h old new) ⊎ ((f ≢ faults.Device) × (h.failures new ≡ h.failures old))
      → h.failures old ≤ h.failures new
  opening_later old new f fails = ⊎_elim (λ x. x.1.later) (λ x. omega (arith, x.1)) fails
