-- A session goes on from one message to the next.
use Rattle.std.proofs.Common.{ℕ, ◌≡◌, ◌≤◌, ◌⊎◌, List, true, false, inl, inr, arith}
use Rattle.host_session.proofs.lemmas.Held.{at_end}
use Rattle.d64_image.proofs.Moments.{never_failed, never_failed_first, never_failed_rest}
use Rattle.d64_image.specs.History.{Failed, History, NeverFailed}
use Rattle.host_session.specs.Held.{Changes}
use Rattle.host_session.specs.session.Handling.{IsBeforeOrAfter, after_of}
use Rattle.host_session.specs.session.Opening.{IsAShop}
use Rattle.host_session.specs.session.Standing.{View}
use Rattle.host_session.specs.shop.Shop.{IsShop, Shop}
use Rattle.benchmarks.specs.Asked.{StaysOpen}

module _ {D : Type 0} (S : History D) where
  pub unasked : (a : View D) → IsAShop (S.image a.disk) → StaysOpen S a a
  unasked a shop = record { shop = shop; later = omega arith; alive = λ never e. e }

  pub then_asked : (a b c : View D) → StaysOpen S a b → StaysOpen S b c → StaysOpen S a c
  then_asked a b c first rest = record {
    shop = rest.shop;
    later = omega (arith, first.later, rest.later);
    alive = λ never e. rest.alive (never_failed_rest S a.disk b.disk c.disk first.later rest.later never)
        (first.alive (never_failed_first S a.disk b.disk c.disk first.later rest.later never) e);
  }

  -- one message: where its reply is MEDIA the session was dead, or the device failed
  pub asked : (a b : View D) (s : Shop) (message : List ℕ) (n : ℕ) (IsMedia : Type 0) → IsShop (S.image a.disk) s
      → Changes S a.disk b.disk n (IsBeforeOrAfter s message)
      → (a.dead ≡ true → b ≡ a) → (a.dead ≡ false → ¬ IsMedia → b.dead ≡ false)
      → (IsMedia × (b.dead ≡ true) × ((a.dead ≡ true) ⊎ Failed S a.disk b.disk))
      ⊎ ((¬ IsMedia) × (S.failures b.disk ≡ S.failures a.disk))
      → StaysOpen S a b
  asked a b s message n IsMedia shop changes dead told how = record {
    shop = is (at_end S a.disk b.disk (IsBeforeOrAfter s message) changes.held);
    later = later how;
    alive = alive how;
  }
    where
      is : IsBeforeOrAfter s message (S.image b.disk) → IsAShop (S.image b.disk)
      is (inl before) = (s, before)
      is (inr after) = (after_of s message, after)

      later : (IsMedia × (b.dead ≡ true) × ((a.dead ≡ true) ⊎ Failed S a.disk b.disk))
          ⊎ ((¬ IsMedia) × (S.failures b.disk ≡ S.failures a.disk))
          → S.failures a.disk ≤ S.failures b.disk
      later (inl (m, d, inl e)) = rw (dead e) (omega arith)
      later (inl (m, d, inr f)) = f.later
      later (inr (m, e)) = omega (arith, e)

      alive : (IsMedia × (b.dead ≡ true) × ((a.dead ≡ true) ⊎ Failed S a.disk b.disk))
          ⊎ ((¬ IsMedia) × (S.failures b.disk ≡ S.failures a.disk))
          → NeverFailed S a.disk b.disk → a.dead ≡ false → b.dead ≡ false
      alive (inl (m, d, inl e)) never was = absurd (cc)
      alive (inl (m, d, inr f)) never was = absurd (never_failed S a.disk b.disk never f)
      alive (inr (m, e)) never was = told was m
