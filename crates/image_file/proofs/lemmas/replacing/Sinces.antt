-- What remains of a file from one call to the next.
use Rattle.std.proofs.Common.{◌≡◌, ℕ, List, Option, Some, None, arith, inl, inr, le_refl, refl, ⊎_elim}
use Rattle.std.specs.Prelude.{option_map}
use Rattle.std.proofs.lemmas.Option.{none-some, same_Some}
use Rattle.image_file.specs.Remains.{Changes, Remains}
use Rattle.image_file.specs.Replacing.{NowAll, Since}

module _ {F : Type 0} (r : Remains F) where
  -- what a call makes of what could remain
  pub since_change : (old new : F) (makes : List ℕ → List ℕ → Type 0) (P : List ℕ → Type 0) → Changes r old new makes
      → ((from s : List ℕ) → r.remain old (r.moment old) from → makes from s → P s) → Since r old new P
  since_change old new makes P changes so = record {
    later = changes.later;
    each = λ t s le is. ⊎_elim inl (λ h. inr (so h.0 s h.1 h.2)) (changes.each t s le is);
  }

  -- one after another
  pub since_then : (a b c : F) (P : List ℕ → Type 0) → Since r a b P → Since r b c P → Since r a c P
  since_then a b c P first next = record {
    later = omega (arith, first.later, next.later);
    each = λ t s le is. ⊎_elim (first.each t s le) inr (next.each t s (omega (arith, le, first.later)) is);
  }

  pub since_weaker : (a b : F) (P Q : List ℕ → Type 0) → ((s : List ℕ) → P s → Q s) → Since r a b P → Since r a b Q
  since_weaker a b P Q so is = record {
    later = is.later;
    each = λ t s le h. ⊎_elim inl (λ p. inr (so s p)) (is.each t s le h);
  }

  -- what was so of all that could remain stays so
  pub now_kept : (a b : F) (P : List ℕ → Type 0) → NowAll r a P → Since r a b P → NowAll r b P
  now_kept a b P now since s is =
      ⊎_elim (now s) (λ p. p) (since.each (r.moment a) s (le_refl (r.moment a)) (r.sooner b (r.moment a) (r.moment b) s since.later is))

-- a known value is that of what it was made of
pub made_of : {X Y : Type 0} (f : X → Y) (x : Option X) (y : Y) → option_map f x ≡ Some y → (z : X) × (x ≡ Some z) × (f z ≡ y)
made_of f None y e = absurd (none-some y e)
made_of f (Some z) y e = (z, refl, same_Some (f z) y e)
