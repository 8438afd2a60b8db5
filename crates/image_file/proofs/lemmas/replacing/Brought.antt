-- What a sync brings, and what holds at Ok alone.
use Rattle.std.proofs.Common.{◌≡◌, ◌∙◌, ℕ, List, Some, Result, Ok, Err, sym, subst}
use Rattle.std.specs.Prelude.{OnOk, option_map}
use Rattle.image_file.specs.Remains.{IsBroughtWhole}
use Rattle.image_file.specs.Remains.{Remains}
use Rattle.image_file.specs.Replacing.{Since}
use Rattle.image_file.proofs.lemmas.replacing.Sinces.{made_of, since_change}

-- what holds, holds at Ok; and at an error nothing is asked
pub on_ok : {T E : Type 0} (result : Result T E) (P : Type 0) → P → OnOk result P
on_ok (Ok _) P holds = holds
on_ok (Err _) P holds = tt

pub on_err : {T E : Type 0} (result : Result T E) (e : E) (P : Type 0) → result ≡ Err e → OnOk result P
on_err result e P is = subst (λ x. OnOk x P) (sym is) tt

module _ {F : Type 0} (r : Remains F) where
  -- a sync leaves nothing new
  pub since_brought : {E : Type 0} (a b : F) (P : List ℕ → Type 0) (result : Result Unit E)
      → IsBroughtWhole r a b result → Since r a b P
  since_brought a b P result brought = since_change r a b _ P brought.remain (λ from s is never. absurd never)

  -- the value of what is held, behind a sync, of what was made of it before
  pub brought_of : {E : Type 0} (old a b : F) (f : List ℕ → List ℕ) (result : Result Unit E)
      → r.held a ≡ option_map f (r.held old) → IsBroughtWhole r a b result → (s : List ℕ) → r.held b ≡ Some s
      → (z : List ℕ) × (r.held old ≡ Some z) × (f z ≡ s)
  brought_of old a b f result held brought s is = made_of f (r.held old) s (sym held ∙ sym brought.same ∙ is)
