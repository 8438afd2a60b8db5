-- A fault that is told, and another.
use Rattle.std.proofs.Common.{◌≡◌, ◌↔◌, ◌∙◌, Bool, IsTrue, ap, sym}
use Rattle.std.specs.Prelude.{Option, Some}
use Rattle.d64_image.specs.declared.place.Place.{Place}
use Rattle.disk_layout.specs.declared.faults.Fault.{Fault}
use Rattle.disk_layout.specs.declared.faults.Fault.TheVariants.{BadLink, Loop}

nowhere-place : (p q : Place) → BadLink p ≡ BadLink q → p ≡ q
nowhere-place p q e = cc

back-place : (p q : Place) → Loop p ≡ Loop q → p ≡ q
back-place p q e = cc

pub nowhere-same : (f : Fault) (p q : Place) (b : Bool) → f ≡ BadLink p → (IsTrue b ↔ (p ≡ q))
    → IsTrue b ↔ (f ≡ BadLink q)
nowhere-same f p q b is same =
    (λ t. is ∙ ap BadLink (same.0 t), λ e. same.1 (nowhere-place p q (sym is ∙ e)))

pub back-same : (f : Fault) (p q : Place) (b : Bool) → f ≡ Loop p → (IsTrue b ↔ (p ≡ q)) → IsTrue b ↔ (f ≡ Loop q)
back-same f p q b is same = (λ t. is ∙ ap Loop (same.0 t), λ e. same.1 (back-place p q (sym is ∙ e)))

some-inner : {X : Type 0} (x y : X) → Some x ≡ Some y → x ≡ y
some-inner x y e = cc

pub some-same : {X : Type 0} (o : Option X) (x y : X) (b : Bool) → o ≡ Some x → (IsTrue b ↔ (x ≡ y))
    → IsTrue b ↔ (o ≡ Some y)
some-same o x y b is same = (λ t. is ∙ ap Some (same.0 t), λ e. same.1 (some-inner x y (sym is ∙ e)))
