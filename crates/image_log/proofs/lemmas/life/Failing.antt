-- Failures of one's own, or of another.
use Rattle.std.proofs.Common.{◌≡◌, ◌∙◌, Bool, ap, false, refl, sym, true}
use Rattle.std.proofs.lemmas.Bool.{false≢true}
use Rattle.std.specs.Prelude.{if◌then◌else◌, Err, IsErr, Ok, OnErr, OnOk, Result}

pub or_left : (x y : Bool) → x ≡ true → (if x then true else y) ≡ true
or_left true y is = refl
or_left false y is = absurd (false≢true is)

pub or_right : (x y : Bool) → y ≡ true → (if x then true else y) ≡ true
or_right true y is = refl
or_right false y is = is

pub or_same : (x x2 y y2 : Bool) → x2 ≡ x → y2 ≡ y → (if x2 then true else y2) ≡ (if x then true else y)
or_same x x2 y y2 left right = ap (λ (b : Bool). if b then true else y2) left ∙ ap (λ (b : Bool). if x then true else b) right

pub or_true : (own other x y : Bool) → (own ≡ true → x ≡ true) → (other ≡ true → y ≡ true) → (if own then true else other) ≡ true
    → (if x then true else y) ≡ true
or_true true other x y left right is = or_left x y (left refl)
or_true false other x y left right is = or_right x y (right is)

pub or_false : (own other x x2 y y2 : Bool) → (own ≡ false → x2 ≡ x) → (other ≡ false → y2 ≡ y)
    → (if own then true else other) ≡ false → (if x2 then true else y2) ≡ (if x then true else y)
or_false true other x x2 y y2 left right is = absurd (false≢true (sym is))
or_false false other x x2 y y2 left right is = or_same x x2 y y2 (left refl) (right is)

pub always : {T E : Type 0} (P : Type 0) (r : Result T E) → P → OnOk r P
always P (Ok x) p = p
always P (Err e) p = tt

pub at_err : {T E : Type 0} (P : Type 0) (r : Result T E) → IsErr r → OnErr r P → P
at_err P (Ok x) is p = absurd (false≢true is)
at_err P (Err e) is p = p

pub failing : {T E : Type 0} (P : Type 0) (r : Result T E) → P → OnErr r P
failing P (Ok x) p = tt
failing P (Err e) p = p

pub not_ok : {T E : Type 0} (P : Type 0) (r : Result T E) → IsErr r → OnOk r P
not_ok P (Ok x) is = absurd (false≢true is)
not_ok P (Err e) is = tt

pub both_ok : {T E : Type 0} (A B C : Type 0) (r : Result T E) → (A → B → C) → OnOk r A → OnOk r B → OnOk r C
both_ok A B C (Ok x) f a b = f a b
both_ok A B C (Err e) f a b = tt
