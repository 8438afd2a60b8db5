-- Runs of commits, one behind another, and what is said of results.
use Rattle.std.proofs.Common.{◌≡◌, ◌∙◌, Bool, arith, false, inl, inr, refl, subst, sym, true, ⊎_elim}
use Rattle.std.proofs.lemmas.Bool.{false≢true}
use Rattle.std.specs.Prelude.{Err, IsTrue, Ok, OnErr, OnOk, Result}
use Rattle.d64_image.specs.Images.{Image}
use Rattle.image_log.specs.ImageLogs.{LeavesImages, LogHistory}

pub on_ok : {T E : Type 0} (A B : Type 0) (r : Result T E) → (A → B) → OnOk r A → OnOk r B
on_ok A B (Ok x) f a = f a
on_ok A B (Err e) f a = tt

pub on_err : {T E : Type 0} (A B : Type 0) (r : Result T E) → (A → B) → OnErr r A → OnErr r B
on_err A B (Ok x) f a = tt
on_err A B (Err e) f a = f a

pub not_none : {P : Type 0} (b : Bool) → b ≡ false → IsTrue b → P
not_none b is true_of = absurd (false≢true (sym is ∙ true_of))

pub not_true : (b : Bool) → (b ≡ true → ⊥) → b ≡ false
not_true true never = absurd (never refl)
not_true false never = refl

-- before the first call
pub started : {L : Type 0} (h : LogHistory L) (l : L) (image : Image) (P : Image → Type 0) → h.stands_for l image → P image
    → LeavesImages h l l P
started h l image P stands here = record {
  later = omega arith;
  each = λ c left. subst P (sym (h.durable l image c stands (h.only_now l c left))) here;
  before = λ t c le left. inl left;
}

-- one run behind another
pub joined : {L : Type 0} (h : LogHistory L) (old mid new : L) (P : Image → Type 0) → LeavesImages h old mid P
    → LeavesImages h mid new P → LeavesImages h old new P
joined h old mid new P one two = record {
  later = omega (arith, one.later, two.later);
  each = λ c left. ⊎_elim (one.each c) (λ p. p) (two.before (h.moment old) c one.later left);
  before = λ t c le left. ⊎_elim (one.before t c le) (λ p. inr p) (two.before t c (omega (arith, le, one.later)) left);
}

pub weaker : {L : Type 0} (h : LogHistory L) (old new : L) (P Q : Image → Type 0) → ((c : Image) → P c → Q c)
    → LeavesImages h old new P → LeavesImages h old new Q
weaker h old new P Q f only = record {
  later = only.later;
  each = λ c left. f c (only.each c left);
  before = λ t c le left. ⊎_elim (λ was. inl was) (λ p. inr (f c p)) (only.before t c le left);
}
