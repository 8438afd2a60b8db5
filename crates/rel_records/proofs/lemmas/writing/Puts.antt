-- Sectors put one after another: two such calls as one, and a fault that ends the first.
use Rattle.std.proofs.Common.{Err, List, Ok, Result, ap, arith, inl, inr, subst, ℕ, ◌+◌, ◌++◌, ◌∙◌, ◌∷◌, ◌≡◌, []}
use Rattle.std.proofs.Common.{length, length-append, refl, sym, ◌≤◌}
use Rattle.std.proofs.lemmas.Result.{on_ok_weaker}
use Rattle.std.specs.Prelude.{IfSome, None, Option, Some}
use Rattle.std.specs.Result.{IsErrAnd}
use Rattle.d64_image.proofs.Moments.{read_fails, reads_then_fails, then, weaker}
use Rattle.d64_image.specs.History.{History, OnlyReads}
use Rattle.d64_image.specs.Images.{Image, Sector, put}
use Rattle.d64_image.specs.declared.place.Place.{Place}
use Rattle.rel_records.proofs.lemmas.Told.{error-then, tells-rel-after}
use Rattle.rel_records.specs.Calls.{ReadsAtMost}
use Rattle.rel_records.specs.Puts.{IsPutSoFar, PutsEach, put_each}
use Rattle.rel_records.specs.declared.faults.RelFault.{RelFault}

-- what holds at a fault holds where it is passed on
pub passes : {T E : Type 0} (P : Result T E → Type 0) (r : Result T E) (e : E) → IsErrAnd r (λ y. y ≡ e) → P (Err e) → P r
passes P (Ok x) e h p = absurd h
passes P (Err y) e h p = subst (λ f. P (Err f)) (sym h) p

-- of what is there
pub some-then : {X : Type 0} (o : Option X) (x : X) (P : X → Type 0) → o ≡ Some x → P x → IfSome o P
some-then o x P is p = subst (λ y. IfSome y P) (sym is) p

pub if-some : {X : Type 0} (o : Option X) (P : X → Type 0) → ((x : X) → P x) → IfSome o P
if-some (Some x) P f = f x
if-some None P f = tt

pub if-some-then : {X : Type 0} (o : Option X) (P Q : X → Type 0) → ((x : X) → P x → Q x) → IfSome o P → IfSome o Q
if-some-then (Some x) P Q f p = f x p
if-some-then None P Q f p = tt

pub none-so-far : (puts : List (Place × Sector)) (img : Image) → IsPutSoFar puts img img
none-so-far [] img = refl
none-so-far ((p, bytes) ∷ rest) img = inl refl

-- all of the first list, and then a part of the second
so-far-right : (xs ys : List (Place × Sector)) (img c : Image) → IsPutSoFar ys (put_each xs img) c
    → IsPutSoFar (xs ++ ys) img c
so-far-right [] ys img c h = h
so-far-right ((p, bytes) ∷ xs) ys img c h = inr (so-far-right xs ys (put img p bytes) c h)

-- a part of the first list
so-far-left : (xs ys : List (Place × Sector)) (img c : Image) → IsPutSoFar xs img c → IsPutSoFar (xs ++ ys) img c
so-far-left [] ys img c h = subst (IsPutSoFar ys img) (sym h) (none-so-far ys img)
so-far-left ((p, bytes) ∷ xs) ys img c (inl e) = inl e
so-far-left ((p, bytes) ∷ xs) ys img c (inr h) = inr (so-far-left xs ys (put img p bytes) c h)

put-append : (xs ys : List (Place × Sector)) (img : Image) → put_each (xs ++ ys) img ≡ put_each ys (put_each xs img)
put-append [] ys img = refl
put-append ((p, bytes) ∷ xs) ys img = put-append xs ys (put img p bytes)

module _ {D : Type 0} (S : History D) (a b : D) where
  -- a read that fails
  pub puts-none : {T : Type 0} (puts : List (Place × Sector)) (m n : ℕ) (e : RelFault) (P : T → Type 0)
      → m ≤ n → ReadsAtMost S a b m (Err e) P → PutsEach S a b puts n (Err e)
  puts-none puts m n e P le h = record {
    ok = tt;
    err = h.err;
    held = weaker S a b _ _ (λ c is. subst (IsPutSoFar puts (S.image a)) (sym is) (none-so-far puts (S.image a)))
        h.reads.held;
    writes = omega (arith, h.reads.writes);
    one_step = λ one. read_fails S a b m h.reads;
    reads = omega (arith, h.reads.reads, le);
    failures = h.failures;
  }

  -- the first sectors aren't all put
  pub puts-stop : (xs ys : List (Place × Sector)) (m n : ℕ) (e : RelFault) → m ≤ n → 2 ≤ length (xs ++ ys)
      → PutsEach S a b xs m (Err e) → PutsEach S a b (xs ++ ys) n (Err e)
  puts-stop xs ys m n e le more h = record {
    ok = tt;
    err = h.err;
    held = weaker S a b _ _ (so-far-left xs ys (S.image a)) h.held;
    writes = omega (arith, h.writes, length-append xs ys);
    one_step = λ one. absurd (omega (arith, one, more));
    reads = omega (arith, h.reads, le);
    failures = h.failures;
  }

  -- reads, and then sectors put
  pub reads-puts : (c : D) (puts : List (Place × Sector)) (m n : ℕ) (r : Result (Unit {0}) RelFault) → OnlyReads S a b m
      → S.failures b ≡ S.failures a → PutsEach S b c puts n r → PutsEach S a c puts (m + n) r
  reads-puts c puts m n r reads told h = record {
    ok = on_ok_weaker r (λ is. is ∙ ap (put_each puts) reads.image) h.ok;
    err = h.err;
    held = then S a b c _ (weaker S a b _ _ (λ c is. subst (IsPutSoFar puts (S.image a)) (sym is)
        (none-so-far puts (S.image a))) reads.held)
        (weaker S b c _ _ (λ c. subst (λ i. IsPutSoFar puts i c) reads.image) h.held);
    writes = omega (arith, h.writes, reads.writes);
    one_step = λ one. error-then r _ _ (reads_then_fails S a b c m reads) (h.one_step one);
    reads = omega (arith, h.reads, reads.reads);
    failures = tells-rel-after S a b c told r h.failures;
  }

  -- sectors put, and then others
  pub puts-then : (c : D) (xs ys : List (Place × Sector)) (m n : ℕ) (r : Result (Unit {0}) RelFault)
      → 2 ≤ length (xs ++ ys) → PutsEach S a b xs m (Ok tt) → PutsEach S b c ys n r
      → PutsEach S a c (xs ++ ys) (m + n) r
  puts-then c xs ys m n r more first second = record {
    ok = on_ok_weaker r (λ is. is ∙ ap (put_each ys) first.ok ∙ sym (put-append xs ys (S.image a))) second.ok;
    err = second.err;
    held = then S a b c _ (weaker S a b _ _ (so-far-left xs ys (S.image a)) first.held)
        (weaker S b c _ _ (λ c h. so-far-right xs ys (S.image a) c (subst (λ i. IsPutSoFar ys i c) first.ok h))
        second.held);
    writes = omega (arith, first.writes, second.writes, length-append xs ys);
    one_step = λ one. absurd (omega (arith, one, more));
    reads = omega (arith, first.reads, second.reads);
    failures = tells-rel-after S a b c first.failures r second.failures;
  }
