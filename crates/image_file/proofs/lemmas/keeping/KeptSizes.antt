-- A file in which a sector was written: how long it is, and what came of it.
use Rattle.std.proofs.Common.{◌≡◌, ◌≤◌, ◌+◌, ◌∙◌, ℕ, List, Option, Some, Result, Ok, Err}
use Rattle.std.proofs.Common.{ap, arith, length, refl, subst, sym, ⊎_elim}
use Rattle.std.specs.Prelude.{None, OnErr, OnOk}
use Rattle.std.proofs.lemmas.List.{length-append, length-drop, length-take}
use Rattle.std.proofs.lemmas.Option.{none-some}
use Rattle.d64_image.specs.Images.{IsSector}
use Rattle.d64_image.specs.Offsets.{offset_of, overwritten}
use Rattle.d64_image.specs.declared.place.Place.{Place}
use Rattle.d64_image.proofs.Places.{index_below}
use Rattle.image_file.specs.Durable.{WritesOver}
use Rattle.image_file.specs.Lasting.{Lasting, TakesSector, overwritten_in}

-- what holds at an Ok, and what at an error
pub at_ok : {E : Type 0} (X : Type 0) (r : Result Unit E) (u : Unit) → r ≡ Ok u → OnOk r X → X
at_ok X r u e h = subst (λ x. OnOk x X) e h

pub at_err : {E : Type 0} (X : Type 0) (r : Result Unit E) (fault : E) → r ≡ Err fault → OnErr r X → X
at_err X r fault e h = subst (λ x. OnErr x X) e h

pub written_at : {E : Type 0} (old new : Option (List ℕ)) (m n : ℕ) (bytes : List ℕ) (r : Result Unit E) → m ≡ n
    → WritesOver old new m bytes r → WritesOver old new n bytes r
written_at old new m n bytes r e h = subst (λ x. WritesOver old new x bytes r) e h

overwritten_length : (xs : List ℕ) (n : ℕ) (bytes : List ℕ) → n + length bytes ≤ length xs
    → length (overwritten xs n bytes) ≡ length xs
overwritten_length xs n bytes inside =
    simp (length-append, length-take, length-drop) (omega (arith, inside))

overwritten_size : (o : Option (List ℕ)) (n : ℕ) (bytes : List ℕ) → n + length bytes ≤ 174848
    → ((all : List ℕ) → o ≡ Some all → length all ≡ 174848)
    → (all : List ℕ) → overwritten_in o n bytes ≡ Some all → length all ≡ 174848
overwritten_size None n bytes inside sized all e = absurd (none-some all e)
overwritten_size (Some xs) n bytes inside sized all e =
    let same : overwritten xs n bytes ≡ all = cc in
    let size : length xs ≡ 174848 = sized xs refl in
    ap length (sym same) ∙ overwritten_length xs n bytes (omega (arith, size, inside)) ∙ size

-- an image's file stays as long
pub still_sized : {F E : Type 0} (L : Lasting F) (old new : F) (p : Place) (bytes : List ℕ) (r : Result Unit E)
    → IsSector bytes → ((all : List ℕ) → L.bytes old ≡ Some all → length all ≡ 174848)
    → TakesSector L old new (offset_of p) bytes r
    → (all : List ℕ) → L.bytes new ≡ Some all → length all ≡ 174848
still_sized L old new p bytes r is sized takes all e = ⊎_elim
    (λ s. sized all (sym s ∙ e))
    (λ s. overwritten_size (L.bytes old) (offset_of p) bytes (omega (arith, is.size, index_below p)) sized all
    (sym s ∙ e))
    takes.stays.now
