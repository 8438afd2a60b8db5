-- A write that wasn't made.
use Rattle.std.proofs.Common.{◌≡◌, ◌∙◌, ◌+◌, ◌++◌, ℕ, List, [], None, Option, Some, Result, Err, Ok}
use Rattle.std.specs.Prelude.{IsErr}
use Rattle.std.proofs.Common.{ap, arith, drop, refl, sym, take}
use Rattle.std.proofs.lemmas.Bool.{false≢true}
use Rattle.std.proofs.lemmas.List.{append-nil, take-append-drop}
use Rattle.d64_image.specs.Offsets.{overwritten}
use Rattle.image_file.specs.Durable.{IsOverwritten, WritesOver}

pub overwritten_none : (all : List ℕ) (n : ℕ) → overwritten all n [] ≡ all
overwritten_none all n =
    let none : n + 0 ≡ n = omega arith in
    ap (λ xs. xs ++ drop (n + 0) all) (append-nil (take n all))
    ∙ ap (λ m. take n all ++ drop m all) none
    ∙ take-append-drop n all

-- nothing was put over the bytes that a file holds
over_none : (held : Option (List ℕ)) (n : ℕ) → IsOverwritten held held n []
over_none None n = refl
over_none (Some all) n = λ le. ap Some (sym (overwritten_none all n))

pub none_written : {E : Type 0} (held : Option (List ℕ)) (n : ℕ) (bytes : List ℕ) (r : Result Unit E) → IsErr r
    → WritesOver held held n bytes r
none_written held n bytes (Ok u) failed = absurd (false≢true failed)
none_written held n bytes (Err e) failed = (0, over_none held n)
