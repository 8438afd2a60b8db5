-- Of the bytes that are left, those up to the limit are read.
use Rattle.std.proofs.Common.{◌≡◌, ℕ, List, Option, Some, None, subst, take}
use Rattle.std.specs.Prelude.{IfSome, option_map, vec_items}
use Rattle.std.specs.Io.Take.{take_inner, take_limit, take_remaining}
use Rattle.std.specs.declared.io.traits.Take.{Take}
use Rattle.std.proofs.lemmas.Result.{IfOk-weaker}
use Rattle.image_file.proofs.reading.read_image.Goals as goal

-- what is known of the front is known of the whole
front-of : (n : ℕ) (known : Option (List ℕ)) (bytes : List ℕ)
    → IfSome (option_map (take n) known) (λ all. bytes ≡ all) → IfSome known (λ all. bytes ≡ take n all)
front-of n None bytes given = tt
front-of n (Some all) bytes given = given

taken : {R : Type 0} (remaining : R → Option (List ℕ)) (t : Take R) (reader : R) (n : ℕ) (bytes : List ℕ)
    → take_limit t ≡ n → take_inner t ≡ reader → IfSome (take_remaining remaining t) (λ all. bytes ≡ all)
    → IfSome (remaining reader) (λ all. bytes ≡ take n all)
taken {R} remaining t reader n bytes limit inner given =
    front-of n (remaining reader) bytes
    (subst (λ (m : ℕ). IfSome (option_map (take m) (remaining reader)) (λ all. bytes ≡ all)) limit
    (subst (λ (r : R). IfSome (option_map (take t.limit) (remaining r)) (λ all. bytes ≡ all)) inner given))

pub returns : goal.returns
returns g c =
    IfOk-weaker c.read_script.result _ _
    (λ bytes given. taken g.R.Read.remaining c.take.result c.args.reader 174849 (vec_items bytes) c.take.ensures.limit
    c.take.ensures.inner given)
    c.read_script.ensures
