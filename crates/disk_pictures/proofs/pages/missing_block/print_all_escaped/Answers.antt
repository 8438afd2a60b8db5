-- A byte more was written.
use Rattle.std.proofs.Common.{◌+◌, ◌<◌, [], List, Option, ap, get_or, length, subst, sym, take, ℕ, ◌∙◌}
use Rattle.std.specs.Prelude.{flat_map}
use Rattle.std.specs.Io.KnownBytes.{Appends}
use Rattle.std.proofs.KnownBytes.{Appends-trans}
use Rattle.std.proofs.lemmas.List.{flat_map_more, take_more}
use Rattle.disk_pictures.specs.Html.{escaped}
use Rattle.disk_pictures.proofs.pages.missing_block.print_all_escaped.Goals as goal

one-more : (a b c : Option (List ℕ)) (xs : List ℕ) (i : ℕ) → i < length xs
    → Appends a b (flat_map escaped (take i xs)) → Appends b c (escaped (get_or xs i 0))
    → Appends a c (flat_map escaped (take (i + 1) xs))
one-more a b c xs i inside before more =
    subst (Appends a c) (flat_map_more escaped [] (take i xs) (get_or xs i 0)
    ∙ ap (flat_map escaped) (sym (take_more xs i 0 inside))) (Appends-trans a b c _ _ before more)

pub loop-byte-preserved : goal.loop-byte-preserved
loop-byte-preserved g c =
    one-more _ _ _ c.args.text.now c.loop-byte.byte-index c.loop-byte-test.true
    c.loop-byte.invariant c.in_ok-print_escaped.ensures
