-- The word, the request, a comma and the answer, handed over one after another.
use Rattle.std.proofs.Common.{subst, ◌∙◌}
use Rattle.std.proofs.KnownBytes.{Appends-trans}
use Rattle.std.proofs.lemmas.Result.{on_ok_weaker}
use Rattle.std.specs.Io.KnownBytes.{Appends}
use Rattle.std.specs.Prelude.{codes}
use Rattle.shop_commands.proofs.shows.print_line_of.Goals as goal

pub returns-clause-ok : goal.returns-clause-ok
returns-clause-ok g c =
    let old = g.W.Write.contents c.args.out.now in
    let one = g.W.Write.contents c.put.new.out in
    let two = g.W.Write.contents c.put-2.new.out in
    let three = g.W.Write.contents c.put-3.new.out in
    let new = g.W.Write.contents c.print_line.new.out in
    let request = subst (Appends one two) (c.as_slice.ensures.value ∙ c.print.ensures) c.in_ok-put-2.ensures.ok in
    on_ok_weaker c.print_line.result
    (λ last. Appends-trans old one new c.args.word.now _ c.in_ok-put.ensures.ok
    (Appends-trans one two new _ _ request (Appends-trans two three new (codes ",") _ c.in_ok-put-3.ensures.ok last)))
    c.print_line.ensures.ok
