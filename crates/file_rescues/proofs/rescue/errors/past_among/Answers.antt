-- One sector more, which was read or wasn't.
use Rattle.std.proofs.Common.{◌++◌, ◌∷◌, [], List, ℕ, ap, arith, get_or, sym, take, ◌∙◌}
use Rattle.std.proofs.lemmas.List.{take_all, take_more}
use Rattle.std.proofs.lemmas.List.Elements.{filter-append}
use Rattle.std.specs.Prelude.{filter}
use Rattle.file_rescues.specs.rescue.Errors.{is_misread_past}
use Rattle.file_rescues.proofs.rescue.errors.past_among.Goals as goal

pub loop-number-preserved : goal.loop-number-preserved
loop-number-preserved c =
    let p = is_misread_past c.args.image.now in
    let sectors = c.args.sectors.now in
    let i = c.loop-number.number-index in
    let one = get_or sectors i 0 in
    c.in_ok-add_misread_past.ensures.ok
    ∙ ap (λ (ns : List ℕ). ns ++ filter p (one ∷ [])) c.loop-number.invariant
    ∙ sym (ap (filter p) (take_more sectors i 0 (omega (arith, c.loop-number-test.true)))
    ∙ filter-append p (take i sectors) (one ∷ []))

pub returns-clause-ok : goal.returns-clause-ok
returns-clause-ok c =
    c.loop-number.invariant ∙ ap (filter (is_misread_past c.args.image.now)) (take_all c.loop-number.number-index c.args.sectors.now c.loop-number-test.false)
