-- One sector more, which tracks 1 to 35 have or haven't.
use Rattle.std.proofs.Common.{◌++◌, ◌∷◌, [], List, ℕ, ap, arith, get_or, sym, take, ◌∙◌}
use Rattle.std.proofs.lemmas.List.{take_all, take_more}
use Rattle.std.proofs.lemmas.List.Elements.{filter-append}
use Rattle.std.specs.Prelude.{filter}
use Rattle.file_rescues.specs.rescue.Rescues.{is_on_disk}
use Rattle.file_rescues.proofs.rescue.rescuing.places_among.Goals as goal

pub loop-number-preserved : goal.loop-number-preserved
loop-number-preserved c =
    let chain = c.args.chain.now in
    let i = c.loop-number.number-index in
    let one = get_or chain i 0 in
    c.in_ok-add_place.ensures.ok
    ∙ ap (λ (ns : List ℕ). ns ++ filter is_on_disk (one ∷ [])) c.loop-number.invariant
    ∙ sym (ap (filter is_on_disk) (take_more chain i 0 (omega (arith, c.loop-number-test.true)))
    ∙ filter-append is_on_disk (take i chain) (one ∷ []))

pub returns-clause-ok : goal.returns-clause-ok
returns-clause-ok c =
    c.loop-number.invariant ∙ ap (filter is_on_disk) (take_all c.loop-number.number-index c.args.chain.now c.loop-number-test.false)
