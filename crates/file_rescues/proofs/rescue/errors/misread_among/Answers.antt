-- One block more, which was read or wasn't.
use Rattle.std.proofs.Common.{◌++◌, ◌∷◌, [], List, ap, arith, sym, take, ◌∙◌}
use Rattle.std.proofs.lemmas.List.{take_all, take_more}
use Rattle.std.proofs.lemmas.List.Elements.{filter-append}
use Rattle.std.specs.Prelude.{filter}
use Rattle.d64_image.specs.declared.place.Place.{Place}
use Rattle.file_rescues.specs.rescue.Errors.{is_misread}
use Rattle.file_rescues.proofs.rescue.errors.misread_among.Goals as goal

pub loop-place-preserved : goal.loop-place-preserved
loop-place-preserved c =
    let p = is_misread c.args.image.now in
    let blocks = c.args.blocks.now in
    let i = c.loop-place.place-index in
    let one = c.place-item.result in
    c.in_ok-add_misread.ensures.ok
    ∙ ap (λ (ps : List Place). ps ++ filter p (one ∷ [])) c.loop-place.invariant
    ∙ sym (ap (filter p) (take_more blocks i one (omega (arith, c.loop-place-test.true))
    ∙ ap (λ (q : Place). take i blocks ++ q ∷ []) (sym c.place-item.is)) ∙ filter-append p (take i blocks) (one ∷ []))

pub returns-clause-ok : goal.returns-clause-ok
returns-clause-ok c =
    c.loop-place.invariant ∙ ap (filter (is_misread c.args.image.now)) (take_all c.loop-place.place-index c.args.blocks.now c.loop-place-test.false)
