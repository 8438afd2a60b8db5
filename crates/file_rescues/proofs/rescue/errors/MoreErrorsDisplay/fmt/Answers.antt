-- One block more was written.
use Rattle.std.proofs.Common.{◌++◌, ◌∷◌, [], ap, arith, refl, sym, take, true, ◌∙◌}
use Rattle.std.proofs.lemmas.Grind.{put_two}
use Rattle.std.proofs.lemmas.List.{flat_map_more, take_more}
use Rattle.std.specs.Prelude.{codes, flat_map, ℕ, List}
use Rattle.d64_image.specs.declared.place.Place.{Place}
use Rattle.file_rescues.specs.rescue.Errors.{misread_text}
use Rattle.file_rescues.proofs.rescue.errors.MoreErrorsDisplay.fmt.Goals as goal

pub loop-place-preserved : goal.loop-place-preserved
loop-place-preserved g c = λ plain.
    let so_far = c.loop-place.invariant plain in
    let places = c.args.self.now.places.now in
    let i = c.loop-place.place-index in
    let one : Place → List ℕ = λ p. codes " " ++ misread_text c.args.self.now.image.now p in
    put_two g.W.Write.write_str_gives c.args.f.now c.loop-place.f c.write.new.self _ _ _ so_far
    (c.in_ok-write.ensures.writes so_far.plain (refl {a = true}))
    (flat_map_more one [] (take i places) c.place-item.result
    ∙ ap (flat_map one) (sym (take_more places i c.place-item.result (omega (arith, c.loop-place-test.true))
    ∙ ap (λ (p : Place). take i places ++ p ∷ []) (sym c.place-item.is))))
