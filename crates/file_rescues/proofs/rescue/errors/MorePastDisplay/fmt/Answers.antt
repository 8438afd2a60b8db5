-- One block more was written.
use Rattle.std.proofs.Common.{◌++◌, [], ap, arith, get_or, refl, sym, take, true, ◌∙◌}
use Rattle.std.proofs.lemmas.Grind.{put_two}
use Rattle.std.proofs.lemmas.List.{flat_map_more, take_more}
use Rattle.std.specs.Prelude.{codes, flat_map, ℕ, List}
use Rattle.file_rescues.specs.rescue.Errors.{misread_past_text}
use Rattle.file_rescues.proofs.rescue.errors.MorePastDisplay.fmt.Goals as goal

pub loop-number-preserved : goal.loop-number-preserved
loop-number-preserved g c = λ plain.
    let so_far = c.loop-number.invariant plain in
    let numbers = c.args.self.now.numbers.now in
    let i = c.loop-number.number-index in
    let one : ℕ → List ℕ = λ p. codes " " ++ misread_past_text c.args.self.now.image.now p in
    put_two g.W.Write.write_str_gives c.args.f.now c.loop-number.f c.write.new.self _ _ _ so_far
    (c.in_ok-write.ensures.writes so_far.plain (refl {a = true}))
    (flat_map_more one [] (take i numbers) (get_or numbers i 0)
    ∙ ap (flat_map one) (sym (take_more numbers i 0 (omega (arith, c.loop-number-test.true)))))
