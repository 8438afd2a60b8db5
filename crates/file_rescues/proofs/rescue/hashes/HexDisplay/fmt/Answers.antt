-- The digits of the bytes are written byte by byte.
use Rattle.std.proofs.Common.{[], ap, arith, get_or, refl, sym, take, true, ◌∙◌}
use Rattle.std.proofs.lemmas.Grind.{put_two}
use Rattle.std.proofs.lemmas.List.{flat_map_more, take_more}
use Rattle.std.specs.Prelude.{flat_map}
use Rattle.line_text.specs.basic.Characters.{hex}
use Rattle.file_rescues.proofs.rescue.hashes.HexDisplay.fmt.Goals as goal

pub loop-byte-preserved : goal.loop-byte-preserved
loop-byte-preserved g c = λ plain.
    let so_far = c.loop-byte.invariant plain in
    let bytes = c.args.self.now.0 in
    let i = c.loop-byte.byte-index in
    put_two g.W.Write.write_str_gives c.args.f.now c.loop-byte.f c.write.new.self _ _ _ so_far
    (c.in_ok-write.ensures.writes so_far.plain (refl {a = true}))
    (flat_map_more hex [] (take i bytes) (get_or bytes i 0)
    ∙ ap (flat_map hex) (sym (take_more bytes i 0 (omega arith))))
