-- The signs of the name are written byte by byte.
use Rattle.std.proofs.Common.{◌≡◌, ◌<◌, ◌+◌, ◌++◌, List, [], ap, get_or, length, refl, sym, take, true, ℕ, ◌∙◌}
use Rattle.std.specs.Prelude.{flat_map}
use Rattle.std.proofs.Output.{has_written_of_eq}
use Rattle.std.proofs.lemmas.Grind.{put_two}
use Rattle.std.proofs.lemmas.List.{flat_map_more, take_all, take_more}
use Rattle.disk_pictures.specs.Petscii.{petscii_byte, petscii_of, signed}
use Rattle.disk_pictures.proofs.petscii.PetsciiDisplay.fmt.Goals as goal

more : (line : ℕ → List ℕ) (bytes : List ℕ) (i : ℕ) → i < length bytes
    → flat_map line (take i bytes) ++ line (get_or bytes i 0) ≡ flat_map line (take (i + 1) bytes)
more line bytes i inside =
    flat_map_more line [] (take i bytes) (get_or bytes i 0) ∙ ap (flat_map line) (sym (take_more bytes i 0 inside))

whole : (bytes shown : List ℕ) → shown ≡ signed bytes → flat_map petscii_byte shown ≡ petscii_of bytes
unfolding petscii_of
whole bytes shown is = ap (flat_map petscii_byte) is

pub loop-byte-preserved : goal.loop-byte-preserved
loop-byte-preserved g c = λ plain.
    let so_far = c.loop-byte.invariant plain in
    put_two g.W.Write.write_str_gives c.args.f.now c.loop-byte.f c.write.new.self _ _ _ so_far
    (c.in_ok-write.ensures.writes so_far.plain (refl {a = true}))
    (more petscii_byte c.signed-byte-items.result.now c.loop-byte.byte-index c.loop-byte-test.true)

pub returns-clause-writes : goal.returns-clause-writes
returns-clause-writes g c = λ plain done.
    let all = take_all _ c.signed-byte-items.result.now c.loop-byte-test.false in
    has_written_of_eq _ _ _ _ _
    (ap (flat_map petscii_byte) all ∙ whole c.args.self.now.0.now c.signed-byte-items.result.now c.signed-byte-items.ensures)
    (c.loop-byte.invariant plain)
