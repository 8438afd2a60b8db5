-- The name lies in the folder.
use Rattle.std.proofs.Common.{arith, subst, sym, ◌∙◌}
use Rattle.file_rescues.proofs.lemmas.rescue.Inside.{first-inside}
use Rattle.file_rescues.specs.rescue.Folders.{StaysInside}
use Rattle.file_rescues.proofs.rescue.making.make_first.Goals as goal

pub make-requires : goal.make-requires
make-requires g c =
    let same = c.as_slice.ensures.value ∙ c.first_name-name.ensures in
    record {
      inside = subst StaysInside (sym same) (first-inside c.args.number c.args.file.now.is_cvt c.args.file.now.slot
          (omega (arith, c.ranges.number.fits)));
    }
