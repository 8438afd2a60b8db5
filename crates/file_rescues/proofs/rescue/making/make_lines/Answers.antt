-- The name lies in the folder.
use Rattle.std.proofs.Common.{List, ℕ, ap, arith, subst, sym, ◌∙◌}
use Rattle.line_text.specs.petscii.FileNames.{file_name_of}
use Rattle.line_text.specs.declared.petscii.file_names.Ending.TheVariants.{Records}
use Rattle.file_rescues.proofs.lemmas.rescue.Inside.{name-inside}
use Rattle.file_rescues.specs.rescue.Folders.{StaysInside}
use Rattle.file_rescues.proofs.rescue.making.make_lines.Goals as goal

pub make-requires : goal.make-requires
make-requires g c =
    let same = c.as_slice.ensures.value ∙ c.file_name-name.ensures
    ∙ ap (λ (name : List ℕ). file_name_of c.args.number name Records) c.entry_name.ensures.name in
    record {
      inside = subst StaysInside (sym same) (name-inside c.args.number c.args.file.now.slot Records
          (omega (arith, c.ranges.number.fits)));
    }
