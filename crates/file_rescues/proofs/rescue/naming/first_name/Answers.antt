-- The name of a CVT, or that of the entry's type.
use Rattle.std.proofs.Common.{List, ℕ, ap, ◌∙◌}
use Rattle.damaged_files.specs.reached.Names.{name_of}
use Rattle.line_text.specs.petscii.FileNames.{file_name_of}
use Rattle.line_text.specs.declared.petscii.file_names.Ending.{Ending}
use Rattle.file_rescues.specs.rescue.Named.{cvt_name, first_name}
use Rattle.file_rescues.proofs.rescue.naming.first_name.Goals as goal

pub returns-then-is_cvt : goal.returns-then-is_cvt
unfolding first_name
returns-then-is_cvt c = rw c.if-is_cvt.true
    (c.cvt_name.ensures ∙ ap (cvt_name c.args.number) c.entry_name-name.ensures.name)

pub returns : goal.returns
unfolding first_name
returns c = rw c.if-is_cvt.false
    (c.file_name.ensures
    ∙ ap (λ (a : List ℕ). file_name_of c.args.number a c.of_type.result) c.entry_name-name.ensures.name
    ∙ ap (λ (e : Ending). file_name_of c.args.number (name_of c.args.slot.now) e) c.of_type.ensures)
