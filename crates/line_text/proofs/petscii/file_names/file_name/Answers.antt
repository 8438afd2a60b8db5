-- The parts of the name, one after another.
use Rattle.line_text.specs.petscii.FileNames.{file_name_of}
use Rattle.line_text.proofs.lemmas.petscii.Names.{from-parts}
use Rattle.line_text.proofs.petscii.file_names.file_name.Goals as goal

pub returns : goal.returns
unfolding file_name_of
returns c =
    from-parts _ _ _ _ _ _ _ _ c.new-text.ensures c.push_number.ensures.items c.push.ensures.items
    c.push_name.ensures.items
    c.push_ending.ensures
