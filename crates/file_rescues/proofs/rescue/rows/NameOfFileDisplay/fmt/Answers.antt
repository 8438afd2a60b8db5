-- The name, if there is a file.
use Rattle.std.proofs.Common.{[], refl, sym, ◌∙◌}
use Rattle.std.proofs.Output.{has_written_of_eq}
use Rattle.file_rescues.specs.rescue.Index.{file_text}
use Rattle.file_rescues.proofs.rescue.rows.NameOfFileDisplay.fmt.Goals as goal

pub returns-then-is_art-clause-writes : goal.returns-then-is_art-clause-writes
unfolding file_text
returns-then-is_art-clause-writes g c = λ plain done. rw (sym c.is_art.ensures ∙ c.if-is_art.true) (record {
  wrote = record { parts = []; calls = refl; whole = refl };
  plain = plain;
})

pub returns-clause-writes : goal.returns-clause-writes
unfolding file_text
returns-clause-writes g c = λ plain done. has_written_of_eq _ _ _ _ _
    (rw (sym c.is_art.ensures ∙ c.if-is_art.false, c.as_slice.ensures.value, c.first_name-file.ensures) refl)
    (c.write.ensures.writes plain done)
