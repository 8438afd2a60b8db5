-- The bytes that have the text are no new file's name, and no others have it.
use Rattle.std.proofs.Common.{◌≡◌, ◌∙◌, refl, subst, sym}
use Rattle.std.proofs.lemmas.Bool.{false≢true}
use Rattle.line_text.proofs.lemmas.bytes.Texts.{one-text}
use Rattle.file_changes.specs.NewNames.{IsNewName}
use Rattle.file_changes.specs.Names.{name_bytes}
use Rattle.ledger_cli.proofs.file_names.new_name_of.Goals as goal

pub returns-then-not-is_new : goal.returns-then-not-is_new
returns-then-not-is_new c = (
  refl,
  λ bytes are name new.
      let same : name_bytes c.in_ok-name.name ≡ bytes = one-text (name_bytes c.in_ok-name.name) bytes
      (sym c.in_ok-name.ensures.is ∙ name.is) in
      false≢true (sym c.if-not-is_new.true ∙ c.is_new.ensures.1 (subst IsNewName (sym same) new)),
)
