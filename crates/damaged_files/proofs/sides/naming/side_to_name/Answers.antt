-- The entry is of a relative file, and names no side sector.
use Rattle.std.proofs.Common.{◌≡◌, ap, false, None, Option, refl, Some, sym, ◌∙◌, List, ℕ}
use Rattle.std.specs.Prelude.{is_some}
use Rattle.d64_image.specs.declared.place.Place.{Place}
use Rattle.disk_layout.proofs.lemmas.chains.Names.{named-none}
use Rattle.disk_layout.specs.Chain.{named_at}
use Rattle.damaged_files.proofs.sides.naming.side_to_name.Goals as goal

none : (o : Option Place) → is_some o ≡ false → o ≡ None
none None e = refl
none (Some p) e = cc

pub returns-clause-none : goal.returns-clause-none
returns-clause-none c q e = (
  cc,
  named-none c.args.slot.now.bytes 21
      (ap (λ (bs : List ℕ). named_at bs 21) (sym c.new-entry.ensures) ∙ sym c.first_side.ensures
      ∙ none c.first_side.result (sym c.is_some.ensures ∙ c.if-is_some.false)),
)
