-- The entry of another program, and one of GEOS.
use Rattle.std.proofs.Common.{refl, sym, ◌∙◌}
use Rattle.geos_files.specs.Entries.{geos_entry}
use Rattle.geos_files.proofs.Naming.{naming-apart}
use Rattle.geos_files.proofs.entries.geos_entry.Goals as goal

pub returns-then-not-is_like_geos-clause-entry : goal.returns-then-not-is_like_geos-clause-entry
unfolding geos_entry
returns-then-not-is_like_geos-clause-entry c = rw (sym c.is_like_geos.ensures ∙ c.if-not-is_like_geos.true) refl

pub returns-clause-entry : goal.returns-clause-entry
unfolding geos_entry
returns-clause-entry c =
    rw (
      sym c.is_like_geos.ensures ∙ c.if-not-is_like_geos.false,
      c.naming_both.ensures,
      c.record_length-has_records.ensures,
      c.first_side.ensures,
      c.first_block.ensures,
      c.new-entry.ensures,
    ) refl

pub returns-clause-apart : goal.returns-clause-apart
returns-clause-apart c =
    rw (
      c.naming_both.ensures,
      c.record_length-has_records.ensures,
      c.first_side.ensures,
      c.first_block.ensures,
      c.new-entry.ensures,
    )
    (naming-apart c.args.slot.now _ (sym c.is_like_geos.ensures ∙ c.if-not-is_like_geos.false))
