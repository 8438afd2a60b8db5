-- The directory, then entry by entry; a fault on the way is told, and holds.
use Rattle.std.proofs.Common.{arith, ap, sym, length, ◌∙◌, List}
use Rattle.std.proofs.lemmas.Result.{err_from_is_err_and}
use Rattle.disk_layout.specs.declared.slot.Slot.{Slot}
use Rattle.layout_check.proofs.lemmas.judging.Calls.{tells_weaker}
use Rattle.layout_check.proofs.lemmas.finding.Progress.{far-end, far-entry, far-start, far-step, far-tells, listed-as}
use Rattle.layout_check.proofs.lemmas.finding.Progress.{same-system}
use Rattle.layout_check.proofs.survey_walk.survey_files.Goals as goal

pub loop-number-init : goal.loop-number-init
loop-number-init g c = far-start g.D.Sectors.history c.args.disk.now c.survey_directory.new.disk
    c.survey_directory.new.places.items c.as_slice-slot-items.result.now c.of_directory-owners.result
    (listed-as _ _ c.survey_directory.new.slots.items c.as_slice-slot-items.result.now
    c.as_slice-slot-items.ensures.value c.in_ok-survey_directory.ensures.directory)
    (same-system c.of_directory-owners.result c.as_slice.result.now c.survey_directory.new.places.items
    c.as_slice.ensures.value c.of_directory-owners.ensures) c.in_ok-survey_directory.ensures.ok

pub survey_entry-requires-clause-entry : goal.survey_entry-requires-clause-entry
survey_entry-requires-clause-entry g c = far-entry g.D.Sectors.history c.args.disk.now c.loop-number.disk
    c.as_slice-slot-items.result.now c.loop-number.number c.loop-number.owners c.loop-number.unclean c.slot-item.result
    c.loop-number.invariant c.loop-number-test.true c.slot-item.is

pub loop-number-preserved : goal.loop-number-preserved
loop-number-preserved g c = rw c.or-unclean.ensures (far-step g.D.Sectors.history c.args.disk.now c.loop-number.disk
    c.survey_entry.new.disk c.as_slice-slot-items.result.now c.loop-number.number c.loop-number.owners
    c.survey_entry.new.owners c.loop-number.unclean c.in_ok-found.found c.slot-item.result c.loop-number.invariant
    c.loop-number-test.true (omega (arith, c.loop-number-test.true, c.as_slice-slot-items.ensures.fits)) c.slot-item.is
    c.in_ok-found.ensures.ok)

pub returns-in_err-survey_directory : goal.returns-in_err-survey_directory
returns-in_err-survey_directory g c =
    let p = err_from_is_err_and c.from_residual.result c.from_residual.ensures.1 in
    record {
      ok = rw p.1 tt;
      err = rw (p.1, p.2) (tells_weaker g.D.Sectors.history c.args.disk.now c.survey_directory.new.disk 738 2114 _
          (omega arith) c.in_err-survey_directory.ensures.err);
    }

pub returns-in_err-found : goal.returns-in_err-found
returns-in_err-found g c =
    let p = err_from_is_err_and c.from_residual-in_err-found.result c.from_residual-in_err-found.ensures.1 in
    record {
      ok = rw p.1 tt;
      err = rw (p.1, p.2) (far-tells g.D.Sectors.history c.args.disk.now c.loop-number.disk c.survey_entry.new.disk
          c.as_slice-slot-items.result.now c.loop-number.number c.loop-number.owners c.loop-number.unclean
          c.slot-item.result _
          c.loop-number.invariant c.loop-number-test.true c.slot-item.is c.in_err-found.ensures.err);
    }

pub returns : goal.returns
returns g c = record {
  ok = far-end g.D.Sectors.history c.args.disk.now c.loop-number.disk c.as_slice-slot-items.result.now
      c.loop-number.number c.loop-number.owners c.loop-number.unclean c.new.result
      c.loop-number.invariant c.loop-number-test.false c.as_slice-slot-items.ensures.fits c.new.ensures.owners
      (c.new.ensures.entries ∙ c.len.ensures.value
      ∙ ap (λ (xs : List Slot). length xs) (sym c.as_slice-slot-items.ensures.value));
  err = tt;
}

pub bounds-slot-items-number : goal.bounds-slot-items-number
bounds-slot-items-number g c = c.loop-number-test.true

pub overflow_cast-number : goal.overflow_cast-number
overflow_cast-number g c = omega (arith, c.loop-number-test.true, c.as_slice-slot-items.ensures.fits)

pub survey_entry-requires-clause-some : goal.survey_entry-requires-clause-some
survey_entry-requires-clause-some g c = omega (arith, c.loop-number-test.true, c.as_slice-slot-items.ensures.fits)
