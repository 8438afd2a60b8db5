use Rattle.std.proofs.Common.{inl, inr, refl}
use Rattle.disk_layout.proofs.lemmas.layouts.Twice.{told-unsound}
use Rattle.drive_channels.proofs.Refusals.{fact, quiet}
use Rattle.drive_channels.proofs.commands.validate.Goals as goal
use Rattle.layout_check.specs.declared.survey_outcome.Survey.{Survey}

pub returns-in-Ok : goal.returns-in-Ok
returns-in-Ok g c =
    record {
      row = let done = c.in-Ok.ensures.ok in inl ((done.before, done.sound), (c.in-Ok.field-0, done, refl));
      moments = c.repair.ensures.moments;
      unsound = c.repair.ensures.unsound;
      quiet = c.repair.ensures.quiet;
      reads = c.repair.ensures.reads;
      failures = c.in-Ok.ensures.failures;
    }

pub returns-in_default : goal.returns-in_default
returns-in_default g c =
    let S = g.D.Sectors.history in
    let unsound = told-unsound (S.image c.args.disk.now) c.in-Err.fault
    (fact (S.failed_at c.repair.new.disk) _ c.in-Err.fault c.in_default.not-Device c.in-Err.ensures.err) in
    record {
      row = inr (unsound, ((c.repair.ensures.unsound unsound).image, refl));
      moments = c.repair.ensures.moments;
      unsound = c.repair.ensures.unsound;
      quiet = c.repair.ensures.quiet;
      reads = c.repair.ensures.reads;
      failures = quiet Survey S _ _ c.in-Err.fault c.in_default.not-Device c.in-Err.ensures.failures;
    }
