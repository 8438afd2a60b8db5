use Rattle.std.proofs.Common.{◌≡◌, true, false, refl, arith, None, subst, sym, Option}
use Rattle.std.proofs.lemmas.Bool.{false≢true, true≢false}
use Rattle.disk_layout.proofs.lemmas.layouts.Unclean.{told-unclean}
use Rattle.drive_channels.proofs.Refusals.{clean-fact, quiet}
use Rattle.d64_image.proofs.Moments.{no_reads, reads_weaker}
use Rattle.d64_image.specs.Images.{Image}
use Rattle.disk_layout.specs.Clean.{IsClean}
use Rattle.drive_channels.specs.Inside.{IsKnown, Remembers}
use Rattle.drive_channels.specs.declared.open_files.OpenFiles.{OpenFiles}
use Rattle.drive_channels.specs.declared.open_file.NamedFile.{NamedFile}
use Rattle.drive_channels.specs.declared.open_file.OpenFile.{OpenFile}
use Rattle.drive_channels.proofs.open_files.OpenFiles.passes_check.Goals as goal
use Rattle.layout_check.specs.declared.survey_outcome.Survey.{Survey}

pub returns-in_default : goal.returns-in_default
returns-in_default g c =
    let S = g.D.Sectors.history in
    record {
      passed = λ is. absurd (false≢true is);
      refused = λ _. (
        refl,
        c.if-self.false,
        told-unclean (S.image c.args.disk.now) c.in-Err.fault
            (clean-fact (S.failed_at c.check.new.disk) _ c.in-Err.fault c.in_default.not-Device c.in-Err.ensures.err),
      );
      last = refl;
      reads = c.check.ensures.reads;
      failures = quiet Survey S _ _ c.in-Err.fault c.in_default.not-Device c.in-Err.ensures.failures;
    }

-- nothing is remembered before a check has passed
checked-now : (img : Image) (k : OpenFiles) → k.checked ≡ false → IsKnown img k → IsClean img
    → IsKnown img (record { last = k.last; before = k.before; checked = true })
checked-now img k unchecked known clean =
    let (last, before) = known.fresh unchecked in
    let nothing : Remembers img None None = record {
      clean = clean;
      last_found = tt;
      spot = tt;
      before_found = tt;
      apart = tt;
    } in
    record {
      fresh = λ e. absurd (true≢false e);
      remembered = λ _. subst (λ (o : Option OpenFile). Remembers img o k.before) (sym last)
          (subst (λ (o : Option NamedFile). Remembers img None o) (sym before) nothing);
    }

pub returns-then-self : goal.returns-then-self
returns-then-self g c =
    let S = g.D.Sectors.history in
    record {
      passed = λ _. (c.if-self.true, c.requires.known);
      refused = λ is. absurd (true≢false is);
      last = refl;
      reads = reads_weaker S c.args.disk.now c.args.disk.now 0 2115 (omega arith) (no_reads S c.args.disk.now);
      failures = refl;
    }

pub returns-in-Ok : goal.returns-in-Ok
returns-in-Ok g c =
    let clean = c.in-Ok.ensures.ok in
    record {
      passed = λ _. (
        refl,
        checked-now (g.D.Sectors.history.image c.args.disk.now) c.args.self.now c.if-self.false
            c.requires.known (clean.0, clean.1),
      );
      refused = λ is. absurd (true≢false is);
      last = refl;
      reads = c.check.ensures.reads;
      failures = c.in-Ok.ensures.failures;
    }
