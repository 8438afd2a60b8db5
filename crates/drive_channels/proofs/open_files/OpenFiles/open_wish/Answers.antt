use Rattle.std.proofs.Common.{true, inl, inr, ap, ap₂, arith, refl, subst, sym, ◌∙◌}
use Rattle.std.proofs.lemmas.Result.{IfOk-weaker}
use Rattle.d64_image.proofs.Moments.{no_reads}
use Rattle.d64_image.specs.Images.{Image}
use Rattle.drive_channels.proofs.Openings.{checked-shown, opened-by, past, read-by}
use Rattle.drive_channels.proofs.Openings.{tells-failed, unspelled}
use Rattle.drive_channels.proofs.Wishes.{wish-one}
use Rattle.drive_channels.proofs.open_files.OpenFiles.open_wish.Goals as goal
use Rattle.drive_channels.specs.Inside.{IsKnown, channel_of, shown}
use Rattle.drive_channels.specs.Spelling.{Wish}
use Rattle.drive_channels.specs.State.{View}
use Rattle.drive_channels.specs.Tables.{OpensFile}
use Rattle.drive_channels.specs.Wishes.{wish_of}
use Rattle.drive_channels.specs.declared.open_files.OpenFiles.{OpenFiles}
use Rattle.rel_records.proofs.lemmas.Told.{none-done, not-done, tells-after}
use Rattle.drive_channels.specs.declared.status.Status.TheVariants as statuses

pub returns-then-not-branch : goal.returns-then-not-branch
returns-then-not-branch g c =
    record {
      row = λ s.
          let img = g.D.Sectors.history.image in
          let refused = c.in_ok-passes_check.ensures.refused c.if-not-branch.true in
          past (shown (img c.args.disk.now) c.args.self.now s) c.args.channel c.args.text.now _ (wish_of c.in-Some.wish)
          c.requires.channel.low c.requires.channel.high c.requires.closed c.in-Some.ensures
          (inl (
            (refused.1, refused.2),
            ap₂ (λ (i : Image) (k : OpenFiles). shown i k statuses.DirError)
                c.passes_check.ensures.reads.image refused.0,
          ));
      known =
          subst (λ (i : Image). IsKnown i c.passes_check.new.self) (sym c.passes_check.ensures.reads.image)
          (subst (IsKnown (g.D.Sectors.history.image c.args.disk.now))
          (sym (c.in_ok-passes_check.ensures.refused c.if-not-branch.true).0) c.requires.known);
      opened = read-by g.D.Sectors.history _ _ 2115 c.args.text.now _ _ _ (omega arith) c.passes_check.ensures.reads;
      failures = c.in_ok-passes_check.ensures.failures;
    }

pub returns : goal.returns
returns g c =
    let img = g.D.Sectors.history.image in
    let passed = c.in_ok-passes_check.ensures.passed c.if-not-branch.false in
    record {
      row =
          IfOk-weaker c.open_file.result _ _ (λ status row s.
          past (shown (img c.args.disk.now) c.args.self.now s) c.args.channel c.args.text.now
          (shown (img c.open_file.new.disk) c.open_file.new.self status) (wish_of c.in-Some.wish)
          c.requires.channel.low c.requires.channel.high c.requires.closed c.in-Some.ensures
          (inr (
            (λ h. h.1 (passed.1.remembered passed.0).clean),
            (λ v is.
                subst (λ (w : Wish). OpensFile
                (record (shown (img c.args.disk.now) c.args.self.now s) { checked = true }) c.args.channel w
                (shown (img c.open_file.new.disk) c.open_file.new.self status))
                (wish-one c.args.text.now (wish_of c.in-Some.wish) v c.in-Some.ensures is)
                (subst (λ (x : View). OpensFile x c.args.channel (wish_of c.in-Some.wish)
                (shown (img c.open_file.new.disk) c.open_file.new.self status))
                (checked-shown (img c.args.disk.now) (img c.passes_check.new.disk) c.args.self.now
                c.passes_check.new.self s c.passes_check.ensures.reads.image c.in_ok-passes_check.ensures.last
                passed.0)
                (row s))),
          )))
          c.open_file.ensures.row;
      known = c.open_file.ensures.known;
      opened =
          opened-by g.D.Sectors.history _ _ _ c.args.text.now (wish_of c.in-Some.wish) _ _ c.open_file.result
          c.passes_check.ensures.reads
          ((c.in_ok-passes_check.ensures.passed c.if-not-branch.false).1.remembered
          (c.in_ok-passes_check.ensures.passed c.if-not-branch.false).0).clean c.in-Some.ensures
          (λ v is. wish-one c.args.text.now v (wish_of c.in-Some.wish) is c.in-Some.ensures) c.requires.closed
          c.open_file.ensures.opened;
      failures = tells-after g.D.Sectors.history _ _ _ c.in_ok-passes_check.ensures.failures c.open_file.result
          c.open_file.ensures.failures;
    }

pub returns-in_default : goal.returns-in_default
returns-in_default g c =
    record {
      row = λ s.
          let x = shown (g.D.Sectors.history.image c.args.disk.now) c.args.self.now s in
          unspelled x c.args.channel c.args.text.now _ c.requires.channel.low c.requires.channel.high c.requires.closed
          c.in_default.ensures refl;
      known = c.requires.known;
      opened = read-by g.D.Sectors.history _ _ 0 c.args.text.now _ _ _ (omega arith) (no_reads g.D.Sectors.history _);
      failures = refl;
    }

pub returns-in_err-passes_check : goal.returns-in_err-passes_check
returns-in_err-passes_check g c =
    record {
      row = none-done c.from_residual.result _ c.from_residual.ensures.1 _;
      known = not-done c.from_residual.result _ c.from_residual.ensures.1 _;
      opened = read-by g.D.Sectors.history _ _ 2115 c.args.text.now _ _ c.from_residual.result (omega arith)
          c.passes_check.ensures.reads;
      failures = tells-failed g.D.Sectors.history _ _ c.from_residual.result _ c.from_residual.ensures.1
          c.in_err-passes_check.ensures.failures;
    }

pub open_file-requires-clause-shut : goal.open_file-requires-clause-shut
open_file-requires-clause-shut g c =
    let passed = c.in_ok-passes_check.ensures.passed c.if-not-branch.false in
    record {
      known = subst (λ (i : Image). IsKnown i c.passes_check.new.self) (sym c.passes_check.ensures.reads.image)
          passed.1;
      checked = passed.0;
      closed = ap channel_of c.in_ok-passes_check.ensures.last ∙ c.requires.closed;
    }

pub open_file-requires-clause-channel : goal.open_file-requires-clause-channel
open_file-requires-clause-channel g c =
    record {
      low = c.requires.channel.low;
      high = c.requires.channel.high;
    }

pub open_file-requires-clause-wish : goal.open_file-requires-clause-wish
open_file-requires-clause-wish g c = (c.args.text.now, c.in-Some.ensures)
