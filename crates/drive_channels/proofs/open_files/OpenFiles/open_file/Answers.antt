use Rattle.std.proofs.Common.{ℕ, IsNone, Option, inl, refl, sym, subst}
use Rattle.std.proofs.lemmas.Result.{IfOk-weaker}
use Rattle.d64_image.specs.Images.{Image}
use Rattle.drive_channels.proofs.Openings.{opened-made, read-for, same-shown, tells-failed}
use Rattle.drive_channels.proofs.open_files.OpenFiles.open_file.Goals as goal
use Rattle.drive_channels.specs.Files.{HasFile}
use Rattle.drive_channels.specs.Inside.{HasLooked, IsKnown, shown}
use Rattle.drive_channels.specs.Spelling.{IsSpelled}
use Rattle.drive_channels.specs.State.{View}
use Rattle.drive_channels.specs.Tables.{OpensFile}
use Rattle.drive_channels.specs.Wishes.{wish_of}
use Rattle.rel_records.proofs.lemmas.Told.{none-done, not-done, tells-after}
use Rattle.drive_channels.specs.declared.status.Status.TheVariants as statuses

pub returns-then-branch : goal.returns-then-branch
returns-then-branch g c =
    record {
      row = λ s.
          let img = g.D.Sectors.history.image in
          let looked = subst (HasLooked (img c.args.disk.now) c.args.wish.name.now c.look_up.new.self) c.if-branch.true
          c.in_ok-look_up.ensures.found in
          subst (λ (x : View). OpensFile x c.args.channel (wish_of c.args.wish)
          (shown (img c.look_up.new.disk) c.open_last.new.self c.open_last.result))
          (same-shown (img c.args.disk.now) (img c.args.disk.now) c.args.self.now c.look_up.new.self s
          (λ i. img c.args.disk.now) c.requires.shut.closed c.requires.shut.checked looked.closed looked.checked)
          (subst (λ (i : Image). OpensFile (shown (img c.args.disk.now) c.look_up.new.self s) c.args.channel
          (wish_of c.args.wish) (shown i c.open_last.new.self c.open_last.result))
          (sym c.look_up.ensures.reads.image)
          (c.open_last.ensures.row (img c.args.disk.now) c.args.wish.name.now s looked));
      known = subst (λ (i : Image). IsKnown i c.open_last.new.self) (sym c.look_up.ensures.reads.image)
          (c.open_last.ensures.known (g.D.Sectors.history.image c.args.disk.now) c.in_ok-look_up.ensures.found.known);
      opened = read-for g.D.Sectors.history _ _ _ _ _ c.look_up.ensures.reads;
      failures = c.in_ok-look_up.ensures.failures;
    }

pub make-requires-clause-missing : goal.make-requires-clause-missing
make-requires-clause-missing g c = λ has. c.in_ok-look_up.ensures.found.missing c.if-branch.false
    (subst (λ (i : Image). HasFile i c.args.wish.name.now) c.look_up.ensures.reads.image has)

pub returns-in-Some : goal.returns-in-Some
returns-in-Some g c =
    let img = g.D.Sectors.history.image in
    let looked = c.in_ok-look_up.ensures.found in
    record {
      row = IfOk-weaker c.make.result _ _ (λ status row s.
          subst (λ (x : View). OpensFile x c.args.channel (wish_of c.args.wish)
          (shown (img c.make.new.disk) c.make.new.self status))
          (same-shown (img c.args.disk.now) (img c.look_up.new.disk) c.args.self.now c.look_up.new.self s
          c.look_up.ensures.reads.image c.requires.shut.closed c.requires.shut.checked looked.closed looked.checked)
          (subst (λ (n : Option ℕ). OpensFile (shown (img c.look_up.new.disk) c.look_up.new.self s) c.args.channel
          (record { name = c.args.wish.name.now; length = n }) (shown (img c.make.new.disk) c.make.new.self status))
          (sym c.in-Some.is) (row s)))
          c.make.ensures.row;
      known = c.make.ensures.known;
      opened =
          opened-made g.D.Sectors.history _ _ _ c.args.wish.name.now c.args.wish.length c.in-Some.length _ c.make.result
          c.look_up.ensures.reads c.in-Some.is
          (c.in_ok-look_up.ensures.found.missing c.if-branch.false) c.make.ensures.refused c.make.ensures.opened
          c.make.ensures.reads c.make.ensures.moments;
      failures = tells-after g.D.Sectors.history _ _ _ c.in_ok-look_up.ensures.failures c.make.result
          c.make.ensures.failures;
    }

pub look_up-requires-clause-shut : goal.look_up-requires-clause-shut
look_up-requires-clause-shut g c = c.requires.shut

pub look_up-requires-clause-name : goal.look_up-requires-clause-name
look_up-requires-clause-name g c = c.requires.wish.1.0

pub returns-in_err-look_up : goal.returns-in_err-look_up
returns-in_err-look_up g c =
    record {
      row = none-done c.from_residual.result _ c.from_residual.ensures.1 _;
      known = not-done c.from_residual.result _ c.from_residual.ensures.1 _;
      opened = read-for g.D.Sectors.history _ _ _ _ c.from_residual.result c.look_up.ensures.reads;
      failures = tells-failed g.D.Sectors.history _ _ c.from_residual.result _ c.from_residual.ensures.1
          c.in_err-look_up.ensures.failures;
    }

pub open_last-requires : goal.open_last-requires
open_last-requires g c =
    record { low = c.requires.channel.low; high = c.requires.channel.high }

pub make-requires-clause-known : goal.make-requires-clause-known
make-requires-clause-known g c = subst (λ (i : Image). IsKnown i c.look_up.new.self) (sym c.look_up.ensures.reads.image)
    c.in_ok-look_up.ensures.found.known

pub make-requires-clause-checked : goal.make-requires-clause-checked
make-requires-clause-checked g c = c.in_ok-look_up.ensures.found.checked

pub make-requires-clause-channel : goal.make-requires-clause-channel
make-requires-clause-channel g c =
    record { low = c.requires.channel.low; high = c.requires.channel.high }

pub make-requires-clause-name : goal.make-requires-clause-name
make-requires-clause-name g c = c.requires.wish.1.0

pub make-requires-clause-size : goal.make-requires-clause-size
make-requires-clause-size g c =
    let tail = (subst (IsSpelled c.requires.wish.0 c.args.wish.name.now) c.in-Some.is c.requires.wish.1.1).2 in
    record { low = tail.low; high = tail.high }

pub returns-in-None : goal.returns-in-None
returns-in-None g c =
    record {
      row = λ s.
          let img = g.D.Sectors.history.image in
          let shut = c.requires.shut in
          let looked = c.in_ok-look_up.ensures.found in
          inl (
            (subst IsNone (sym c.in-None.is) refl, looked.missing c.if-branch.false),
            same-shown (img c.args.disk.now) (img c.look_up.new.disk) c.args.self.now c.look_up.new.self
                statuses.FileNotFound c.look_up.ensures.reads.image shut.closed shut.checked looked.closed
                looked.checked,
          );
      known = subst (λ (i : Image). IsKnown i c.look_up.new.self) (sym c.look_up.ensures.reads.image)
          c.in_ok-look_up.ensures.found.known;
      opened = read-for g.D.Sectors.history _ _ _ _ _ c.look_up.ensures.reads;
      failures = c.in_ok-look_up.ensures.failures;
    }
