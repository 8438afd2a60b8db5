use Rattle.std.proofs.Common.{ap, arith, inl, inr, refl, subst, sym, ◌∙◌, IfOk}
use Rattle.d64_image.proofs.Moments.{no_reads}
use Rattle.drive_channels.proofs.Openings.{closed-of, open-of, read-by, recalled}
use Rattle.drive_channels.proofs.open_files.OpenFiles.open.Goals as goal
use Rattle.drive_channels.proofs.open_files.OpenFiles.open.Goals.{then-channel-lt2-via-then-channel-lt2}
use Rattle.drive_channels.proofs.open_files.OpenFiles.open.Goals.{then-channel-lt2-via-else-channel-lt2+then-channel-gt14}
use Rattle.drive_channels.proofs.open_files.OpenFiles.open.Goals.{
  then-channel-lt2-via-else-channel-lt2+else-channel-gt14+then-is_open,
}
use Rattle.drive_channels.specs.Inside.{IsKnown, channel_of, shown}
use Rattle.drive_channels.specs.Moments.{IsOpenedBy}
use Rattle.drive_channels.specs.Tables.{Opens}
use Rattle.drive_channels.specs.declared.open_files.OpenFiles.{OpenFiles}
use Rattle.drive_channels.specs.declared.status.Status.{Status}

pub returns-then-recall : goal.returns-then-recall
returns-then-recall g c =
    record {
      row = λ s.
          let img = g.D.Sectors.history.image c.args.disk.now in
          let looked = c.recall.ensures.found img c.requires.known c.if-recall.true in
          recalled img c.args.self.now c.recall.new.self c.args.channel c.args.text.now s _
          (omega (arith, c.if-channel-lt2.false)) (omega (arith, c.if-channel-gt14.false))
          (closed-of _ c.is_open.result c.is_open.ensures c.if-is_open.false) c.recall.ensures.checked looked
          (c.open_last.ensures.row img c.args.text.now s looked);
      known = c.open_last.ensures.known _ (c.recall.ensures.found _ c.requires.known c.if-recall.true).known;
      opened = read-by g.D.Sectors.history _ _ 0 c.args.text.now _ _ _ (omega arith) (no_reads g.D.Sectors.history _);
      failures = refl;
    }

pub open_wish-requires-clause-known : goal.open_wish-requires-clause-known
open_wish-requires-clause-known g c = subst (IsKnown (g.D.Sectors.history.image c.args.disk.now))
    (sym (c.recall.ensures.other c.if-recall.false).0) c.requires.known

pub open_wish-requires-clause-closed : goal.open_wish-requires-clause-closed
open_wish-requires-clause-closed g c = ap (λ (k : OpenFiles). channel_of k.last)
    (c.recall.ensures.other c.if-recall.false).0 ∙ closed-of _ c.is_open.result c.is_open.ensures c.if-is_open.false

pub returns : goal.returns
returns g c =
    let img = g.D.Sectors.history.image in
    record {
      row =
          subst (λ (k : OpenFiles). IfOk c.open_wish.result
          (λ status. (s : Status)
          → Opens (shown (img c.args.disk.now) k s) c.args.channel c.args.text.now
          (shown (img c.open_wish.new.disk) c.open_wish.new.self status)))
          (c.recall.ensures.other c.if-recall.false).0 c.open_wish.ensures.row;
      known = c.open_wish.ensures.known;
      opened =
          subst (λ (k : OpenFiles). IsOpenedBy g.D.Sectors.history c.args.disk.now c.open_wish.new.disk c.args.text.now
          (channel_of k.last) (channel_of c.open_wish.new.self.last) c.open_wish.result)
          (c.recall.ensures.other c.if-recall.false).0 c.open_wish.ensures.opened;
      failures = c.open_wish.ensures.failures;
    }

pub returns-then-channel-lt2 : goal.returns-then-channel-lt2
returns-then-channel-lt2 g c =
    record {
      row = λ s. elim c.then-channel-lt2.branch [
        | then-channel-lt2-via-then-channel-lt2 w ↦ inl (inl (omega (arith, w.if-channel-lt2.true)), refl)
        | then-channel-lt2-via-else-channel-lt2+then-channel-gt14 w ↦ inl
            (inr (inl (omega (arith, w.if-channel-gt14.true))), refl)
        | then-channel-lt2-via-else-channel-lt2+else-channel-gt14+then-is_open w ↦ inl
            (inr (inr (open-of _ w.is_open.result w.is_open.ensures w.if-is_open.true)), refl)
      ];
      known = c.requires.known;
      opened = read-by g.D.Sectors.history _ _ 0 c.args.text.now _ _ _ (omega arith) (no_reads g.D.Sectors.history _);
      failures = refl;
    }

pub open_last-requires : goal.open_last-requires
open_last-requires g c = record {
  low = omega (arith, c.if-channel-lt2.false);
  high = omega (arith, c.if-channel-gt14.false);
}

pub open_wish-requires-clause-channel : goal.open_wish-requires-clause-channel
open_wish-requires-clause-channel g c = record {
  low = omega (arith, c.if-channel-lt2.false);
  high = omega (arith, c.if-channel-gt14.false);
}
