-- The entry is found, gets its type, and the disk is repaired.
use Rattle.std.proofs.Common.{Err, ap, inl, inr, ◌∙◌}
use Rattle.std.proofs.lemmas.Result.{IfOk-weaker, err_from_is_err_and}
use Rattle.d64_image.specs.Memory.{disk_image}
use Rattle.disk_changes.proofs.Undeleted.{none-found, retyped}
use Rattle.disk_changes.proofs.undeleting.undeleted.Goals as goal

pub returns-in_err-entry-clause-err : goal.returns-in_err-entry-clause-err
returns-in_err-entry-clause-err c =
    let p = err_from_is_err_and c.from_residual-in_err-entry.result c.from_residual-in_err-entry.ensures.1 in
    rw (p.1 ∙ ap Err p.2) (inl (none-found c.args.image.now c.args.name.now c.args.cut (disk_image c.in_ok-disk.disk)
    c.in_ok-disk.ensures.ok.1 c.in_ok-disk.ensures.ok.2 c.in_err-entry.field-0.0 c.in_err-entry.ensures.err))

pub returns-in_err-mended-clause-err : goal.returns-in_err-mended-clause-err
returns-in_err-mended-clause-err c =
    let p = err_from_is_err_and c.from_residual-in_err-mended.result c.from_residual-in_err-mended.ensures.1 in
    rw (p.1 ∙ ap Err p.2) (inr (
      c.bytes.result.now,
      retyped c.args.image.now c.args.name.now c.args.cut (disk_image c.in_ok-disk.disk) c.in_ok-disk.ensures.ok.1
          c.in_ok-disk.ensures.ok.2 c.args.kind c.in_ok-entry.entry (disk_image c.put_type.new.disk) c.bytes.result.now
          c.in_ok-entry.ensures.ok c.put_type.ensures c.bytes.ensures.image,
      c.in_err-mended.ensures.err,
    ))

pub returns-clause-ok : goal.returns-clause-ok
returns-clause-ok c = IfOk-weaker c.changed.result _ _
    (λ made is. record {
      taken = c.in_ok-disk.ensures.ok.0;
      bytes = c.bytes.result.now;
      retyped = retyped c.args.image.now c.args.name.now c.args.cut (disk_image c.in_ok-disk.disk) c.in_ok-disk.ensures.ok.1
          c.in_ok-disk.ensures.ok.2 c.args.kind c.in_ok-entry.entry (disk_image c.put_type.new.disk) c.bytes.result.now
          c.in_ok-entry.ensures.ok c.put_type.ensures c.bytes.ensures.image;
      second = c.in_ok-mended.mended;
      repaired = c.in_ok-mended.ensures.ok;
      disk = is.0;
      text = is.1;
    }) c.changed.ensures.ok
