-- The file was found, and the records among its bytes were printed; or the output failed, or there was no memory.
use Rattle.std.proofs.Common.{◌∙◌, Err, ap, inl, inr, refl}
use Rattle.std.proofs.KnownBytes.{Appends-kept}
use Rattle.std.proofs.lemmas.Result.{err_from_is_err_and}
use Rattle.d64_image.specs.Memory.{disk_image}
use Rattle.command_faults.proofs.Parts.{part-all}
use Rattle.file_rescues.proofs.ReachedRecords.{none-found, printed-part, put-failed, reached, records-unloaded, taken}
use Rattle.file_rescues.proofs.record_printing.records_image.Goals as goal

pub returns-in_err-disk : goal.returns-in_err-disk
returns-in_err-disk g c =
    let p = err_from_is_err_and c.from_residual.result c.from_residual.ensures.1 in
    let told = p.1 ∙ ap Err p.2 in
    record {
      ok = rw told tt;
      err = rw told (records-unloaded g.W.Write.contents c.args.form c.args.image.now c.args.name.now c.args.out.now _
          c.in_err-disk.ensures.err);
      part = rw told (inr (inl refl));
    }

pub returns-in_default-clause-err : goal.returns-in_default-clause-err
returns-in_default-clause-err g c = rw c.no_file.ensures (none-found g.W.Write.contents c.args.form c.args.image.now
    c.args.name.now c.args.out.now (disk_image c.in_ok-disk.disk) c.in_ok-disk.ensures.ok c.in_ok-disk.disk.whole
    c.unsoundness-first.result c.unsoundness-first.ensures.fault _ c.unsoundness-first.ensures.same c.in_default.field-0
    c.in_default.ensures.err)

pub returns-in_err-print_reached-clause-err : goal.returns-in_err-print_reached-clause-err
returns-in_err-print_reached-clause-err g c =
    let p = err_from_is_err_and c.from_residual-in_err-print_reached.result c.from_residual-in_err-print_reached.ensures.1 in
    rw (p.1 ∙ ap Err p.2) (put-failed g.W.Write.contents c.args.form c.args.image.now c.args.name.now c.args.out.now
    (disk_image c.in_ok-disk.disk) c.in_ok-disk.ensures.ok c.in_ok-disk.disk.whole c.unsoundness-first.result
    c.unsoundness-first.ensures.fault _ c.unsoundness-first.ensures.same c.print_reached.new.out c.in-Ok.file.number c.in-Ok.file.slot
    _ c.in-Ok.file.last c.in-Ok.file.fault c.in-Ok.ensures.ok.0 _ c.as_slice.ensures.value
    c.in_err-print_reached.field-0.0 c.in_err-print_reached.ensures.err)

pub returns-in_err-print_reached-clause-part : goal.returns-in_err-print_reached-clause-part
returns-in_err-print_reached-clause-part g c =
    let p = err_from_is_err_and c.from_residual-in_err-print_reached.result c.from_residual-in_err-print_reached.ensures.1 in
    rw (p.1 ∙ ap Err p.2) (printed-part g.W.Write.contents c.args.form c.args.image.now c.args.name.now c.args.out.now
    (disk_image c.in_ok-disk.disk) c.in_ok-disk.ensures.ok c.in_ok-disk.disk.whole c.unsoundness-first.result
    c.unsoundness-first.ensures.fault _ c.unsoundness-first.ensures.same c.print_reached.new.out c.in-Ok.file.number c.in-Ok.file.slot
    _ c.in-Ok.file.last c.in-Ok.file.fault c.in-Ok.ensures.ok.0 _ c.as_slice.ensures.value
    c.in_err-print_reached.ensures.part)

pub returns-in_err-flush-clause-err : goal.returns-in_err-flush-clause-err
returns-in_err-flush-clause-err g c =
    let p = err_from_is_err_and c.from_residual-in_err-flush.result c.from_residual-in_err-flush.ensures.1 in
    rw (p.1 ∙ ap Err p.2) (put-failed g.W.Write.contents c.args.form c.args.image.now c.args.name.now c.args.out.now
    (disk_image c.in_ok-disk.disk) c.in_ok-disk.ensures.ok c.in_ok-disk.disk.whole c.unsoundness-first.result
    c.unsoundness-first.ensures.fault _ c.unsoundness-first.ensures.same c.flush.new.out c.in-Ok.file.number c.in-Ok.file.slot
    _ c.in-Ok.file.last c.in-Ok.file.fault c.in-Ok.ensures.ok.0 _ c.as_slice.ensures.value
    c.in_err-flush.field-0.0 (inl c.in_err-flush.ensures.err))

pub returns-in_err-flush-clause-part : goal.returns-in_err-flush-clause-part
returns-in_err-flush-clause-part g c =
    let p = err_from_is_err_and c.from_residual-in_err-flush.result c.from_residual-in_err-flush.ensures.1 in
    rw (p.1 ∙ ap Err p.2) (printed-part g.W.Write.contents c.args.form c.args.image.now c.args.name.now c.args.out.now
    (disk_image c.in_ok-disk.disk) c.in_ok-disk.ensures.ok c.in_ok-disk.disk.whole c.unsoundness-first.result
    c.unsoundness-first.ensures.fault _ c.unsoundness-first.ensures.same c.flush.new.out c.in-Ok.file.number c.in-Ok.file.slot
    _ c.in-Ok.file.last c.in-Ok.file.fault c.in-Ok.ensures.ok.0 _ c.as_slice.ensures.value
    (part-all _ _ _ (Appends-kept _ _ _ _ c.in_ok-print_reached.ensures.ok c.flush.ensures.kept)))

pub returns-in-Some-clause-err : goal.returns-in-Some-clause-err
returns-in-Some-clause-err g c = reached g.W.Write.contents c.args.form c.args.image.now c.args.name.now c.args.out.now
    (disk_image c.in_ok-disk.disk) c.in_ok-disk.ensures.ok c.in_ok-disk.disk.whole c.unsoundness-first.result
    c.unsoundness-first.ensures.fault _ c.unsoundness-first.ensures.same c.flush.new.out c.in-Ok.file.number c.in-Ok.file.slot
    _ c.in-Ok.file.last c.in-Ok.file.fault c.in-Ok.ensures.ok.0 _ c.as_slice.ensures.value
    c.in-Some.fault c.unwrap_or.result c.in-Some.ensures.fault c.unwrap_or.ensures
    (Appends-kept _ _ _ _ c.in_ok-print_reached.ensures.ok c.flush.ensures.kept)

pub returns-in-Some-clause-part : goal.returns-in-Some-clause-part
returns-in-Some-clause-part g c = printed-part g.W.Write.contents c.args.form c.args.image.now c.args.name.now c.args.out.now
    (disk_image c.in_ok-disk.disk) c.in_ok-disk.ensures.ok c.in_ok-disk.disk.whole c.unsoundness-first.result
    c.unsoundness-first.ensures.fault _ c.unsoundness-first.ensures.same c.flush.new.out c.in-Ok.file.number c.in-Ok.file.slot
    _ c.in-Ok.file.last c.in-Ok.file.fault c.in-Ok.ensures.ok.0 _ c.as_slice.ensures.value
    (part-all _ _ _ (Appends-kept _ _ _ _ c.in_ok-print_reached.ensures.ok c.flush.ensures.kept))

pub returns-clause-ok : goal.returns-clause-ok
returns-clause-ok g c = taken g.W.Write.contents c.args.form c.args.image.now c.args.name.now c.args.out.now
    (disk_image c.in_ok-disk.disk) c.in_ok-disk.ensures.ok c.in_ok-disk.disk.whole c.unsoundness-first.result
    c.unsoundness-first.ensures.fault _ c.unsoundness-first.ensures.same c.flush.new.out c.in-Ok.file.number c.in-Ok.file.slot
    _ c.in-Ok.file.last c.in-Ok.file.fault c.in-Ok.ensures.ok.0 _ c.as_slice.ensures.value
    c.sound_cut.result c.in-None.ensures.fault c.sound_cut.ensures.told
    (Appends-kept _ _ _ _ c.in_ok-print_reached.ensures.ok c.flush.ensures.kept)
