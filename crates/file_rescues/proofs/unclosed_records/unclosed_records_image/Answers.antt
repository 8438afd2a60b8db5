-- The file was found, and the records among its bytes were printed; or the output failed, or there was no memory.
use Rattle.std.proofs.Common.{◌∙◌, Err, List, ap, refl, subst}
use Rattle.std.proofs.KnownBytes.{Appends-kept}
use Rattle.std.proofs.lemmas.Result.{err_from_is_err_and}
use Rattle.std.specs.Io.KnownBytes.{Appends}
use Rattle.d64_image.specs.Images.{Image}
use Rattle.d64_image.specs.Memory.{disk_image}
use Rattle.d64_image.specs.declared.place.Place.{Place}
use Rattle.disk_layout.specs.Layout.{record_length}
use Rattle.file_rescues.proofs.Files.{file-there, printed-end, put-stopped, unclosed-part}
use Rattle.command_faults.proofs.Parts.{at-error, part-all}
use Rattle.file_rescues.specs.Bytes.{file_bytes}
use Rattle.file_rescues.specs.Forms.{records_as}
use Rattle.file_rescues.specs.Printed.{AreUnclosedPrinted}
use Rattle.file_rescues.specs.Records.{records_of}
use Rattle.file_rescues.specs.declared.finding.Candidates.TheVariants.{All}
use Rattle.file_rescues.specs.declared.finding.Kind.TheVariants.{Records}
use Rattle.file_rescues.proofs.unclosed_records.unclosed_records_image.Goals as goal

pub returns-in_err-print_reached : goal.returns-in_err-print_reached
returns-in_err-print_reached g c =
    let loaded = c.in_ok-disk.ensures.ok in
    let p = err_from_is_err_and c.from_residual-in_err-print_reached.result c.from_residual-in_err-print_reached.ensures.1 in
    record {
      ok = rw (p.1 ∙ ap Err p.2) tt;
      err = rw (p.1 ∙ ap Err p.2) (put-stopped c.args.image.now (Records All) c.args.name.now
          (AreUnclosedPrinted g.W.Write.contents c.args.form c.args.image.now c.args.name.now c.args.out.now
          c.print_reached.new.out) c.args.out.now c.print_reached.new.out c.in-Ok.file.fault
          (file-there c.args.image.now (Records All) c.args.name.now (disk_image c.in_ok-disk.disk) c.in-Ok.file.number c.in-Ok.file.slot
          c.find_file.new.blocks.items c.in-Ok.file.last c.in-Ok.file.fault loaded.0 loaded.1 c.in-Ok.ensures.ok.0)
          _ c.in_err-print_reached.ensures.err);
      part = rw (p.1 ∙ ap Err p.2) (unclosed-part g.W.Write.contents c.args.form c.args.image.now c.args.name.now
          c.args.out.now c.print_reached.new.out c.in-Ok.file.fault (file-there c.args.image.now (Records All)
          c.args.name.now (disk_image c.in_ok-disk.disk) c.in-Ok.file.number c.in-Ok.file.slot
          c.find_file.new.blocks.items c.in-Ok.file.last c.in-Ok.file.fault loaded.0 loaded.1 c.in-Ok.ensures.ok.0) _
          loaded.1 _ c.as_slice.ensures.value c.in_err-print_reached.ensures.part);
    }

pub returns-in_err-flush : goal.returns-in_err-flush
returns-in_err-flush g c =
    let loaded = c.in_ok-disk.ensures.ok in
    let p = err_from_is_err_and c.from_residual-in_err-flush.result c.from_residual-in_err-flush.ensures.1 in
    record {
      ok = rw (p.1 ∙ ap Err p.2) tt;
      err = rw (p.1 ∙ ap Err (p.2 ∙ c.in_err-flush.ensures.err)) (
        c.in-Ok.file.fault,
        file-there c.args.image.now (Records All) c.args.name.now (disk_image c.in_ok-disk.disk) c.in-Ok.file.number c.in-Ok.file.slot
            c.find_file.new.blocks.items c.in-Ok.file.last c.in-Ok.file.fault loaded.0 loaded.1 c.in-Ok.ensures.ok.0,
      );
      part = rw (p.1 ∙ ap Err p.2) (unclosed-part g.W.Write.contents c.args.form c.args.image.now c.args.name.now
          c.args.out.now c.flush.new.out c.in-Ok.file.fault (file-there c.args.image.now (Records All)
          c.args.name.now (disk_image c.in_ok-disk.disk) c.in-Ok.file.number c.in-Ok.file.slot
          c.find_file.new.blocks.items c.in-Ok.file.last c.in-Ok.file.fault loaded.0 loaded.1 c.in-Ok.ensures.ok.0) _
          loaded.1 _ c.as_slice.ensures.value
          (part-all _ _ _ (Appends-kept _ _ _ _ c.in_ok-print_reached.ensures.ok c.flush.ensures.kept)));
    }

pub returns : goal.returns
returns g c =
    let loaded = c.in_ok-disk.ensures.ok in
    let before = g.W.Write.contents c.args.out.now in
    let after = g.W.Write.contents c.flush.new.out in
    let size = record_length c.in-Ok.file.slot in
    let printed = Appends-kept _ _ _ _ c.in_ok-print_reached.ensures.ok c.flush.ensures.kept in
    let file = file-there c.args.image.now (Records All) c.args.name.now (disk_image c.in_ok-disk.disk) c.in-Ok.file.number c.in-Ok.file.slot
    c.find_file.new.blocks.items c.in-Ok.file.last c.in-Ok.file.fault loaded.0 loaded.1 c.in-Ok.ensures.ok.0 in
    let both = printed-end c.args.image.now (Records All) c.args.name.now
    (AreUnclosedPrinted g.W.Write.contents c.args.form c.args.image.now c.args.name.now c.args.out.now c.flush.new.out)
    c.args.out.now c.flush.new.out (λ f t. t.file.number) _
    loaded.1 c.in-Ok.file.number c.in-Ok.file.fault
    c.ended.result c.ended.ensures (record {
      file = file;
      printed = subst (λ (img : Image). Appends before after
          (records_as c.args.form (records_of size (file_bytes img c.find_file.new.blocks.items c.in-Ok.file.last))))
          loaded.1
          (subst (λ (bs : List Place). Appends before after (records_as c.args.form
          (records_of size (file_bytes (disk_image c.in_ok-disk.disk) bs c.in-Ok.file.last))))
          c.as_slice.ensures.value printed);
    }) refl in
    record {
      ok = both.0;
      err = both.1;
      part = at-error c.ended.result (unclosed-part g.W.Write.contents c.args.form c.args.image.now c.args.name.now
          c.args.out.now c.flush.new.out c.in-Ok.file.fault file _
          loaded.1 _ c.as_slice.ensures.value (part-all _ _ _ printed));
    }
