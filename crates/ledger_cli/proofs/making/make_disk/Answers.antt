-- The image first, then the word of it.
use Rattle.std.proofs.Common.{◌∙◌, Err, ap, refl, subst, sym}
use Rattle.std.proofs.lemmas.Result.{err_from_is_err_and}
use Rattle.file_changes.specs.Formats.{IsNewDisk}
use Rattle.image_edits.specs.NewDisks.{IsNewImage}
use Rattle.ledger_cli.proofs.Made.{image_written, made, made_in_part}
use Rattle.ledger_cli.proofs.making.make_disk.Goals as goal

pub returns-in_err-write_over : goal.returns-in_err-write_over
returns-in_err-write_over g c =
    let p = err_from_is_err_and c.from_residual.result c.from_residual.ensures.1 in
    let is : IsNewImage c.args.name.now c.args.id c.bytes.result.now = record {
      size = c.bytes.ensures.size;
      new = subst (IsNewDisk c.args.name.now c.args.id) (sym c.bytes.ensures.image) c.in-Ok.ensures.ok;
    } in
    made_in_part g.F.Seek.stream_position g.F.Seek.stream_bytes g.F.Write.contents g.W.Write.contents
    (IsNewImage c.args.name.now c.args.id) c.args.file.now c.write_over.new.file c.args.out.now c.args.out.now
    c.bytes.result.now is c.from_residual.result _ (p.1 ∙ ap Err p.2) c.in_err-write_over.ensures refl

pub returns : goal.returns
returns g c =
    let is : IsNewImage c.args.name.now c.args.id c.bytes.result.now = record {
      size = c.bytes.ensures.size;
      new = subst (IsNewDisk c.args.name.now c.args.id) (sym c.bytes.ensures.image) c.in-Ok.ensures.ok;
    } in
    made g.F.Seek.stream_position g.F.Seek.stream_bytes g.F.Write.contents g.W.Write.contents
    (IsNewImage c.args.name.now c.args.id) c.args.file.now c.write_over.new.file c.args.out.now c.print_whole.new.out
    (image_written g.F.Seek.stream_position g.F.Seek.stream_bytes g.F.Write.contents
    (IsNewImage c.args.name.now c.args.id) c.args.file.now c.write_over.new.file c.bytes.result.now c.bytes.ensures.size
    is c.in_ok-write_over.ensures)
    c.print_whole.result c.print_whole.ensures.ok c.print_whole.ensures.err
