-- The image first, then the word of it.
use Rattle.std.proofs.Common.{◌∙◌, Err, ap, refl}
use Rattle.std.proofs.lemmas.Result.{err_from_is_err_and}
use Rattle.d64_image.specs.Memory.{disk_image}
use Rattle.ledger_cli.proofs.Made.{image_written, made, made_in_part, not_made}
use Rattle.shop_commands.specs.Images.{AreFreshBytes}
use Rattle.ledger_cli.proofs.making.make_image.Goals as goal

pub returns-in_err-disk : goal.returns-in_err-disk
returns-in_err-disk g c =
    let p = err_from_is_err_and c.from_residual.result c.from_residual.ensures.1 in
    not_made g.F.Seek.stream_position g.F.Seek.stream_bytes g.F.Write.contents g.W.Write.contents (AreFreshBytes c.args.tills)
    c.args.file.now c.args.file.now c.args.out.now c.args.out.now c.from_residual.result _ (p.1 ∙ ap Err p.2)
    c.in_err-disk.ensures.err refl refl

pub returns-in_err-write_over : goal.returns-in_err-write_over
returns-in_err-write_over g c =
    let r = c.from_residual-in_err-write_over in
    let p = err_from_is_err_and r.result r.ensures.1 in
    let fresh : AreFreshBytes c.args.tills c.bytes.result.now =
    record { disk = disk_image c.in_ok-disk.disk; fresh = c.in_ok-disk.ensures.ok; bytes_of = c.bytes.ensures.value } in
    made_in_part g.F.Seek.stream_position g.F.Seek.stream_bytes g.F.Write.contents g.W.Write.contents (AreFreshBytes c.args.tills)
    c.args.file.now c.write_over.new.file c.args.out.now c.args.out.now c.bytes.result.now fresh r.result _
    (p.1 ∙ ap Err p.2) c.in_err-write_over.ensures refl

pub returns : goal.returns
returns g c =
    let fresh : AreFreshBytes c.args.tills c.bytes.result.now =
    record { disk = disk_image c.in_ok-disk.disk; fresh = c.in_ok-disk.ensures.ok; bytes_of = c.bytes.ensures.value } in
    made g.F.Seek.stream_position g.F.Seek.stream_bytes g.F.Write.contents g.W.Write.contents (AreFreshBytes c.args.tills)
    c.args.file.now c.write_over.new.file c.args.out.now c.print_whole.new.out
    (image_written g.F.Seek.stream_position g.F.Seek.stream_bytes g.F.Write.contents (AreFreshBytes c.args.tills) c.args.file.now
    c.write_over.new.file c.bytes.result.now c.bytes.ensures.size fresh c.in_ok-write_over.ensures)
    c.print_whole.result c.print_whole.ensures.ok c.print_whole.ensures.err
