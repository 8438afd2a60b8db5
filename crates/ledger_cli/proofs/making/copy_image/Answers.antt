-- The image first, then the word of it.
use Rattle.std.proofs.Common.{refl}
use Rattle.ledger_cli.proofs.Copied.{copied, copied_in_part, image_handed}
use Rattle.ledger_cli.proofs.making.copy_image.Goals as goal

pub returns-in-Err : goal.returns-in-Err
returns-in-Err g c = copied_in_part g.F.Seek.stream_position g.F.Seek.stream_bytes g.F.Write.contents g.W.Write.contents
    c.args.image.now c.args.file.now c.write_over.new.file c.args.out.now c.args.out.now c.if-image-ne-IMAGE_BYTES.false
    c.in-Err.fault c.in-Err.ensures refl

pub returns-in-Ok : goal.returns-in-Ok
returns-in-Ok g c = copied g.F.Seek.stream_position g.F.Seek.stream_bytes g.F.Write.contents g.W.Write.contents
    c.args.image.now c.args.file.now c.write_over.new.file c.args.out.now c.print_whole.new.out c.if-image-ne-IMAGE_BYTES.false
    (image_handed g.F.Seek.stream_position g.F.Seek.stream_bytes g.F.Write.contents c.args.file.now c.write_over.new.file
    c.args.image.now c.if-image-ne-IMAGE_BYTES.false c.in-Ok.ensures)
    c.print_whole.result c.print_whole.ensures.ok c.print_whole.ensures.err
