-- The last sector makes it the image.
use Rattle.std.proofs.Common.{arith, refl, length-take, length-drop, take, drop}
use Rattle.std.proofs.lemmas.Result.{err_from_is_err_and}
use Rattle.image_file.proofs.lemmas.replacing.Sealing.{not_sealed, sealing}
use Rattle.image_file.proofs.replacing.seal.Goals as goal

pub returns-in_err-write_over : goal.returns-in_err-write_over
returns-in_err-write_over g c =
    let p = err_from_is_err_and c.from_residual.result c.from_residual.ensures.1 in
    let image = c.args.image.now in
    not_sealed g.F.EndedFile.remains c.args.file.now c.write_over.new.self image (take 256 (drop 91648 image))
    c.from_residual.result p.0 c.requires.size refl
    (omega (arith, c.requires.size, length-take 256 (drop 91648 image), length-drop 91648 image)) c.requires.filled
    c.write_over.ensures.remain p.1

pub returns : goal.returns
returns g c =
    let image = c.args.image.now in
    sealing g.F.EndedFile.remains c.args.file.now c.write_over.new.self c.sync_whole.new.self image
    (take 256 (drop 91648 image)) c.sync_whole.result c.requires.size refl
    (omega (arith, c.requires.size, length-take 256 (drop 91648 image), length-drop 91648 image)) c.requires.filled
    c.in_ok-write_over.ensures.held c.write_over.ensures.remain c.sync_whole.ensures
