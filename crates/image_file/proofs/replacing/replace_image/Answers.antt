-- Spoiled, filled, sealed, and named.
use Rattle.std.proofs.lemmas.Result.{err_from_is_err_and}
use Rattle.image_file.proofs.lemmas.replacing.Replacement.{not_filled_yet, not_sealed_yet, not_spoiled_yet, replaced}
use Rattle.image_file.proofs.replacing.replace_image.Goals as goal

pub returns-in_err-spoil : goal.returns-in_err-spoil
returns-in_err-spoil g c =
    let p = err_from_is_err_and c.from_residual.result c.from_residual.ensures.1 in
    not_spoiled_yet g.F.EndedFile.remains c.args.file.now c.spoil.new.file c.args.image.now c.spoil.result
    c.from_residual.result p.0 c.spoil.ensures p.1

pub returns-in_err-fill : goal.returns-in_err-fill
returns-in_err-fill g c =
    let p = err_from_is_err_and c.from_residual-in_err-fill.result c.from_residual-in_err-fill.ensures.1 in
    not_filled_yet g.F.EndedFile.remains c.args.file.now c.spoil.new.file c.fill.new.file c.args.image.now c.spoil.result
    c.fill.result c.from_residual-in_err-fill.result p.0 c.spoil.ensures c.fill.ensures p.1

pub returns-in_err-seal : goal.returns-in_err-seal
returns-in_err-seal g c =
    let p = err_from_is_err_and c.from_residual-in_err-seal.result c.from_residual-in_err-seal.ensures.1 in
    not_sealed_yet g.F.EndedFile.remains c.args.file.now c.spoil.new.file c.fill.new.file c.seal.new.file c.args.image.now
    c.from_residual-in_err-seal.result p.0 c.spoil.ensures.since c.fill.ensures.since c.seal.ensures.since p.1

pub returns : goal.returns
returns g c =
    replaced g.F.EndedFile.remains c.args.file.now c.spoil.new.file c.fill.new.file c.seal.new.file c.finish.new.self
    c.args.image.now c.finish.result c.spoil.ensures.since c.in_ok-spoil.ensures.held c.fill.ensures.since
    c.in_ok-fill.ensures.held c.seal.ensures.since c.in_ok-seal.ensures.ok c.in_ok-seal.ensures.held c.finish.ensures
