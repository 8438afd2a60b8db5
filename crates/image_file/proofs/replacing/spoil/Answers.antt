-- 18/1 is spoiled, and then that is brought to the disk.
use Rattle.std.proofs.Common.{lit<, ℕ}
use Rattle.std.proofs.lemmas.List.{get_or-replicate, length-replicate}
use Rattle.std.proofs.lemmas.Result.{err_from_is_err_and}
use Rattle.image_file.proofs.lemmas.replacing.Spoiling.{not_spoiled, spoiling}
use Rattle.image_file.proofs.replacing.spoil.Goals as goal

pub returns-in_err-write_over : goal.returns-in_err-write_over
returns-in_err-write_over g c =
    let p = err_from_is_err_and c.from_residual.result c.from_residual.ensures.1 in
    not_spoiled g.F.EndedFile.remains c.args.file.now c.write_over.new.self _ c.from_residual.result p.0 (length-replicate {A = ℕ} 256 255)
    (get_or-replicate {A = ℕ} 256 0 255 0 (lit< tt)) c.write_over.ensures.remain p.1

pub returns : goal.returns
returns g c =
    spoiling g.F.EndedFile.remains c.args.file.now c.write_over.new.self c.sync_whole.new.self _ c.sync_whole.result
    (length-replicate {A = ℕ} 256 255) (get_or-replicate {A = ℕ} 256 0 255 0 (lit< tt))
    c.in_ok-write_over.ensures.held c.write_over.ensures.remain c.sync_whole.ensures
