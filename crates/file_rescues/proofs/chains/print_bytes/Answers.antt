-- The whole blocks and the last one are the file's bytes.
use Rattle.std.proofs.Common.{◌∙◌, Err, ap, arith, refl, subst, sym}
use Rattle.std.proofs.KnownBytes.{Appends-nil}
use Rattle.std.specs.Io.KnownBytes.{Appends}
use Rattle.std.proofs.lemmas.Result.{err_from_is_err_and, on_err_weaker, on_ok_weaker}
use Rattle.d64_image.specs.Memory.{disk_image}
use Rattle.file_rescues.specs.Forms.{bytes_as}
use Rattle.file_rescues.proofs.Blocks.{as-nil, end-part, file-none, file-printed, front-part}
use Rattle.file_rescues.proofs.chains.print_bytes.Goals as goal

pub returns-in-empty-clause-ok : goal.returns-in-empty-clause-ok
returns-in-empty-clause-ok g c =
    let before = g.W.Write.contents c.args.out.now in
    let none = file-none (disk_image c.args.disk.now) c.args.blocks.now c.args.last
    (omega (arith, c.in-empty.len_below)) in
    subst (Appends before before) (sym (as-nil c.args.form) ∙ ap (bytes_as c.args.form) none) (Appends-nil before)

pub returns-in_ok-print_blocks-in-len1-up-clause-ok : goal.returns-in_ok-print_blocks-in-len1-up-clause-ok
returns-in_ok-print_blocks-in-len1-up-clause-ok g c =
    let done = c.in_ok-print_blocks-in-len1-up.ensures in
    on_ok_weaker c.print_block.result
    (file-printed _ _ _ c.args.form (disk_image c.args.disk.now) _ c.args.blocks.now c.end-item.result c.args.last
    c.args.disk.now.whole refl
    c.in-len1-up.len_at_least (sym c.end-item.is) done.ok)
    c.print_block.ensures.ok

pub returns-in_err-print_blocks-in-len1-up-clause-part : goal.returns-in_err-print_blocks-in-len1-up-clause-part
returns-in_err-print_blocks-in-len1-up-clause-part g c =
    let p = err_from_is_err_and c.from_residual.result c.from_residual.ensures.1 in
    rw (p.1 ∙ ap Err p.2) (front-part _ _ c.args.form (disk_image c.args.disk.now) c.args.blocks.now c.end-item.result
    c.args.last c.args.disk.now.whole c.in-len1-up.len_at_least (sym c.end-item.is)
    c.in_err-print_blocks-in-len1-up.ensures.part)

pub returns-in_ok-print_blocks-in-len1-up-clause-part : goal.returns-in_ok-print_blocks-in-len1-up-clause-part
returns-in_ok-print_blocks-in-len1-up-clause-part g c =
    let done = c.in_ok-print_blocks-in-len1-up.ensures in
    on_err_weaker c.print_block.result
    (end-part _ _ _ c.args.form (disk_image c.args.disk.now) _ c.args.blocks.now c.end-item.result c.args.last
    c.args.disk.now.whole refl
    c.in-len1-up.len_at_least (sym c.end-item.is) done.ok)
    c.print_block.ensures.part
