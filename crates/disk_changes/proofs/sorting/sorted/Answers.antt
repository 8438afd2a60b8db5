-- The directory is sorted, and the new disk judged.
use Rattle.std.proofs.Common.{Err, List, ap, inr, subst, sym, ℕ, ◌≡◌, ◌∙◌}
use Rattle.std.proofs.lemmas.Result.{IfOk-weaker, err_from_is_err_and}
use Rattle.d64_image.specs.Images.{Image}
use Rattle.d64_image.specs.Memory.{disk_image, sectors_in}
use Rattle.d64_image.specs.declared.mem_disk.MemDisk.{MemDisk}
use Rattle.disk_changes.specs.Judged.{IsSoundDisk}
use Rattle.disk_changes.specs.Sorts.{IsReordered}
use Rattle.disk_layout.specs.Layout.{IsLayout, Layout}
use Rattle.disk_changes.proofs.sorting.sorted.Goals as goal

reordered : (image bytes : List ℕ) (a b : MemDisk) (whole : IsSoundDisk image) → disk_image a ≡ sectors_in image
    → sectors_in bytes ≡ disk_image b
    → ((l : Layout) → IsLayout (disk_image a) l → IsReordered (disk_image a) l.directory (disk_image b))
    → IsReordered (sectors_in image) whole.layout.directory (sectors_in bytes)
reordered image bytes a b whole is same all =
    subst (λ (i : Image). IsReordered i whole.layout.directory (sectors_in bytes)) is
    (subst (IsReordered (disk_image a) whole.layout.directory) (sym same)
    (all whole.layout (subst (λ (i : Image). IsLayout i whole.layout) (sym is) whole.sound)))

pub returns-in_err-judged-clause-err : goal.returns-in_err-judged-clause-err
returns-in_err-judged-clause-err c =
    let p = err_from_is_err_and c.from_residual-in_err-judged.result c.from_residual-in_err-judged.ensures.1 in
    rw (p.1 ∙ ap Err p.2) (inr (
      c.in_ok-disk.ensures.ok.0,
      c.bytes.result.now,
      reordered c.args.image.now c.bytes.result.now c.in_ok-disk.disk c.sort_directory.new.disk c.in_ok-disk.ensures.ok.0
          c.in_ok-disk.ensures.ok.1 c.bytes.ensures.image c.in_ok-sort_directory.ensures.ok,
      c.in_err-judged.ensures.err,
    ))

pub returns-clause-ok : goal.returns-clause-ok
returns-clause-ok c = IfOk-weaker c.changed.result _ _
    (λ made is. record {
      before = c.in_ok-disk.ensures.ok.0;
      bytes = c.bytes.result.now;
      reordered = reordered c.args.image.now c.bytes.result.now c.in_ok-disk.disk c.sort_directory.new.disk
          c.in_ok-disk.ensures.ok.0 c.in_ok-disk.ensures.ok.1 c.bytes.ensures.image c.in_ok-sort_directory.ensures.ok;
      sound = c.in_ok-judged.ensures.ok.0;
      after = ap (λ (d : MemDisk). disk_image d) is.0 ∙ c.in_ok-judged.ensures.ok.1;
      text = is.1;
    }) c.changed.ensures.ok
