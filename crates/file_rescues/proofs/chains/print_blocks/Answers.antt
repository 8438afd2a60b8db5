-- One block's bytes more.
use Rattle.std.proofs.Common.{◌∙◌, Err, List, ap, refl, subst, sym}
use Rattle.std.proofs.lemmas.List.{take_all}
use Rattle.std.proofs.lemmas.Result.{err_from_is_err_and}
use Rattle.std.proofs.KnownBytes.{Appends-nil}
use Rattle.std.specs.Io.KnownBytes.{Appends}
use Rattle.d64_image.specs.Memory.{disk_image}
use Rattle.d64_image.specs.declared.place.Place.{Place}
use Rattle.disk_layout.specs.Records.{joined}
use Rattle.disk_layout.proofs.lemmas.records.Joined.{joined-nil}
use Rattle.file_rescues.specs.Forms.{bytes_as}
use Rattle.file_rescues.proofs.Blocks.{as-nil, block-more, block-part}
use Rattle.file_rescues.proofs.chains.print_blocks.Goals as goal

pub loop-place-init : goal.loop-place-init
loop-place-init g c =
    let before = g.W.Write.contents c.args.out.now in
    let none = ap (bytes_as c.args.form) (joined-nil (disk_image c.args.disk.now)) ∙ as-nil c.args.form in
    subst (Appends before before) (sym none) (Appends-nil before)

pub loop-place-preserved : goal.loop-place-preserved
loop-place-preserved g c =
    block-more _ _ _ c.args.form (disk_image c.args.disk.now) (disk_image c.args.disk.now) c.args.places.now
    c.loop-place.place-index c.place-item.result c.args.disk.now.whole refl c.loop-place-test.true (sym c.place-item.is)
    c.loop-place.invariant c.in_ok-print_block.ensures.ok

pub returns-in_err-print_block : goal.returns-in_err-print_block
returns-in_err-print_block g c =
    let p = err_from_is_err_and c.from_residual.result c.from_residual.ensures.1 in
    record {
      ok = rw (p.1 ∙ ap Err p.2) tt;
      part = rw (p.1 ∙ ap Err p.2) (block-part _ _ _ c.args.form (disk_image c.args.disk.now)
          (disk_image c.args.disk.now) c.args.places.now c.loop-place.place-index c.place-item.result
          c.args.disk.now.whole refl c.loop-place-test.true (sym c.place-item.is)
          c.loop-place.invariant c.in_err-print_block.ensures.part);
      err = rw (p.1 ∙ ap Err p.2) c.in_err-print_block.ensures.err;
    }

pub returns : goal.returns
returns g c = record {
  ok = subst (λ (ps : List Place). Appends (g.W.Write.contents c.args.out.now) (g.W.Write.contents c.loop-place.out)
      (bytes_as c.args.form (joined (disk_image c.args.disk.now) ps)))
      (take_all c.loop-place.place-index c.args.places.now c.loop-place-test.false)
      c.loop-place.invariant;
  part = tt;
  err = tt;
}
