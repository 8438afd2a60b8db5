-- The disk was repaired and what was mended was printed; or why not.
use Rattle.std.proofs.Common.{Err, ap, inl, refl, sym, subst, ◌∙◌}
use Rattle.std.proofs.lemmas.Result.{err_from_is_err_and}
use Rattle.std.specs.Io.KnownBytes.{Appends}
use Rattle.d64_image.specs.Images.{Image, sector}
use Rattle.disk_layout.specs.Directory.{map_place}
use Rattle.disk_changes.proofs.lemmas.mended.Repairs.{kind-refused, load-refused, mended-quiet, print-refused, refused, repair-part}
use Rattle.disk_changes.proofs.lemmas.mended.Repairs.{run-only}
use Rattle.disk_changes.specs.mended.Kinds.{IsKindFault, IsPlainDisk}
use Rattle.disk_changes.specs.mended.Repairs.{mended_text}
use Rattle.disk_changes.proofs.mended.mending.repair_image.Goals as goal

pub returns-in_err-before : goal.returns-in_err-before
returns-in_err-before g c =
    let p = err_from_is_err_and c.from_residual.result c.from_residual.ensures.1 in
    record {
      ok = rw (p.1 ∙ ap Err p.2) tt;
      err = rw (p.1 ∙ ap Err p.2) (load-refused g.D.Sectors.history c.args.free c.args.image.now c.args.disk.now
          c.args.out.now _ c.in_err-before.ensures.err);
      part = rw (p.1 ∙ ap Err p.2) (inl refl);
    }

pub returns-in_err-judge_kind : goal.returns-in_err-judge_kind
returns-in_err-judge_kind g c =
    let S = g.D.Sectors.history in
    let loaded = c.in_ok-before.ensures.ok in
    let p = err_from_is_err_and c.from_residual-in_err-judge_kind.result
    c.from_residual-in_err-judge_kind.ensures.1 in
    record {
      ok = rw (p.1 ∙ ap Err p.2) tt;
      err = rw (p.1 ∙ ap Err p.2) (kind-refused S c.args.free c.args.image.now c.args.disk.now c.args.out.now _ loaded.0
          (subst (λ (img : Image). IsKindFault (sector img map_place) c.in_err-judge_kind.field-0.0)
          (loaded.1 ∙ sym c.requires.holds) c.in_err-judge_kind.ensures.other));
      part = rw (p.1 ∙ ap Err p.2) (inl refl);
    }

pub returns-in-Err-clause-err : goal.returns-in-Err-clause-err
returns-in-Err-clause-err g c =
    let S = g.D.Sectors.history in
    let loaded = c.in_ok-before.ensures.ok in
    let plain = subst (λ (img : Image). IsPlainDisk (sector img map_place)) (loaded.1 ∙ sym c.requires.holds)
    c.in_ok-judge_kind.ensures.plain in
    let run = run-only S c.args.free c.args.image.now c.args.disk.now c.mended.new.disk loaded.0 plain c.mended.result
    c.mended.ensures in
    rw c.refusal.ensures (refused S c.args.free c.args.image.now c.args.disk.now c.mended.new.disk c.args.out.now
    loaded.0 plain c.mended.ensures.unsound run c.in-Err.fault c.in-Err.ensures.err c.in-Err.ensures.failures)

pub returns-in-Err-print_mended-clause-err : goal.returns-in-Err-print_mended-clause-err
returns-in-Err-print_mended-clause-err g c =
    let S = g.D.Sectors.history in
    let loaded = c.in_ok-before.ensures.ok in
    let plain = subst (λ (img : Image). IsPlainDisk (sector img map_place)) (loaded.1 ∙ sym c.requires.holds)
    c.in_ok-judge_kind.ensures.plain in
    print-refused S c.args.free c.args.image.now c.args.disk.now c.mended.new.disk c.print_mended.new.after
    c.args.out.now c.print_mended.new.out (Err c.in-Err-print_mended.fault) c.in-Ok.kept
    (mended-quiet S c.args.free c.args.image.now c.args.disk.now c.mended.new.disk loaded.0 plain c.mended.result
    c.mended.ensures c.print_mended.new.after c.print_mended.ensures.quiet c.in-Ok.kept c.in-Ok.ensures.ok)
    c.in-Ok.ensures.failures c.in-Err-print_mended.ensures.told

pub returns-clause-ok : goal.returns-clause-ok
returns-clause-ok g c =
    let S = g.D.Sectors.history in
    let loaded = c.in_ok-before.ensures.ok in
    let same = loaded.1 ∙ sym c.requires.holds in
    let plain = subst (λ (img : Image). IsPlainDisk (sector img map_place)) (loaded.1 ∙ sym c.requires.holds)
    c.in_ok-judge_kind.ensures.plain in
    record {
      mended = mended-quiet S c.args.free c.args.image.now c.args.disk.now c.mended.new.disk loaded.0 plain
          c.mended.result c.mended.ensures c.print_mended.new.after c.print_mended.ensures.quiet c.in-Ok.kept
          c.in-Ok.ensures.ok;
      printed = subst (λ (img : Image). Appends (g.W.Write.contents c.args.out.now)
          (g.W.Write.contents c.print_mended.new.out) (mended_text (S.image c.args.disk.now) img c.in-Ok.kept))
          (sym c.print_mended.ensures.quiet.image)
          (subst (λ (img : Image). Appends (g.W.Write.contents c.args.out.now) (g.W.Write.contents c.print_mended.new.out)
          (mended_text img (S.image c.mended.new.disk) c.in-Ok.kept)) same c.in-Ok-print_mended.ensures.ok);
    }

pub returns-in-Err-clause-part : goal.returns-in-Err-clause-part
returns-in-Err-clause-part g c = inl refl

pub returns-in-Err-print_mended-clause-part : goal.returns-in-Err-print_mended-clause-part
returns-in-Err-print_mended-clause-part g c =
    let S = g.D.Sectors.history in
    let loaded = c.in_ok-before.ensures.ok in
    let plain = subst (λ (img : Image). IsPlainDisk (sector img map_place)) (loaded.1 ∙ sym c.requires.holds)
    c.in_ok-judge_kind.ensures.plain in
    repair-part S c.args.free g.W.Write.contents c.args.image.now c.args.disk.now c.mended.new.disk
    c.print_mended.new.after c.args.out.now c.print_mended.new.out _ c.in-Ok.kept
    (mended-quiet S c.args.free c.args.image.now c.args.disk.now c.mended.new.disk loaded.0 plain c.mended.result
    c.mended.ensures c.print_mended.new.after c.print_mended.ensures.quiet c.in-Ok.kept c.in-Ok.ensures.ok)
    (loaded.1 ∙ sym c.requires.holds) c.print_mended.ensures.quiet
    c.in-Err-print_mended.ensures.part
