-- The side sectors were rebuilt and what changed was printed; or why not.
use Rattle.std.proofs.Common.{Err, Ok, ap, inl, refl, sym, subst, ◌∙◌}
use Rattle.std.proofs.lemmas.Result.{err_from_is_err_and}
use Rattle.d64_image.specs.Images.{Image, sector}
use Rattle.disk_layout.specs.Directory.{map_place}
use Rattle.disk_changes.specs.mended.Kinds.{IsKindFault, IsPlainDisk}
use Rattle.disk_changes.proofs.lemmas.mended.Rebuilds.{done-rebuilt, kind-unrebuilt, load-unrebuilt, print-unrebuilt, rebuild-part}
use Rattle.disk_changes.proofs.lemmas.mended.Rebuilds.{unrebuilt}
use Rattle.disk_changes.proofs.mended.rebuilding.rebuild_image.Goals as goal

pub returns-in_err-before : goal.returns-in_err-before
returns-in_err-before g c =
    let p = err_from_is_err_and c.from_residual.result c.from_residual.ensures.1 in
    record {
      ok = rw (p.1 ∙ ap Err p.2) tt;
      err = rw (p.1 ∙ ap Err p.2) (load-unrebuilt g.D.Sectors.history c.args.image.now c.args.disk.now c.args.out.now _
          c.in_err-before.ensures.err);
      part = rw (p.1 ∙ ap Err p.2) (inl refl);
    }

pub returns-in_err-judge_kind : goal.returns-in_err-judge_kind
returns-in_err-judge_kind g c =
    let loaded = c.in_ok-before.ensures.ok in
    let p = err_from_is_err_and c.from_residual-in_err-judge_kind.result
    c.from_residual-in_err-judge_kind.ensures.1 in
    record {
      ok = rw (p.1 ∙ ap Err p.2) tt;
      err = rw (p.1 ∙ ap Err p.2) (kind-unrebuilt g.D.Sectors.history c.args.image.now c.args.disk.now c.args.out.now _
          loaded.0 (subst (λ (img : Image). IsKindFault (sector img map_place) c.in_err-judge_kind.field-0.0)
          (loaded.1 ∙ sym c.requires.holds) c.in_err-judge_kind.ensures.other));
      part = rw (p.1 ∙ ap Err p.2) (inl refl);
    }

pub returns-in_err-after : goal.returns-in_err-after
returns-in_err-after g c =
    let p = err_from_is_err_and c.from_residual-in_err-after.result c.from_residual-in_err-after.ensures.1 in
    record {
      ok = rw (p.1 ∙ ap Err p.2) tt;
      err = rw (p.1 ∙ ap Err p.2) (load-unrebuilt g.D.Sectors.history c.args.image.now c.args.disk.now c.args.out.now _
          c.in_err-after.ensures.err);
      part = rw (p.1 ∙ ap Err p.2) (inl refl);
    }

pub returns-in-Err-clause-err : goal.returns-in-Err-clause-err
returns-in-Err-clause-err g c =
    let loaded = c.in_ok-before.ensures.ok in
    let plain = subst (λ (img : Image). IsPlainDisk (sector img map_place)) (loaded.1 ∙ sym c.requires.holds)
    c.in_ok-judge_kind.ensures.plain in
    rw c.refusal.ensures (unrebuilt g.D.Sectors.history c.args.image.now c.args.disk.now loaded.0 plain
    c.rebuild_sides.new.disk (Err c.in-Err.fault) c.in-Err.ensures.rebuilds c.args.out.now c.in-Err.fault
    c.in-Err.ensures.rebuilds.err)

pub returns-clause-ok : goal.returns-clause-ok
returns-clause-ok g c =
    let S = g.D.Sectors.history in
    let loaded = c.in_ok-before.ensures.ok in
    let same = c.in-Ok.ensures.same ∙ loaded.1 ∙ sym c.requires.holds in
    let plain = subst (λ (img : Image). IsPlainDisk (sector img map_place)) (loaded.1 ∙ sym c.requires.holds)
    c.in_ok-judge_kind.ensures.plain in
    done-rebuilt S c.args.image.now c.args.disk.now loaded.0 plain c.rebuild_sides.new.disk (Ok c.in-Ok.field-0)
    c.in-Ok.ensures.rebuilds g.W.Write.contents c.args.out.now c.print_changed.new.out c.in-Ok.ensures.rebuilds.ok
    c.print_changed.new.after c.print_changed.ensures.quiet _ same c.print_changed.result c.print_changed.ensures.ok

pub returns-clause-err : goal.returns-clause-err
returns-clause-err g c =
    let S = g.D.Sectors.history in
    let loaded = c.in_ok-before.ensures.ok in
    let plain = subst (λ (img : Image). IsPlainDisk (sector img map_place)) (loaded.1 ∙ sym c.requires.holds)
    c.in_ok-judge_kind.ensures.plain in
    print-unrebuilt S c.args.image.now c.args.disk.now loaded.0 plain c.rebuild_sides.new.disk (Ok c.in-Ok.field-0)
    c.in-Ok.ensures.rebuilds c.args.out.now c.print_changed.new.out c.in-Ok.ensures.rebuilds.ok
    c.in-Ok.ensures.rebuilds.unfailed c.print_changed.new.after c.print_changed.ensures.quiet c.print_changed.result
    c.print_changed.ensures.told

pub returns-in-Err-clause-part : goal.returns-in-Err-clause-part
returns-in-Err-clause-part g c = inl refl

pub returns-clause-part : goal.returns-clause-part
returns-clause-part g c =
    let S = g.D.Sectors.history in
    let loaded = c.in_ok-before.ensures.ok in
    let same = c.in-Ok.ensures.same ∙ loaded.1 ∙ sym c.requires.holds in
    let plain = subst (λ (img : Image). IsPlainDisk (sector img map_place)) (loaded.1 ∙ sym c.requires.holds)
    c.in_ok-judge_kind.ensures.plain in
    rebuild-part S c.args.image.now c.args.disk.now loaded.0 plain c.rebuild_sides.new.disk (Ok c.in-Ok.field-0)
    c.in-Ok.ensures.rebuilds g.W.Write.contents c.args.out.now c.print_changed.new.out c.in-Ok.ensures.rebuilds.ok
    c.print_changed.new.after c.print_changed.ensures.quiet _ same c.print_changed.result c.print_changed.ensures.part
