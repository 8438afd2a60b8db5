-- What refuses the records before any is stored.
use Rattle.std.proofs.Common.{Err, ap, inl, refl, subst, sym, ◌∙◌}
use Rattle.std.proofs.lemmas.Result.{err_from_is_err_and}
use Rattle.disk_changes.specs.Judged.{HasStraysAlone}
use Rattle.disk_changes.proofs.lemmas.lines.Reached.{store-unusable}
use Rattle.disk_changes.proofs.lemmas.lines.TextGrown.{bad-line, find-refused, no-output}
use Rattle.disk_changes.specs.Judged.{IsUsableFault}
use Rattle.disk_changes.proofs.lines.record_storing.store_image.Goals as goal

pub returns-in_err-check_usable : goal.returns-in_err-check_usable
returns-in_err-check_usable g c =
    let p = err_from_is_err_and c.from_residual.result c.from_residual.ensures.1 in
    record {
      ok = rw (p.1 ∙ ap Err p.2) tt;
      err = rw (p.1 ∙ ap Err p.2)
          (store-unusable g.D.Sectors.history c.args.image.now c.args.name.now c.args.text.now c.args.disk.now
          c.args.out.now _ c.in_err-check_usable.ensures.err);
      part = rw (p.1 ∙ ap Err p.2) (inl (
        λ e. subst (IsUsableFault c.args.image.now) e c.in_err-check_usable.ensures.err,
        refl,
      ));
    }

pub returns-in_err-last : goal.returns-in_err-last
returns-in_err-last g c =
    let p = err_from_is_err_and c.from_residual-in_err-last.result c.from_residual-in_err-last.ensures.1 in
    record {
      ok = rw (p.1 ∙ ap Err p.2) tt;
      err = rw (p.1 ∙ ap Err (p.2 ∙ c.in_err-last.ensures.err)) (c.in_ok-check_usable.ensures.ok.0, refl, refl);
      part = rw (p.1 ∙ ap Err (p.2 ∙ c.in_err-last.ensures.err)) (inl (λ e. cc, refl));
    }

pub returns-in_err-file : goal.returns-in_err-file
returns-in_err-file g c =
    let S = g.D.Sectors.history in
    let usable = c.in_ok-check_usable.ensures.ok in
    let p = err_from_is_err_and c.from_residual-in_err-file.result c.from_residual-in_err-file.ensures.1 in
    record {
      ok = rw (p.1 ∙ ap Err p.2) tt;
      err = rw (p.1 ∙ ap Err p.2)
          (find-refused S c.args.image.now c.args.name.now c.args.text.now c.args.disk.now c.find.new.disk usable.0
          (subst HasStraysAlone (sym c.requires.holds) usable.1)
          c.args.out.now c.in_err-file.field-0.0 c.in_err-file.ensures);
      part = rw (p.1 ∙ ap Err p.2) (inl (no-output c.in_err-file.field-0.0, refl));
    }

pub check_lines-requires : goal.check_lines-requires
check_lines-requires g c = c.in_ok-last.ensures.ok

pub returns-in_err-most : goal.returns-in_err-most
returns-in_err-most g c =
    let S = g.D.Sectors.history in
    let usable = c.in_ok-check_usable.ensures.ok in
    let p = err_from_is_err_and c.from_residual-in_err-most.result c.from_residual-in_err-most.ensures.1 in
    let (k, is, bad) = c.in_err-most.ensures.err in
    record {
      ok = rw (p.1 ∙ ap Err p.2) tt;
      err = rw (p.1 ∙ ap Err (p.2 ∙ is))
          (bad-line S c.args.image.now c.args.name.now c.args.text.now c.args.disk.now c.find.new.disk usable.0
          (subst HasStraysAlone (sym c.requires.holds) usable.1)
          c.args.out.now c.in_ok-file.file c.in_ok-file.ensures k bad);
      part = rw (p.1 ∙ ap Err (p.2 ∙ is)) (inl (λ e. cc, refl));
    }
