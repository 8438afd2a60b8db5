-- Why a store ends before all lines are stored.
use Rattle.std.proofs.Common.{Ok, Err, ℕ, ap, inl, refl, subst, sym, ◌∙◌}
use Rattle.std.proofs.lemmas.Result.{err_from_is_err_and}
use Rattle.disk_changes.specs.Judged.{HasStraysAlone}
use Rattle.disk_changes.proofs.lemmas.lines.TextGrown.{grow-refused, no-output}
use Rattle.disk_changes.proofs.lemmas.lines.TextStored.{stopped-part, store-refused}
use Rattle.rel_records.specs.Calls.{Grows}
use Rattle.disk_changes.proofs.lines.record_storing.store_image.Goals as goal

pub returns-in_err-grow_to : goal.returns-in_err-grow_to
returns-in_err-grow_to g c =
    let S = g.D.Sectors.history in
    let usable = c.in_ok-check_usable.ensures.ok in
    let (xs, are, is, tells) = c.in_ok-most.ensures.ok in
    let p = err_from_is_err_and c.from_residual-in_err-grow_to.result c.from_residual-in_err-grow_to.ensures.1 in
    record {
      ok = rw (p.1 ∙ ap Err p.2) tt;
      err = rw (p.1 ∙ ap Err p.2)
          (grow-refused S c.args.image.now c.args.name.now c.args.text.now c.args.disk.now c.find.new.disk usable.0
          (subst HasStraysAlone (sym c.requires.holds) usable.1)
          c.args.out.now c.in_ok-file.file c.in_ok-file.ensures xs are c.check_lines.new.last.places.items tells c.grow_to.new.disk
          c.grow_to.new.file c.in_err-grow_to.field-0.0
          (subst (λ (m : ℕ). Grows S c.find.new.disk c.grow_to.new.disk c.in_ok-file.file c.grow_to.new.file m
          (Err c.in_err-grow_to.field-0.0)) is c.in_err-grow_to.ensures));
      part = rw (p.1 ∙ ap Err p.2) (inl (no-output c.in_err-grow_to.field-0.0, refl));
    }

pub returns-in_err-store_lines : goal.returns-in_err-store_lines
returns-in_err-store_lines g c =
    let S = g.D.Sectors.history in
    let usable = c.in_ok-check_usable.ensures.ok in
    let (xs, are, is, tells) = c.in_ok-most.ensures.ok in
    let p = err_from_is_err_and c.from_residual-in_err-store_lines.result c.from_residual-in_err-store_lines.ensures.1
    in
    record {
      ok = rw (p.1 ∙ ap Err p.2) tt;
      err = rw (p.1 ∙ ap Err p.2)
          (store-refused S c.args.image.now c.args.name.now c.args.text.now c.args.disk.now c.find.new.disk usable.0
          (subst HasStraysAlone (sym c.requires.holds) usable.1)
          c.args.out.now c.in_ok-file.file c.in_ok-file.ensures xs are c.check_lines.new.last.places.items tells c.grow_to.new.disk
          c.grow_to.new.file
          (subst (λ (m : ℕ). Grows S c.find.new.disk c.grow_to.new.disk c.in_ok-file.file c.grow_to.new.file m
          (Ok tt)) is c.in_ok-grow_to.ensures)
          g.W.Write.contents c.store_lines.new.disk c.store_lines.new.out c.store_lines.new.file
          c.in_err-store_lines.field-0.0 c.in_err-store_lines.ensures);
      part = rw (p.1 ∙ ap Err p.2)
          (stopped-part S c.args.image.now c.args.name.now c.args.text.now c.args.disk.now c.find.new.disk usable.0
          (subst HasStraysAlone (sym c.requires.holds) usable.1)
          c.args.out.now c.in_ok-file.file c.in_ok-file.ensures xs are c.check_lines.new.last.places.items tells c.grow_to.new.disk
          c.grow_to.new.file
          (subst (λ (m : ℕ). Grows S c.find.new.disk c.grow_to.new.disk c.in_ok-file.file c.grow_to.new.file m
          (Ok tt)) is c.in_ok-grow_to.ensures)
          g.W.Write.contents c.store_lines.new.disk c.store_lines.new.out c.store_lines.new.file
          c.in_err-store_lines.field-0.0 c.in_err-store_lines.ensures);
    }
