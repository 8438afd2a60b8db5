-- Both changes, one after the other.
use Rattle.std.proofs.Common.{◌∙◌, ◌++◌, Err, List, ap, inr, subst, sym, ℕ}
use Rattle.std.proofs.lemmas.Result.{IfOk-weaker, err_from_is_err_and}
use Rattle.d64_image.specs.Memory.{disk_image, sectors_in}
use Rattle.disk_changes.specs.Rebuilds.{IsRebuiltOf}
use Rattle.disk_changes.proofs.rebuilding.built_anew.Goals as goal
use Rattle.disk_changes.specs.mended.Repairs.{changed_text}

pub returns-in_err-then-clause-err : goal.returns-in_err-then-clause-err
returns-in_err-then-clause-err c =
    let p = err_from_is_err_and c.from_residual-in_err-then.result c.from_residual-in_err-then.ensures.1 in
    rw (p.1 ∙ ap Err p.2) (inr (
      c.bytes.result.now,
      subst (IsRebuiltOf c.args.image.now) (sym c.bytes.ensures.image) c.in_ok-disk.ensures.ok.0,
      c.in_err-then.ensures.err,
    ))

pub returns-clause-ok : goal.returns-clause-ok
returns-clause-ok c = IfOk-weaker c.after.result _ _
    (λ made is. record {
      bytes = c.bytes.result.now;
      built = subst (IsRebuiltOf c.args.image.now) (sym c.bytes.ensures.image) c.in_ok-disk.ensures.ok.0;
      second = c.in_ok-then.then;
      repaired = c.in_ok-then.ensures.ok;
      disk = is.0;
      left = is.1;
      text = is.2 ∙ ap (λ (t : List ℕ). t ++ c.in_ok-then.then.text.items)
          (c.in_ok-disk.ensures.ok.1
          ∙ ap (λ (t : List ℕ). t ++ changed_text (sectors_in c.args.image.now) (disk_image c.in_ok-disk.disk)) c.new-text.ensures.items
          ∙ ap (changed_text (sectors_in c.args.image.now)) (sym c.bytes.ensures.image));
    }) c.after.ensures.ok
