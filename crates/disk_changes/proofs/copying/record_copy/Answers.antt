-- The file was made, filled, and is locked if the other one is.
use Rattle.std.proofs.Common.{Err, List, ap, inl, inr, subst, sym, ◌∙◌, ◌≡◌, ℕ}
use Rattle.std.proofs.lemmas.Result.{IfErr-weaker, IfOk-weaker, err_from_is_err_and}
use Rattle.command_faults.specs.declared.faults.CommandFault.{CommandFault}
use Rattle.d64_image.specs.declared.mem_disk.MemDisk.{MemDisk}
use Rattle.damaged_files.specs.declared.sides.planning.Loss.{Loss}
use Rattle.disk_changes.specs.Copies.{HasLockOf, IsNoRecordCopyOf}
use Rattle.disk_changes.specs.Makes.{IsMade}
use Rattle.disk_changes.specs.declared.changes.Changed.{Changed}
use Rattle.rel_records.specs.File.{IsLength}
use Rattle.disk_changes.proofs.copying.record_copy.Goals as goal

made-of : (image to : List ℕ) (cut : Loss) (first : Changed) (size L : ℕ) → size ≡ L → IsMade image to size cut first
    → IsMade image to L cut first
made-of image to cut first size L is made = subst (λ (n : ℕ). IsMade image to n cut first) is made

pub returns-in_err-second-clause-err : goal.returns-in_err-second-clause-err
returns-in_err-second-clause-err c =
    let p = err_from_is_err_and c.from_residual-in_err-second.result c.from_residual-in_err-second.ensures.1 in
    rw (p.1 ∙ ap Err p.2) (inr (inr (
      c.in_ok-first.first,
      made-of c.args.image.now c.args.to.now c.args.cut c.in_ok-first.first c.in-Some.size _ c.in-Some.ensures.0 c.in_ok-first.ensures.ok,
      c.bytes.result.now,
      c.bytes.ensures.image,
      inl c.in_err-second.ensures.err,
    )))

pub returns-in_err-disk-clause-err : goal.returns-in_err-disk-clause-err
returns-in_err-disk-clause-err c =
    let p = err_from_is_err_and c.from_residual-in_err-disk.result c.from_residual-in_err-disk.ensures.1 in
    rw (p.1 ∙ ap Err p.2) (inr (inr (
      c.in_ok-first.first,
      made-of c.args.image.now c.args.to.now c.args.cut c.in_ok-first.first c.in-Some.size _ c.in-Some.ensures.0 c.in_ok-first.ensures.ok,
      c.bytes.result.now,
      c.bytes.ensures.image,
      inr (c.in_ok-second.second, c.in_ok-second.ensures.ok, c.in_err-disk.ensures.err),
    )))

pub returns-clause-ok : goal.returns-clause-ok
returns-clause-ok c = IfOk-weaker c.changed.result _ _
    (λ made is. record {
      length_is = subst IsLength c.in-Some.ensures.0 c.in-Some.ensures.1;
      first = c.in_ok-first.first;
      new = made-of c.args.image.now c.args.to.now c.args.cut c.in_ok-first.first c.in-Some.size _ c.in-Some.ensures.0 c.in_ok-first.ensures.ok;
      bytes = c.bytes.result.now;
      held = c.bytes.ensures.image;
      second = c.in_ok-second.second;
      filled = c.in_ok-second.ensures.ok;
      lock = subst (λ (d : MemDisk). HasLockOf c.args.entry.now c.args.to.now c.in_ok-second.second d) (sym is.0)
          c.in_ok-disk.ensures.ok;
      text = is.1;
    }) c.changed.ensures.ok

pub returns-clause-err : goal.returns-clause-err
returns-clause-err c = IfErr-weaker c.changed.result _ _
    (λ why is. subst (λ (w : CommandFault). IsNoRecordCopyOf c.args.entry.now c.args.text.now c.args.to.now c.args.image.now c.args.cut w)
    (sym is) (inr (inl c.in_ok-first.ensures.ok.before.taken.0))) c.changed.ensures.err
