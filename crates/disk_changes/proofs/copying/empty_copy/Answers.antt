-- A file of one block is put there, gives its block back, and is locked if the other one is.
use Rattle.std.proofs.Common.{Err, ap, inl, inr, subst, sym, ◌∙◌}
use Rattle.std.proofs.lemmas.Result.{IfErr-weaker, IfOk-weaker, err_from_is_err_and}
use Rattle.command_faults.specs.declared.faults.CommandFault.{CommandFault}
use Rattle.d64_image.specs.Memory.{disk_image}
use Rattle.d64_image.specs.declared.mem_disk.MemDisk.{MemDisk}
use Rattle.disk_changes.specs.Copies.{HasLockOf, IsNoEmptyCopyOf}
use Rattle.disk_changes.specs.Empties.{IsEmptied}
use Rattle.disk_changes.proofs.copying.empty_copy.Goals as goal

pub returns-in_err-empty-clause-err : goal.returns-in_err-empty-clause-err
returns-in_err-empty-clause-err c =
    let p = err_from_is_err_and c.from_residual-in_err-empty.result c.from_residual-in_err-empty.ensures.1 in
    rw (p.1 ∙ ap Err p.2) (inr (
      c.in-Some.kind,
      sym c.plain_type.ensures ∙ c.in-Some.is,
      inr (c.in_ok-first.first, c.in_ok-first.ensures.ok, inl c.in_err-empty.ensures.err),
    ))

pub returns-in_err-freed-clause-err : goal.returns-in_err-freed-clause-err
returns-in_err-freed-clause-err c =
    let p = err_from_is_err_and c.from_residual-in_err-freed.result c.from_residual-in_err-freed.ensures.1 in
    rw (p.1 ∙ ap Err (p.2 ∙ c.in_err-freed.ensures.err)) (inr (
      c.in-Some.kind,
      sym c.plain_type.ensures ∙ c.in-Some.is,
      inl c.in_ok-first.ensures.ok.before.taken.0,
    ))

pub returns-in_err-disk-clause-err : goal.returns-in_err-disk-clause-err
returns-in_err-disk-clause-err c =
    let p = err_from_is_err_and c.from_residual-in_err-disk.result c.from_residual-in_err-disk.ensures.1 in
    let put = c.in_ok-first.ensures.ok in
    let freed = c.in_ok-freed.freed in
    rw (p.1 ∙ ap Err p.2) (inr (
      c.in-Some.kind,
      sym c.plain_type.ensures ∙ c.in-Some.is,
      inr (
        c.in_ok-first.first,
        put,
        inr (
          freed,
          subst (λ (d : MemDisk). IsEmptied (disk_image c.in_ok-first.first.disk) put.after.layout c.args.to.now (disk_image d))
              (sym c.in_ok-freed.ensures.ok.0) (c.in_ok-empty.ensures.ok put.after.layout put.after.sound),
          c.in_err-disk.ensures.err,
        ),
      ),
    ))

pub returns-clause-ok : goal.returns-clause-ok
returns-clause-ok c = IfOk-weaker c.changed-2.result _ _
    (λ made is.
    let put = c.in_ok-first.ensures.ok in
    record {
      kind = c.in-Some.kind;
      kind_is = sym c.plain_type.ensures ∙ c.in-Some.is;
      first = c.in_ok-first.first;
      put = put;
      second = c.in_ok-freed.freed;
      empty = subst (λ (d : MemDisk). IsEmptied (disk_image c.in_ok-first.first.disk) put.after.layout c.args.to.now
          (disk_image d)) (sym c.in_ok-freed.ensures.ok.0) (c.in_ok-empty.ensures.ok put.after.layout put.after.sound);
      lock = subst (λ (d : MemDisk). HasLockOf c.args.entry.now c.args.to.now c.in_ok-freed.freed d) (sym is.0)
          c.in_ok-disk.ensures.ok;
      text = is.1;
    }) c.changed-2.ensures.ok

pub returns-clause-err : goal.returns-clause-err
returns-clause-err c = IfErr-weaker c.changed-2.result _ _
    (λ why is. subst (λ (w : CommandFault). IsNoEmptyCopyOf c.args.entry.now c.args.to.now c.args.image.now c.args.cut w)
    (sym is) (inr (
      c.in-Some.kind,
      sym c.plain_type.ensures ∙ c.in-Some.is,
      inl c.in_ok-first.ensures.ok.before.taken.0,
    ))) c.changed-2.ensures.err
