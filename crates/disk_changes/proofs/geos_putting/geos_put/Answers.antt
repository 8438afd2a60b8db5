-- The content is put there, and the file of GEOS made of it.
use Rattle.std.proofs.Common.{Err, ap, inl, inr, subst, sym, ◌∙◌}
use Rattle.std.proofs.lemmas.Result.{IfErr-weaker, IfOk-weaker, err_from_is_err_and}
use Rattle.d64_image.specs.Memory.{disk_image}
use Rattle.d64_image.specs.declared.mem_disk.MemDisk.{MemDisk}
use Rattle.disk_changes.specs.GeosPuts.{IsGeosMade}
use Rattle.disk_changes.proofs.geos_putting.geos_put.Goals as goal

pub returns-in_err-judged-clause-err : goal.returns-in_err-judged-clause-err
returns-in_err-judged-clause-err c =
    let p = err_from_is_err_and c.from_residual-in_err-judged.result c.from_residual-in_err-judged.ensures.1 in
    rw (p.1 ∙ ap Err p.2) (inr (
      c.in-Some.content.now,
      sym c.in-Some.ensures.value,
      inr (c.in_ok-first.first, c.in_ok-first.ensures.ok, c.in_err-judged.ensures.err),
    ))

pub returns-clause-ok : goal.returns-clause-ok
returns-clause-ok c =
    let first = c.in_ok-first.first in
    let put = c.in_ok-first.ensures.ok in
    let content = c.in-Some.content.now in
    IfOk-weaker c.changed.result _ _
    (λ made is. record {
      content = content;
      is_cvt = sym c.in-Some.ensures.value;
      first = first;
      put = put;
      laid = subst (λ (d : MemDisk). IsGeosMade (disk_image first.disk) put.after.layout c.args.name.now c.args.cvt.now content
          (disk_image d)) (sym is.0) (c.in_ok-judged.ensures.ok put.after.layout put.after.sound);
      text = is.1;
    }) c.changed.ensures.ok

pub returns-clause-err : goal.returns-clause-err
returns-clause-err c = IfErr-weaker c.changed.result _ _
    (λ why is. inr (
      c.in-Some.content.now,
      sym c.in-Some.ensures.value,
      inr (c.in_ok-first.first, c.in_ok-first.ensures.ok, inr (inl is)),
    )) c.changed.ensures.err
