-- The lines that were made are stored; or why not.
use Rattle.std.proofs.Common.{List, inl, inr, subst, ℕ}
use Rattle.std.proofs.lemmas.Result.{IfErr-weaker, IfOk-weaker}
use Rattle.std.specs.Prelude.{vec_items}
use Rattle.disk_changes.specs.Stores.{IsStoreRefusal, IsStored}
use Rattle.disk_changes.proofs.storing.typed_stored.Goals as goal

pub returns-clause-ok : goal.returns-clause-ok
returns-clause-ok c =
    IfOk-weaker c.stored.result (IsStored c.args.image.now c.args.name.now c.as_slice.result.now c.args.cut) _
    (λ made is. (
      vec_items c.in_ok-plain.plain,
      c.in_ok-plain.ensures.ok,
      subst (λ (t : List ℕ). IsStored c.args.image.now c.args.name.now t c.args.cut made) c.as_slice.ensures.value is,
    ))
    c.stored.ensures.ok

pub returns-clause-err : goal.returns-clause-err
returns-clause-err c =
    IfErr-weaker c.stored.result (IsStoreRefusal c.args.image.now c.args.name.now c.as_slice.result.now c.args.cut) _
    (λ why no_store. inr (
      vec_items c.in_ok-plain.plain,
      c.in_ok-plain.ensures.ok,
      subst (λ (t : List ℕ). IsStoreRefusal c.args.image.now c.args.name.now t c.args.cut why) c.as_slice.ensures.value no_store,
    ))
    c.stored.ensures.err
