-- The file that was found was copied, or not.
use Rattle.std.proofs.Common.{List, inl, inr, subst, ℕ}
use Rattle.std.proofs.lemmas.Result.{IfErr-weaker, IfOk-weaker}
use Rattle.disk_changes.proofs.Copied.{not-copied}
use Rattle.disk_changes.specs.Copies.{IsNoPlainCopyOf, IsPlainCopyOf}
use Rattle.disk_changes.proofs.copying.copied.Goals as goal

pub returns-then-is_relative-clause-ok : goal.returns-then-is_relative-clause-ok
returns-then-is_relative-clause-ok c = IfOk-weaker c.relative_copy.result _ _
    (λ made is. record {
      entry = c.in_ok-entry.entry;
      content = c.in_ok-entry.content.items;
      file = c.in_ok-entry.ensures.ok;
      copy = inr (c.is_relative.ensures.0 c.if-is_relative.true, is.0, is.1, is.2);
    }) c.relative_copy.ensures.ok

pub returns-then-is_relative-clause-err : goal.returns-then-is_relative-clause-err
returns-then-is_relative-clause-err c = IfErr-weaker c.relative_copy.result _ _
    (λ why no. not-copied c.args.source.now c.args.name.now c.args.to.now c.args.image.now c.args.cut c.in_ok-entry.entry
    c.in_ok-entry.content.items c.in_ok-entry.ensures.ok why (inr (c.is_relative.ensures.0 c.if-is_relative.true, no)))
    c.relative_copy.ensures.err

pub returns-clause-ok : goal.returns-clause-ok
returns-clause-ok c = IfOk-weaker c.plain_copy.result _ _
    (λ made is. record {
      entry = c.in_ok-entry.entry;
      content = c.in_ok-entry.content.items;
      file = c.in_ok-entry.ensures.ok;
      copy = inl (
        λ relative. absurd (cc (c.is_relative.ensures.1 relative, c.if-is_relative.false)),
        subst (λ (bytes : List ℕ). IsPlainCopyOf c.in_ok-entry.entry bytes c.args.to.now c.args.image.now c.args.cut made)
            c.as_slice.ensures.value is,
      );
    }) c.plain_copy.ensures.ok

pub returns-clause-err : goal.returns-clause-err
returns-clause-err c = IfErr-weaker c.plain_copy.result _ _
    (λ why no. not-copied c.args.source.now c.args.name.now c.args.to.now c.args.image.now c.args.cut c.in_ok-entry.entry
    c.in_ok-entry.content.items c.in_ok-entry.ensures.ok why
    (inl (λ relative. absurd (cc (c.is_relative.ensures.1 relative, c.if-is_relative.false)), subst (λ (bytes : List ℕ). IsNoPlainCopyOf c.in_ok-entry.entry bytes c.args.to.now c.args.image.now c.args.cut why) c.as_slice.ensures.value no)))
    c.plain_copy.ensures.err
