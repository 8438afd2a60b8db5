-- The file before, where it has the name, and the one opened last change places.
use Rattle.std.proofs.Common.{◌≢◌, ◌∙◌, IfSome, Option, Some, ap, refl, subst, sym}
use Rattle.std.proofs.lemmas.Bool.{false≢true, true≢false}
use Rattle.drive_channels.specs.declared.open_file.NamedFile.{NamedFile}
use Rattle.drive_channels.proofs.open_file.OpenFile.recall.Goals as goal

pub returns-then-is_named : goal.returns-then-is_named
returns-then-is_named c = record {
  found = λ _. (
    c.in-Some.found,
    c.in-Some.is,
    c.is_named.ensures.0 c.if-is_named.true,
    ap (λ (e : NamedFile). record { found = e; spot = c.args.self.now.spot }) c.swap.ensures.x_after,
    ap (λ (e : NamedFile). Some e) c.swap.ensures.y_after,
  );
  other = λ no. absurd (true≢false no);
}

pub returns-else-is_named : goal.returns-else-is_named
returns-else-is_named c = record {
  found = λ yes. absurd (false≢true yes);
  other = λ _. (
    refl,
    sym c.in-Some.is,
    subst (λ (o : Option NamedFile). IfSome o (λ e. e.name.items ≢ c.args.name.now)) (sym c.in-Some.is)
        (λ same. absurd (false≢true (sym c.if-is_named.false ∙ c.is_named.ensures.1 same))),
  );
}

pub returns-in_default : goal.returns-in_default
returns-in_default c = record {
  found = λ yes. absurd (false≢true yes);
  other = λ _. (
    refl,
    refl,
    subst (λ (o : Option NamedFile). IfSome o (λ e. e.name.items ≢ c.args.name.now)) (sym c.in_default.is) tt,
  );
}
