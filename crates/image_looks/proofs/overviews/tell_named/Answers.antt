-- The line of the end stands behind the text.
use Rattle.std.proofs.Common.{◌≡◌, ◌++◌, ◌∙◌, Global, Vec, append-nil, ap, refl, subst, sym, ℕ}
use Rattle.std.specs.Prelude.{IfErr, IsOk, Ok, Err, OnOk, Result, Some, vec_items}
use Rattle.std.specs.Io.KnownBytes.{Appends}
use Rattle.line_text.specs.Named.{named}
use Rattle.opened_files.specs.Ends.{JobEnd, end_line, refusal_line}
use Rattle.line_text.specs.declared.handing.NotTaken.{NotTaken}
use Rattle.image_looks.proofs.overviews.tell_named.Goals as goal

line-behind : (end : JobEnd) (old new : Vec ℕ Global) (told : Result Unit NotTaken) → told ≡ Ok tt
    → (IsOk end → (new ≡ old) × IsOk told)
    → IfErr end (λ refusal. OnOk told (Appends (Some (vec_items old)) (Some (vec_items new)) (refusal_line refusal)))
    → vec_items new ≡ vec_items old ++ end_line end
line-behind (Ok found) old new told taken quiet line =
    ap (λ (v : Vec ℕ Global). vec_items v) (quiet refl).0 ∙ sym (append-nil (vec_items old))
line-behind (Err refusal) old new told taken quiet line =
    subst (λ t. OnOk t (Appends (Some (vec_items old)) (Some (vec_items new)) (refusal_line refusal))) taken line

pub returns : goal.returns
returns g c = record {
  ok = record {
    told = subst (λ text. Appends (g.W.Write.contents c.args.out.now) (g.W.Write.contents c.print_text.new.out)
        (named c.args.name.now text))
        (c.as_slice.ensures.value ∙ line-behind c.args.ended c.args.text c.end-ending.new.err c.end-ending.result.told
        c.in-Ok.is c.end-ending.ensures.quiet c.end-ending.ensures.told)
        c.in_ok-print_text.ensures.ok;
    status_is = c.end-ending.ensures.status;
  };
  err = tt;
}
