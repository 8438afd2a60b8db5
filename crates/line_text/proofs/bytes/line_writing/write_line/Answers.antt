-- The line stands at its room's front.
use Rattle.std.proofs.Common.{List, ℕ, subst}
use Rattle.std.proofs.lemmas.Result.{on_ok_weaker}
use Rattle.std.specs.Io.KnownBytes.{Appends}
use Rattle.line_text.proofs.bytes.line_writing.write_line.Goals as goal

pub returns : goal.returns
returns g c = on_ok_weaker c.write_all.result
    (λ put. subst
    (λ (xs : List ℕ). Appends (g.W.Write.contents c.args.out.now) (g.W.Write.contents c.write_all.new.self) xs)
    c.append_line-end.ensures.written put)
    c.write_all.ensures.bytes
