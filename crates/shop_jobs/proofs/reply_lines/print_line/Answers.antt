-- What stands in the room is the reply's line.
use Rattle.std.proofs.Common.{◌≡◌, ℕ, List, drop, subst, take, ◌-◌, arith, length-drop, ◌∙◌}
use Rattle.std.specs.Prelude.{OnErr, OnOk}
use Rattle.std.specs.Io.KnownBytes.{Appends}
use Rattle.std.proofs.lemmas.List.{take_all}
use Rattle.host_session.specs.runs.Outputs.{line_of}
use Rattle.line_text.specs.Handed.{AppendsPart}
use Rattle.shop_jobs.proofs.reply_lines.print_line.Goals as goal

pub returns : goal.returns
returns g c =
    let room : List ℕ = c.write-start.new.room in
    let all : take (44 - c.write-start.result) (drop c.write-start.result room) ≡ drop c.write-start.result room =
    take_all (44 - c.write-start.result) (drop c.write-start.result room)
    (omega (arith, length-drop c.write-start.result room, c.write-start.auto.room)) in
    let line : take (44 - c.write-start.result) (drop c.write-start.result room) ≡ line_of c.args.reply.now = all
    ∙ c.write-start.ensures.written in
    let a = g.W.Write.contents c.args.out.now in
    let b = g.W.Write.contents c.hand_whole.new.out in
    record {
      ok = subst (λ xs. OnOk c.hand_whole.result (Appends a b xs)) line c.hand_whole.ensures.ok;
      err = subst (λ xs. OnErr c.hand_whole.result (AppendsPart a b xs)) line c.hand_whole.ensures.err;
    }
