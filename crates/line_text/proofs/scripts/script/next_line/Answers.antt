-- A line ends at the first LF, or is all that is left.
use Rattle.std.proofs.Common.{sym, ◌∙◌}
use Rattle.line_text.proofs.lemmas.scripts.Lines.{line_here, lines_last, some_length}
use Rattle.line_text.proofs.scripts.script.next_line.Goals as goal

pub returns-in-Some : goal.returns-in-Some
returns-in-Some c = line_here c.args.script.now c.strip.result.now c.in-Some.end c.in-Some.ensures c.strip.ensures

pub returns-in-None-2 : goal.returns-in-None-2
returns-in-None-2 c =
    let some = sym c.is_empty.ensures ∙ c.if-is_empty.false in
    (lines_last c.args.script.now some c.in-None-2.ensures, some_length c.args.script.now some)
