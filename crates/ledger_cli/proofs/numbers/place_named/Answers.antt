-- What stands before the first slash, and after it.
use Rattle.std.proofs.Common.{sym, ◌∙◌}
use Rattle.ledger_cli.proofs.Sectors.{no-slash, spelled-parts}
use Rattle.ledger_cli.proofs.numbers.place_named.Goals as goal

pub returns-in_default : goal.returns-in_default
returns-in_default c = sym (no-slash c.args.text.now c.split_once.result c.split_once.ensures.cases c.in_default.is)

pub returns : goal.returns
returns c = c.place_with.ensures ∙ sym (spelled-parts c.args.text.now c.split_once.result
    (c.in-Some.track, c.in-Some.sector) c.split_once.ensures.cases c.in-Some.is)
