-- The values that the matches give are those of the argument's rows.
use Rattle.std.proofs.Common.{◌∙◌}
use Rattle.clap.specs.Words.{found_of}
use Rattle.clap.proofs.WalkLemmas.{raw_values-rows}
use Rattle.ledger_cli.proofs.values.values_of.Goals as goal

pub returns : goal.returns
returns c = c.get_strs.ensures ∙ raw_values-rows (found_of c.args.matches.now) c.args.name.now
