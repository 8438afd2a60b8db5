-- The rows of the group are these subcommands.
use Rattle.command_table.proofs.Grammars.{rows-made}
use Rattle.command_table.proofs.grammar.with_shop.Goals as goal

pub returns : goal.returns
returns c = rows-made _ _ _ c.with_group.ensures
