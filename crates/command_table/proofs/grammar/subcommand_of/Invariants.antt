-- The values before this one stand in the command.
use Rattle.std.specs.Prelude.{fold, take}
use Rattle.clap.specs.Words.{new_app}
use Rattle.command_table.specs.Grammar.{IsSubcommand}
use Rattle.command_table.specs.Rows.{with_value}
use Rattle.command_table.proofs.grammar.subcommand_of.Given as goal

abbrev pub invariant-loop-value : goal.invariant-loop-value
invariant-loop-value l =
    IsSubcommand (fold with_value (new_app l.subcommand.name.now) (take l.value-index l.subcommand.values.now)) l.command
