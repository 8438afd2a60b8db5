-- The subcommands before this one stand in the program.
use Rattle.std.specs.Prelude.{◌≡◌, fold, take}
use Rattle.clap.specs.Words.{app_of}
use Rattle.command_table.specs.Rows.{with_row}
use Rattle.command_table.proofs.grammar.with_group.Given as goal

abbrev pub invariant-loop-subcommand : goal.invariant-loop-subcommand
invariant-loop-subcommand l = app_of l.program ≡ fold with_row (app_of l.fn.before) (take l.subcommand-index l.group)
