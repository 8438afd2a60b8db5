-- The groups, each after those before it, have the words that the program takes.
use Rattle.std.proofs.Common.{ap, ◌∙◌}
use Rattle.command_table.specs.Grammar.{with_changes, with_entries, with_looks, with_rescue, with_shop}
use Rattle.command_table.proofs.Grammars.{group-made}
use Rattle.command_table.proofs.grammar.ledger_command.Goals as goal

pub returns : goal.returns
returns c =
    let looks = c.in_ok-program.ensures ∙ ap with_looks c.in_ok-bare.ensures in
    let rescues = c.in_ok-program-2.ensures ∙ ap with_rescue looks in
    let changes = c.in_ok-program-3.ensures ∙ ap with_changes rescues in
    let entries = c.in_ok-program-4.ensures ∙ ap with_entries changes in
    group-made with_shop _ _ _ entries c.with_shop.ensures
