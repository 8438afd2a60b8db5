-- Each value is added to those before it.
use Rattle.std.proofs.Common.{None, [], fold, subst, take_all}
use Rattle.clap.specs.Words.{new_app}
use Rattle.command_table.specs.Grammar.{IsSubcommand}
use Rattle.command_table.specs.declared.values.Count.TheVariants as counts
use Rattle.command_table.specs.declared.values.Value.{Value}
use Rattle.command_table.proofs.Grammars.{arg-made, one-more}
use Rattle.command_table.specs.Rows.{with_value}
use Rattle.command_table.proofs.grammar.subcommand_of.Goals as goal

pub loop-value-preserved : goal.loop-value-preserved
loop-value-preserved c =
    let at = c.loop-value in
    let row = c.args.subcommand.now in
    let none : Value = record {
      name = record { ref_ptr = (0, 0); now = [] };
      word = None;
      count = counts.One;
      help = record { ref_ptr = (0, 0); now = [] };
    } in
    one-more with_value (new_app row.name.now) row.values.now at.value-index none (λ a. IsSubcommand a c.in_ok-command.command)
    c.loop-value-test.true
    (arg-made at.command c.arg_of.result c.in_ok-command.command _ _ at.invariant c.arg_of.ensures.local
    c.arg_of.ensures.rule c.in_ok-command.ensures)

pub returns : goal.returns
returns c =
    let at = c.loop-value in
    let row = c.args.subcommand.now in
    subst (λ vs. IsSubcommand (fold with_value (new_app row.name.now) vs) at.command)
    (take_all at.value-index row.values.now c.loop-value-test.false) at.invariant
