-- Each subcommand is added to those before it.
use Rattle.std.proofs.Common.{◌≡◌, [], fold, subst, take_all}
use Rattle.clap.specs.Words.{app_of}
use Rattle.command_table.specs.declared.subcommands.Subcommand.{Subcommand}
use Rattle.command_table.proofs.Grammars.{one-more, subcommand-made}
use Rattle.command_table.specs.Rows.{with_row}
use Rattle.command_table.proofs.grammar.with_group.Goals as goal

pub loop-subcommand-preserved : goal.loop-subcommand-preserved
loop-subcommand-preserved c =
    let at = c.loop-subcommand in
    let none : Subcommand = record {
      name = record { ref_ptr = (0, 0); now = [] };
      about = record { ref_ptr = (0, 0); now = [] };
      more = record { ref_ptr = (0, 0); now = [] };
      values = record { ref_ptr = (0, 0); now = [] };
    } in
    one-more with_row (app_of c.args.before) c.args.group.now at.subcommand-index none (λ a. app_of c.in_ok-program.program ≡ a)
    c.loop-subcommand-test.true
    (subcommand-made at.program c.in_ok-explainable_of.field-0 c.in_ok-program.program _ _ at.invariant
    c.in_ok-explainable_of.ensures c.in_ok-program.ensures)

pub returns : goal.returns
returns c =
    let at = c.loop-subcommand in
    record {
      is = subst (λ rows. app_of at.program ≡ fold with_row (app_of c.args.before) rows)
          (take_all at.subcommand-index c.args.group.now c.loop-subcommand-test.false) at.invariant;
    }
