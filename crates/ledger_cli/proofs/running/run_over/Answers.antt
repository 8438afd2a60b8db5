-- The job ended so, and that was told.
use Rattle.ledger_cli.proofs.Ends.{end_told}
use Rattle.ledger_cli.proofs.running.run_over.Goals as goal

pub returns : goal.returns
returns g c = record {
  end = c.obey-left.result.1;
  is = c.obey-left.ensures;
  status_is = c.end.ensures.status;
  said = end_told g.E.Write.contents c.args.err.now c.end.new.err c.obey-left.result.1 c.end.result.told
      c.end.ensures.quiet c.end.ensures.told c.end.ensures.part;
}
