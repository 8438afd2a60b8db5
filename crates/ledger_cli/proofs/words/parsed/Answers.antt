-- The command line is a simple one, so its matches are those of the words, and words are refused for one of its
-- reasons.
use Rattle.ledger_cli.proofs.Parses.{ledger-parse}
use Rattle.ledger_cli.proofs.words.parsed.Goals as goal

pub returns : goal.returns
returns c = ledger-parse _ _ c.try_get_matches_from.result c.in_ok-ledger_command.ensures
    c.try_get_matches_from.ensures.kinds c.try_get_matches_from.ensures.matches
