-- The digit is that of the table.
use Rattle.request_cards.proofs.Pairs.{last_of_pair}
use Rattle.request_cards.proofs.fixed.last_digit.Goals as goal

pub returns : goal.returns
returns c = last_of_pair c.args.n
