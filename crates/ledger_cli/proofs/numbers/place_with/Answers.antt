-- Both numbers give the place, and none is missing.
use Rattle.std.proofs.Common.{sym, ◌∙◌}
use Rattle.line_text.specs.Numbers.{number_in}
use Rattle.ledger_cli.proofs.Sectors.{both-given, no-sector, no-track}
use Rattle.ledger_cli.proofs.numbers.place_with.Goals as goal

pub returns-in_default : goal.returns-in_default
returns-in_default c =
    sym (no-track (number_in 1 35 c.args.first.now) (number_in 0 20 c.args.second.now) (sym c.track_of.ensures ∙ c.in_default.is))

pub returns-in_default-sector_of : goal.returns-in_default-sector_of
returns-in_default-sector_of c =
    sym (no-sector (number_in 1 35 c.args.first.now) (number_in 0 20 c.args.second.now)
    (sym c.sector_of.ensures ∙ c.in_default-sector_of.is))

pub returns : goal.returns
returns c =
    c.new.ensures.value ∙ sym (both-given (number_in 1 35 c.args.first.now) (number_in 0 20 c.args.second.now) _ _
    (sym c.track_of.ensures ∙ c.in-Some.is) (sym c.sector_of.ensures ∙ c.in-Some-sector_of.is))
