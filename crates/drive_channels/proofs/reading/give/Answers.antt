use Rattle.std.proofs.Common.{subst, List, ℕ, take}
use Rattle.drive_channels.proofs.Given.{given-of}
use Rattle.drive_channels.specs.Given.{IsGiven}
use Rattle.drive_channels.proofs.reading.give.Goals as goal

pub returns : goal.returns
returns c = rw c.copy.ensures (subst (λ (xs : List ℕ). IsGiven xs (take c.end_of-end.result c.rest_of-rest.result.now))
    c.rest_of-rest.ensures
    (given-of c.rest_of-rest.result.now c.end_of-end.result c.end_of-end.ensures.low c.end_of-end.ensures.high
    c.end_of-end.ensures.zeros c.end_of-end.ensures.last))
