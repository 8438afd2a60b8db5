-- Both have few records.
use Rattle.std.proofs.Common.{arith}
use Rattle.disk_pictures.proofs.comparison.versions.Versions.records.Goals as goal

pub returns-in-Some-Some-clause-few : goal.returns-in-Some-Some-clause-few
returns-in-Some-Some-clause-few c =
    omega (arith, c.max.ensures, c.in-Some-Some.ensures.few, c.in-Some-Some.ensures'.few)
