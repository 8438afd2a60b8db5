-- What was reached is a walk; its index counts where no fault ends it.
use Rattle.std.proofs.Common.{arith}
use Rattle.d64_image.specs.Memory.{disk_image}
use Rattle.disk_layout.proofs.lemmas.lists.Count.{places-few}
use Rattle.disk_pictures.proofs.Walked.{reach-walk}
use Rattle.disk_pictures.proofs.files.walk.Goals as goal

pub returns-in-None-clause-ok : goal.returns-in-None-clause-ok
returns-in-None-clause-ok c = rw c.in-Some.is (rw c.in-None.is at
    (reach-walk (disk_image c.args.disk.now) c.in-Some.first _ _ _ c.reach_blocks-reach.ensures))

pub returns-in-None-clause-few : goal.returns-in-None-clause-few
returns-in-None-clause-few c = omega (arith, places-few _ c.reach_blocks-reach.ensures.once)

pub returns-in-Some-fault-clause-ok : goal.returns-in-Some-fault-clause-ok
returns-in-Some-fault-clause-ok c = rw c.in-Some.is (rw c.in-Some-fault.is at
    (reach-walk (disk_image c.args.disk.now) c.in-Some.first _ _ _ c.reach_blocks-reach.ensures))

pub returns-in-Some-fault-clause-few : goal.returns-in-Some-fault-clause-few
returns-in-Some-fault-clause-few c = omega (arith, places-few _ c.reach_blocks-reach.ensures.once)
