-- The map's sector and the directory's were counted.
use Rattle.damaged_files.proofs.lemmas.reached.Counts.{count-both, zeros-at}
use Rattle.damaged_files.proofs.reached.sharing.Owners.of_directory.Goals as goal

pub returns : goal.returns
returns c = λ i. count-both i _ _ _ c.map_place.result c.args.directory.now (zeros-at 683 i) c.map_place.ensures
    (c.add_one.ensures i) (c.add.ensures i)
