-- The laws are lemmas.
use Rattle.test_files.proofs.KnownServices.{answered, played, served, stopped}
use Rattle.test_files.proofs.snapshots.jobs.services_land.Goals as goal

pub returns : goal.returns
returns g c = record {
  served = λ host input old new found shop is. served _ _ _ g.W.Write.contents g.W.JobOutput.replies host shop is input old new found;
  played = λ host old new found shop is. played _ _ _ g.W.Write.contents g.W.JobOutput.replies host shop is old new found;
  stopped = λ host input old new shop is. stopped _ _ _ g.W.Write.contents g.W.JobOutput.replies host shop is input old new;
  answered = λ host input old new end shop is.
      answered _ _ _ g.W.Write.contents g.W.JobOutput.replies host shop is input old new end;
}
