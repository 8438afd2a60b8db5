-- The laws are lemmas.
use Rattle.test_files.proofs.OneFile.{one-made, only-made}
use Rattle.test_files.proofs.snapshots.jobs.made_images_are_told.Goals as goal

pub returns : goal.returns
returns c = record { met = one-made; only = only-made }
