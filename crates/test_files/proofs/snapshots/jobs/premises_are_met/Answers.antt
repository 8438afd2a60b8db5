-- The laws are lemmas.
use Rattle.test_files.proofs.SnapshotPremises.{of-image, of-text, of-written}
use Rattle.test_files.proofs.SnapshotRights.{may-do}
use Rattle.test_files.proofs.snapshots.jobs.premises_are_met.Goals as goal

pub returns : goal.returns
returns c = record { image = of-image; written = of-written; text = of-text; rights = may-do }
