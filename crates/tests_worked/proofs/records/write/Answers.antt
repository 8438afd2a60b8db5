-- The file was found on a clean disk.
use Rattle.rel_records.proofs.lemmas.Usable.{clean-usable}
use Rattle.tests_worked.proofs.records.write.Goals as goal

pub write_record-answer-requires-clause-usable : goal.write_record-answer-requires-clause-usable
write_record-answer-requires-clause-usable g c = clean-usable _ c.found-file.ensures.clean
