-- What is said of the records is what their command says.
use Rattle.file_rescues.proofs.LongRecords.{if-both}
use Rattle.file_rescues.proofs.long_records.disk_records.Goals as goal

pub returns-in-Closed : goal.returns-in-Closed
returns-in-Closed g c = record {
  ok = rw c.in-Closed.is c.records_image.ensures.ok;
  err = rw c.in-Closed.is (if-both _ _ c.records_image.result c.records_image.ensures.err c.records_image.ensures.part);
}

pub returns-in-All : goal.returns-in-All
returns-in-All g c = record {
  ok = rw c.in-All.is c.unclosed_records_image.ensures.ok;
  err = rw c.in-All.is (if-both _ _ c.unclosed_records_image.result c.unclosed_records_image.ensures.err
      c.unclosed_records_image.ensures.part);
}
