use Rattle.disk_pictures.proofs.Apart.{lines-marked, marks-apart}
use Rattle.disk_pictures.proofs.laws.marks_tell_entries_apart.Goals as goal

pub returns : goal.returns
returns c = record {
  apart = marks-apart;
  line = lines-marked;
}
