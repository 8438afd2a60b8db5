-- What a file in memory holds, and held, in which no write leaves a part of itself. Our own.
use Rattle.std.specs.Prelude.{List, Some, ℕ}
use Rattle.image_file.specs.Lasting.{Lasting, Whole}
use Rattle.test_files.specs.Disks.{disk_lasting}
use Rattle.test_files.specs.Files.{file_held}
use Rattle.test_files.specs.declared.disk_file.DiskFile.{DiskFile}
use Rattle.test_files.specs.declared.whole_file.WholeFile.{WholeFile}

-- the file of an image on which it stands
abbrev pub file_in : WholeFile → DiskFile
file_in f = f.file

-- what it holds
abbrev pub whole_held : WholeFile → List ℕ
whole_held f = file_held f.file

-- at each moment
abbrev pub held_lasting : Lasting WholeFile
held_lasting = record {
  bytes = λ f. disk_lasting.bytes f.file.held;
  moment = λ f. disk_lasting.moment f.file.held;
  stayed = λ f. disk_lasting.stayed f.file.held;
  small = λ f. disk_lasting.small f.file.held;
  now = λ f. disk_lasting.now f.file.held;
  only_now = λ f. disk_lasting.only_now f.file.held;
}

-- the bytes that it holds, now and at the moments before
abbrev pub whole_file : Whole (λ f. Some (whole_held f))
whole_file = record { lasting = held_lasting; is_held = λ f all e. e }
