-- The files of the entries so far were made, and their rows are in the index.
use Rattle.std.proofs.Common.{◌≡◌, ◌++◌, List, take}
use Rattle.d64_image.specs.Memory.{disk_image}
use Rattle.d64_image.specs.declared.place.Place.{Place}
use Rattle.file_rescues.specs.rescue.Folders.{AddsFiles}
use Rattle.damaged_files.specs.reached.Owned.{CountsAll}
use Rattle.file_rescues.specs.rescue.Rescues.{files_from, first_fault, rows_from}
use Rattle.file_rescues.proofs.rescue.extracting.extract_entries.Given as goal

abbrev pub invariant-loop-file : goal.invariant-loop-file
invariant-loop-file g l =
    let img = disk_image l.disk in
    record {
      number_is : l.number ≡ l.file-index;
      made : AddsFiles (g.F.NewFolder.files l.fn.folder) (g.F.NewFolder.files l.folder)
          (files_from l.image img 1 (take l.file-index l.files));
      rows : (all : List Place) → CountsAll l.owners all
          → l.index.items ≡ l.fn.index.items ++ rows_from l.image img all l.shared 1 (take l.file-index l.files);
      told : (all : List Place) → CountsAll l.owners all
          → l.found ≡ first_fault l.image img all 1 l.fn.before (take l.file-index l.files);
    }
