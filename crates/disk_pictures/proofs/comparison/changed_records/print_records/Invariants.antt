-- The records so far were printed.
use Rattle.disk_pictures.specs.ComparedPages.{record_text}
use Rattle.disk_pictures.specs.Drawings.{file_in}
use Rattle.disk_pictures.specs.Texts.{each_below}
use Rattle.std.specs.Io.KnownBytes.{Appends}
use Rattle.disk_pictures.proofs.comparison.changed_records.print_records.Given as goal

abbrev pub invariant-loop-number : goal.invariant-loop-number
invariant-loop-number g l = Appends (g.W.Write.contents l.fn.out) (g.W.Write.contents l.out)
    (each_below l.number (record_text l.file.before.now.sectors.now l.file.after.now.sectors.now
    (file_in l.file.former.now) (file_in l.file.file.now)))
