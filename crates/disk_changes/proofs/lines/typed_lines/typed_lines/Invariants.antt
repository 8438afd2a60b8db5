-- The lines so far are made of the first lines of the text.
use Rattle.std.proofs.Common.{◌≡◌, length}
use Rattle.std.specs.Prelude.{vec_items}
use Rattle.d64_image.specs.Memory.{disk_image}
use Rattle.disk_changes.proofs.lemmas.lines.Typed.{MadeTo}
use Rattle.disk_layout.specs.Records.{records}
use Rattle.line_text.specs.scripts.Lines.{lines}
use Rattle.rel_records.specs.File.{OfItsFile}
use Rattle.disk_changes.proofs.lines.typed_lines.typed_lines.Given as goal

abbrev pub invariant-loop-line : goal.invariant-loop-line
invariant-loop-line l = record {
  same : disk_image l.disk ≡ disk_image l.initial.disk;
  made : OfItsFile (disk_image l.initial.disk) l.file (λ k n f.
      MadeTo l.set (records (disk_image l.initial.disk) f) (lines l.text) (lines l.rest) (vec_items l.plain));
}

abbrev pub decreases-loop-line : goal.decreases-loop-line
decreases-loop-line l = length l.rest
