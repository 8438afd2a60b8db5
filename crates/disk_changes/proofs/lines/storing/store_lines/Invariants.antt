-- Of the lines so far those that count are stored, and the others are left; each took a byte of the text.
use Rattle.std.proofs.Common.{◌≤◌, ◌+◌, ℕ, List, length}
use Rattle.disk_layout.specs.Layout.{File, Layout}
use Rattle.rel_records.specs.File.{IsFileOf, length_of, records_in}
use Rattle.line_text.specs.scripts.Lines.{lines}
use Rattle.disk_changes.proofs.lemmas.lines.LinesStored.{StoringTo}
use Rattle.disk_changes.specs.lines.Stores.{AreLinesOf, NewRecord, TellsLast, greatest}
use Rattle.disk_changes.proofs.lines.storing.store_lines.Given as goal

abbrev pub invariant-loop-line : goal.invariant-loop-line
invariant-loop-line g l = record {
  room : l.place + length l.rest ≤ length l.text;
  storing : (k : Layout) (n : ℕ) (f : File) → IsFileOf (g.D.Sectors.history.image l.fn.disk) k n f l.fn.file
      → (h : ℕ) (xs : List NewRecord) → AreLinesOf (length_of l.fn.file) h (lines l.text) xs
      → greatest xs ≤ records_in l.fn.file
      → TellsLast l.last.places.items xs
      → StoringTo g.D.Sectors.history g.W.Write.contents l.fn.disk l.disk l.fn.out l.out k n f l.fn.file l.file h xs
      (lines l.rest) l.place;
}

abbrev pub decreases-loop-line : goal.decreases-loop-line
decreases-loop-line g l = length l.rest
