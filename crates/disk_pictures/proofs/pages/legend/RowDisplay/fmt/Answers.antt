-- A row that is needed, and nothing of another one.
use Rattle.std.proofs.Common.{[], refl}
use Rattle.std.proofs.Output.{has_written_of_eq}
use Rattle.disk_pictures.specs.Legends.{legend_row}
use Rattle.disk_pictures.proofs.pages.legend.RowDisplay.fmt.Goals as goal

pub returns-then-needed-clause-writes : goal.returns-then-needed-clause-writes
unfolding legend_row
returns-then-needed-clause-writes g c = λ plain done. has_written_of_eq _ _ _ _ _ (rw c.if-needed.true refl)
    (c.writeln.ensures.writes plain done)

pub returns-else-needed-clause-writes : goal.returns-else-needed-clause-writes
unfolding legend_row
returns-else-needed-clause-writes g c = λ plain done. rw c.if-needed.false (record {
  wrote = record { parts = []; calls = refl; whole = refl };
  plain = plain;
})
