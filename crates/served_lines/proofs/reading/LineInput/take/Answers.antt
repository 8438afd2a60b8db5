-- What was taken, and what is left.
use Rattle.std.proofs.Common.{◌-◌, List, ℕ, drop, subst, take}
use Rattle.line_server.specs.Batches.{texts_of}
use Rattle.served_lines.specs.Taken.{TakesLines}
use Rattle.served_lines.proofs.Read.{left_of}
use Rattle.served_lines.proofs.reading.LineInput.take.Goals as goal

pub returns-clause-taken : goal.returns-clause-taken
returns-clause-taken c = record {
  used = c.take_lines-used.result;
  left = left_of c.args.self.now.bytes.items c.args.self.now.at c.args.self.now.end c.take_lines-used.result;
  takes = λ raw lacks is. subst (λ (l : List ℕ). TakesLines raw (take c.take_lines-used.result (take (c.args.self.now.end - c.args.self.now.at) (drop c.args.self.now.at l)))
      c.take_lines-used.new.line.items (texts_of c.take_lines-used.new.lines.items)) c.deref.ensures.value (c.take_lines-used.ensures.taken raw lacks is);
}
