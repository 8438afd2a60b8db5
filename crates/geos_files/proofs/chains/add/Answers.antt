-- One more has a mark.
use Rattle.disk_layout.proofs.lemmas.chains.Counting.{visited_all}
use Rattle.disk_layout.proofs.lemmas.chains.Walks.{IsSetOf-push, not_in}
use Rattle.disk_layout.proofs.lemmas.lists.Once.{EachOnce-push}
use Rattle.geos_files.proofs.chains.add.Goals as goal

pub returns-clause-marked : goal.returns-clause-marked
returns-clause-marked c =
    let old = c.requires.marked in
    record {
      marks = rw c.push.ensures.items (IsSetOf-push c.args.visited.now c.insert.new.self _ _ old.marks
          c.insert.ensures.now);
      once = rw c.push.ensures.items (EachOnce-push _ _ old.once (not_in c.args.visited.now _ _ old.marks
          c.requires.free));
      count = visited_all _ _ _ _ old.count c.push.ensures.len c.insert.ensures.room;
    }
