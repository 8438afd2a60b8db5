-- The blocks, then the side sectors, then those of them that are wrong.
use Rattle.std.proofs.Common.{arith}
use Rattle.disk_reports.proofs.following.follow.Goals as goal

pub follow_sides-requires-clause-reached : goal.follow_sides-requires-clause-reached
follow_sides-requires-clause-reached c =
    (c.reach_file-end.result.last, rw c.as_slice.ensures.value c.reach_file-end.ensures)

pub returns-clause-trail : goal.returns-clause-trail
returns-clause-trail c = record {
  unclosed = λ low. absurd (omega (arith, low, c.if-slot-lt128.false));
  closed = λ _. (c.reach_file-end.result.last, c.reach_file-end.ensures);
  sides = rw c.as_slice.ensures.value at c.follow_sides.ensures;
  wrong = rw (c.as_slice-2.ensures.value, c.as_slice-3.ensures.value) at c.find_wrong.ensures;
}
