-- Each turn begins a record, until the loop has come to its end.
use Rattle.std.proofs.Common.{add-one, arith, length, ℕ, ◌+◌, ◌-◌, ◌<◌, ◌≡◌}
use Rattle.disk_layout.proofs.filling.start_records.Goals as goal
use Rattle.disk_layout.proofs.lemmas.records.EmptyRecords.{begun-more, rest-more}

-- a byte of the block's data
near : (b at : ℕ) → b < at + 254 → 2 + (b - at) < 256
near b at lt = omega (arith, lt)

pub overflow_sub-bytes : goal.overflow_sub-bytes
overflow_sub-bytes c = (c.requires.inside c.loop-record.record c.loop-record.auto.record c.loop-record-test.true).0

pub bounds-bytes-record : goal.bounds-bytes-record
bounds-bytes-record c = near _ c.args.at
    (c.requires.inside c.loop-record.record c.loop-record.auto.record c.loop-record-test.true).1

pub loop-record-preserved : goal.loop-record-preserved
loop-record-preserved c =
    let here = c.loop-record in
    let long : length here.bytes ≡ 256 = omega arith in
    let inside = near _ c.args.at (c.requires.inside here.record here.auto.record c.loop-record-test.true).1 in
    record {
      below = λ some. rw add-one c.loop-record-test.true;
      begun = begun-more here.bytes c.args.at c.args.size c.args.begin here.record (rw long inside)
          here.invariant.begun;
      rest = rest-more c.args.bytes.now here.bytes c.args.at c.args.size c.args.begin here.record here.auto.record
          here.invariant.rest;
    }

pub returns-clause-rest : goal.returns-clause-rest
returns-clause-rest c k other =
    let here = c.loop-record in
    here.invariant.rest k (λ r low lt.
    let some : c.args.begin < here.record = omega (arith, low, lt) in
    other r low (omega (arith, lt, here.invariant.below some)))
