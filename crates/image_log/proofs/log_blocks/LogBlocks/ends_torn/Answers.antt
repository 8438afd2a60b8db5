-- By the last block that has more than zeros.
use Rattle.std.proofs.Common.{◌+◌, arith}
use Rattle.std.proofs.lemmas.Bool.{leb-true}
use Rattle.image_log.proofs.TornEnds.{ends_last, some_ends}
use Rattle.image_log.proofs.log_blocks.LogBlocks.ends_torn.Goals as goal

pub returns-then-written-end-2 : goal.returns-then-written-end-2
returns-then-written-end-2 c f known =
    let w = c.count_written-written.ensures in (
      λ yes. some_ends f c.args.end c.count_written-written.result w.within (w.blank f known) c.if-written-end-2.true
          ((c.none_ends.ensures f known).0 yes),
      λ ends. (c.none_ends.ensures f known).1 (ends_last f c.args.end c.count_written-written.result w.within (w.blank f known)
          (w.last f known) (omega (arith, w.from, c.if-written-end.false)) ends).1,
    )

pub returns-else-written-end-2 : goal.returns-else-written-end-2
returns-else-written-end-2 c f known =
    let w = c.count_written-written.ensures in (
      λ yes. absurd (omega (
        arith,
        c.if-written-end-2.false,
        leb-true c.count_written-written.result (c.args.end + 46) yes,
      )),
      λ ends. absurd (omega (
        arith,
        c.if-written-end-2.false,
        (ends_last f c.args.end c.count_written-written.result w.within (w.blank f known) (w.last f known)
            (omega (arith, w.from, c.if-written-end.false)) ends).0,
      )),
    )
