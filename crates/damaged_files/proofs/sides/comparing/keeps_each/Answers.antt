-- Entry by entry.
use Rattle.std.proofs.Common.{length, refl, subst, ◌∙◌}
use Rattle.std.proofs.lemmas.Option.{slice_get_read}
use Rattle.d64_image.specs.Images.{Image}
use Rattle.d64_image.specs.Memory.{disk_image}
use Rattle.damaged_files.proofs.lemmas.sides.Walks.{of-each, one-more}
use Rattle.damaged_files.specs.sides.Compared.{SameChain}
use Rattle.damaged_files.proofs.sides.comparing.keeps_each.Goals as goal

pub loop-slot-preserved : goal.loop-slot-preserved
loop-slot-preserved c =
    let n = c.loop-slot.slot-index in
    let s = c.slot-item.result in
    let old = c.loop-slot.invariant in
    let here = slice_get_read c.args.slots.now (length c.args.slots.now) n s refl c.loop-slot-test.true c.slot-item.is in
    let Q : Image → Type 0 = λ i. SameChain (disk_image c.args.before.now) i s in
    record {
      after = c.keeps_chain.ensures.after ∙ old.after;
      same = one-more (SameChain (disk_image c.args.before.now) (disk_image c.args.after.now)) c.args.slots.now n s here
          (subst Q old.after (c.keeps_chain.ensures.told c.if-not-keeps_chain.false)) old.same;
    }

pub returns-clause-told : goal.returns-clause-told
returns-clause-told c t = of-each (SameChain (disk_image c.args.before.now) (disk_image c.args.after.now))
    c.args.slots.now c.loop-slot.slot-index c.loop-slot-test.false c.loop-slot.invariant.same
