-- One record more, or one whose chain has no end or too many sectors.
use Rattle.std.proofs.Common.{◌∙◌, ◌≤◌, ◌+◌, ◌*◌, Bool, ap, arith, length, sym, refl}
use Rattle.long_chains.proofs.Sizes.{few, inside}
use Rattle.geos_files.specs.Long.{if_taken}
use Rattle.geos_files.proofs.Long.{none-there, records-next, records-none, second-byte}
use Rattle.geos_files.proofs.long_files.add_records.Goals as goal

pub overflow_mul-start : goal.overflow_mul-start
overflow_mul-start c = omega (arith, few c.args.image.now c.args.block c.requires.block)

pub loop-number-init : goal.loop-number-init
loop-number-init c = record {
  so_far = records-none c.args.image.now c.args.block c.args.sectors.now.items c.args.pairs.now.items c.requires.none;
  inside = c.requires.inside;
  few = c.requires.few;
  pairs = omega (arith, ap length c.requires.none);
}

pub overflow_add-at-in-loop-number : goal.overflow_add-at-in-loop-number
overflow_add-at-in-loop-number c = omega (arith, few c.args.image.now c.args.block c.requires.block, c.loop-number-test.true)

pub bounds-image-at : goal.bounds-image-at
bounds-image-at c = omega (arith, inside c.args.image.now c.args.block c.requires.block, c.loop-number-test.true)

pub overflow_add-at-in-loop-number-2 : goal.overflow_add-at-in-loop-number-2
overflow_add-at-in-loop-number-2 c = omega (arith, few c.args.image.now c.args.block c.requires.block, c.loop-number-test.true)

pub bounds-image-at-in-loop-number : goal.bounds-image-at-in-loop-number
bounds-image-at-in-loop-number c = omega (arith, inside c.args.image.now c.args.block c.requires.block, c.loop-number-test.true)

pub returns-then-not-add_record-clause-value : goal.returns-then-not-add_record-clause-value
returns-then-not-add_record-clause-value c =
    none-there c.args.image.now c.args.block c.args.sectors.now.items c.loop-number.number c.loop-number-test.true
    (records-next c.args.image.now c.args.block c.args.sectors.now.items c.loop-number.number c.loop-number.sectors.items
    c.loop-number.pairs.items _ _ _ c.loop-number.invariant.so_far refl
    (second-byte c.args.image.now c.args.block c.loop-number.number _ refl)
    (sym (ap (λ (b : Bool). if_taken b (c.add_record.new.sectors.items, c.add_record.new.pairs.items)) c.if-not-add_record.true)
    ∙ c.add_record.ensures.value))

pub loop-number-preserved : goal.loop-number-preserved
loop-number-preserved c = record {
  so_far = records-next c.args.image.now c.args.block c.args.sectors.now.items c.loop-number.number c.loop-number.sectors.items
      c.loop-number.pairs.items _ _ _ c.loop-number.invariant.so_far refl
      (second-byte c.args.image.now c.args.block c.loop-number.number _ refl)
      (sym (ap (λ (b : Bool). if_taken b (c.add_record.new.sectors.items, c.add_record.new.pairs.items)) c.if-not-add_record.false)
      ∙ c.add_record.ensures.value);
  inside = c.add_record.ensures.inside;
  few = c.add_record.ensures.few;
  pairs = omega (arith, c.add_record.ensures.pairs, c.loop-number.invariant.pairs);
}
