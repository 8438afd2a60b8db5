-- Slot by slot.
use Rattle.std.proofs.Common.{arith, length, refl, subst, sym, ◌∙◌}
use borrow.Author.Count.{below_more}
use Rattle.std.proofs.lemmas.Bool.{false≢true}
use Rattle.std.proofs.lemmas.Option.{slice_get_read, slice_get_within}
use Rattle.disk_changes.specs.ShopFiles.{IsNamedShopSlot}
use Rattle.disk_layout.specs.declared.slot.Slot.{Slot}
use Rattle.rel_records.proofs.lemmas.reading.Found.{same-slot}
use Rattle.disk_changes.proofs.shop_files.has_shop_slot.Goals as goal

pub returns-then-is_named_shop_slot : goal.returns-then-is_named_shop_slot
returns-then-is_named_shop_slot c = (
  λ _. (
    c.loop-slot.slot-index,
    c.slot-item.result,
    slice_get_read c.args.slots.now (length c.args.slots.now) c.loop-slot.slot-index c.slot-item.result refl
        c.loop-slot-test.true c.slot-item.is,
    c.is_named_shop_slot.ensures.0 c.if-is_named_shop_slot.true,
  ),
  λ _. refl,
)

pub loop-slot-preserved : goal.loop-slot-preserved
loop-slot-preserved c =
    let there = slice_get_read c.args.slots.now (length c.args.slots.now) c.loop-slot.slot-index c.slot-item.result refl
    c.loop-slot-test.true c.slot-item.is in
    record {
      none = below_more _ _ c.loop-slot.invariant.none (λ s at shop.
          let P : Slot → Type 0 = λ x. IsNamedShopSlot c.args.name.now x in
          false≢true (sym c.if-is_named_shop_slot.false ∙ c.is_named_shop_slot.ensures.1
          (subst P (sym (same-slot c.args.slots.now c.loop-slot.slot-index c.slot-item.result s there at)) shop)));
    }

pub returns : goal.returns
returns c = (
  λ h. absurd (false≢true h),
  λ (k, s, at, shop). absurd (c.loop-slot.invariant.none k
      (omega (arith, c.loop-slot-test.false, slice_get_within c.args.slots.now k s at)) s at shop),
)
