-- No slot before is that.
use Rattle.std.proofs.Common.{◌≡◌, ◌<◌, ℕ}
use Rattle.std.specs.Prelude.{Some, slice_get}
use Rattle.disk_layout.specs.declared.slot.Slot.{Slot}
use Rattle.disk_changes.specs.ShopFiles.{IsNamedShopSlot}
use Rattle.disk_changes.proofs.shop_files.has_shop_slot.Given as goal

abbrev pub invariant-loop-slot : goal.invariant-loop-slot
invariant-loop-slot l = record {
  none : (k : ℕ) → k < l.slot-index → (s : Slot) → slice_get l.slots k ≡ Some s → ¬ (IsNamedShopSlot l.name s);
}
