-- The sort is by the rank of each slot.
use Rattle.std.proofs.Common.{List, rules, subst}
use Rattle.std.specs.List.Sorted.{IsPermutation, IsStableByKey}
use Rattle.std.proofs.lemmas.List.Sorted.{answers_always}
use Rattle.disk_changes.specs.Sorts.{rank, rank_cmp}
use Rattle.disk_layout.specs.declared.slot.Slot.{Slot}
use Rattle.disk_changes.proofs.sorting.in_order.Goals as goal

pub returns-in-Ok-sort_by_key-clause-ok : goal.returns-in-Ok-sort_by_key-clause-ok
returns-in-Ok-sort_by_key-clause-ok c =
    let new = c.sort_by_key.new.self.items in
    record {
      moved = subst (λ (xs : List Slot). IsPermutation xs new) c.in-Ok.ensures.items c.sort_by_key.ensures.permutation;
      ascend = c.in-Ok-sort_by_key.ensures.sorted rank (answers_always _ _ _ (λ f a r g h. search rules));
      stable = subst (λ (xs : List Slot). IsStableByKey rank rank_cmp xs new) c.in-Ok.ensures.items
          (c.in-Ok-sort_by_key.ensures.stable rank (answers_always _ _ _ (λ f a r g h. search rules)));
    }
