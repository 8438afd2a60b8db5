-- The slot of these bytes is that of the image.
use Rattle.std.proofs.Common.{List, ap, slice_index, sym, ℕ, ◌∙◌, refl, rules}
use Rattle.std.proofs.lemmas.Bool.{false≢true}
use Rattle.disk_layout.proofs.lemmas.chains.Names.{named-names, named-none}
use Rattle.disk_layout.specs.Chain.{named_at}
use Rattle.disk_layout.specs.Layout.{is_rel_type}
use Rattle.layout_check.proofs.lemmas.repairing.RightCounts.{counted-none}
use Rattle.layout_check.proofs.lemmas.repairing.RightSlots.{gets-count, right-nowhere, right-plain}
use Rattle.layout_check.proofs.recounting.recount_slot.Goals as goal

pub returns-then-not-is_relative-clause-counted : goal.returns-then-not-is_relative-clause-counted
returns-then-not-is_relative-clause-counted c img here numbers there = record {
  counts = counted-none c.args.bytes.now (search rules);
  right = right-plain img c.args.place c.args.bytes.now c.args.number c.in_sector-slot.result
      (c.in_sector-slot.ensures ∙ there) (λ e. false≢true (sym c.if-not-is_relative.true ∙ c.is_relative.ensures
      ∙ ap (λ (bs : List ℕ). is_rel_type (slice_index bs 2)) c.new-entry.ensures ∙ e));
  kept = λ right. refl;
}

pub returns-in-Some-clause-counted : goal.returns-in-Some-clause-counted
returns-in-Some-clause-counted c img here numbers there =
    gets-count img c.args.place c.args.number c.in_sector-slot.result (c.in_sector-slot.ensures ∙ there)
    c.args.owners.now numbers c.in-Some.first
    (named-names c.in_sector-slot.result.bytes 3 c.in-Some.first
    (sym (ap (λ (bs : List ℕ). named_at bs 3) c.new-entry.ensures) ∙ sym c.first_block.ensures ∙ c.in-Some.is))
    c.owned_with.result c.owned_with.ensures c.args.bytes.now c.set_count.new.bytes here.sound here.own c.requires
    (sym c.in_sector-slot.ensures)
    (sym (c.is_relative.ensures ∙ ap (λ (bs : List ℕ). is_rel_type (slice_index bs 2)) c.new-entry.ensures)
    ∙ c.if-not-is_relative.false)
    c.set_count.ensures.rest (c.set_count.ensures.count c.args.place) (c.set_count.ensures.kept c.args.place)

pub returns-in_default-clause-counted : goal.returns-in_default-clause-counted
returns-in_default-clause-counted c img here numbers there = record {
  counts = counted-none c.args.bytes.now (search rules);
  right = right-nowhere img c.args.place c.args.number c.in_sector-slot.result (c.in_sector-slot.ensures ∙ there)
      c.args.bytes.now (named-none c.in_sector-slot.result.bytes 3
      (sym (ap (λ (bs : List ℕ). named_at bs 3) c.new-entry.ensures) ∙ sym c.first_block.ensures ∙ c.in_default.is));
  kept = λ right. refl;
}
