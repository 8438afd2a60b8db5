use Rattle.std.proofs.Common.{ℕ, ◌≤◌, ◌<◌, ◌∙◌, ap, arith, not, subst}
use Rattle.drive_channels.proofs.Moves.{among, behind, large-row, not-many, past-row, placed-row, too-many}
use Rattle.drive_channels.proofs.Orders.{no-truth}
use Rattle.drive_channels.proofs.commands.go_to.Goals as goal
use Rattle.rel_records.specs.File.{records_in}
use Rattle.rel_records.specs.growth.Growth.{blocks_for}

pub returns-then-wanted-length-clause-row : goal.returns-then-wanted-length-clause-row
returns-then-wanted-length-clause-row c = λ img s b found. past-row img c.args.found.now c.args.spot.now c.args.wanted s
    b found (omega (arith, c.length-length.ensures.value, c.if-wanted-length.true))

pub returns-then-is_none-clause-row : goal.returns-then-is_none-clause-row
returns-then-is_none-clause-row c = λ img s b found. large-row img c.args.found.now c.args.spot.now c.args.wanted s b
    found (omega (arith, c.length-length.ensures.value, c.if-wanted-length.false))
    (subst (λ (L : ℕ). 720 < blocks_for L c.args.wanted.record_number) c.length-length.ensures.value
    (too-many _ _ _ c.requires.record_high c.blocks_for.ensures (c.is_none.ensures ∙ ap not c.if-is_none.true)))

pub returns-then-not-has_records-clause-row : goal.returns-then-not-has_records-clause-row
returns-then-not-has_records-clause-row c =
    let absent : ¬ (c.args.wanted.record_number ≤ records_in c.args.found.now.file) =
    λ there. no-truth _ c.if-not-has_records.true (c.has_records.ensures.1 there) in
    λ img s b found. placed-row img c.args.found.now c.args.spot.now c.args.wanted s b found
    (omega (arith, c.length-length.ensures.value, c.if-wanted-length.false))
    (subst (λ (L : ℕ). blocks_for L c.args.wanted.record_number ≤ 720) c.length-length.ensures.value
    (not-many _ _ _ c.blocks_for.ensures (c.is_none.ensures ∙ ap not c.if-is_none.false)))
    _ (behind c.args.wanted.record_number _ (omega (arith, absent)))

pub returns-clause-row : goal.returns-clause-row
returns-clause-row c = λ img s b found. placed-row img c.args.found.now c.args.spot.now c.args.wanted s b found
    (omega (arith, c.length-length.ensures.value, c.if-wanted-length.false))
    (subst (λ (L : ℕ). blocks_for L c.args.wanted.record_number ≤ 720) c.length-length.ensures.value
    (not-many _ _ _ c.blocks_for.ensures (c.is_none.ensures ∙ ap not c.if-is_none.false)))
    _ (among c.args.wanted.record_number _ (c.has_records.ensures.0 c.if-not-has_records.false))
