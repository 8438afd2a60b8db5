-- Before the first track, and track by track.
use Rattle.std.proofs.Common.{arith, subst, sym, ◌+◌, ◌∙◌, ◌≡◌}
use Rattle.disk_layout.proofs.blank_map.blank_map.Goals as goal
use Rattle.disk_layout.proofs.lemmas.blank.Freeing.{IsMadeTo, made-all, made-none, made-track}
use Rattle.disk_layout.specs.Free.{IsFreeFrom}
use Rattle.std.proofs.Common.{List, ℕ}

pub loop-below-init : goal.loop-below-init
loop-below-init c =
    let P : List ℕ → Type 0 = λ b. IsMadeTo b c.args.name.now c.args.id c.args.blocks 0 in
    subst P (sym (c.new-map.ensures ∙ c.blank_header.ensures)) (made-none c.args.name.now c.args.id c.args.blocks)

pub free_from-requires-clause-none : goal.free_from-requires-clause-none
free_from-requires-clause-none c = c.loop-below.invariant.none (c.loop-below.below + 1) (omega arith) (omega arith)

pub loop-below-preserved : goal.loop-below-preserved
loop-below-preserved c =
    let P : ℕ → Type 0 = λ k. IsFreeFrom c.loop-below.map.bytes c.free_from.new.map.bytes (c.loop-below.below + 1) k
    24 in
    made-track c.loop-below.map.bytes c.free_from.new.map.bytes c.args.name.now c.args.id c.args.blocks
    c.loop-below.below c.loop-below.invariant (subst P c.taken_on.ensures.value c.free_from.ensures)

pub returns : goal.returns
returns c =
    let all : c.loop-below.below ≡ 35 = omega (arith, c.loop-below-test.false, c.loop-below.auto.below-end) in
    made-all _ _ _ _ _ all c.loop-below.invariant
