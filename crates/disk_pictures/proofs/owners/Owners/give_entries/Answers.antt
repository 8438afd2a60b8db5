-- One entry more has its sectors.
use Rattle.std.proofs.Common.{◌≡◌, ◌+◌, ◌-◌, ap, if◌then◌else◌, sym, ◌∙◌, arith, ℕ}
use Rattle.disk_pictures.proofs.Owning.{entry-given, none-given, rest_owner}
use Rattle.disk_pictures.specs.Drawings.{has}
use Rattle.disk_pictures.specs.Owners.{owner_in}
use Rattle.disk_pictures.specs.declared.owners.Owner.TheVariants as owners
use Rattle.disk_pictures.proofs.owners.Owners.give_entries.Goals as goal

pub loop-number-init : goal.loop-number-init
loop-number-init c = λ p. c.requires p ∙ sym (none-given c.args.files.now _ p (omega arith))

pub loop-number-preserved : goal.loop-number-preserved
loop-number-preserved c = λ p.
    let n = c.loop-number.number in
    let more : n ≡ n - 1 + 1 = omega (arith, c.loop-number-test.true) in
    let so_far = c.loop-number.invariant p ∙ ap (λ (i : ℕ). rest_owner c.args.files.now i p) more in
    let sides = c.give.ensures p ∙ ap (λ ps. if has ps p then owners.Sides
    (n - 1) else owner_in c.loop-number.self p) c.as_slice.ensures.value in
    let blocks = c.give-in-loop-number.ensures p
    ∙ ap (λ ps. if has ps p then owners.Blocks
    (n - 1) else owner_in c.give.new.self p) c.as_slice-in-loop-number.ensures.value in
    entry-given c.args.files.now (n - 1) c.index-files-number.result p _ _ _
    (omega (arith, c.loop-number-test.true, c.loop-number.auto.number))
    (sym c.index-files-number.is) so_far sides blocks
