-- One sector more was read, or this one wasn't.
use Rattle.std.proofs.Common.{arith, refl, sym, ◌∙◌, ◌≡◌}
use Rattle.std.specs.Prelude.{None}
use Rattle.d64_image.proofs.Order.{each-more, each-place}
use Rattle.damaged_files.specs.reached.Sizes.{error_of}
use Rattle.disk_pictures.proofs.views.reading_errors.is_read.Goals as goal

pub loop-index-init : goal.loop-index-init
loop-index-init c = λ p lt. absurd (omega (arith, lt))

pub loop-index-preserved : goal.loop-index-preserved
loop-index-preserved c =
    each-more (λ p. error_of c.args.image.now p ≡ None) c.loop-index.index c.nth.result c.nth.ensures
    c.loop-index.invariant (c.is_sector_read.ensures.0 c.if-not-is_sector_read.false)

pub returns-then-not-is_sector_read : goal.returns-then-not-is_sector_read
returns-then-not-is_sector_read c = (
  λ t. absurd (cc),
  λ all. sym c.if-not-is_sector_read.true ∙ c.is_sector_read.ensures.1 (all c.nth.result),
)

pub returns : goal.returns
returns c = (
  λ _. each-place (λ p. error_of c.args.image.now p ≡ None) c.loop-index.index c.loop-index-test.false
      c.loop-index.invariant,
  λ _. refl,
)
