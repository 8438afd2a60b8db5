-- Sector by sector.
use Rattle.std.proofs.Common.{arith, refl, sym, ◌∷◌, ◌∙◌}
use Rattle.std.proofs.lemmas.Bool.{false≢true}
use Rattle.std.specs.Prelude.{Contains}
use Rattle.d64_image.proofs.Order.{each-more}
use Rattle.d64_image.proofs.Places.{index_below}
use Rattle.disk_layout.specs.Directory.{map_place}
use Rattle.disk_layout.specs.Layout.{owners}
use Rattle.disk_layout.specs.Map.{IsFree}
use Rattle.damaged_files.proofs.cut.strays.has_stray.Goals as goal

pub returns-then-is_stray : goal.returns-then-is_stray
returns-then-is_stray c l of = (
  λ _.
      let (taken, unowned) = (c.is_stray.ensures l of).0 c.if-is_stray.true in
      (c.nth.result, taken, unowned),
  λ _. refl,
)

pub loop-index-preserved : goal.loop-index-preserved
loop-index-preserved c = record {
  none = λ m of. each-more (λ p. ¬ (IsFree c.args.map.now p) → ¬ (Contains (map_place ∷ owners m) p) → ⊥)
      c.loop-index.index c.nth.result c.nth.ensures (c.loop-index.invariant.none m of)
      (λ taken unowned. false≢true (sym c.if-is_stray.false ∙ (c.is_stray.ensures m of).1 (taken, unowned)));
}

pub returns : goal.returns
returns c l of = (
  λ t. absurd (false≢true t),
  λ (p, taken, unowned). absurd (c.loop-index.invariant.none l of p
      (omega (arith, index_below p, c.loop-index-test.false)) taken unowned),
)
