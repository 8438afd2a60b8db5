-- Sector by sector.
use Rattle.file_changes.proofs.FreedMaps.{freed-all, freed-more, freed-start}
use Rattle.file_changes.specs.Frees.{IsLeft}
use Rattle.file_changes.proofs.freeing.give_all_left.Goals as goal

pub loop-index-init : goal.loop-index-init
loop-index-init c = record { freed = λ k m one two. freed-start c.args.map.now.bytes (IsLeft k m) }

pub loop-index-preserved : goal.loop-index-preserved
loop-index-preserved c = record {
  freed = λ k m one two. freed-more _ _ _ c.loop-index.index c.nth.result (IsLeft k m) c.nth.ensures
      (c.loop-index.invariant.freed k m one two) (c.give_left.ensures k m one two);
}

pub returns : goal.returns
returns c k m one two = freed-all _ _ c.loop-index.index (IsLeft k m) c.loop-index-test.false
    (c.loop-index.invariant.freed k m one two)
