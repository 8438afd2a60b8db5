-- One more track, and all of them.
use Rattle.std.proofs.Common.{ap, arith, ◌+◌, ◌∙◌, ◌≡◌}
use Rattle.std.specs.Prelude.{sum_by}
use Rattle.disk_layout.specs.Map.{numbers_below}
use Rattle.disk_layout.specs.View.{blocks_free, data_count}
use Rattle.disk_layout.proofs.lemmas.lists.Sums.{sum_more}
use Rattle.disk_layout.proofs.views.BamView.blocks_free.Goals as goal

pub loop-below-preserved : goal.loop-below-preserved
loop-below-preserved c = record {
  so_far = sum_more (λ n. data_count c.args.self.now.bytes.now (n + 1)) c.loop-below.below c.loop-below.sum
      c.data_count.result c.loop-below.invariant.so_far c.data_count.ensures;
  small = omega arith;
}

pub returns : goal.returns
unfolding blocks_free
returns c =
    let all : c.loop-below.below ≡ 35 = omega arith in
    c.loop-below.invariant.so_far
    ∙ ap (λ n. sum_by (λ k. data_count c.args.self.now.bytes.now (k + 1)) (numbers_below n)) all
