-- 683 times the same sector of zeros.
use Rattle.std.proofs.Common.{[], rules, arith}
use Rattle.d64_image.specs.Chunks.{zeros_in, zeros_are_image}
use Rattle.d64_image.specs.Images.{sector}
use Rattle.d64_image.specs.Places.{index_of}
use Rattle.example_device.proofs.notched_disk.NotchedDisk.zeroed.Goals as goal

pub invariant_of-result : goal.invariant_of-result
invariant_of-result c = record {
  whole = zeros_are_image c.resize.new.self.items 256 (omega arith) (omega (arith, c.in-Ok.ensures.len))
      (λ i lt. c.in-Ok.ensures.by_index.1 i [] (search rules) (omega arith) lt);
}

pub returns-in-Ok-clause-bytes : goal.returns-in-Ok-clause-bytes
unfolding sector
returns-in-Ok-clause-bytes c = λ p i.
    zeros_in c.resize.new.self.items 256 683 (omega (arith, c.in-Ok.ensures.len))
    (λ k lt. c.in-Ok.ensures.by_index.1 k [] (search rules) (omega arith) lt) (index_of p) i
