use Rattle.std.proofs.Common.{◌+◌, ap, arith, sym, take, ◌∙◌}
use Rattle.sha2.specs.Sha256.{sha256}
use Rattle.image_log.proofs.Sealed.{bytes_eq-same, counts_by, matches_same, same_drop}
use Rattle.image_log.proofs.Runs.{same_parts}
use Rattle.image_log.proofs.blocks.seal.Goals as goal

pub returns-clause-counts : goal.returns-clause-counts
returns-clause-counts c = counts_by c.set_digest.new.block c.set_pair.new.block c.count_zeros-zeros.result c.set_pair.ensures.pair c.count_zeros-zeros.ensures.zeros c.set_pair.ensures.behind

pub returns-clause-matches : goal.returns-clause-matches
returns-clause-matches c =
    let x = c.set_digest.new.block in
    let y = c.set_pair.new.block in
    let same = same_parts x y 2 2 8 (omega (arith, c.set_digest.array_long)) (omega (arith, c.set_pair.array_long))
    (λ i low. sym (c.set_pair.ensures.behind (2 + i) (omega arith))) in
    let behind = same_drop x y 10 (c.set_digest.array_long ∙ sym c.set_pair.array_long)
    (λ i low. sym (c.set_pair.ensures.behind i (omega arith))) in
    matches_same x y c.digest-digest.result c.set_digest.ensures.digest same behind
    (c.digest-digest.ensures ∙ ap sha256 (sym c.set_digest.ensures.behind)) (bytes_eq-same (take 8 c.digest-digest.result))

pub returns-clause-behind : goal.returns-clause-behind
returns-clause-behind c = same_drop c.set_pair.new.block c.set_digest.new.block 10 (c.set_pair.array_long ∙ sym c.set_digest.array_long)
    (λ i low. c.set_pair.ensures.behind i (omega arith)) ∙ c.set_digest.ensures.behind
