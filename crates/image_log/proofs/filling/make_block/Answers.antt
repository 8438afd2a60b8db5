-- The digest and the count leave what is behind them.
use Rattle.std.proofs.Common.{◌∙◌, ◌≤◌, ℕ, ap, arith, eqb}
use Rattle.std.proofs.lemmas.Bool.{and_from, eq-eqb, ne_eqb}
use Rattle.image_log.specs.Blocks.{brought, pair_at, with_sectors}
use Rattle.image_log.proofs.Filled.{with_alike}
use Rattle.image_log.proofs.Sealed.{by_drop}
use Rattle.image_log.proofs.filling.make_block.Goals as goal

pub returns-clause-last : goal.returns-clause-last
returns-clause-last c last =
    ap (λ (k : ℕ). eqb k 2) (by_drop c.seal.new.block c.set_header.new.block 10 10 c.seal.ensures.behind (omega arith))
    ∙ c.set_header.ensures.last ∙ eq-eqb c.set_sectors-n.result.1 683 last

pub returns-clause-more : goal.returns-clause-more
returns-clause-more c more =
    ap (λ (k : ℕ). eqb k 2) (by_drop c.seal.new.block c.set_header.new.block 10 10 c.seal.ensures.behind (omega arith))
    ∙ c.set_header.ensures.last ∙ ne_eqb c.set_sectors-n.result.1 683 (omega (arith, more))

pub returns-clause-whole : goal.returns-clause-whole
returns-clause-whole c =
    let new = c.seal.new.block in
    let low = by_drop new c.set_header.new.block 10 12 c.seal.ensures.behind (omega arith) in
    let high = by_drop new c.set_header.new.block 10 13 c.seal.ensures.behind (omega arith) in
    and_from _ _ c.seal.ensures.counts
    (and_from _ _ (eq-eqb (pair_at new 12) c.args.place (omega (arith, low, high, c.set_header.ensures.place))) c.seal.ensures.matches)

pub returns-clause-wide : goal.returns-clause-wide
returns-clause-wide c = c.seal.array_long

pub returns-clause-brought : goal.returns-clause-brought
returns-clause-brought c image =
    let old = c.set_sectors-n.new.block in
    let new = c.seal.new.block in
    let n = c.set_sectors-n.result.0 in
    let behind = λ (i : ℕ) (from : 16 ≤ i). by_drop new c.set_header.new.block 10 i c.seal.ensures.behind (omega (arith, from)) ∙ c.set_header.ensures.behind i from in
    let said = by_drop new c.set_header.new.block 10 11 c.seal.ensures.behind (omega arith) ∙ c.set_header.ensures.sectors in
    let few = c.set_sectors-n.ensures.few in
    let from = brought c.args.touched.now c.args.now.now c.args.from image in
    ap (λ (k : ℕ). with_sectors new k from) (omega (arith, said, few))
    ∙ with_alike new old c.seal.array_long c.set_sectors-n.array_long n few (λ i at low. behind i at) (λ i at low. behind i (omega (arith, at))) from
    ∙ c.set_sectors-n.ensures.brought image
