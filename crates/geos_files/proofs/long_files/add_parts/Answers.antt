-- The blocks that the entry names, and what they lead to.
use Rattle.std.proofs.Common.{◌∙◌, ◌++◌, ◌∷◌, [], List, ℕ, ap, arith}
use Rattle.std.proofs.lemmas.Bool.{eq-eqb}
use Rattle.long_chains.proofs.Sizes.{few}
use Rattle.geos_files.proofs.Long.{named-chain, named-records, no-first, no-info}
use Rattle.geos_files.proofs.long_files.add_parts.Goals as goal

pub returns-in_default-clause-value : goal.returns-in_default-clause-value
returns-in_default-clause-value c = no-info c.args.image.now c.args.slot.now c.in_default.ensures.value

pub returns-in_default-sector_at-clause-value : goal.returns-in_default-sector_at-clause-value
returns-in_default-sector_at-clause-value c =
    no-first c.args.image.now c.args.slot.now c.in-Some.info c.in-Some.ensures.value c.in_default-sector_at.ensures.value

pub overflow_cast-info : goal.overflow_cast-info
overflow_cast-info c = omega (arith, few c.args.image.now c.in-Some.info c.in-Some.ensures.inside)

pub overflow_cast-first : goal.overflow_cast-first
overflow_cast-first c = omega (arith, few c.args.image.now c.in-Some-sector_at.first c.in-Some-sector_at.ensures.inside)

pub returns-then-bytes-ne1-clause-value : goal.returns-then-bytes-ne1-clause-value
returns-then-bytes-ne1-clause-value c =
    named-chain c.args.image.now c.args.slot.now c.in-Some.info c.in-Some-sector_at.first c.add_chain.result
    c.push.new.self.items c.add_chain.new.sectors.items c.args.pairs.now.items c.if-bytes-ne1.true c.in-Some.ensures.value
    c.in-Some-sector_at.ensures.value
    (c.push.ensures.items ∙ ap (λ (ns : List ℕ). ns ++ c.in-Some.info ∷ []) c.requires.sectors) c.requires.pairs
    c.add_chain.ensures.value

pub returns-clause-value : goal.returns-clause-value
returns-clause-value c =
    named-records c.args.image.now c.args.slot.now c.in-Some.info c.in-Some-sector_at.first _ c.push-2.new.self.items
    (eq-eqb _ 1 c.if-bytes-ne1.false) c.in-Some.ensures.value c.in-Some-sector_at.ensures.value
    (c.push-2.ensures.items
    ∙ ap (λ (ns : List ℕ). ns ++ c.in-Some-sector_at.first ∷ [])
    (c.push.ensures.items ∙ ap (λ (ns : List ℕ). ns ++ c.in-Some.info ∷ []) c.requires.sectors))
    c.add_records.ensures.value
