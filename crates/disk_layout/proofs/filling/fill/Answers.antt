-- The bytes are zeros from the first one on that is filled, and then records are begun in them.
use Rattle.std.proofs.Common.{arith, ap, max, ℕ, ◌∙◌, ◌+◌, ◌-◌, ◌<◌, ◌≡◌, ◌≤◌}
use Rattle.std.specs.Prelude.{min}
use borrow.Rule.Slice.PartMut.{put_mid}
use Rattle.disk_layout.proofs.filling.fill.Goals as goal
use Rattle.disk_layout.proofs.lemmas.records.EmptyRecords.{IsBegun, begun-filled, begun-kept, span, zeros-before}
use Rattle.disk_layout.proofs.lemmas.records.EmptyRecords.{zeros-there}

-- where in the block the filling begins
clip : (at from later first : ℕ) → later ≡ max from at → first ≡ min later (at + 254)
    → (at ≤ first) × (first ≤ at + 254)
clip at from later first a b = (omega (arith, a, b), omega (arith, b))

inside : (at first : ℕ) → at ≤ first → first ≤ at + 254 → 2 + (first - at) ≤ 256
inside at first low high = omega (arith, low, high)

ahead : (at first j : ℕ) → j < 2 → j < 2 + (first - at)
ahead at first j lt = omega (arith, lt)

pub overflow_sub-first : goal.overflow_sub-first
overflow_sub-first c = (clip c.args.at c.args.from c.max.result c.min-first.result c.max.ensures c.min-first.ensures).0

pub slice_bounds-fill-count : goal.slice_bounds-fill-count
slice_bounds-fill-count c =
    let first = clip c.args.at c.args.from c.max.result c.min-first.result c.max.ensures c.min-first.ensures in
    inside c.args.at c.min-first.result first.0 first.1

pub start_records-requires-clause-inside : goal.start_records-requires-clause-inside
start_records-requires-clause-inside c r begin end =
    let few = c.min-end.ensures ∙ ap (λ (n : ℕ). min n c.args.total) c.div_ceil.ensures in
    let s = span c.args.at c.min-first.result c.args.length c.args.total c.div_ceil-begin.result c.min-end.result
    c.requires.length (omega (arith, c.max.ensures, c.min-first.ensures)) c.div_ceil-begin.ensures few in
    (omega (arith, s.inside, s.from r begin), s.below r end)

begun : (c : goal.After-start_records) → IsBegun c.args.at c.min-first.result c.args.length c.args.total
    c.div_ceil-begin.result c.min-end.result (put_mid (2 + (c.min-first.result - c.args.at))
    (256 - (2 + (c.min-first.result - c.args.at))) c.args.bytes.now c.fill.new.self) c.start_records.new.bytes
begun c =
    let few = c.min-end.ensures ∙ ap (λ (n : ℕ). min n c.args.total) c.div_ceil.ensures in
    record {
      span = span c.args.at c.min-first.result c.args.length c.args.total c.div_ceil-begin.result c.min-end.result
          c.requires.length (omega (arith, c.max.ensures, c.min-first.ensures)) c.div_ceil-begin.ensures few;
      zeros = λ i low lt. zeros-there (2 + (c.min-first.result - c.args.at))
          (256 - (2 + (c.min-first.result - c.args.at))) c.args.bytes.now c.fill.new.self i c.told-bytes
          (omega (arith, c.max.ensures, c.min-first.ensures)) (c.fill.ensures.after (λ y e. e)) low lt;
      begun = c.start_records.ensures.begun;
      rest = c.start_records.ensures.rest;
    }

pub returns-clause-filled : goal.returns-clause-filled
returns-clause-filled c j lt from = begun-filled (begun c) j (omega (
  arith,
  c.max.ensures,
  c.min-first.ensures,
  from,
  lt,
)) lt

pub returns-clause-kept : goal.returns-clause-kept
returns-clause-kept c j lt before =
    begun-kept (begun c) j (omega (arith, c.max.ensures, c.min-first.ensures, before, lt))
    ∙ zeros-before (2 + (c.min-first.result - c.args.at)) (256 - (2 + (c.min-first.result - c.args.at)))
    c.args.bytes.now c.fill.new.self (2 + j) (omega (arith, c.told-bytes, c.max.ensures, c.min-first.ensures))
    (omega (arith, c.max.ensures, c.min-first.ensures, before, lt))

pub returns-clause-link : goal.returns-clause-link
returns-clause-link c j lt =
    let first = clip c.args.at c.args.from c.max.result c.min-first.result c.max.ensures c.min-first.ensures in
    c.start_records.ensures.rest j (λ r low end. omega (arith, lt))
    ∙ zeros-before (2 + (c.min-first.result - c.args.at)) (256 - (2 + (c.min-first.result - c.args.at)))
    c.args.bytes.now c.fill.new.self j (rw c.told-bytes (inside c.args.at c.min-first.result first.0 first.1))
    (ahead c.args.at c.min-first.result j lt)
