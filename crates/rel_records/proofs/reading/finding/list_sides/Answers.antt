-- Number by number: the places listed so far.
use Rattle.std.proofs.Common.{arith, List, ap, ℕ, ◌*◌, ◌+◌, ◌∙◌}
use Rattle.disk_layout.specs.Chain.{named_at}
use Rattle.rel_records.proofs.lemmas.reading.Found.{listed-more, listed-some}
use Rattle.rel_records.proofs.reading.finding.list_sides.Goals as goal
use Rattle.std.proofs.lemmas.List.{take_all}

pub unwrap-requires : goal.unwrap-requires
unwrap-requires c =
    let (qs, count, few, names) = c.requires.of in
    listed-some c.args.bytes.now qs c.loop-number.number c.side.result names
    (omega (arith, count, c.loop-number-test.true)) (c.side.ensures
    ∙ ap (λ (bytes : List ℕ). named_at bytes (4 + 2 * c.loop-number.number)) c.new-view.ensures)

pub loop-number-preserved : goal.loop-number-preserved
loop-number-preserved c = record {
  listed = λ qs count names. listed-more c.args.bytes.now qs c.loop-number.sides.items c.push.new.self.items
      c.loop-number.number c.side.result c.unwrap.result names (omega (arith, count, c.loop-number-test.true))
      (c.side.ensures ∙ ap (λ (bytes : List ℕ). named_at bytes (4 + 2 * c.loop-number.number)) c.new-view.ensures)
      c.unwrap.ensures (c.loop-number.invariant.listed qs count names) c.push.ensures.items;
}

pub returns : goal.returns
returns c = λ qs count names. c.loop-number.invariant.listed qs count names
    ∙ take_all c.loop-number.number qs (omega (arith, count, c.loop-number-test.false))
