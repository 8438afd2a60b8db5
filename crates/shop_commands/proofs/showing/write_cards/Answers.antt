-- An item's line was written before the others.
use Rattle.std.proofs.Common.{◌≡◌, ◌+◌, ◌-◌, ◌++◌, ℕ, ap, arith, drop, sym, ◌∙◌}
use Rattle.shop_commands.proofs.Lines.{none-behind, one-before}
use Rattle.shop_commands.specs.Shows.{card_part, cards_to, up_to}
use Rattle.shop_commands.proofs.showing.write_cards.Goals as goal

pub loop-written-init : goal.loop-written-init
loop-written-init g c = record {
  low = omega arith;
  high = omega arith;
  long = omega arith;
  so_far = λ s is.
      let all : c.args.before + 80 - 0 ≡ c.args.before + 80 = omega arith in
      ap (λ n. cards_to s.state n ++ drop 1920 c.args.room.now) all
      ∙ none-behind (c.args.before + 80) (λ item. card_part item (s.state.ledger.cards item)) c.args.room.now 1920
      (omega arith);
}

pub loop-written-preserved : goal.loop-written-preserved
loop-written-preserved g c =
    let inv = c.loop-written.invariant in record {
      low = omega (arith, inv.low, c.write_item-start.ensures.low);
      high = omega (arith, inv.high, c.write_item-start.ensures.high);
      long = omega (arith, inv.long, c.write_item-start.ensures.low);
      so_far = λ s is.
          let line : ℕ → _ = λ item. card_part item (s.state.ledger.cards item) in
          let left : ℕ = c.args.before + 80 - (c.loop-written.written + 1) in
          let next : c.args.before + 80 - c.loop-written.written ≡ left + 1 = omega (arith, c.loop-written-test.true) in
          ap (λ rest. up_to left line ++ rest) c.write_item-start.ensures.written
          ∙ ap (λ q. up_to left line ++ (card_part (c.args.before + 80 - c.loop-written.written) q
          ++ drop c.loop-written.start c.loop-written.room)) (c.in-Ok.ensures.ok s is)
          ∙ ap (λ n. up_to left line ++ (line n ++ drop c.loop-written.start c.loop-written.room)) next
          ∙ one-before left line (drop c.loop-written.start c.loop-written.room)
          ∙ ap (λ n. up_to n line ++ drop c.loop-written.start c.loop-written.room) (sym next)
          ∙ inv.so_far s is;
    }

pub returns-clause-ok : goal.returns-clause-ok
returns-clause-ok g c = λ s is.
    let none : c.args.before ≡ c.args.before + 80 - c.loop-written.written =
    omega (arith, c.loop-written.auto.written-end, c.loop-written-test.false) in
    ap (λ n. cards_to s.state n ++ drop c.loop-written.start c.loop-written.room) none
    ∙ c.loop-written.invariant.so_far s is

pub returns-clause-long : goal.returns-clause-long
returns-clause-long g c = c.loop-written.invariant.long
