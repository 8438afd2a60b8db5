-- The digits are those of the table.
use Rattle.std.proofs.Common.{◌≡◌, ◌+◌, ◌%◌, set, arith, length-set}
use Rattle.std.proofs.lemmas.List.{set_comm, drop-set}
use Rattle.request_cards.proofs.Pairs.{pair_at}
use Rattle.request_cards.proofs.fixed.write_pair.Goals as goal

pub returns : goal.returns
returns c =
    let p = pair_at c.args.pair c.requires.0 in
    let at = c.args.at in
    let room = c.args.room.now in
    let e : at + 1 + 1 ≡ at + 2 = omega arith in
    rw (
      p.0,
      p.1,
      set_comm room at (at + 1) _ _ (λ x. omega arith),
      drop-set (set room (at + 1) (48 + c.args.pair % 10))
          at _ (omega (arith, length-set room (at + 1) (48 + c.args.pair % 10))),
      drop-set room (at + 1) _ (omega arith),
      e,
    )
