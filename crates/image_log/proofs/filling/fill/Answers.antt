-- One block more: it stands at the next place, and those before stay.
use Rattle.std.proofs.Common.{◌+◌, ◌∙◌, ◌<◌, ◌≡◌, ℕ, List, [], ap, arith, false, length, slice_index_or, sym, true}
use Rattle.std.proofs.lemmas.List.{length-set}
use Rattle.image_log.specs.Blocks.{brought, is_last, is_whole, written}
use Rattle.image_log.proofs.Filled.{all_wide, brought_none, one_more, replayed_more}
use Rattle.image_log.proofs.Runs.{replayed_none}
use Rattle.image_log.proofs.filling.fill.Goals as goal

pub loop-m-init : goal.loop-m-init
loop-m-init c = record {
  room = c.requires.room;
  wide = λ q low. c.told-room q (omega (arith, low, c.requires.room));
  some = omega arith;
  full = omega arith;
  whole = λ q low. absurd (omega (arith, low));
  more = λ q low. absurd (omega (arith, low));
  brought = λ image. replayed_none (λ q. slice_index_or c.args.room.now q []) image ∙ sym (brought_none c.args.touched.now c.args.now.now image);
}

pub loop-m-preserved : goal.loop-m-preserved
loop-m-preserved c =
    let m = c.loop-m.m in
    let inv = c.loop-m.invariant in
    let room = c.loop-m.room in
    let b = c.make_block-from.new.block in
    let made = c.make_block-from.ensures in
    let within : m < length room = omega (arith, inv.room, c.loop-m-test.true) in
    let some : c.make_block-from.result < 683 = omega (arith, made.upto, c.if-from-eq-SECTORS.false) in
    record {
      room = length-set room m b ∙ inv.room;
      wide = all_wide room m b 46 made.wide inv.wide;
      some = some;
      full = omega (arith, inv.full, made.full some);
      whole = λ q low. one_more room m b (λ (k : ℕ) (x : List ℕ). is_whole (c.args.place + k) x ≡ true) within made.whole inv.whole q low;
      more = λ q low. one_more room m b (λ (k : ℕ) (x : List ℕ). is_last x ≡ false) within (made.more some) inv.more q low;
      brought = λ image. replayed_more room m b image within ∙ ap (written b) (inv.brought image) ∙ made.brought image;
    }

pub returns-then-from-eq-SECTORS-clause-brought : goal.returns-then-from-eq-SECTORS-clause-brought
returns-then-from-eq-SECTORS-clause-brought c image =
    let m = c.loop-m.m in
    let inv = c.loop-m.invariant in
    let room = c.loop-m.room in
    let b = c.make_block-from.new.block in
    let made = c.make_block-from.ensures in
    let within : m < length room = omega (arith, inv.room, c.loop-m-test.true) in
    replayed_more room m b image within ∙ ap (written b) (inv.brought image) ∙ made.brought image
    ∙ ap (λ (n : ℕ). brought c.args.touched.now c.args.now.now n image) c.if-from-eq-SECTORS.true

pub returns-then-from-eq-SECTORS-clause-wide : goal.returns-then-from-eq-SECTORS-clause-wide
returns-then-from-eq-SECTORS-clause-wide c =
    all_wide c.loop-m.room c.loop-m.m c.make_block-from.new.block 46 c.make_block-from.ensures.wide c.loop-m.invariant.wide
