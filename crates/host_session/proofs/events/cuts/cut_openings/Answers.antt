-- One opening more.
use Rattle.std.proofs.Common.{◌≡◌, arith, le_refl, refl, subst, sym}
use Rattle.host_session.proofs.lemmas.Held.{at_end, no_change, start, then}
use Rattle.host_session.proofs.lemmas.events.Quiet.{untouched_on}
use Rattle.host_session.specs.shop.Shop.{IsSettled, IsShop}
use Rattle.host_session.proofs.events.cuts.cut_openings.Goals as goal

pub loop-writes-init : goal.loop-writes-init
loop-writes-init g c =
    let h = g.D.Sectors.history in
    record {
      shop = λ s shop. (start h c.args.disk (λ i. IsShop i s) shop, le_refl (h.failures c.args.disk), omega arith);
      quiet = λ s rests. no_change h c.args.disk (λ i. i ≡ h.image c.args.disk) refl;
    }

pub loop-writes-preserved : goal.loop-writes-preserved
loop-writes-preserved g c =
    let h = g.D.Sectors.history in
    record {
      shop = λ s shop.
          let so_far = c.loop-writes.invariant.shop s shop in
          let there = at_end h _ _ (λ i. IsShop i s) so_far.0 in (
            then h _ _ _ (λ i. IsShop i s) so_far.0 (c.cut_opening-disk.ensures.moments s there),
            omega (arith, so_far.1, c.cut_opening-disk.ensures.later s there),
            omega (arith, so_far.2, c.cut_opening-disk.ensures.most s there),
          );
      quiet = λ s rests. untouched_on h _ _ _ (c.loop-writes.invariant.quiet s rests)
          (λ same. c.cut_opening-disk.ensures.quiet s (subst (λ i. IsSettled i s) (sym same) rests));
    }

pub returns-clause-moments : goal.returns-clause-moments
returns-clause-moments g c = λ s shop. (c.loop-writes.invariant.shop s shop).0

pub returns-clause-later : goal.returns-clause-later
returns-clause-later g c = λ s shop. (c.loop-writes.invariant.shop s shop).1

pub returns-clause-most : goal.returns-clause-most
returns-clause-most g c = λ s shop. omega (arith, (c.loop-writes.invariant.shop s shop).2)

pub returns-clause-quiet : goal.returns-clause-quiet
returns-clause-quiet g c = λ s rests. c.loop-writes.invariant.quiet s rests
