-- The disk was refused as it was judged.
use Rattle.std.proofs.Common.{arith, refl, ◌≡◌}
use Rattle.std.proofs.lemmas.Bool.{false≢true}
use Rattle.host_session.proofs.lemmas.Held.{changes_weaker, reads_change}
use Rattle.host_session.specs.shop.Shop.{IsShop}
use Rattle.host_session.proofs.lemmas.opening.Opens.{judged-opening, refused-no}
use Rattle.host_session.proofs.session.Session.open.Goals as goal

pub returns-in-Err : goal.returns-in-Err
returns-in-Err g c =
    let S = g.D.Sectors.history in
    record {
      ok = tt;
      err = c.in-Err.ensures.err;
      opens = λ never. (
        λ ok. absurd (false≢true ok),
        λ some. absurd (refused-no S c.args.disk c.load_shop.new.disk c.in-Err.fault never
            c.in-Err.ensures.err some),
      );
      moments = λ s h.
          changes_weaker S c.args.disk c.load_shop.new.disk 0 952 (λ i. IsShop i s) (λ i. IsShop i s) (omega arith)
          (λ i x. x)
          (reads_change S c.args.disk c.load_shop.new.disk 34190 (λ i. IsShop i s) c.load_shop.ensures.reads h);
      unfit = λ none.
          reads_change S c.args.disk c.load_shop.new.disk 34190 (λ i. i ≡ S.image c.args.disk)
          c.load_shop.ensures.reads refl;
      quiet = λ s r.
          reads_change S c.args.disk c.load_shop.new.disk 34190 (λ i. i ≡ S.image c.args.disk)
          c.load_shop.ensures.reads refl;
      failures = judged-opening (Unit {0}) S c.args.disk c.load_shop.new.disk c.in-Err.fault c.in-Err.ensures.failures;
    }
