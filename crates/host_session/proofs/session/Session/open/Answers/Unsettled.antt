-- The device failed as the disk was brought to rest.
use Rattle.std.proofs.Common.{Err, ap, arith, refl, subst, sym, ◌≡◌, ◌∙◌}
use Rattle.std.proofs.lemmas.Result.{err_from_is_err_and}
use Rattle.host_session.proofs.lemmas.Held.{changes_then, changes_weaker, reads_change}
use Rattle.host_session.specs.shop.Shop.{IsSettled, IsShop, shop_of}
use Rattle.host_session.specs.session.Standing.{View}
use Rattle.host_session.proofs.lemmas.opening.Opens.{device-ok, device-refused, error-changes, error-device, error-told}
use Rattle.host_session.proofs.lemmas.opening.Opens.{judged-same, ok-of, opening-later}
use Rattle.host_session.proofs.session.Session.open.Goals as goal

pub returns-in_err-drive : goal.returns-in_err-drive
returns-in_err-drive g c =
    let S = g.D.Sectors.history in
    let (f, has, j) = ok-of c.load_shop.result c.in_default.not-Err _ c.load_shop.ensures.ok in
    let shop : IsShop (S.image c.args.disk) (shop_of f) =
    record { files = f; has = has; records = j.records; is = refl } in
    let same = judged-same S c.args.disk c.load_shop.new.disk c.load_shop.result c.in_default.not-Err
    c.load_shop.ensures.failures in
    let p = err_from_is_err_and c.from_residual.result c.from_residual.ensures.1 in
    let is = p.1 ∙ ap Err p.2 in
    let told = error-told S (λ (x : View g.row.D.Denot). x.disk) c.load_shop.new.disk c.from_residual.result
    c.in_err-drive.field-0.0 is c.in_err-drive.ensures.mends.failures in
    let device = error-device S (λ (x : View g.row.D.Denot). x.disk) c.load_shop.new.disk c.from_residual.result
    c.in_err-drive.field-0.0 is c.in_err-drive.ensures.mends.err in
    record {
      ok = rw is tt;
      err = device-refused S (λ (x : View g.row.D.Denot). x.disk) c.args.disk c.load_shop.new.disk same
          c.from_residual.result told (S.image c.args.disk) device;
      opens = λ never. (
        λ ok. (shop_of f, shop),
        λ some. device-ok S (λ (x : View g.row.D.Denot). x.disk) c.args.disk c.load_shop.new.disk same
            c.from_residual.result told device never,
      );
      moments = λ s h.
          changes_then S c.args.disk c.load_shop.new.disk _ 0 952 952 (λ i. IsShop i s) (omega arith)
          (reads_change S c.args.disk c.load_shop.new.disk 34190 (λ i. IsShop i s) c.load_shop.ensures.reads h)
          (error-changes S c.load_shop.new.disk 952 952 (λ i. IsShop i s) (λ (x : View g.row.D.Denot). x.disk)
          c.from_residual.result c.in_err-drive.field-0.0 (omega arith) is
          (c.in_err-drive.ensures.mends.moments s (subst (λ i. IsShop i s) (sym c.load_shop.ensures.reads.image) h)));
      unfit = λ none. absurd (none (shop_of f, shop));
      quiet = λ s r.
          changes_then S c.args.disk c.load_shop.new.disk _ 0 0 0 (λ i. i ≡ S.image c.args.disk) (omega arith)
          (reads_change S c.args.disk c.load_shop.new.disk 34190 (λ i. i ≡ S.image c.args.disk)
          c.load_shop.ensures.reads refl)
          (changes_weaker S c.load_shop.new.disk _ 0 0 (λ i. i ≡ S.image c.load_shop.new.disk)
          (λ i. i ≡ S.image c.args.disk) (omega arith) (λ i e. e ∙ c.load_shop.ensures.reads.image)
          (error-changes S c.load_shop.new.disk 0 0 (λ i. i ≡ S.image c.load_shop.new.disk)
          (λ (x : View g.row.D.Denot). x.disk) c.from_residual.result c.in_err-drive.field-0.0 (omega arith) is
          (c.in_err-drive.ensures.mends.quiet
          (s, subst (λ i. IsSettled i s) (sym c.load_shop.ensures.reads.image) r))));
      failures = opening-later S (λ (x : View g.row.D.Denot). x.disk) c.args.disk c.load_shop.new.disk same
          c.from_residual.result told;
    }
