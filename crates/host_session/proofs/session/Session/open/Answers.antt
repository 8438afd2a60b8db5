-- What was judged is a shop's, and stays the same shop's; what was refused is no shop's, and was only read.
mod Refused
mod Unsettled
use Rattle.std.proofs.Common.{arith, refl, subst, sym, ◌≡◌, ◌∙◌}
use Rattle.host_session.proofs.lemmas.Held.{changes_then, changes_weaker, reads_change}
use Rattle.host_session.specs.shop.Files.{HasFiles}
use Rattle.host_session.specs.shop.Shop.{IsSettled, IsShop, shop_of}
use Rattle.host_session.proofs.lemmas.opening.Opens.{judged-same, ok-of}
use Rattle.host_session.proofs.session.Session.open.Goals as goal
use Rattle.host_session.proofs.session.Session.open.Answers.Unsettled as unsettled
use Rattle.host_session.proofs.session.Session.open.Answers.Refused as refused

pub settle-requires : goal.settle-requires
settle-requires g c =
    let S = g.D.Sectors.history in
    let (f, has, j) = ok-of c.load_shop.result c.in_default.not-Err _ c.load_shop.ensures.ok in
    record { judged = (f, subst (λ i. HasFiles i f) (sym c.load_shop.ensures.reads.image) has, j) }

pub returns-in_err-drive : goal.returns-in_err-drive
returns-in_err-drive = unsettled.returns-in_err-drive

pub returns-in-Err : goal.returns-in-Err
returns-in-Err = refused.returns-in-Err

pub invariant_of-result : goal.invariant_of-result
invariant_of-result g c = (c.in_ok-drive.ensures.standing, λ _. c.in_ok-drive.ensures.mends.ready)

pub returns : goal.returns
returns g c =
    let S = g.D.Sectors.history in
    let (f, has, j) = ok-of c.load_shop.result c.in_default.not-Err _ c.load_shop.ensures.ok in
    let shop : IsShop (S.image c.args.disk) (shop_of f) =
    record { files = f; has = has; records = j.records; is = refl } in
    let same = c.load_shop.ensures.reads.image in
    let now : IsShop (S.image c.load_shop.new.disk) (shop_of f) = subst (λ i. IsShop i (shop_of f)) (sym same) shop in
    record {
      ok = (shop_of f, shop, c.in_ok-drive.ensures.mends.ok (shop_of f) now, refl);
      err = tt;
      opens = λ never. (λ ok. (shop_of f, shop), λ some. refl);
      moments = λ s h.
          changes_then S c.args.disk c.load_shop.new.disk c.in_ok-drive.drive.disk 0 952 952 (λ i. IsShop i s)
          (omega arith)
          (reads_change S c.args.disk c.load_shop.new.disk 34190 (λ i. IsShop i s) c.load_shop.ensures.reads h)
          (c.in_ok-drive.ensures.mends.moments s (subst (λ i. IsShop i s) (sym same) h));
      unfit = λ none. absurd (none (shop_of f, shop));
      quiet = λ s r.
          changes_then S c.args.disk c.load_shop.new.disk c.in_ok-drive.drive.disk 0 0 0 (λ i. i ≡ S.image c.args.disk)
          (omega arith) (reads_change S c.args.disk c.load_shop.new.disk 34190 (λ i. i ≡ S.image c.args.disk)
          c.load_shop.ensures.reads refl)
          (changes_weaker S c.load_shop.new.disk c.in_ok-drive.drive.disk 0 0 (λ i. i ≡ S.image c.load_shop.new.disk)
          (λ i. i ≡ S.image c.args.disk) (omega arith) (λ i e. e ∙ same)
          (c.in_ok-drive.ensures.mends.quiet (s, subst (λ i. IsSettled i s) (sym same) r)));
      failures =
          c.in_ok-drive.ensures.mends.failures ∙ judged-same S c.args.disk c.load_shop.new.disk c.load_shop.result
          c.in_default.not-Err c.load_shop.ensures.failures;
    }
