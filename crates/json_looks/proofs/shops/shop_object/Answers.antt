-- The shop that is shown is the image's, and a fault of its opening is one of the image.
use Rattle.std.proofs.Common.{subst, sym}
use Rattle.std.proofs.lemmas.Result.{IfErr-weaker, on_ok_weaker}
use Rattle.d64_image.specs.Images.{Image}
use Rattle.d64_image.specs.History.{Failed}
use Rattle.d64_image.specs.Memory.{memory}
use Rattle.host_session.specs.session.Opening.{Refuses}
use Rattle.host_session.specs.shop.Shop.{IsShop}
use Rattle.d64_image.proofs.Told.{memory-never}
use Rattle.json_looks.proofs.Openings.{show-refused, shown-fault}
use Rattle.shop_commands.specs.Shops.{IsShowFault}
use Rattle.json_looks.proofs.shops.shop_object.Goals as goal

pub print_shop-shown-requires-clause-is_shop : goal.print_shop-shown-requires-clause-is_shop
print_shop-shown-requires-clause-is_shop g c =
    let opened = c.in-Ok.ensures.ok in (opened.0, opened.2.shop)

pub returns-in-Ok-clause-ok : goal.returns-in-Ok-clause-ok
returns-in-Ok-clause-ok g c =
    let loaded = c.in_ok-disk.ensures.ok in
    let opened = c.in-Ok.ensures.ok in
    on_ok_weaker c.print_shop-shown.result (λ printed. record {
      size = loaded.0;
      shop = opened.0;
      is_shop = subst (λ (i : Image). IsShop i opened.0) loaded.1 opened.1;
      printed = printed;
    }) (c.print_shop-shown.ensures.ok opened.0 opened.2.shop)

pub returns-in-Ok-clause-err : goal.returns-in-Ok-clause-err
returns-in-Ok-clause-err g c =
    let loaded = c.in_ok-disk.ensures.ok in
    let opened = c.in-Ok.ensures.ok in
    IfErr-weaker c.print_shop-shown.result _ _
    (λ fault is. shown-fault c.args.image.now fault is loaded.0 (opened.0, subst (λ (i : Image). IsShop i opened.0) loaded.1 opened.1))
    c.print_shop-shown.ensures.err

pub returns-clause-err : goal.returns-clause-err
returns-clause-err g c =
    let loaded = c.in_ok-disk.ensures.ok in
    let failed = Failed memory c.in_ok-disk.disk c.in-Err.field-0-1 in
    subst (IsShowFault c.args.image.now) (sym c.of_opening.ensures)
    (show-refused c.args.image.now failed c.in-Err.fault (memory-never c.in_ok-disk.disk c.in-Err.field-0-1) loaded.0
    (subst (λ (i : Image). Refuses failed i c.in-Err.fault) loaded.1 c.in-Err.ensures.err))
