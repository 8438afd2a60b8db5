-- The object isn't deep, and is that of the session's shop.
use Rattle.std.proofs.Common.{◌≤◌, subst, sym}
use Rattle.std.proofs.lemmas.Result.{on_ok_weaker}
use Rattle.json_looks.proofs.ShopDepths.{shop-flat}
use Rattle.json_looks.specs.Objects.{IsObjectPrinted}
use Rattle.serde_json.specs.Data.{Data, depth}
use Rattle.json_looks.proofs.shops.print_shop.Goals as goal

pub print_object-requires : goal.print_object-requires
print_object-requires g c =
    let shop = c.requires.is_shop in
    subst (λ (d : Data). depth d ≤ 127) (sym (c.in-Ok.ensures shop.0 shop.1))
    (shop-flat c.args.name.now shop.0.top shop.0.state)

pub returns-clause-ok : goal.returns-clause-ok
returns-clause-ok g c = λ s is.
    on_ok_weaker c.print_object.result (λ printed.
    subst (λ (d : Data). IsObjectPrinted g.W.Write.contents d c.args.out.now c.print_object.new.out) (c.in-Ok.ensures s is) printed)
    c.print_object.ensures.ok
