-- What is shown of an open shop, and why an image isn't opened.
use Rattle.std.proofs.Common.{◌≡◌, ℕ, List, Result, length, refl, subst}
use Rattle.std.specs.Prelude.{IfOk}
use Rattle.d64_image.specs.Memory.{sectors_in}
use Rattle.host_session.specs.declared.faults.OpenFault.{OpenFault}
use Rattle.host_session.specs.declared.faults.OpenFault.TheVariants as opening
use Rattle.host_session.specs.session.Opening.{IsAShop, Refuses}
use Rattle.host_session.specs.shop.Shop.{Shop}
use Rattle.command_faults.specs.declared.faults.CommandFault.{CommandFault}
use Rattle.command_faults.specs.declared.faults.CommandFault.TheVariants as faults
use Rattle.json_looks.specs.Objects.{IsObjectFault}
use Rattle.json_looks.specs.Shops.{card_items, shop_data, shop_with, till_items}
use Rattle.serde_json.specs.Data.{Data}
use Rattle.serde_json.specs.View.{view}
use Rattle.serde_json.specs.declared.value.Value.{Value}
use Rattle.shop_commands.specs.Faults.{opening_fault}
use Rattle.shop_commands.specs.Shops.{IsShowFault}

-- an object with the cards and tills of a shop is the shop's
pub shop-shown : {E : Type 0} (name : List ℕ) (top : ℕ) (cards tills : List Data) (s : Shop) (r : Result Value E)
    → top ≡ s.top → cards ≡ card_items s.state 10160 → tills ≡ till_items s.state 64
    → IfOk r (λ value. view value ≡ shop_with name top cards tills) → IfOk r (λ value. view value ≡ shop_data name s.top s.state)
shop-shown name top cards tills s r its-top its-cards its-tills shown =
    let same : shop_with name top cards tills ≡ shop_data name s.top s.state = cc in
    subst (λ (d : Data). IfOk r (λ value. view value ≡ d)) same shown

-- an object that can't be printed is a shop that isn't shown
pub shown-fault : (image : List ℕ) (fault : CommandFault) → IsObjectFault fault → length image ≡ 174848
    → IsAShop (sectors_in image) → IsShowFault image fault
shown-fault image faults.File why size shop = (size, shop)
shown-fault image faults.NoMemory why size shop = size
shown-fault image _ why size shop = absurd why

-- an image that isn't opened isn't shown
pub show-refused : (image : List ℕ) (failed : Type 0) (f : OpenFault) → (failed → ⊥) → length image ≡ 174848
    → Refuses failed (sectors_in image) f → IsShowFault image (opening_fault f)
show-refused image failed (opening.Layout x) never size refuses = record {
  size = size;
  opening = opening.Layout x;
  is =
      refl;
  refuses = refuses;
}
show-refused image failed opening.NoStock never size refuses = record {
  size = size;
  opening = opening.NoStock;
  is =
      refl;
  refuses = refuses;
}
show-refused image failed opening.NoRequests never size refuses =
    record { size = size; opening = opening.NoRequests; is = refl; refuses = refuses }
show-refused image failed (opening.BadCard item) never size refuses =
    record { size = size; opening = opening.BadCard item; is = refl; refuses = refuses }
show-refused image failed (opening.BadRequestCard till) never size refuses =
    record { size = size; opening = opening.BadRequestCard till; is = refl; refuses = refuses }
show-refused image failed opening.TwoIntents never size refuses =
    record { size = size; opening = opening.TwoIntents; is = refl; refuses = refuses }
show-refused image failed opening.Device never size refuses = absurd (never refuses)
