-- What is shown of a shop, from its parts; and an image that is no shop's, from the fault of its opening.
use Rattle.std.proofs.Common.{◌≡◌, ℕ, List, Option, length, refl}
use Rattle.std.specs.Io.KnownBytes.{Appends, Keeps}
use Rattle.std.proofs.KnownBytes.{Appends-kept, Appends-trans}
use Rattle.d64_image.specs.Memory.{sectors_in}
use Rattle.host_session.specs.declared.faults.OpenFault.{OpenFault}
use Rattle.host_session.specs.declared.faults.OpenFault.TheVariants as opening
use Rattle.host_session.specs.session.Opening.{Refuses}
use Rattle.request_cards.specs.Ledgers.{State}
use Rattle.shop_commands.specs.Faults.{opening_fault}
use Rattle.shop_commands.specs.Shops.{IsShowFault}
use Rattle.shop_commands.specs.Shows.{card_lines, shown_shop, till_lines, top_line}

-- the top's line, the cards and the tills, handed over
pub shop-shown : (a b c d e : Option (List ℕ)) (top : ℕ) (state : State) → Appends a b (top_line top)
    → Appends b c (card_lines state)
    → Appends c d (till_lines state) → Keeps d e → Appends a e (shown_shop top state)
unfolding shown_shop
shop-shown a b c d e top state first cards tills kept =
    Appends-kept a d e _ (Appends-trans a b d _ _ first (Appends-trans b c d _ _ cards tills)) kept

-- an image that isn't opened isn't shown
pub show-refused : (image : List ℕ) (failed : Type 0) (f : OpenFault) → (failed → ⊥) → length image ≡ 174848
    → Refuses failed (sectors_in image) f → IsShowFault image (opening_fault f)
show-refused image failed (opening.Layout x) never size refuses = record {
  size = size;
  opening = opening.Layout x;
  is =
      refl;
  refuses = refuses;
}
show-refused image failed opening.NoStock never size refuses = record {
  size = size;
  opening = opening.NoStock;
  is =
      refl;
  refuses = refuses;
}
show-refused image failed opening.NoRequests never size refuses =
    record { size = size; opening = opening.NoRequests; is = refl; refuses = refuses }
show-refused image failed (opening.BadCard item) never size refuses =
    record { size = size; opening = opening.BadCard item; is = refl; refuses = refuses }
show-refused image failed (opening.BadRequestCard till) never size refuses =
    record { size = size; opening = opening.BadRequestCard till; is = refl; refuses = refuses }
show-refused image failed opening.TwoIntents never size refuses =
    record { size = size; opening = opening.TwoIntents; is = refl; refuses = refuses }
show-refused image failed opening.Device never size refuses = absurd (never refuses)
