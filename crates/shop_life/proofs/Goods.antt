-- The goods of a life: its list has requests of the grammar alone, and over such a list the sums agree.
use Rattle.std.proofs.Common.{◌≡◌, ◌⊎◌, ⊎_elim, ℕ, List, [], ◌∷◌, ◌++◌, Option, Some, None, inl, inr, refl, subst, sym}
use Rattle.std.specs.Prelude.{All, option_to_list}
use Rattle.std.proofs.lemmas.List.Elements.{All-append, All-nil, All-push}
use Rattle.d64_image.specs.History.{History}
use Rattle.d64_image.specs.Images.{Image}
use Rattle.host_session.proofs.lemmas.session.NextCards.{message-ask}
use Rattle.host_session.proofs.lemmas.shop.Shops.{IsShop-one}
use Rattle.host_session.specs.shop.Shop.{IsShop, Shop, start_of}
use Rattle.request_cards.proofs.Sums.{sums_hold}
use Rattle.request_cards.specs.Reading.{request_of}
use Rattle.request_cards.specs.Requests.{Ask, IsAsk}
use Rattle.shop_life.specs.Goods.{GoodsAgree}
use Rattle.shop_life.specs.Lives.{Place, Step, asks_of, message_in, shop_after, went}
use Rattle.shop_life.specs.OneList.{KeepAll, counted_from}

-- a message's request is one of the grammar
of_message : (m : List ℕ) (o : Option Ask) → request_of m ≡ o → All IsAsk (option_to_list o)
of_message m None e = All-nil IsAsk
of_message m (Some a) e = All-push IsAsk [] a (All-nil IsAsk) (message-ask m a e)

pub of_step : (o : Option (List ℕ)) → All IsAsk (asks_of o)
of_step None = All-nil IsAsk
of_step (Some m) = of_message m (request_of m) refl

module _ {D : Type 0} (hist : History D) where
  -- so is each of the list
  pub all_asks : (s : Shop) (before : List Ask) (p : Place D) (xs : List (Step D)) (ns : List (List Ask))
      → KeepAll hist s before p xs ns → All IsAsk before → All IsAsk (counted_from before ns)
  all_asks s before p [] [] keep all = all
  all_asks s before p [] (n ∷ ns) keep all = absurd keep
  all_asks s before p (x ∷ xs) [] keep all = absurd keep
  all_asks s before p (x ∷ xs) (n ∷ ns) keep all =
      all_asks s (before ++ n) (went p x) xs ns keep.1 (All-append IsAsk before n all
      (⊎_elim (λ (e : n ≡ []). subst (All IsAsk) (sym e) (All-nil IsAsk))
      (λ e. subst (All IsAsk) (sym e) (of_step (message_in x))) keep.0.once))

-- so the sums agree on the disk
pub goods_agree : (s : Shop) (asks : List Ask) (c : Image) (t : Shop) → All IsAsk asks → IsShop c (shop_after s asks)
    → IsShop c t → GoodsAgree s asks t
goods_agree s asks c t all x y =
    subst (GoodsAgree s asks) (IsShop-one c (shop_after s asks) t x y) (sums_hold (start_of s) asks all)
