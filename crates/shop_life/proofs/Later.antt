-- What counted stays.
use Rattle.d64_image.specs.History.{History}
use Rattle.d64_image.specs.Images.{Image}
use Rattle.host_session.specs.shop.Shop.{IsShop, Shop, start_of, with_state}
use Rattle.std.proofs.Common.{◌≡◌, List, [], ◌∷◌, ◌++◌, append-nil, append_assoc, inl, inr, subst, sym}
use Rattle.request_cards.proofs.Plain.{plain_nil}
use Rattle.request_cards.specs.Requests.{Ask}
use Rattle.shop_life.proofs.Kept.{kept}
use Rattle.shop_life.specs.Lives.{IsLife, Place, Step, asks_of, message_in, off, shop_after, went, went_all}
use Rattle.shop_life.specs.OneList.{AllHeld, IsAfter, IsAfterMore, IsAt, KeepAll, Stays, counted_from}

module _ {D : Type 0} (hist : History D) where
  -- a shop's disk is where a life begins
  pub begins_at : (s : Shop) (disk : D) → IsShop (hist.image disk) s → IsAt hist (shop_after s []) (off disk)
  begins_at s disk shop = record {
    shop = subst (λ st. IsShop (hist.image disk) (with_state s st)) (sym (plain_nil (start_of s))) shop;
    rests = tt;
  }

  pub at_the_end : (s : Shop) (before : List Ask) (p : Place D) (xs : List (Step D)) (ns : List (List Ask))
      → IsAt hist (shop_after s before) p → KeepAll hist s before p xs ns
      → IsAt hist (shop_after s (counted_from before ns)) (went_all p xs)
  at_the_end s before p [] [] at keep = at
  at_the_end s before p [] (n ∷ ns) at keep = absurd keep
  at_the_end s before p (x ∷ xs) [] at keep = absurd keep
  at_the_end s before p (x ∷ xs) (n ∷ ns) at keep = at_the_end s (before ++ n) (went p x) xs ns keep.0.at keep.1

  pub weaker : (P Q : Image → Type 0) (p : Place D) (xs : List (Step D)) → ((c : Image) → P c → Q c) → AllHeld hist P p xs
      → AllHeld hist Q p xs
  weaker P Q p [] f all = tt
  weaker P Q p (x ∷ xs) f all = ((λ c h. f c (all.0 c h)), weaker P Q (went p x) xs f all.1)

  held_more : (s : Shop) (before : List Ask) (p : Place D) (xs : List (Step D)) (ns : List (List Ask))
      → KeepAll hist s before p xs ns → AllHeld hist (IsAfterMore s before) p xs
  held_more s before p [] [] keep = tt
  held_more s before p [] (n ∷ ns) keep = absurd keep
  held_more s before p (x ∷ xs) [] keep = absurd keep
  held_more s before p (x ∷ xs) (n ∷ ns) keep = (
    (λ c h. elim (keep.0.held c h) [
      | inl y ↦ ([], subst (λ ys. IsAfter s ys c) (sym (append-nil before)) y)
      | inr y ↦ (asks_of (message_in x), y)
    ]),
    weaker (IsAfterMore s (before ++ n)) (IsAfterMore s before) (went p x) xs
        (λ c y. (n ++ y.0, subst (λ ys. IsAfter s ys c) (append_assoc before n y.0) y.1))
        (held_more s (before ++ n) (went p x) xs ns keep.1),
  )

  pub stay : (s : Shop) (disk : D) (first later : List (Step D)) → IsShop (hist.image disk) s
      → IsLife hist (off disk) first → IsLife hist (went_all (off disk) first) later → Stays hist s (off disk) first later
  stay s disk first later shop life more =
      let k = kept hist s [] (off disk) first (begins_at s disk shop) life in
      let at = at_the_end s [] (off disk) first k.0 (begins_at s disk shop) k.1 in
      let l = kept hist s (counted_from [] k.0) (went_all (off disk) first) later at more in
      record {
        parts = k.0;
        keep = k.1;
        at = at;
        stay = held_more s (counted_from [] k.0) (went_all (off disk) first) later l.0 l.1;
      }
