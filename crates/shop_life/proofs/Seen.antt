-- One list for every image that is seen.
use Rattle.d64_image.specs.History.{History}
use Rattle.d64_image.specs.Images.{Image}
use Rattle.host_session.proofs.lemmas.shop.Shops.{IsShop-one}
use Rattle.host_session.specs.session.Handled.{IsHandled}
use Rattle.host_session.specs.session.Handling.{after_of}
use Rattle.host_session.specs.session.Standing.{View}
use Rattle.host_session.specs.shop.Shop.{IsShop, Shop}
use Rattle.std.proofs.Common.{◌≡◌, ◌∙◌, ◌⊎◌, ℕ, List, [], ◌∷◌, ◌++◌, append-nil, append_assoc, inl, inr, subst, sym}
use Rattle.request_cards.specs.declared.reply.Reply.{Reply}
use Rattle.request_cards.specs.Requests.{Ask}
use Rattle.shop_life.proofs.Kept.{after_more, kept}
use Rattle.shop_life.proofs.Later.{begins_at}
use Rattle.shop_life.specs.Lives.{IsLife, May, Place, Step, off, on, shop_after, went}
use Rattle.shop_life.specs.Lives.Step.{opens, handles, cut_in_opening, cut_in_message, loses_power, ends, moves}
use Rattle.shop_life.specs.OneList.{AllSeen, HasOneList, IsAfter, IsAfterFirst, IsAt, IsSeenIn, KeepAll, Keeps, counted_from}

module _ {D : Type 0} (hist : History D) where
  -- where nothing could count
  pub none : (s : Shop) (before n : List Ask) (c : Image)
      → IsAfter s before c ⊎ IsAfter s (before ++ []) c → IsAfter s before c ⊎ IsAfter s (before ++ n) c
  none s before n c (inl y) = inl y
  none s before n c (inr y) = inl (subst (λ ys. IsAfter s ys c) (append-nil before) y)

  -- what power left is what the step leads to
  pub left : (s : Shop) (asks : List Ask) (next : D) (c : Image) → IsAt hist (shop_after s asks) (off next)
      → c ≡ hist.image next → IsAfter s asks c
  left s asks next c at e = subst (λ i. IsShop i (shop_after s asks)) (sym e) at.shop

  -- a message whose image was held is in the list at the end of its call
  message : (s : Shop) (before n : List Ask) (v : View D) (m : List ℕ) (told : Reply) (new : View D)
      → IsAt hist (shop_after s before) (on v) → IsHandled hist v new m told
      → Keeps hist s before (on v) (handles m told new) n → (c : Image) → IsSeenIn hist (on v) (handles m told new) c
      → IsAfter s before c ⊎ IsAfter s (before ++ n) c
  message s before n v m told new at may keep c h = elim (may.onward (shop_after s before) at.shop) [
    | inl after ↦ elim (keep.held c h) [
      | inl y ↦ inl y
      | inr y ↦ inr (subst (λ t. IsShop c t)
          (sym (IsShop-one (hist.image new.disk) (shop_after s (before ++ n)) (after_of (shop_after s before) m)
          keep.at.shop after ∙ after_more hist s before m)) y)
    ]
    | inr held ↦ inl (held.each c h)
  ]

  seen : (s : Shop) (before n : List Ask) (p : Place D) (x : Step D) → IsAt hist (shop_after s before) p → May hist p x
      → Keeps hist s before p x n → (c : Image) → IsSeenIn hist p x c → IsAfter s before c ⊎ IsAfter s (before ++ n) c
  seen s before n (off d) (opens r) at may keep c h = none s before n c (keep.held c h)
  seen s before n (off d) (handles m told new) at may keep c h = absurd may
  seen s before n (off d) (cut_in_opening r next) at may keep c h = inr (left s (before ++ n) next c keep.at h)
  seen s before n (off d) (cut_in_message m told new next) at may keep c h = absurd may
  seen s before n (off d) (loses_power next) at may keep c h = none s before n c (keep.held c h)
  seen s before n (off d) ends at may keep c h = absurd may
  seen s before n (off d) (moves next) at may keep c h = none s before n c (keep.held c h)
  seen s before n (on v) (opens r) at may keep c h = absurd may
  seen s before n (on v) (handles m told new) at may keep c h = message s before n v m told new at may keep c h
  seen s before n (on v) (cut_in_opening r next) at may keep c h = absurd may
  seen s before n (on v) (cut_in_message m told new next) at may keep c h = inr (left s (before ++ n) next c keep.at h)
  seen s before n (on v) (loses_power next) at may keep c h = none s before n c (keep.held c h)
  seen s before n (on v) ends at may keep c h = none s before n c (keep.held c h)
  seen s before n (on v) (moves next) at may keep c h = absurd may

  pub begins : (before : List Ask) (ns : List (List Ask)) → (rest : List Ask) × (before ++ rest ≡ counted_from before ns)
  begins before [] = ([], append-nil before)
  begins before (n ∷ ns) =
      let r = begins (before ++ n) ns in (n ++ r.0, sym (append_assoc before n r.0) ∙ r.1)

  all_seen : (s : Shop) (before : List Ask) (p : Place D) (xs : List (Step D)) (ns : List (List Ask))
      → IsAt hist (shop_after s before) p → IsLife hist p xs → KeepAll hist s before p xs ns
      → AllSeen hist (IsAfterFirst s (counted_from before ns)) p xs
  all_seen s before p [] [] at life keep = tt
  all_seen s before p [] (n ∷ ns) at life keep = absurd keep
  all_seen s before p (x ∷ xs) [] at life keep = absurd keep
  all_seen s before p (x ∷ xs) (n ∷ ns) at life keep = (
    (λ c h. elim (seen s before n p x at life.0 keep.0 c h) [
      | inl y ↦ (before, (begins before (n ∷ ns)).0, (begins before (n ∷ ns)).1, y)
      | inr y ↦ (before ++ n, (begins (before ++ n) ns).0, (begins (before ++ n) ns).1, y)
    ]),
    all_seen s (before ++ n) (went p x) xs ns keep.0.at life.1 keep.1,
  )

  pub has_one_list : (s : Shop) (disk : D) (xs : List (Step D)) → IsShop (hist.image disk) s
      → IsLife hist (off disk) xs → HasOneList hist s (off disk) xs
  has_one_list s disk xs shop life =
      let at = begins_at hist s disk shop in
      let k = kept hist s [] (off disk) xs at life in
      record { parts = k.0; keep = k.1; seen = all_seen s [] (off disk) xs k.0 at life k.1 }
