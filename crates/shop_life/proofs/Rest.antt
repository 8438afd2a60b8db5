-- What else of a disk stays: each image of a life is of the same shop but for its state, and its files are whole.
use Rattle.std.proofs.Common.{◌≡◌, ◌⊎◌, ⊎_elim, List, [], ◌∷◌, ◌++◌, Err, Ok, ap, subst, sym}
use Rattle.d64_image.specs.History as devices
use Rattle.d64_image.specs.History.{History}
use Rattle.d64_image.specs.Images.{Image}
use Rattle.disk_layout.specs.Whole.{IsWhole}
use Rattle.host_session.proofs.lemmas.shop.Shops.{IsShop-one}
use Rattle.host_session.specs.shop.Shop.{IsShop, Shop}
use Rattle.request_cards.specs.Requests.{Ask}
use Rattle.shop_life.proofs.Kept.{step}
use Rattle.shop_life.proofs.Later.{begins_at}
use Rattle.shop_life.specs.Lives.{IsHeldIn, IsLife, May, Place, Step, disk_at, off, on, shop_after, went}
use Rattle.shop_life.specs.Lives.Step.{opens, handles, cut_in_opening, cut_in_message, loses_power, ends, moves}
use Rattle.shop_life.specs.OneList.{AllHeld, IsAfter, IsAt}
use Rattle.shop_life.specs.Rest.{HasRestOf}

-- the shop after any requests has the rest
pub rest_after : (s : Shop) (asks : List Ask) (c : Image) → IsAfter s asks c → HasRestOf s c
rest_after s asks c x = record {
  sound = (x.has.layout, x.has.is_layout);
  rest = λ t y. let e = IsShop-one c t (shop_after s asks) y x in
      (ap (λ (u : Shop). u.rest) e, ap (λ (u : Shop). u.top) e, ap (λ (u : Shop). u.tills) e);
}

module _ {D : Type 0} (hist : History D) where
  rests : (s : Shop) (before : List Ask) (p : Place D) (xs : List (Step D)) → IsAt hist (shop_after s before) p
      → IsLife hist p xs → AllHeld hist (HasRestOf s) p xs
  rests s before p [] at life = tt
  rests s before p (x ∷ xs) at life =
      let k = step hist s before p x at life.0 in (
        (λ c h. ⊎_elim (λ y. rest_after s _ c y) (λ y. rest_after s _ c y) (k.1.held c h)),
        rests s (before ++ k.0) (went p x) xs k.1.at life.1,
      )

  pub rest_stays : (s : Shop) (disk : D) (xs : List (Step D)) → IsShop (hist.image disk) s
      → IsLife hist (off disk) xs → AllHeld hist (HasRestOf s) (off disk) xs
  rest_stays s disk xs shop life = rests s [] (off disk) xs (begins_at hist s disk shop) life

  now_whole : (d : D) → IsWhole (hist.image d) → (c : Image) → hist.held d (hist.moment d) c → IsWhole c
  now_whole d w c h = subst IsWhole (sym (hist.only_now d c h)) w

  -- a step of files that are whole
  whole_in : (s : Shop) (before : List Ask) (p : Place D) (x : Step D) → IsAt hist (shop_after s before) p → May hist p x
      → IsWhole (hist.image (disk_at p)) → (c : Image) → IsHeldIn hist p x c → IsWhole c
  whole_in s before (off d) (opens r) at may w = ((may.moments (shop_after s before) at.shop).held.whole w).each
  whole_in s before (off d) (handles m told new) at may w = absurd may
  whole_in s before (off d) (cut_in_opening r next) at may w =
      ((may.0.moments (shop_after s before) at.shop).held.whole w).each
  whole_in s before (off d) (cut_in_message m told new next) at may w = absurd may
  whole_in s before (off d) (loses_power next) at may w = now_whole d w
  whole_in s before (off d) ends at may w = absurd may
  whole_in s before (off d) (moves next) at may w = now_whole d w
  whole_in s before (on v) (opens r) at may w = absurd may
  whole_in s before (on v) (handles m told new) at may w =
      ((may.moments (shop_after s before) at.shop).held.whole w).each
  whole_in s before (on v) (cut_in_opening r next) at may w = absurd may
  whole_in s before (on v) (cut_in_message m told new next) at may w =
      ((may.0.moments (shop_after s before) at.shop).held.whole w).each
  whole_in s before (on v) (loses_power next) at may w = now_whole v.disk w
  whole_in s before (on v) ends at may w = now_whole v.disk w
  whole_in s before (on v) (moves next) at may w = absurd may

  -- where it leads
  whole_at : (s : Shop) (before : List Ask) (p : Place D) (x : Step D) → IsAt hist (shop_after s before) p → May hist p x
      → IsWhole (hist.image (disk_at p)) → IsWhole (hist.image (disk_at (went p x)))
  whole_at s before (off d) (opens (Ok v)) at may w =
      let h = (may.moments (shop_after s before) at.shop).held in
      whole_in s before (off d) (opens (Ok v)) at may w (hist.image v.disk) (hist.now v.disk (hist.moment d) h.later)
  whole_at s before (off d) (opens (Err e)) at may w =
      let h = (may.moments (shop_after s before) at.shop).held in
      whole_in s before (off d) (opens (Err e)) at may w (hist.image e.1) (hist.now e.1 (hist.moment d) h.later)
  whole_at s before (off d) (handles m told new) at may w = absurd may
  whole_at s before (off d) (cut_in_opening r next) at may w =
      whole_in s before (off d) (cut_in_opening r next) at may w (hist.image next) may.1
  whole_at s before (off d) (cut_in_message m told new next) at may w = absurd may
  whole_at s before (off d) (loses_power next) at may w = now_whole d w (hist.image next) may
  whole_at s before (off d) ends at may w = absurd may
  whole_at s before (off d) (moves next) at may w = may.1 w
  whole_at s before (on v) (opens r) at may w = absurd may
  whole_at s before (on v) (handles m told new) at may w =
      let h = (may.moments (shop_after s before) at.shop).held in
      whole_in s before (on v) (handles m told new) at may w (hist.image new.disk)
      (hist.now new.disk (hist.moment v.disk) h.later)
  whole_at s before (on v) (cut_in_opening r next) at may w = absurd may
  whole_at s before (on v) (cut_in_message m told new next) at may w =
      whole_in s before (on v) (cut_in_message m told new next) at may w (hist.image next) may.1
  whole_at s before (on v) (loses_power next) at may w = now_whole v.disk w (hist.image next) may
  whole_at s before (on v) ends at may w = w
  whole_at s before (on v) (moves next) at may w = absurd may

  wholes : (s : Shop) (before : List Ask) (p : Place D) (xs : List (Step D)) → IsAt hist (shop_after s before) p
      → IsLife hist p xs → IsWhole (hist.image (disk_at p)) → AllHeld hist IsWhole p xs
  wholes s before p [] at life w = tt
  wholes s before p (x ∷ xs) at life w =
      let k = step hist s before p x at life.0 in (
        whole_in s before p x at life.0 w,
        wholes s (before ++ k.0) (went p x) xs k.1.at life.1 (whole_at s before p x at life.0 w),
      )

  pub files_stay : (s : Shop) (disk : D) (xs : List (Step D)) → IsShop (hist.image disk) s → IsWhole (hist.image disk)
      → IsLife hist (off disk) xs → AllHeld hist IsWhole (off disk) xs
  files_stay s disk xs shop w life = wholes s [] (off disk) xs (begins_at hist s disk shop) life w
