-- The lines that count once power has gone.
use Rattle.std.proofs.Common.{◌≡◌, ◌≤◌, ◌+◌, ℕ, List, [], ◌∷◌, ◌++◌, arith, length, refl, subst, sym, ⊎_elim}
use Rattle.std.proofs.lemmas.Bool.{cases_lt}
use Rattle.d64_image.specs.Images.{Image}
use Rattle.host_session.specs.shop.Shop.{IsShop, Shop}
use Rattle.line_server.proofs.lemmas.logged.Lines.{behind_none}
use Rattle.line_server.specs.logged.Serves.{HoldsFirst, StayFrom, shop_behind}
use Rattle.request_cards.specs.declared.reply.Reply.{Reply}
use Rattle.logged_life.specs.Services.{AreKept}
use Rattle.image_log.specs.ImageLogs.{LogHistory}

-- The image is the shop's after some first lines, of which there are so many at least.
pub record Front (s : Shop) (ls : List (List ℕ)) (n : ℕ) (image : Image) : Type 0 where
  pub front : List (List ℕ)
  pub rest : List (List ℕ)
  pub parts : front ++ rest ≡ ls
  pub least : n ≤ length front
  pub shop : IsShop image (shop_behind s front)

pub of_first : (s : Shop) (ls : List (List ℕ)) (n : ℕ) (image : Image) → HoldsFirst s ls n image → Front s ls n image
of_first s ls n image x =
    record { front = x.front; rest = x.rest; parts = x.parts; least = x.least; shop = x.rests.shop }

pub of_none : (s : Shop) (ls : List (List ℕ)) (image : Image) → IsShop image s → Front s ls 0 image
of_none s ls image shop = record {
  front = [];
  rest = ls;
  parts = refl;
  least = omega arith;
  shop = subst (IsShop image) (sym (behind_none s)) shop;
}

fewer : (s : Shop) (ls : List (List ℕ)) (n m : ℕ) (image : Image) → n ≤ m → Front s ls m image → Front s ls n image
fewer s ls n m image le x =
    record { front = x.front; rest = x.rest; parts = x.parts; least = omega (arith, le, x.least); shop = x.shop }

module _ {L : Type 0} (h : LogHistory L) (s : Shop) (ls : List (List ℕ)) (new : L) (at : ℕ) (image : Image)
    (left : (t : ℕ) → t ≤ at → h.left_since new t image) where
  -- with each line whose reply was told by then
  pub with_told : (k n : ℕ) → n ≤ k → (turns : List (Reply × L)) → StayFrom h s ls k turns new → Front s ls n image
      → (f : Front s ls n image) × AreKept h at (length f.front) k turns
  unfolding fewer
  with_told k n le [] stays f = (f, tt)
  with_told k n le (x ∷ xs) stays f = ⊎_elim
      (λ later.
      let more = with_told (k + 1) n (omega (arith, le)) xs stays.1 f in
      (more.0, ((λ before. absurd (omega (arith, later, before))), more.1)))
      (λ before.
      let here : Front s ls (k + 1) image = of_first s ls (k + 1) image (stays.0.each image (left (h.moment x.1) before)) in
      let more = with_told (k + 1) (k + 1) (omega arith) xs stays.1 here in
      (fewer s ls n (k + 1) image (omega (arith, le)) more.0, ((λ _. more.0.least), more.1)))
      (cases_lt at (h.moment x.1))
