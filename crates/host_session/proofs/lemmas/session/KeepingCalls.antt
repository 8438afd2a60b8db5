-- The writes of a till's next request, as they stand in calls: the answer, and a first set.
use Rattle.std.proofs.Common.{ℕ, ◌≡◌, ◌≤◌, ◌+◌, inl, inr, true, false, List, Ok, Err, Result, refl, sym, subst, arith, ⊎_elim}
use Rattle.std.specs.Prelude.{OnErr, OnOk}
use Rattle.d64_image.specs.History.{FailsInOneStep, History, IfCounted, OldOr}
use Rattle.host_session.specs.Held.{Changes, IsOnward}
use Rattle.d64_image.specs.Images.{Image}
use Rattle.d64_image.proofs.Moments as devices
use Rattle.d64_image.proofs.Moments.{none_counted}
use Rattle.host_session.proofs.lemmas.Held.{at_end, bare, changes_then, changes_weaker}
use Rattle.request_cards.specs.CardTexts.{Card, card_text}
use Rattle.request_cards.specs.Requests.{Ask}
use Rattle.host_session.specs.shop.Completing.{HasIntent, IsCompleted}
use Rattle.host_session.specs.shop.Files.{Files, HasFiles}
use Rattle.host_session.specs.shop.Growing.{HasGrown, grown}
use Rattle.host_session.specs.session.Handling.{card_writes}
use Rattle.host_session.specs.session.Keeping.{HasItems, IsEither, IsKeeping, shop_after}
use Rattle.host_session.specs.shop.Putting.{HasAnswer, IsPuttingAnswer}
use Rattle.host_session.specs.shop.Shop.{IsSettled, IsShop, Shop, results_of, shop_of}
use Rattle.drive_channels.specs.State.{Seen}
use Rattle.host_session.specs.shop.Selecting.{IsReady}
use Rattle.host_session.proofs.lemmas.growing.GrownStock.{grown-same, grown-shop_moments}
use Rattle.host_session.proofs.lemmas.shop.Shops.{HasFiles-one}
use Rattle.host_session.proofs.lemmas.session.Keepings.{HasOpenItems, completed-settled, intent-kept, kept-shop}
use Rattle.host_session.proofs.lemmas.session.Keepings.{open-items, putting-either, refused-settled, same-shop, with_it}

-- the till and the text of the card, as they stand in a call
module _ (f : Files) (a : Ask) (c : Card) (t : ℕ) (text : List ℕ) (at : t ≡ a.till) (is : text ≡ card_text c) where
  pub answer-named : (img : Image) → HasAnswer f t text img → HasAnswer f a.till (card_text c) img
  answer-named img h = subst (λ (x : List ℕ). HasAnswer f a.till x img) is
      (subst (λ (j : ℕ). HasAnswer f j text img) at h)

  pub putting-named : (img : Image) → IsPuttingAnswer f t text img → IsPuttingAnswer f a.till (card_text c) img
  putting-named img (inl h) = inl h
  putting-named img (inr h) = inr (answer-named img h)

  module _ (k : IsKeeping f a c) {D : Type 0} (S : History D) where
    -- the card alone
    pub put-moments : HasOpenItems f a c k → (x y : D) (n m : ℕ) → n ≤ m → Changes S x y n (IsPuttingAnswer f t text)
        → Changes S x y m (IsEither (shop_of f) a)
    put-moments all x y n m le h =
        changes_weaker S x y n m _ _ le (λ i p. putting-either f a c k all i (putting-named i p)) h

    pub put-counted : {T E : Type 0} → HasOpenItems f a c k → (x y : D) (res : Result T E)
        → OnOk res (HasAnswer f t text (S.image y)) → OnErr res (FailsInOneStep S x y)
        → IfCounted S x y (λ i. IsShop i (shop_after (shop_of f) a))
    put-counted all x y (Ok _) h fails = λ lt. kept-shop f a c k all (S.image y) (answer-named (S.image y) h)
    put-counted all x y (Err _) h fails = none_counted S x y (λ i. IsShop i (shop_after (shop_of f) a)) fails.uncounted

    abbrev Onward : D → D → Type 0
    Onward x y = IsOnward S x y (λ i. IsShop i (shop_of f)) (λ i. IsShop i (shop_after (shop_of f) a))

    -- a shop whose card is written in one step: the old image and the one at the end are the shop's before, or the last is the
    -- shop's after
    still : (x y : D) → HasFiles (S.image x) f → HasFiles (S.image y) f → FailsInOneStep S x y → Onward x y
    still x y old new fails = inr (devices.weaker S x y (OldOr (S.image x) (S.image y)) (λ i. IsShop i (shop_of f))
        (λ i. ⊎_elim (λ e. here i old e) (λ e. here i new e)) fails.one_step)
      where
        here : (i : Image) {j : Image} → HasFiles j f → i ≡ j → IsShop i (shop_of f)
        here i has e = subst (λ (o : Image). IsShop o (shop_of f)) (sym e)
            (record { files = f; has = has; records = k.records; is = refl })

    pub put-onward : {T E : Type 0} → HasOpenItems f a c k → (x y : D) (n : ℕ) (res : Result T E) → HasFiles (S.image x) f
        → OnOk res (HasAnswer f t text (S.image y)) → OnErr res (FailsInOneStep S x y)
        → Changes S x y n (IsPuttingAnswer f t text) → Onward x y
    put-onward all x y n (Ok _) old h fails moments = inl (kept-shop f a c k all (S.image y) (answer-named (S.image y) h))
    put-onward all x y n (Err _) old h fails moments = elim (at_end S x y (IsPuttingAnswer f t text) moments.held) [
      | inl new ↦ still x y old new fails
      | inr new ↦ inl (kept-shop f a c k all (S.image y) (answer-named (S.image y) new))
    ]

    pub put-settled : {T E : Type 0} → c.pending ≡ false → (y : Seen D) (res : Result T E)
        → OnOk res (HasAnswer f t text (S.image y.disk)) → OnOk res (IsReady S y)
        → OnOk res (IsSettled (S.image y.disk) (shop_after (shop_of f) a))
    put-settled e y (Ok _) h ready = refused-settled f a c k e (S.image y.disk) ready.clean
        (answer-named (S.image y.disk) h)
    put-settled e y (Err _) h ready = tt

    -- the intent, and its completion
    pub named-intent : c.pending ≡ true → HasItems f c → HasIntent (with_it f a c k) t c
    named-intent e all = subst (λ (j : ℕ). HasIntent (with_it f a c k) j c) (sym at) (intent-kept f a c k e all)

    pub intent-moments : c.pending ≡ true → HasItems f c → (x y z : D) → Changes S x y 1 (IsPuttingAnswer f t text)
        → Changes S y z (card_writes (results_of c.newest) + 1) (λ i. IsShop i (shop_of (with_it f a c k)))
        → Changes S x z (2 + card_writes (results_of c.newest)) (IsEither (shop_of f) a)
    intent-moments e all x y z first rest = changes_then S x y z 1 (card_writes (results_of c.newest) + 1)
        (2 + card_writes (results_of c.newest)) (IsEither (shop_of f) a) (omega arith)
        (put-moments (open-items f a c k e all) x y 1 1 (omega arith) first)
        (changes_weaker S y z (card_writes (results_of c.newest) + 1) (card_writes (results_of c.newest) + 1) _
        (IsEither (shop_of f) a) (omega arith)
        (λ i s. inr (subst (λ (u : Shop). IsShop i u) (same-shop f a c k) s)) rest)

    pub intent-counted : (x y z : D) (n : ℕ) → Changes S y z n (λ i. IsShop i (shop_of (with_it f a c k)))
        → IfCounted S x z (λ i. IsShop i (shop_after (shop_of f) a))
    intent-counted x y z n rest = λ lt. subst (λ (u : Shop). IsShop (S.image z) u) (same-shop f a c k)
        (at_end S y z (λ i. IsShop i (shop_of (with_it f a c k))) rest.held)

    -- once the intent is there, the shop is the one after the request
    pub intent-onward : (x y z : D) (n : ℕ) → Changes S y z n (λ i. IsShop i (shop_of (with_it f a c k))) → Onward x z
    intent-onward x y z n rest = inl (subst (λ (u : Shop). IsShop (S.image z) u) (same-shop f a c k)
        (at_end S y z (λ i. IsShop i (shop_of (with_it f a c k))) rest.held))

    pub intent-settled : {T E : Type 0} (d : Seen D) (res : Result T E)
        → OnOk res (IsCompleted (with_it f a c k) t c (S.image d.disk)) → OnOk res (IsReady S d)
        → OnOk res (IsSettled (S.image d.disk) (shop_after (shop_of f) a))
    intent-settled d (Ok _) x ready = completed-settled f a c k (S.image d.disk) ready.clean
        (subst (λ (j : ℕ). IsCompleted (with_it f a c k) j c (S.image d.disk)) at x)
    intent-settled d (Err _) x ready = tt

-- an image has one pair of files
pub items-for : (img : Image) (f g : Files) (c : Card) → HasFiles img f → HasFiles img g → HasItems f c → HasItems g c
items-for img f g c x y all = subst (λ (z : Files). HasItems z c) (HasFiles-one img f g x y) all

-- A first set: growth, and then the intent.
module _ (f : Files) (a : Ask) (c : Card) (k : IsKeeping f a c) {D : Type 0} (S : History D) where
  pub growing-either : (x y : D) (n m : ℕ) → n ≤ m → Changes S x y n (HasGrown f)
      → Changes S x y m (IsEither (shop_of f) a)
  growing-either x y n m le g = changes_weaker S x y n m (λ i. IsShop i (shop_of f)) (IsEither (shop_of f) a) le
      (λ i s. inl s) (grown-shop_moments S x y f n k.records g)

  pub first-moments : (m b : ℕ) (x y z : D) (n w : ℕ) → Changes S x y n (HasGrown f)
      → Changes S y z w (IsEither (shop_of (grown f m b)) a) → Changes S x z (n + w) (IsEither (shop_of f) a)
  first-moments m b x y z n w g rest = changes_then S x y z n w (n + w) (IsEither (shop_of f) a) (omega arith)
      (growing-either x y n n (omega arith) g)
      (subst (λ (s : Shop). Changes S y z w (IsEither s a)) (grown-same f m b) rest)

  pub first-settled : {T E : Type 0} (m b : ℕ) (z : D) (res : Result T E)
      → OnOk res (IsSettled (S.image z) (shop_after (shop_of (grown f m b)) a))
      → OnOk res (IsSettled (S.image z) (shop_after (shop_of f) a))
  first-settled m b z res x = subst (λ (s : Shop). OnOk res (IsSettled (S.image z) (shop_after s a))) (grown-same f m b)
      x

  abbrev IsShopOf : Image → Type 0
  IsShopOf i = IsShop i (shop_of f)

  pub growing-onward : (x y : D) (n : ℕ) → Changes S x y n (HasGrown f)
      → IsOnward S x y (λ i. IsShop i (shop_of f)) (λ i. IsShop i (shop_after (shop_of f) a))
  growing-onward x y n g = inr (bare S x y IsShopOf (grown-shop_moments S x y f n k.records g).held)

  pub first-onward : (m b : ℕ) (x y z : D) (n : ℕ) → Changes S x y n (HasGrown f)
      → IsOnward S y z (λ i. IsShop i (shop_of (grown f m b))) (λ i. IsShop i (shop_after (shop_of (grown f m b)) a))
      → IsOnward S x z (λ i. IsShop i (shop_of f)) (λ i. IsShop i (shop_after (shop_of f) a))
  first-onward m b x y z n g rest =
      elim (subst (λ (s : Shop). IsOnward S y z (λ i. IsShop i s) (λ i. IsShop i (shop_after s a))) (grown-same f m b) rest) [
        | inl after ↦ inl after
        | inr held ↦ inr (devices.then S x y z IsShopOf
            (bare S x y IsShopOf (grown-shop_moments S x y f n k.records g).held) held)
      ]
