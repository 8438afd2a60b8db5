-- What is known of a request that was answered, said of the message that it was read from.
use Rattle.std.proofs.Common.{◌≡◌, ◌⊎◌, ℕ, ◌≤◌, ◌<◌, ◌+◌, inl, inr, Bool, false, true, Option, Some, None, sym, ◌∙◌, ap}
use Rattle.std.proofs.Common.{subst, arith}
use Rattle.d64_image.specs.History.{Failed, History}
use Rattle.host_session.specs.Held.{Changes, IsOnward}
use Rattle.d64_image.specs.Images.{Image}
use Rattle.d64_image.proofs.Moments as devices
use Rattle.host_session.proofs.lemmas.Held.{changes_weaker, no_change}
use Rattle.request_cards.specs.declared.reply.Reply.TheVariants.{Syntax, Told}
use Rattle.request_cards.specs.declared.reply.Word.TheVariants.{Media}
use Rattle.request_cards.specs.declared.reply.Word.{Word}
use Rattle.request_cards.specs.Ledgers.{after_message, next_in, reply_in, word_in}
use Rattle.request_cards.specs.Requests.{Ask}
use Rattle.host_session.specs.session.Answering.{IsAnswered}
use Rattle.host_session.specs.session.Handling.{IsMedia, MayGrow, is_next_request, media, most_writes}
use Rattle.host_session.specs.session.Standing.{View}
use Rattle.host_session.specs.shop.Files.{Files, HasFiles}
use Rattle.host_session.specs.shop.Shop.{IsSettled, IsShop, Shop, shop_of, start_of, with_state}

-- the shop after a message that is this request, or none
abbrev after_option : Shop → Option Ask → Shop
after_option s o = with_state s (after_message (start_of s) s.state o)

-- the shop before it, or after it
abbrev IsHeld : Shop → Option Ask → Image → Type 0
IsHeld s o img = IsShop img s ⊎ IsShop img (after_option s o)

-- what is no request leaves the shop at rest as it is
pub no-request : (img : Image) (s : Shop) (o : Option Ask) (dead : Bool) → o ≡ None → IsSettled img s → dead ≡ false
    → (Syntax ≡ reply_in (start_of s) s.state o) × IsSettled img (with_state s (after_message (start_of s) s.state o))
    × (dead ≡ false)
no-request img s o dead e x alive = (
  ap (reply_in (start_of s) s.state) (sym e),
  subst (λ (p : Option Ask). IsSettled img (after_option s p)) (sym e) x,
  alive,
)

pub no-moments : {D : Type 0} (S : History D) (d : D) (s : Shop) (o : Option Ask) → IsShop (S.image d) s
    → Changes S d d 3618 (λ i. IsShop i s ⊎ IsShop i (with_state s (after_message (start_of s) s.state o)))
no-moments S d s o h = changes_weaker S d d 0 3618 (IsHeld s o) (IsHeld s o) (omega arith) (λ i x. x)
    (no_change S d (IsHeld s o) (inl h))

pub no-onward : {D : Type 0} (S : History D) (d : D) (s : Shop) (o : Option Ask) → IsShop (S.image d) s
    → IsOnward S d d (λ i. IsShop i s) (λ i. IsShop i (with_state s (after_message (start_of s) s.state o)))
no-onward S d s o h = inr (devices.start S d (λ i. IsShop i s) h)

-- a request that an open session answered with a word
module _ {D : Type 0} (S : History D) (old new : View D) (o : Option Ask) (a : Ask) (w : Word) (e : o ≡ Some a)
    (answered : IsAnswered S old new a w) where
  pub told-reply : (t n : ℕ) → t ≡ a.till → n ≡ a.number → (s : Shop) → IsShop (S.image old.disk) s
      → ¬ (IsMedia (Told t n w))
      → (Told t n w ≡ reply_in (start_of s) s.state o)
      × IsSettled (S.image new.disk) (with_state s (after_message (start_of s) s.state o)) × (new.dead ≡ false)
  told-reply t n till number s h other =
      let r = answered.reply s h (λ m. other (t, n, ap (Told t n) m)) in (
        (λ i. Told (till i) (number i) (r.0 i)) ∙ ap (reply_in (start_of s) s.state) (sym e),
        subst (λ (p : Option Ask). IsSettled (S.image new.disk) (after_option s p)) (sym e) r.1,
        r.2,
      )

  pub told-quiet : ((s : Shop) → IsShop (S.image old.disk) s → next_in (start_of s) s.state a ≡ false
      → (w ≡ word_in (start_of s) s.state a) × (new ≡ old))
      → (t n : ℕ) → t ≡ a.till → n ≡ a.number → (s : Shop) → IsShop (S.image old.disk) s → is_next_request s o ≡ false
      → (Told t n w ≡ reply_in (start_of s) s.state o) × (new ≡ old)
  told-quiet quiet t n till number s h none =
      let q = quiet s h (subst (λ (p : Option Ask). is_next_request s p ≡ false) e none) in
      ((λ i. Told (till i) (number i) (q.0 i)) ∙ ap (reply_in (start_of s) s.state) (sym e), q.1)

  pub told-moments : (s : Shop) → IsShop (S.image old.disk) s
      → Changes S old.disk new.disk 3618 (λ i. IsShop i s
      ⊎ IsShop i (with_state s (after_message (start_of s) s.state o)))
  told-moments s h = subst (λ (p : Option Ask). Changes S old.disk new.disk 3618 (IsHeld s p)) (sym e)
      (answered.moments s h)

  pub told-onward : (s : Shop) → IsShop (S.image old.disk) s
      → IsOnward S old.disk new.disk (λ i. IsShop i s)
      (λ i. IsShop i (with_state s (after_message (start_of s) s.state o)))
  told-onward s h = subst (λ (p : Option Ask). IsOnward S old.disk new.disk (λ i. IsShop i s)
      (λ i. IsShop i (after_option s p))) (sym e) (answered.onward s h)

  pub told-writes : (f : Files) (h : HasFiles (S.image old.disk) f)
      → S.writes new.disk ≤ S.writes old.disk + most_writes (shop_of f) h.stock_file o
  told-writes f h =
      subst (λ (p : Option Ask). S.writes new.disk ≤ S.writes old.disk + most_writes (shop_of f) h.stock_file p) (sym e)
      (answered.writes f h)

  pub told-counted : (s : Shop) → IsShop (S.image old.disk) s → S.writes old.disk < S.writes new.disk
      → MayGrow s o ⊎ IsShop (S.image new.disk) (with_state s (after_message (start_of s) s.state o))
  told-counted s h lt = subst (λ (p : Option Ask). MayGrow s p ⊎ IsShop (S.image new.disk) (after_option s p)) (sym e)
      (answered.counted s h lt)

-- a message is a request or none, and a session is dead or not
pub one-option : {A X : Type 0} {o : Option A} {a : A} → o ≡ Some a → o ≡ None → X
one-option is none = cc

pub one-bool : {X : Type 0} {b : Bool} → b ≡ true → b ≡ false → X
one-bool is other = cc

-- what is no request isn't told MEDIA
pub syntax-other : {X : Type 0} → IsMedia Syntax → X
syntax-other (t, n, e) = cc

-- a request's MEDIA is the message's
pub told-media : (o : Option Ask) (a : Ask) → o ≡ Some a → (t n : ℕ) → t ≡ a.till → n ≡ a.number → (w : Word)
    → w ≡ Media → Told t n w ≡ media o
told-media o a e t n till number w is = (λ i. Told (till i) (number i) (is i)) ∙ ap media (sym e)

pub media-word : (t n : ℕ) (w : Word) → IsMedia (Told t n w) → w ≡ Media
media-word t n w (x, y, e) = cc

pub told-failures : {D : Type 0} (S : History D) (old new : View D) (a : Ask) (t n : ℕ) (w : Word)
    → IsAnswered S old new a w
    → (IsMedia (Told t n w) × (new.dead ≡ true) × ((old.dead ≡ true) ⊎ Failed S old.disk new.disk))
    ⊎ (¬ (IsMedia (Told t n w)) × (S.failures new.disk ≡ S.failures old.disk))
told-failures S old new a t n w answered = elim answered.failures [
  | inl x ↦ inl ((t, n, ap (Told t n) x.0), x.1, inr x.2)
  | inr x ↦ inr (λ m. x.0 (media-word t n w m), x.1)
]
