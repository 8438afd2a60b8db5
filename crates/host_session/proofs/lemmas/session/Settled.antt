-- What a session tells of a request that isn't its till's next one: by its ledger, and nothing changes.
use Rattle.std.proofs.Common.{ℕ, ◌≡◌, ◌≢◌, ◌≤◌, ◌⊎◌, ◌+◌, inl, inr, true, false, Bool, None, Option, Some, refl}
use Rattle.std.proofs.Common.{sym, ◌∙◌, ap, subst, arith}
use Rattle.std.specs.Prelude.{nat_lt, ◌==◌, if◌then◌else◌}
use Rattle.std.proofs.lemmas.Bool.{cases_Bool, cond_both, false≢true}
use Rattle.d64_image.specs.History.{History}
use Rattle.d64_image.specs.Images.{Image}
use Rattle.d64_image.proofs.Moments as devices
use Rattle.host_session.proofs.lemmas.Held.{changes_weaker, no_change}
use Rattle.request_cards.specs.declared.reply.Word.{Word}
use Rattle.request_cards.specs.declared.reply.Word.TheVariants as words
use Rattle.request_cards.specs.declared.standing.Standing.{Standing}
use Rattle.request_cards.specs.declared.standing.Standing.TheVariants.{New, Settled}
use Rattle.request_cards.specs.Ledgers.{Entry, Start, State, applied, next_in, standing, standing_at, told_again}
use Rattle.request_cards.specs.Ledgers.{told_late, word_in, word_on}
use Rattle.request_cards.specs.Requests.{Ask, same_body}
use Rattle.request_cards.specs.Trade.{outcome}
use Rattle.host_session.specs.session.Answering.{IsAnswered, after_ask}
use Rattle.host_session.specs.shop.Shop.{IsSettled, IsShop, Shop, start_of, with_state}
use Rattle.host_session.specs.session.Standing.{IsStanding, View}
use Rattle.request_cards.specs.Tables.{held_by}
use Rattle.request_cards.specs.declared.ledger.Ledger.{Ledger}
use Rattle.host_session.proofs.lemmas.session.Replies.{new-next, next-new}
use Rattle.host_session.proofs.lemmas.shop.Shops.{standing-settled, standing-state, standing-tills}

-- each word but MEDIA is another
IsOther : Word → Type 0
IsOther words.Media = ⊥
IsOther _ = Unit {0}

-- no request stands so that it is told MEDIA
IsOtherWord : Standing → Type 0
IsOtherWord New = Unit {0}
IsOtherWord (Settled w) = IsOther w

again-other : (e : Entry) (a : Ask) → IsOther (told_again e a)
unfolding IsOther
again-other e a = cond_both (same_body a.body e.body) _ _ IsOther (λ _. tt) (λ _. tt)

late-other : (o : Option Entry) (a : Ask) → IsOther (told_late o a)
unfolding IsOther
late-other None a = tt
late-other (Some e) a = cond_both (a.number == e.number) _ _ IsOther (λ _. again-other e a) (λ _. tt)

standing-other : (tills : ℕ) (last prior : Option Entry) (a : Ask) → IsOtherWord (standing tills last prior a)
unfolding IsOther IsOtherWord
standing-other tills last prior a = cond_both (nat_lt tills a.till) _ _ IsOtherWord (λ _. tt) (λ _. at last)
  where
    at : (o : Option Entry) → IsOtherWord (standing_at o prior a)
    at None = cond_both (nat_lt 1 a.number) _ _ IsOtherWord (λ _. tt) (λ _. tt)
    at (Some e) = cond_both (nat_lt a.number e.number) _ _ IsOtherWord (λ _. late-other prior a)
        (λ _. cond_both (a.number == e.number) _ _ IsOtherWord (λ _. again-other e a)
        (λ _. cond_both (nat_lt (e.number + 1) a.number) _ _ IsOtherWord (λ _. tt) (λ _. tt)))

pub settled-other : (tills : ℕ) (last prior : Option Entry) (a : Ask) (w : Word)
    → standing tills last prior a ≡ Settled w → w ≢ words.Media
unfolding IsOther IsOtherWord
settled-other tills last prior a w e m = subst IsOtherWord (e ∙ ap Settled m) (standing-other tills last prior a)

-- a request that is settled isn't the next one
pub settled-not_next : (start : Start) (st : State) (a : Ask) (w : Word)
    → standing start.tills (st.ledger.kept a.till) (st.prior a.till) a ≡ Settled w → next_in start st a ≡ false
settled-not_next start st a w e = elim (cases_Bool (next_in start st a)) [
  | inl b ↦ absurd (false≢true (ap is-new (sym e ∙ next-new start st a b)))
  | inr b ↦ b
]
  where
    is-new : Standing → Bool
    is-new New = true
    is-new (Settled _) = false

module _ {D : Type 0} (S : History D) (x : View D) (img : Image) (same : S.image x.disk ≡ img) (dead : Bool)
    (l : Ledger) (v : IsStanding img dead l) (alive : dead ≡ false) (a : Ask) where
  abbrev stands : Standing
  stands = standing l.tills ((held_by l).ledger.kept a.till) ((held_by l).prior a.till) a

  -- the ledger stands for the shop
  pub by-tables : (s : Shop) → IsShop (S.image x.disk) s
      → stands ≡ standing s.tills (s.state.ledger.kept a.till) (s.state.prior a.till) a
  by-tables s h =
      let st = standing-state img (S.image x.disk) dead l same v alive s h in
      let t = standing-tills img (S.image x.disk) dead l same v s h in
      λ i. standing (t i) ((st i).ledger.kept a.till) ((st i).prior a.till) a

  pub told-next : 1 ≤ a.number → stands ≡ New → (s : Shop) → IsShop (S.image x.disk) s → next_in (start_of s) s.state a ≡ true
  told-next low new s h = new-next (start_of s) s.state a low (sym (by-tables s h) ∙ new)

  module _ (w : Word) (told : stands ≡ Settled w) where
    pub told-word : (s : Shop) → IsShop (S.image x.disk) s → w ≡ word_in (start_of s) s.state a
    told-word s h = ap (λ (st : Standing). word_on st (outcome s.state.ledger.cards s.top a.body).0) (sym told
        ∙ by-tables s h)

    not-next : (s : Shop) → IsShop (S.image x.disk) s → next_in (start_of s) s.state a ≡ false
    not-next s h = settled-not_next (start_of s) s.state a w (sym (by-tables s h) ∙ told)

    stays : (s : Shop) → IsShop (S.image x.disk) s → s ≡ after_ask s a
    stays s h = sym (ap (λ (b : Bool). with_state s (if b then applied s.top s.state a else s.state)) (not-next s h))

    pub told-settled : x.dead ≡ false → IsAnswered S x x a w
    told-settled living = record {
      reply = λ s h _. (
        told-word s h,
        subst (λ (u : Shop). IsSettled (S.image x.disk) u) (stays s h)
            (standing-settled img (S.image x.disk) dead l same v alive s h),
        living,
      );
      onward = λ s h. inr (devices.start S x.disk (λ i. IsShop i s) h);
      moments = λ s h. changes_weaker S x.disk x.disk 0 3618 _ _ (omega arith) (λ i p. p)
          (no_change S x.disk (λ i. IsShop i s ⊎ IsShop i (after_ask s a)) (inl h));
      writes = λ f h. omega arith;
      counted = λ s h lt. absurd (omega (arith, lt));
      failures = inr (
        settled-other l.tills ((held_by l).ledger.kept a.till) ((held_by l).prior a.till) a w told,
        refl,
      );
    }
