-- The results of an open intent are written, one card or two, and then its answer.
use Rattle.std.proofs.Common.{ℕ, ◌≡◌, ◌≢◌, ◌≤◌, false, List, [], ◌∷◌, Ok, Err, Result, length, refl, sym, ◌∙◌, ◌++◌, ap}
use Rattle.std.proofs.Common.{replicate, set, subst, true, arith}
use Rattle.std.specs.Prelude.{Bool, Contains, IsTrue, OnOk, None, nat_le, not, ◌==◌, ◌&&◌}
use Rattle.std.proofs.lemmas.Bool.{and_parts, eqb-false, false≢true, leb-true, not-true}
use Rattle.d64_image.specs.History.{History}
use Rattle.host_session.specs.Held.{Changes}
use Rattle.d64_image.specs.Images.{Image}
use Rattle.host_session.proofs.lemmas.Held.{changes_then, changes_weaker}
use Rattle.disk_layout.proofs.lemmas.lists.Once.{Contains-here, Contains-there}
use Rattle.rel_records.specs.Written.{touched}
use Rattle.request_cards.specs.declared.answer.Answer.{Answer}
use Rattle.request_cards.specs.declared.answer.Answer.TheVariants as answers
use Rattle.request_cards.specs.declared.kind.Kind.{Kind}
use Rattle.request_cards.specs.declared.kind.Kind.TheVariants.{Receive, Issue, Set, Move}
use Rattle.request_cards.specs.Requests.{may_go_to, same_kind}
use Rattle.request_cards.specs.CardTexts.{Card, IsEntry, IsStock, answer_quantity, answer_to_quantity, card_text}
use Rattle.request_cards.specs.CardTexts.{entry_text, goes_with, is_done, second_text, stock_text}
use Rattle.host_session.specs.session.Handling.{card_writes}
use Rattle.host_session.specs.shop.Completing.{HasIntent, HasResults, answered_card}
use Rattle.host_session.specs.shop.Files.{Files, with_record}
use Rattle.host_session.specs.shop.Putting.{HasCard, IsPuttingCard, with_card}
use Rattle.host_session.specs.shop.Shop.{IsShop, Shop, items, results_in, results_of, shop_of}
use Rattle.host_session.proofs.lemmas.shop.Lists.{length-with}
use Rattle.host_session.proofs.lemmas.writing.IntentCards.{intended-within, intent-after, one-result, putting-shop}
use Rattle.host_session.proofs.lemmas.writing.IntentCards.{shop-after, two-results}
use Rattle.host_session.proofs.lemmas.writing.IntentAnswers.{intent-fits}

-- The results of an open intent: one card, or two.
module _ (f : Files) (till : ℕ) (c : Card) (x : HasIntent f till c) where
  entry : IsEntry c.newest
  entry = (intent-fits f till c x).newest

  within : (item : ℕ) → Contains (items (results_of c.newest)) item → item ≤ length f.stock
  within item h = (intended-within f till c x item h).1

  module _ (item q : ℕ) (at : item ≡ c.newest.body.item) (answer : c.newest.answer ≡ answers.Done q) where
    done-results : results_of c.newest ≡ (item, q) ∷ []
    done-results = ap (results_in c.newest.body) answer ∙ ap (λ k. (k, q) ∷ []) (sym at)

    done-contains : Contains (items (results_of c.newest)) item
    done-contains = subst (λ (qs : List (ℕ × ℕ)). Contains (items qs) item) (sym done-results) (Contains-here item [])

    pub done-there : item ≤ length f.stock
    done-there = within item done-contains

    pub done-fits : IsStock (record { item = item; quantity = q })
    done-fits = record {
      item_low = omega (arith, at, entry.body.item_low);
      item_high = omega (arith, at, entry.body.item_high);
      quantity_high = omega (arith, ap answer_quantity answer, entry.quantity_high);
    }

    pub done-ok : {T E : Type 0} (img : Image) (res : Result T E)
        → OnOk res (HasCard f item (stock_text (record { item = item; quantity = q })) img)
        → OnOk res (HasResults f c img)
    done-ok img (Ok _) h = one-result f till c x item q done-fits done-results img h
    done-ok img (Err _) h = tt

    pub done-moments : {D : Type 0} (S : History D) (a b : D)
        → Changes S a b (touched 18 item 1) (IsPuttingCard f item (stock_text (record { item = item; quantity = q })))
        → Changes S a b (card_writes (results_of c.newest)) (λ i. IsShop i (shop_of f))
    done-moments S a b w = changes_weaker S a b (touched 18 item 1) (card_writes (results_of c.newest)) _ _
        (omega (arith, ap card_writes done-results))
        (putting-shop f till c x item done-contains (stock_text (record { item = item; quantity = q }))) w

  is_move : (h p : ℕ) → c.newest.answer ≡ answers.Moved h p → IsTrue (same_kind c.newest.body.kind Move)
  is_move h p answer = subst (λ (a : Answer). IsTrue (goes_with c.newest.body.kind a)) answer entry.fits

  module _ (item h to p : ℕ) (at : item ≡ c.newest.body.item) (at' : to ≡ c.newest.body.to)
      (answer : c.newest.answer ≡ answers.Moved h p) where
    abbrev card : List ℕ
    card = stock_text (record { item = item; quantity = h })

    abbrev card' : List ℕ
    card' = stock_text (record { item = to; quantity = p })

    moved-results : results_of c.newest ≡ (item, h) ∷ (to, p) ∷ []
    moved-results = ap (results_in c.newest.body) answer ∙ (λ i. (sym at i, h) ∷ (sym at' i, p) ∷ [])

    goes : (kind : Kind) (item to : ℕ) → IsTrue (same_kind kind Move) → IsTrue (may_go_to kind item to)
        → (1 ≤ to) × (to ≤ 65535) × (to ≢ item)
    goes Receive item to m e = absurd (false≢true m)
    goes Issue item to m e = absurd (false≢true m)
    goes Set item to m e = absurd (false≢true m)
    goes Move item to m e =
        let q = and_parts (nat_le 1 to) (nat_le to 65535 && not (to == item)) e in
        let r = and_parts (nat_le to 65535) (not (to == item)) q.1 in
        (leb-true 1 to q.0, leb-true to 65535 r.0, eqb-false to item (not-true (to == item) r.1))

    goes-on : (1 ≤ c.newest.body.to) × (c.newest.body.to ≤ 65535) × (c.newest.body.to ≢ c.newest.body.item)
    goes-on = goes c.newest.body.kind c.newest.body.item c.newest.body.to (is_move h p answer) entry.body.to

    pub other-item : to ≢ item
    other-item e = goes-on.2 (sym at' ∙ e ∙ at)

    moved-contains : Contains (items (results_of c.newest)) item
    moved-contains = subst (λ (qs : List (ℕ × ℕ)). Contains (items qs) item) (sym moved-results)
        (Contains-here item (to ∷ []))

    moved-contains' : Contains (items (results_of c.newest)) to
    moved-contains' = subst (λ (qs : List (ℕ × ℕ)). Contains (items qs) to) (sym moved-results)
        (Contains-there to item (to ∷ []) (Contains-here to []))

    pub moved-there : item ≤ length f.stock
    moved-there = within item moved-contains

    pub moved-there' : to ≤ length (with_record f.stock item card)
    moved-there' = omega (arith, within to moved-contains', length-with f.stock item card)

    pub moved-fits : IsStock (record { item = item; quantity = h })
    moved-fits = record {
      item_low = omega (arith, at, entry.body.item_low);
      item_high = omega (arith, at, entry.body.item_high);
      quantity_high = omega (arith, ap answer_quantity answer, entry.quantity_high);
    }

    pub moved-fits' : IsStock (record { item = to; quantity = p })
    moved-fits' = record {
      item_low = omega (arith, at', goes-on.0);
      item_high = omega (arith, at', goes-on.1);
      quantity_high = omega (arith, ap answer_to_quantity answer, entry.to_quantity_high);
    }

    pub moved-ok : {T E : Type 0} (b : ℕ) (img : Image) (res : Result T E)
        → OnOk res (HasCard (with_card f item card b) to card' img) → OnOk res (HasResults f c img)
    moved-ok b img (Ok _) k = two-results f till c x item h moved-fits to p moved-fits' other-item moved-results b img k
    moved-ok b img (Err _) k = tt

    moved-first : {D : Type 0} (S : History D) (a b : D) → Changes S a b (touched 18 item 1) (IsPuttingCard f item card)
        → Changes S a b (touched 18 item 1) (λ i. IsShop i (shop_of f))
    moved-first S a b w = changes_weaker S a b (touched 18 item 1) (touched 18 item 1) _ _ (omega arith)
        (putting-shop f till c x item moved-contains card) w

    pub moved-half : {D : Type 0} (S : History D) (a b : D)
        → Changes S a b (touched 18 item 1) (IsPuttingCard f item card)
        → Changes S a b (card_writes (results_of c.newest)) (λ i. IsShop i (shop_of f))
    moved-half S a b w = changes_weaker S a b (touched 18 item 1) (card_writes (results_of c.newest)) _ _
        (omega (arith, ap card_writes moved-results)) (λ i s. s) (moved-first S a b w)

    pub moved-moments : {D : Type 0} (S : History D) (a b d : D) (n : ℕ)
        → Changes S a b (touched 18 item 1) (IsPuttingCard f item card)
        → Changes S b d (touched 18 to 1) (IsPuttingCard (with_card f item card n) to card')
        → Changes S a d (card_writes (results_of c.newest)) (λ i. IsShop i (shop_of f))
    moved-moments S a b d n first second =
        let half = intent-after f till c x item moved-contains card n in
        let later = changes_weaker S b d (touched 18 to 1) (touched 18 to 1) _ (λ i. IsShop i (shop_of f)) (omega arith)
        (λ i w. subst (λ (s : Shop). IsShop i s) (shop-after f till c x item moved-contains card n)
        (putting-shop (with_card f item card n) till c half to moved-contains' card' i w)) second in
        changes_then S a b d (touched 18 item 1) (touched 18 to 1) (card_writes (results_of c.newest))
        (λ i. IsShop i (shop_of f)) (omega (arith, ap card_writes moved-results))
        (moved-first S a b first) later

  -- and no other answer is that of an open intent
  pub some-results : results_of c.newest ≢ []
  some-results = by c.newest.answer ((intent-fits f till c x).intent x.is_open)
    where
      by : (a : Answer) → IsTrue (is_done a) → results_in c.newest.body a ≢ []
      by (answers.Done q) d e = omega (arith, ap length e)
      by (answers.Moved h p) d e = omega (arith, ap length e)
      by (answers.Short h) d e = false≢true d
      by (answers.Over h) d e = false≢true d
      by answers.NoCard d e = false≢true d
      by answers.DiskFull d e = false≢true d
      by answers.TooLarge d e = false≢true d

-- a card of version 1, in version 2 and answered
pub old-answered : (c d e : Card) → d ≡ record e { pending = false } → e ≡ record c { version = 2; second = None }
    → None ≡ c.second → d ≡ answered_card c
old-answered c d e x y z = x ∙ ap (λ (k : Card). record k { pending = false }) y
    ∙ (λ i. record c { version = 2; pending = false; second = z i })

-- the text of a card of version 2, with an A for its state, is that of the card answered
pub marked : (c : Card) → c.version ≡ 2 → set (card_text c) 1 65 ≡ card_text (answered_card c)
marked c two = let two : (c.version == 1) ≡ false = rw two refl in rw two (by c.pending)
  where
    by : (p : Bool) → set (50 ∷ entry_text p c.newest ++ second_text c.second ++ replicate 10 0) 1 65
        ≡ 50 ∷ entry_text false c.newest ++ second_text c.second ++ replicate 10 0
    by true = refl
    by false = refl
