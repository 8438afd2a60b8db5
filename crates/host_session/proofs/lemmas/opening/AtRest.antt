-- The table of the tills' cards once a shop's disk is brought to rest.
use Rattle.std.proofs.Common.{ℕ, zero, suc, ◌≡◌, ◌≢◌, ◌<◌, ◌≤◌, ◌+◌, inl, inr, List, [], ◌∷◌, None, Option, Some, false}
use Rattle.std.proofs.Common.{add-one, ap, arith, get_or, length, min, refl, take, subst, sym, ◌∙◌}
use Rattle.std.specs.Prelude.{IfNone, option_map, ◌||◌}
use Rattle.std.specs.Option.{option_and_then}
use Rattle.std.proofs.lemmas.Bool.{cases_eq, cases_lt, eq-eqb, false≢true, ne_eqb}
use Rattle.std.proofs.lemmas.List.{get_or_past, length-map, length-take}
use Rattle.host_session.proofs.lemmas.Held.{changes_then}
use Rattle.d64_image.specs.History.{History}
use Rattle.host_session.specs.Held.{Changes}
use Rattle.d64_image.specs.Images.{Image}
use Rattle.disk_layout.specs.Clean.{IsClean}
use Rattle.drive_channels.specs.State.{Seen}
use Rattle.request_cards.specs.CardReading.{request_card_of}
use Rattle.request_cards.specs.CardTexts.{Card}
use Rattle.host_session.specs.shop.Files.{Files, HasFiles}
use Rattle.host_session.specs.shop.LoadedShop.{IsIntentOf, IsJudged}
use Rattle.host_session.specs.session.Opening.{Untouched}
use Rattle.host_session.specs.session.Settling.{HasClosedTable, HasNewTable, HasTable}
use Rattle.host_session.specs.shop.Shop.{IsSettled, IsShop, Shop, any_old, card_at, cards_in, intents, is_old, shop_of}
use Rattle.host_session.specs.session.Standing.{IsStanding}
use Rattle.host_session.specs.declared.shop.intents.Intent.{Intent}
use Rattle.host_session.specs.declared.shop.judgment.LoadedShop.{LoadedShop}
use Rattle.host_session.proofs.lemmas.judging.JudgedTills.{card_at-get, table-intents}
use Rattle.host_session.proofs.lemmas.shop.Shops.{HasFiles-one, IsShop-one}
use Rattle.host_session.proofs.lemmas.judging.TableEntries.{in-place}
use Rattle.request_cards.specs.Tables.{nth, state_in}
use Rattle.request_cards.proofs.Tables.{nth-at}
use Rattle.host_session.proofs.lemmas.opening.Migrated.{any-none, f}

-- what was read at a till's place of a table
module _ (table : List (Option Card)) (k till : ℕ) (d : Option Card) (up : k + 1 ≡ till) (lt : k < 64)
    (long : length table ≡ 64) where
  pub young-at : is_old (get_or table k d) ≡ false → is_old (nth table till) ≡ false
  young-at young = ap (λ n. is_old (nth table n)) (sym up)
      ∙ ap is_old (in-place table k d lt long (get_or table k d) refl) ∙ young

  pub card-at : (c : Card) → get_or table k d ≡ Some c → nth table till ≡ Some c
  card-at c e = ap (nth table) (sym up) ∙ in-place table k d lt long (Some c) e

-- a till whose card isn't of version 1 stays
pub table-more : (img : Image) (s : Shop) (table : List (Option Card)) (k till : ℕ) → k + 1 ≡ till
    → HasNewTable img s table k → is_old (nth table till) ≡ false → HasNewTable img s table till
table-more img s table k till up h young = record {
  closed = h.closed;
  no_old_card = λ t le. elim (cases_eq t till) [
    | inl e ↦ ap (λ n. is_old (nth table n)) e
        ∙ young
    | inr ne ↦ h.no_old_card t (omega (arith, le, ne, up))
  ];
}

-- the card of a till is of version 1, or isn't
pub none-young : (o : Option Card) → ((c : Card) → o ≢ Some c) → is_old o ≡ false
none-young None ne = refl
none-young (Some c) ne = absurd (ne c refl)

pub new-young : (o : Option Card) (c : Card) → o ≡ Some c → c.version ≢ 1 → is_old o ≡ false
new-young o c e ne = ap is_old e ∙ ne_eqb c.version 1 ne

pub old-is : (o : Option Card) (c : Card) → o ≡ Some c → c.version ≡ 1 → is_old o ≡ false → ⊥
old-is o c e one young = false≢true (sym young ∙ ap is_old e ∙ eq-eqb c.version 1 one)

-- no till is looked at yet
pub table-start : (img : Image) (s : Shop) (table : List (Option Card)) → HasClosedTable img s table
    → HasNewTable img s table 0
table-start img s table h = record { closed = h; no_old_card = λ t le. first t le }
  where
    first : (t : ℕ) → t ≤ 0 → is_old (nth table t) ≡ false
    first zero le = refl
    first (suc t) le = absurd (omega (arith, le))

-- none of the first cards being old, none of all is
pub all-new : (img : Image) (s : Shop) (table : List (Option Card)) (h : HasNewTable img s table 64)
    → any_old (cards_in h.closed.has.shop.files.requests) ≡ false
all-new img s table h = any-none (cards_in h.closed.has.shop.files.requests) young
  where
    young : (k : ℕ) → is_old (get_or (cards_in h.closed.has.shop.files.requests) k None) ≡ false
    young k =
        let rs = h.closed.has.shop.files.requests in
        let few : length (cards_in rs) ≡ min 64 (length rs) = length-map (take 64 rs) request_card_of
        ∙ length-take 64 rs in
        elim (cases_lt k 64) [
          | inl lt ↦ sym (ap is_old (card_at-get (cards_in rs) k)) ∙ ap is_old (sym (h.closed.has.tills (suc k)))
              ∙ h.no_old_card (suc k) (omega (arith, lt))
          | inr le ↦ ap is_old (get_or_past (cards_in rs) k None (omega (arith, le, few)))
        ]

-- the disk at rest, in the words of the shop
pub at-rest : (img : Image) (s : Shop) (table : List (Option Card)) (h : HasNewTable img s table 64) → IsClean img
    → IsSettled img s
at-rest img s table h clean = record {
  shop = h.closed.has.shop;
  clean = clean;
  no_intent = sym (table-intents h.closed.has.shop.files table h.closed.has.tills) ∙ h.closed.no_intent;
  no_old_card = all-new img s table h;
}

-- and what the session's tables hold is its state
pub tables-state : (img : Image) (s : Shop) (cards : List (Option ℕ)) (table : List (Option Card))
    (h : HasTable img s table) → ((item : ℕ) → nth cards item ≡ s.state.ledger.cards item)
    → state_in cards table ≡ s.state
tables-state img s cards table h quantities =
    let f = h.shop.files in
    let kept : (t : ℕ) → option_map (λ (c : Card). c.newest) (nth table t) ≡ s.state.ledger.kept t =
    λ t. ap (option_map (λ (c : Card). c.newest)) (h.tills t)
    ∙ ap (λ (u : Shop). u.state.ledger.kept t) h.shop.is in
    let prior : (t : ℕ) → option_and_then (λ (c : Card). c.second) (nth table t) ≡ s.state.prior t =
    λ t. ap (option_and_then (λ (c : Card). c.second)) (h.tills t) ∙ ap (λ (u : Shop). u.state.prior t) h.shop.is in
    λ i. record { ledger = record { cards = λ item. quantities item i; kept = λ t. kept t i }; prior = λ t. prior t i }

-- what holds where there is no intent
pub none-weaker : (A B : Type 0) (o : Option Intent) → (A → B) → IfNone o A → IfNone o B
none-weaker A B None f h = f h
none-weaker A B (Some x) f h = tt

-- a disk that was judged, as it is once it is mended
pub judged-table : (img : Image) (f : Files) (x : LoadedShop) → HasFiles img f → IsJudged f x
    → HasTable img (shop_of f) x.ledger.requests
judged-table img f x has j = record {
  shop = record { files = f; has = has; records = j.records; is = refl };
  tills =
      j.requests;
}

-- what a session holds once its shop's disk is at rest
pub standing : (img : Image) (f : Files) (x : LoadedShop) → IsJudged f x → (table : List (Option Card))
    → HasNewTable img (shop_of f) table 64 → IsClean img
    → IsStanding img false (record x.ledger { requests = table })
standing img f x j table h clean = record {
  shop = shop_of f;
  is_shop = h.closed.has.shop;
  top_is = j.top;
  tills_is = j.tills;
  settled = λ _. at-rest img (shop_of f) table h clean;
  state_is = λ _. tables-state img (shop_of f) x.ledger.cards table h.closed.has j.cards;
}

-- a settled disk has nothing to complete and nothing to migrate
module _ (img : Image) (s : Shop) (r : IsSettled img s) (f : Files) (has : HasFiles img f) (x : LoadedShop)
    (j : IsJudged f x) where
  same-files : r.shop.files ≡ f
  same-files = HasFiles-one img r.shop.files f r.shop.has has

  pub rest-intent : x.intent ≡ None
  rest-intent = by x.intent j.intent
    where
      none : intents x.ledger.requests ≡ []
      none = table-intents f x.ledger.requests j.requests ∙ ap (λ (g : Files). intents (cards_in g.requests)) (sym same-files)
          ∙ r.no_intent

      by : (o : Option Intent) → IsIntentOf x.ledger.requests o → o ≡ None
      by None h = refl
      by (Some y) h = absurd (omega (arith, ap length (sym none ∙ h.only)))

  pub rest-cards : any_old x.ledger.requests ≡ false
  rest-cards =
      any-same x.ledger.requests (cards_in f.requests) (λ k. sym (nth-at x.ledger.requests k) ∙ j.requests (k + 1)
      ∙ ap (card_at (cards_in f.requests)) (add-one k) ∙ card_at-get (cards_in f.requests) k)
      ∙ ap (λ (g : Files). any_old (cards_in g.requests)) (sym same-files) ∙ r.no_old_card
    where
      any-same : (xs ys : List (Option Card)) → ((k : ℕ) → get_or xs k None ≡ get_or ys k None)
          → any_old xs ≡ any_old ys
      any-same [] [] h = refl
      any-same [] (y ∷ ys) h = λ i. is_old (h 0 i) || any-same [] ys (λ k. h (suc k)) i
      any-same (y ∷ xs) [] h = λ i. is_old (h 0 i) || any-same xs [] (λ k. h (suc k)) i
      any-same (x ∷ xs) (y ∷ ys) h = λ i. is_old (h 0 i) || any-same xs ys (λ k. h (suc k)) i

-- a disk that was judged is of one shop
pub judged-shop : (img : Image) (f : Files) (x : LoadedShop) → HasFiles img f → IsJudged f x → (s : Shop) → IsShop img s
    → shop_of f ≡ s
judged-shop img f x has j s h =
    IsShop-one img (shop_of f) s (record { files = f; has = has; records = j.records; is = refl }) h

-- a shop's disk that is mended, and then brought to rest
module _ {D : Type 0} (S : History D) (a : D) (b c : Seen D) (f : Files) (has : HasFiles (S.image a) f) (x : LoadedShop)
    (j : IsJudged f x) (s : Shop) where
  pub rest-moments : IsShop (S.image a) s → Changes S a b.disk 883 (λ i. IsShop i s)
      → Changes S b.disk c.disk 69 (λ i. IsShop i (shop_of f)) → Changes S a c.disk 952 (λ i. IsShop i s)
  rest-moments h mended rests = changes_then S a b.disk c.disk 883 69 952 (λ i. IsShop i s) (omega arith) mended
      (subst (λ (t : Shop). Changes S b.disk c.disk 69 (λ i. IsShop i t)) (judged-shop (S.image a) f x has j s h) rests)

  pub rest-quiet : IsSettled (S.image a) s → IfNone x.intent (any_old x.ledger.requests ≡ false → c ≡ b)
      → Untouched S a b.disk → Untouched S a c.disk
  rest-quiet r quiet mended =
      let stays = subst (λ (o : Option Intent). IfNone o (any_old x.ledger.requests ≡ false → c ≡ b))
      (rest-intent (S.image a) s r f has x j) quiet (rest-cards (S.image a) s r f has x j) in
      subst (λ (d : Seen D). Untouched S a d.disk) (sym stays) mended
