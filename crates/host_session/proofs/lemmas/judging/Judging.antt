-- The faults of opening exclude a shop.
use Rattle.std.proofs.Common.{◌≡◌, ⊎_elim, ℕ, zero, suc, List, [], ◌∷◌, ◌++◌, sym, ◌∙◌, ap, subst, arith}
use Rattle.std.specs.Prelude.{Contains, Option, Some, is_some, codes}
use Rattle.std.proofs.lemmas.Bool.{false≢true}
use Rattle.std.proofs.lemmas.List.{map-append}
use Rattle.std.proofs.lemmas.List.Concat.{flat_map-append}
use Rattle.std.proofs.lemmas.List.Elements.{Contains-append_left, Contains-append_right}
use Rattle.std.proofs.lemmas.Option.{none-some, same_Some}
use Rattle.d64_image.specs.Images.{Image}
use Rattle.disk_layout.proofs.lemmas.layouts.Layouts.{IsLayout-one}
use Rattle.disk_layout.proofs.lemmas.layouts.Twice.{told-unsound}
use Rattle.disk_layout.specs.Layout.{File, IsLayout, Layout, record_length}
use Rattle.disk_layout.specs.Rest.{IsFirst}
use Rattle.request_cards.specs.CardTexts.{Card}
use Rattle.request_cards.specs.CardReading.{request_card_of}
use Rattle.host_session.specs.session.Opening.{IsBadCard, IsBadTill, LacksFileOf, Refuses}
use Rattle.host_session.specs.declared.faults.OpenFault.{OpenFault}
use Rattle.host_session.specs.declared.faults.OpenFault.TheVariants as faults
use Rattle.host_session.specs.shop.Files.{Files, record_at}
use Rattle.host_session.specs.shop.Shop.{AreLedgerRecords, IsShop, Shop, cards_in, intents, items, open_in, results}
use Rattle.host_session.specs.shop.Shop.{results_of}
use Rattle.host_session.proofs.lemmas.shop.Lists.{record_at-map_take}
use Rattle.host_session.proofs.lemmas.shop.Shops.{HasFiles-one}

-- a lacking file isn't there
lacks : (img : Image) (name : List ℕ) (long : ℕ) → LacksFileOf img name long → (l : Layout) → IsLayout img l
    → (n : ℕ) (f : File) → IsFirst l name n f → record_length f.slot ≡ long → ⊥
lacks img name long x l h n f first e =
    let same : l ≡ x.layout = IsLayout-one img l x.layout h x.is_layout in
    x.other n f (subst (λ (k : Layout). IsFirst k name n f) same first) e

split : (xs ys : List Card) → items (results (xs ++ ys)) ≡ items (results xs) ++ items (results ys)
split xs ys = ap items (flat_map-append (λ (x : Card). results_of x.newest) xs ys)
    ∙ map-append (λ (p : ℕ × ℕ). p.0) (results xs) (results ys)

-- the results of one till's card are among those of all
card-in : (cs : List (Option Card)) (t : ℕ) (o : Option Card) (r : ℕ) → record_at cs t ≡ Some o
    → Contains (items (results (open_in o))) r → Contains (items (results (intents cs))) r
card-in cs zero o r e c = absurd (none-some o e)
card-in [] (suc k) o r e c = absurd (none-some o e)
card-in (x ∷ cs) (suc zero) o r e c =
    let same : x ≡ o = same_Some x o e in
    subst (λ (is : List ℕ). Contains is r) (sym (split (open_in x) (intents cs)))
    (Contains-append_left (items (results (open_in x))) (items (results (intents cs))) r
    (subst (λ (y : Option Card). Contains (items (results (open_in y))) r) (sym same) c))
card-in (x ∷ cs) (suc (suc k)) o r e c =
    subst (λ (is : List ℕ). Contains is r) (sym (split (open_in x) (intents cs)))
    (Contains-append_right (items (results (open_in x))) (items (results (intents cs))) r
    (card-in cs (suc k) o r e c))

-- a shop has no bad till and no bad card
no_bad_till : (f : Files) (t : ℕ) → AreLedgerRecords f.stock f.requests → ¬ (IsBadTill f t)
no_bad_till f t all x = ⊎_elim
    (λ n. n (all.request_records t x.bytes x.low x.here))
    (λ m. false≢true (sym (ap is_some m.2)
    ∙ all.intent_has_records m.0 (card-in (cards_in f.requests) t (request_card_of x.bytes) m.0
    (record_at-map_take request_card_of 64 f.requests t x.bytes x.low x.here) m.1)))
    x.bad

no_bad_card : (f : Files) (r : ℕ) → AreLedgerRecords f.stock f.requests → ¬ (IsBadCard f r)
no_bad_card f r all x = ⊎_elim (λ c. x.judged c) (λ s. x.bad s) (all.stock_records r x.bytes x.here)

-- what is refused is no shop
pub refused-no_shop : (img : Image) (fault : OpenFault) (s : Shop) → Refuses ⊥ img fault → ¬ (IsShop img s)
refused-no_shop img (faults.Layout fault) s x h = told-unsound img fault x (h.has.layout, h.has.is_layout)
refused-no_shop img faults.NoStock s x h = lacks img (codes "STOCK") 18 x h.has.layout h.has.is_layout h.has.stock_place
    h.has.stock_file h.has.stock_first h.has.stock_length
refused-no_shop img faults.NoRequests s x h = lacks img (codes "REQUESTS") 127 x.1 h.has.layout h.has.is_layout
    h.has.requests_place h.has.requests_file h.has.requests_first h.has.requests_length
refused-no_shop img (faults.BadRequestCard t) s x h =
    let f : h.files ≡ x.0 = HasFiles-one img h.files x.0 h.has x.1 in
    no_bad_till x.0 t (subst (λ (g : Files). AreLedgerRecords g.stock g.requests) f h.records) x.2.here
refused-no_shop img faults.TwoIntents s x h =
    let f : h.files ≡ x.0 = HasFiles-one img h.files x.0 h.has x.1 in
    let all : AreLedgerRecords x.0.stock x.0.requests = subst (λ (g : Files). AreLedgerRecords g.stock g.requests) f
    h.records in
    omega (arith, all.one_intent, x.3)
refused-no_shop img (faults.BadCard r) s x h =
    let f : h.files ≡ x.0 = HasFiles-one img h.files x.0 h.has x.1 in
    no_bad_card x.0 r (subst (λ (g : Files). AreLedgerRecords g.stock g.requests) f h.records) x.4.here
refused-no_shop img faults.Device s x h = x
