-- The blank image is a shop's, at rest: all records of its two files are empty.
use Rattle.std.proofs.Common.{ℕ, zero, suc, ◌≡◌, ◌≤◌, inl, inr, List, [], ◌∷◌, ◌++◌, false, None, Option, Some, ap}
use Rattle.std.proofs.Common.{arith, length, map, refl, replicate, subst, sym, ◌∙◌}
use Rattle.std.specs.Prelude.{Contains, codes, drop, option_map, slice_get}
use Rattle.std.specs.Option.{option_and_then}
use Rattle.std.proofs.lemmas.List.{drop_all, length-replicate, take_all}
use Rattle.std.proofs.lemmas.Option.{none-some, same_Some}
use Rattle.d64_image.specs.Images.{Image, sector}
use Rattle.d64_image.specs.declared.place.Place.{Place}
use Rattle.disk_layout.proofs.lemmas.blank.BlankClean.{blank-clean}
use Rattle.disk_layout.proofs.lemmas.blank.BlankTop.{blank-has_top}
use Rattle.disk_layout.proofs.lemmas.layouts.Layouts.{IsLayout-one}
use Rattle.disk_layout.proofs.lemmas.layouts.Uniques.{IsFirst-one}
use Rattle.disk_layout.proofs.lemmas.lists.Once.{Contains-nil}
use Rattle.disk_layout.specs.Blank.{IsBlankMap, blank_directory, request_blocks}
use Rattle.disk_layout.specs.Entries.{rel_entry}
use Rattle.disk_layout.specs.BlankLayout.{IsCleanBlank, blank_layout, blank_top, requests_file, stock_file}
use Rattle.disk_layout.specs.Directory.{map_place}
use Rattle.disk_layout.specs.Layout.{File, IsLayout, Layout}
use Rattle.disk_layout.specs.Records.{empty_record}
use Rattle.disk_layout.specs.Room.{IsTop}
use Rattle.disk_layout.specs.Rest.{IsFirst, rest_of}
use Rattle.disk_layout.specs.Room.{IsTopOf}
use Rattle.request_cards.specs.CardReading.{request_card_of}
use Rattle.request_cards.specs.CardTexts.{Card}
use Rattle.request_cards.specs.Ledgers.{nothing}
use Rattle.host_session.proofs.lemmas.judging.TableEntries.{blank-request}
use Rattle.host_session.proofs.lemmas.shop.Steps.{blank-record}
use Rattle.host_session.specs.shop.Blank.{BlankIsAShop, blank_rest, blank_shop, blank_tills}
use Rattle.host_session.specs.shop.Files.{Files, HasFiles, record_at}
use Rattle.host_session.specs.shop.Shop.{AreLedgerRecords, IsSettled, any_old, card_at, cards_in, intents, items}
use Rattle.host_session.specs.shop.Shop.{overlaid, quantities, quantity_in, results, state_of}

-- each of equal records is the same
replicate-at : {X : Type 0} (n r : ℕ) (e x : X) → record_at (replicate n e) r ≡ Some x → x ≡ e
replicate-at n zero e x at = absurd (none-some x at)
replicate-at n (suc r) e x at = place n r at
  where
    place : (n r : ℕ) → slice_get (replicate n e) r ≡ Some x → x ≡ e
    place zero r at = absurd (none-some x at)
    place (suc n) zero at = sym (same_Some e x at)
    place (suc n) (suc r) at = place n r at

-- where all are the same, f is nothing at each that is nothing there
replicate-none : {X Y : Type 0} (f : X → Option Y) (n r : ℕ) (e : X) → f e ≡ None
    → option_and_then f (record_at (replicate n e) r) ≡ None
replicate-none f n zero e none = refl
replicate-none f n (suc r) e none = place n r
  where
    place : (n r : ℕ) → option_and_then f (slice_get (replicate n e) r) ≡ None
    place zero r = refl
    place (suc n) zero = none
    place (suc n) (suc r) = place n r

map-replicate : {X Y : Type 0} (f : X → Y) (n : ℕ) (e : X) → map f (replicate n e) ≡ replicate n (f e)
map-replicate f zero e = refl
map-replicate f (suc n) e = ap (λ ys. f e ∷ ys) (map-replicate f n e)

no-intents : (n : ℕ) → intents (replicate n None) ≡ []
no-intents zero = refl
no-intents (suc n) = no-intents n

none-old : (n : ℕ) → any_old (replicate n None) ≡ false
none-old zero = refl
none-old (suc n) = none-old n

-- so many empty records of REQUESTS have no card
empty-cards : (n : ℕ) → n ≤ 64 → cards_in (replicate n (empty_record 127)) ≡ replicate n None
empty-cards n few =
    let long = length-replicate n (empty_record 127) in
    ap (map request_card_of) (take_all 64 (replicate n (empty_record 127)) (omega (arith, long)))
    ∙ map-replicate request_card_of n (empty_record 127)
    ∙ ap (replicate n) blank-request

-- what records stand for that are all empty
module _ (m n : ℕ) (few : n ≤ 64) where
  abbrev stock : List (List ℕ)
  stock = replicate m (empty_record 18)

  abbrev requests : List (List ℕ)
  requests = replicate n (empty_record 127)

  no-intent : intents (cards_in requests) ≡ []
  no-intent = ap intents (empty-cards n few) ∙ no-intents n

  no-old : any_old (cards_in requests) ≡ false
  no-old = ap any_old (empty-cards n few) ∙ none-old n

  empty-tills : length (cards_in requests) ≡ n
  empty-tills = ap length (empty-cards n few) ∙ length-replicate n None

  no-card : (t : ℕ) → card_at (cards_in requests) t ≡ None
  no-card t = ap (λ cards. card_at cards t) (empty-cards n few) ∙ replicate-none (λ c. c) n t None refl

  no-quantity : (item : ℕ) → quantities stock item ≡ None
  no-quantity item = replicate-none (quantity_in item) m item (empty_record 18) (ap (option_and_then _) blank-record)

  empty-state : state_of stock requests ≡ nothing
  empty-state i = record {
    ledger = record {
      cards = (ap (λ cards. overlaid (results cards) (quantities stock)) no-intent ∙ (λ j item. no-quantity item j)) i;
      kept = λ t. option_map (λ (c : Card). c.newest) (no-card t i);
    };
    prior = λ t. option_and_then (λ (c : Card). c.second) (no-card t i);
  }

  empty-ledger : AreLedgerRecords stock requests
  empty-ledger = record {
    request_records = λ till bytes low at. inl (replicate-at n till (empty_record 127) bytes at);
    one_intent = let none = ap length no-intent in omega (arith, none);
    intent_has_records = λ item has. let Among : List Card → Type 0 = λ cards. Contains (items (results cards)) item in
        absurd (Contains-nil item (subst Among no-intent has));
    stock_records = λ item bytes at. inr (inl (replicate-at m item (empty_record 18) bytes at));
  }

-- an image has one layout and one first file of a name, so its top is that of any
top-there : (img : Image) (name : List ℕ) (r : ℕ) → IsTopOf img name r
    → (l : Layout) (n : ℕ) (f : File) → IsLayout img l → IsFirst l name n f → IsTop l n r
top-there img name r t l n f is first =
    let same : t.layout ≡ l = IsLayout-one img t.layout l t.is_layout is in
    let First : Layout → Type 0 = λ k. IsFirst k name t.place t.file in
    let Top : Layout → Type 0 = λ k. IsTop k t.place r in
    let place : n ≡ t.place = (IsFirst-one l name n t.place f t.file first (subst First same t.first)).0 in
    subst (λ k. IsTop l k r) (sym place) (subst Top same t.top)

-- a clean blank image, with the map's sector and the top of one
module _ (img : Image) (name id : List ℕ) (tills : ℕ) (few : tills ≤ 64) (blocks : List Place)
    (map : IsBlankMap (sector img map_place) name id (request_blocks tills))
    (b : IsCleanBlank img (request_blocks tills) blocks)
    (t : IsTopOf img (codes "STOCK") (blank_top tills)) where
  abbrev layout : Layout
  layout = blank_layout (request_blocks tills) blocks

  abbrev card_file : File
  card_file = stock_file (request_blocks tills)

  abbrev request_file : File
  request_file = requests_file (request_blocks tills) blocks

  abbrev files : Files
  files = record {
    stock = replicate 14 (empty_record 18);
    requests = replicate (blank_tills tills) (empty_record 127);
    blocks = 1;
    rest = blank_rest name id tills;
    top = blank_top tills;
  }

  within : blank_tills tills ≤ 64
  within = omega arith

  rest-is : blank_rest name id tills ≡ rest_of img layout 0 1 request_file
  unfolding rest_of
  rest-is i = record {
    files = [];
    header = sym map.start i ++ sym map.names i;
    count = sym (ap length b.request_records ∙ long) i;
    past = sym (ap (drop 64) b.request_records ∙ drop_all 64 files.requests (omega (arith, long, within))) i;
  }
    where
      long : length files.requests ≡ blank_tills tills
      long = length-replicate (blank_tills tills) (empty_record 127)

  has : HasFiles img files
  unfolding blank_directory rel_entry
  has = record {
    layout = layout;
    is_layout = b.clean.layout;
    stock_place = 0;
    requests_place = 1;
    stock_file = card_file;
    requests_file = request_file;
    stock_first = b.stock;
    requests_first = b.requests;
    stock_length = refl;
    requests_length = refl;
    stock = sym b.stock_records;
    requests = sym b.request_records;
    blocks = refl;
    rest = rest-is;
    top = top-there img (codes "STOCK") (blank_top tills) t layout 0 card_file b.clean.layout b.stock;
  }

  pub clean-settled : IsSettled img (blank_shop name id tills)
  clean-settled = record {
    shop = record {
      files = files;
      has = has;
      records = empty-ledger 14 (blank_tills tills) within;
      is = λ i. record {
        state = empty-state 14 (blank_tills tills) within i;
        tills = empty-tills 14 (blank_tills tills) within i;
        top = files.top;
        rest = files.rest;
      };
    };
    clean = (layout, b.clean);
    no_intent = no-intent 14 (blank_tills tills) within;
    no_old_card = no-old 14 (blank_tills tills) within;
  }

pub blank-shop : BlankIsAShop
blank-shop old new name id tills some few image blank =
    clean-settled new name id tills few blank.blocks blank.map
    (blank-clean old new name id tills some few image blank)
    (blank-has_top old new name id tills some few image blank)
