-- A worked life: three messages, power that goes twice in a message and once in the recovery after it, and the replies. Its
-- device is one on paper, which knows what it held before.
use Rattle.std.specs.Prelude.{◌≡◌, ◌<◌, ◌≤◌, ◌⊎◌, ℕ, Bool, false, List, [], ◌∷◌, None, Ok, codes, refl}
use Rattle.std.proofs.Common.{arith, inl, ⊎_elim, lit≤}
use Rattle.d64_image.specs.History.{History}
use Rattle.d64_image.specs.Images.{Image, IsImage}
use Rattle.disk_layout.specs.Rest.{Rest}
use Rattle.disk_layout.specs.Whole.{IsWhole}
use Rattle.host_session.specs.session.Standing.{View}
use Rattle.host_session.specs.shop.Shop.{IsSettled, IsShop, Shop}
use Rattle.request_cards.specs.Ledgers.{nothing}
use Rattle.request_cards.specs.Requests.{Ask}
use Rattle.request_cards.specs.declared.answer.Answer.TheVariants.{Done}
use Rattle.request_cards.specs.declared.kind.Kind.TheVariants.{Issue, Receive, Set}
use Rattle.request_cards.specs.declared.reply.Reply.{Reply}
use Rattle.request_cards.specs.declared.reply.Reply.TheVariants.{Told}
use Rattle.request_cards.specs.declared.reply.Word.TheVariants.{Kept}
use Rattle.shop_life.specs.Lives.{Step, shop_after}
use Rattle.shop_life.specs.Lives.Step.{opens, handles, cut_in_opening, cut_in_message}

-- a device: its image, the images that it held since earlier moments, and the moment
pub record Page : Type 0 where
  pub image : Image
  pub whole : IsImage image
  pub past : List Image
  pub moment : ℕ

-- the image is one of these
abbrev pub IsOneOf : List Image → Image → Type 0
IsOneOf [] c = ⊥
IsOneOf (x ∷ xs) c = (c ≡ x) ⊎ IsOneOf xs c

pub later_only : (t : ℕ) → t < t → ⊥
later_only t lt = omega (arith, lt)

-- it never fails, and counts nothing
abbrev pub paper : History Page
paper = record {
  image = λ d. d.image;
  moment = λ d. d.moment;
  held = λ d t c. (c ≡ d.image) ⊎ ((t < d.moment) × IsOneOf d.past c);
  reads = λ _. 0;
  writes = λ _. 0;
  failures = λ _. 0;
  last = 1;
  whole = λ d. d.whole;
  now = λ d t le. inl refl;
  only_now = λ d c h. ⊎_elim (λ (e : c ≡ d.image). e) (λ x. absurd (later_only d.moment x.0)) h;
  up_to_last = λ _. lit≤ tt;
  reached = λ _ _. Unit {0};
  reached_same = λ _. tt;
  reached_then = λ _ _ _ _ _. tt;
  failed_at = λ _ _. ⊥;
  failed_stays = λ _ _ _ _ never. never;
}

-- a session on it that isn't dead
abbrev pub alive : Page → View Page
alive d = record { disk = d; dead = false }

-- till 1 sets item 15 to 7, till 2 receives 5 of it, and till 1 issues 2
abbrev pub first_message : List ℕ
first_message = codes "1,1,S,15,7"

abbrev pub second_message : List ℕ
second_message = codes "2,1,R,15,5"

abbrev pub third_message : List ℕ
third_message = codes "1,2,I,15,2"

abbrev pub first_ask : Ask
first_ask = record { till = 1; number = 1; body = record { kind = Set; item = 15; quantity = 7; to = 0 } }

abbrev pub second_ask : Ask
second_ask = record { till = 2; number = 1; body = record { kind = Receive; item = 15; quantity = 5; to = 0 } }

abbrev pub third_ask : Ask
third_ask = record { till = 1; number = 2; body = record { kind = Issue; item = 15; quantity = 2; to = 0 } }

-- the replies, by hand: 7, then 7 and 5 are 12, then 12 less 2 are 10
abbrev pub first_reply : Reply
first_reply = Told 1 1 (Kept (Done 7))

abbrev pub second_reply : Reply
second_reply = Told 2 1 (Kept (Done 12))

abbrev pub third_reply : Reply
third_reply = Told 1 2 (Kept (Done 10))

-- a shop of two tills without cards, with room for cards up to item 9256
abbrev pub at_first : Rest → Shop
at_first rest = record { state = nothing; tills = 2; top = 9256; rest = rest }

-- an image, and what holds of it
pub record Picture (P : Image → Type 0) : Type 0 where
  pub image : Image
  pub is : IsImage image
  pub whole : IsWhole image
  pub has : P image

-- Images of that shop: at rest after none, one, two and three of the requests; and two that power leaves when the second
-- request is on the disk and isn't completed: one in the message, and one in the recovery.
pub record Pictures (rest : Rest) : Type 0 where
  pub none : Picture (λ c. IsSettled c (at_first rest))
  pub one : Picture (λ c. IsSettled c (shop_after (at_first rest) (first_ask ∷ [])))
  pub two : Picture (λ c. IsSettled c (shop_after (at_first rest) (first_ask ∷ second_ask ∷ [])))
  pub three : Picture (λ c. IsSettled c (shop_after (at_first rest) (first_ask ∷ second_ask ∷ third_ask ∷ [])))
  pub intent : Picture (λ c. IsShop c (shop_after (at_first rest) (first_ask ∷ second_ask ∷ [])) × ((t : Shop) → IsSettled c t → ⊥))
  pub half : Picture (λ c. IsShop c (shop_after (at_first rest) (first_ask ∷ second_ask ∷ [])) × ((t : Shop) → IsSettled c t → ⊥))

module _ (rest : Rest) (x : Pictures rest) where
  abbrev pub page : {P : Image → Type 0} → Picture P → List Image → ℕ → Page
  page p past moment = record { image = p.image; whole = p.is; past = past; moment = moment }

  -- the life
  abbrev pub worked : List (Step Page)
  worked =
      -- the disk is opened, and the first message is answered
      opens (Ok (alive (page x.none [] 0)))
      ∷ handles first_message first_reply (alive (page x.one (x.none.image ∷ []) 1))
      -- power goes in the second one, after its intent was written
      ∷ cut_in_message second_message second_reply (alive (page x.two (x.one.image ∷ x.intent.image ∷ []) 2)) (page x.intent [] 0)
      -- and in the recovery
      ∷ cut_in_opening (Ok (alive (page x.two (x.intent.image ∷ x.half.image ∷ []) 1))) (page x.half [] 0)
      -- the next one ends; the till asks again, and gets its answer
      ∷ opens (Ok (alive (page x.two (x.half.image ∷ []) 1)))
      ∷ handles second_message second_reply (alive (page x.two (x.half.image ∷ []) 1))
      -- power goes in the third one before it counts; it is sent again, and counts
      ∷ cut_in_message third_message third_reply (alive (page x.three (x.two.image ∷ []) 2)) (page x.two [] 0)
      ∷ opens (Ok (alive (page x.two [] 0)))
      ∷ handles third_message third_reply (alive (page x.three (x.two.image ∷ []) 1))
      ∷ []
