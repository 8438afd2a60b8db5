-- What every life of a shop keeps: one list of requests goes with it. All of it is our own.
use Rattle.std.specs.Prelude.{◌≡◌, ◌≢◌, ◌⊎◌, ℕ, false, List, [], ◌∷◌, ◌++◌, None, Some, IsOk}
use Rattle.std.specs.List.{AllByRecursion}
use Rattle.d64_image.specs.History.{History, NeverFailed}
use Rattle.d64_image.specs.Images.{Image}
use Rattle.host_session.specs.session.Handling.{IsMedia}
use Rattle.host_session.specs.session.Opened.{disk_of}
use Rattle.host_session.specs.shop.Shop.{IsSettled, IsShop, Shop, start_of}
use Rattle.request_cards.specs.Ledgers.{reply}
use Rattle.request_cards.specs.Reading.{request_of}
use Rattle.request_cards.specs.Requests.{Ask}
use Rattle.shop_life.specs.Lives.{IsHeldIn, IsLife, Place, Step, asks_of, disk_at, message_in, off, on, shop_after, went, went_all}
use Rattle.shop_life.specs.Lives.Step.{opens, handles, cut_in_opening, cut_in_message}

-- none of these requests is of the till of that one
abbrev pub NoneOfTill : Ask → List Ask → Type 0
NoneOfTill a asks = AllByRecursion (λ b. b.till ≢ a.till) asks

-- the requests of all parts, where these come before them
abbrev pub counted_from : List Ask → List (List Ask) → List Ask
counted_from before [] = before
counted_from before (n ∷ ns) = counted_from (before ++ n) ns

-- the image is the shop's after these requests
abbrev pub IsAfter : Shop → List Ask → Image → Type 0
IsAfter s asks c = IsShop c (shop_after s asks)

-- the image is the shop's after these requests and maybe more
abbrev pub IsAfterMore : Shop → List Ask → Image → Type 0
IsAfterMore s asks c = (more : List Ask) × IsAfter s (asks ++ more) c

-- the image is the shop's after some first ones of the requests
abbrev pub IsAfterFirst : Shop → List Ask → Image → Type 0
IsAfterFirst s asks c = (first : List Ask) × (rest : List Ask) × (first ++ rest ≡ asks) × IsAfter s first c

module _ {D : Type 0} (hist : History D) where
  -- a session that isn't dead rests
  abbrev pub Rests : Shop → Place D → Type 0
  Rests s (off d) = Unit {0}
  Rests s (on v) = v.dead ≡ false → IsSettled (hist.image v.disk) s

  -- the life stands on the disk of this shop
  pub record IsAt (s : Shop) (p : Place D) : Type 0 where
    pub shop : IsShop (hist.image (disk_at p)) s
    pub rests : Rests s p

  -- A reply other than MEDIA is the rule's over the requests before it, and its message's request is in the list.
  abbrev pub IsAnswered : Shop → List Ask → Step D → List Ask → Type 0
  IsAnswered s before (handles m told new) count = ¬ (IsMedia told)
      → (told ≡ reply (start_of s) before (request_of m)) × (count ≡ asks_of (Some m))
  IsAnswered s before x count = Unit {0}

  -- A request that was in the list, asked again before its till's next one, gets the answer that it got then, and changes
  -- nothing.
  abbrev pub IsAnsweredAgain : Shop → List Ask → Step D → Type 0
  IsAnsweredAgain s before (handles m told new) = (a : Ask) (first later : List Ask) → request_of m ≡ Some a
      → before ≡ first ++ a ∷ later → NoneOfTill a later → ¬ (IsMedia told)
      → (told ≡ reply (start_of s) first (Some a)) × (shop_after s (before ++ a ∷ []) ≡ shop_after s before)
  IsAnsweredAgain s before x = Unit {0}

  -- an opening of a device that doesn't fail succeeds
  abbrev pub DoesOpen : Place D → Step D → Type 0
  DoesOpen p (opens r) = NeverFailed hist (disk_at p) (disk_of r) → IsOk r
  DoesOpen p x = Unit {0}

  -- One step, where these requests come before it, and these are its own.
  pub record Keeps (s : Shop) (before : List Ask) (p : Place D) (x : Step D) (own : List Ask) : Type 0 where
    -- its message's request, or nothing
    pub once : (own ≡ []) ⊎ (own ≡ asks_of (message_in x))
    -- each image held at a moment of it is the shop after those before, or after its message too
    pub held : (c : Image) → IsHeldIn hist p x c → IsAfter s before c ⊎ IsAfter s (before ++ asks_of (message_in x)) c
    pub answered : IsAnswered s before x own
    pub again : IsAnsweredAgain s before x
    pub opens_if_unfailed : DoesOpen p x
    -- and it leads to the shop after all of these
    pub at : IsAt (shop_after s (before ++ own)) (went p x)

  -- each step keeps this
  abbrev pub KeepAll : Shop → List Ask → Place D → List (Step D) → List (List Ask) → Type 0
  KeepAll s before p [] [] = Unit {0}
  KeepAll s before p (x ∷ xs) (n ∷ ns) = Keeps s before p x n × KeepAll s (before ++ n) (went p x) xs ns
  KeepAll s before p _ _ = ⊥

  -- The image was held at a moment of the step. If power goes in its call, it is the one that power left: what the call would
  -- have held later was never there.
  abbrev pub IsSeenIn : Place D → Step D → Image → Type 0
  IsSeenIn p (cut_in_opening r next) c = c ≡ hist.image next
  IsSeenIn p (cut_in_message m told new next) c = c ≡ hist.image next
  IsSeenIn p x c = IsHeldIn hist p x c

  -- each image seen in these steps has P
  abbrev pub AllSeen : (Image → Type 0) → Place D → List (Step D) → Type 0
  AllSeen P p [] = Unit {0}
  AllSeen P p (x ∷ xs) = ((c : Image) → IsSeenIn p x c → P c) × AllSeen P (went p x) xs

  -- One list of requests goes with the life, in order, a part of it for each step.
  pub record HasOneList (s : Shop) (p : Place D) (steps : List (Step D)) : Type 0 where
    pub parts : List (List Ask)
    pub keep : KeepAll s [] p steps parts
    -- each image seen is the shop after a first part of the list
    pub seen : AllSeen (IsAfterFirst s (counted_from [] parts)) p steps

  -- each image held in these steps, at any moment, has P
  abbrev pub AllHeld : (Image → Type 0) → Place D → List (Step D) → Type 0
  AllHeld P p [] = Unit {0}
  AllHeld P p (x ∷ xs) = ((c : Image) → IsHeldIn hist p x c → P c) × AllHeld P (went p x) xs

  -- What is in the list of the first steps, each request with an answer among it, is on each image held in any later step.
  pub record Stays (s : Shop) (p : Place D) (first later : List (Step D)) : Type 0 where
    pub parts : List (List Ask)
    pub keep : KeepAll s [] p first parts
    pub at : IsAt (shop_after s (counted_from [] parts)) (went_all p first)
    pub stay : AllHeld (IsAfterMore s (counted_from [] parts)) (went_all p first) later

  -- the image was held at a moment of one of these steps
  abbrev pub WasHeld : Place D → List (Step D) → Image → Type 0
  WasHeld p [] c = ⊥
  WasHeld p (x ∷ xs) c = IsHeldIn hist p x c ⊎ WasHeld (went p x) xs c

  -- A life began on the disk of a shop and led here, and these are the parts of its list.
  pub record IsLived (s : Shop) (disk : D) (steps : List (Step D)) (parts : List (List Ask)) (p : Place D) : Type 0 where
    pub shop : IsShop (hist.image disk) s
    pub life : IsLife hist (off disk) steps
    pub keep : KeepAll s [] (off disk) steps parts
    pub led : went_all (off disk) steps ≡ p
