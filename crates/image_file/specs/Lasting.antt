-- What a file says of the bytes that it holds, at each moment. Our own.
use Rattle.std.specs.Prelude.{
  ◌≡◌,
  ◌<◌,
  ◌≤◌,
  ◌+◌,
  ◌*◌,
  ◌⊎◌,
  Bool,
  true,
  false,
  ℕ,
  List,
  None,
  OnOk,
  Option,
  Result,
  Some,
  length,
  slice_index,
}
use Rattle.std.proofs.lemmas.Option.{none-some}
use Rattle.d64_image.specs.Offsets.{overwritten}

-- Bytes that are kept, now and at the moments before.
pub record Lasting (F : Type 0) : Type 1 where
  -- those that are kept now; None if that isn't known
  pub bytes : F → Option (List ℕ)
  -- the moment, as a number that doesn't fall
  pub moment : F → ℕ
  -- those that may have been kept at some moment from that one on
  pub stayed : F → ℕ → List ℕ → Type 0
  pub small : (f : F) (all : List ℕ) → bytes f ≡ Some all → (i : ℕ) → slice_index all i < 256
  -- those of now are kept since each earlier moment
  pub now : (f : F) (t : ℕ) → t ≤ moment f → (all : List ℕ) → bytes f ≡ Some all → stayed f t all
  -- since now no others were kept
  pub only_now : (f : F) (all : List ℕ) → stayed f (moment f) all → bytes f ≡ Some all

-- a file of which that isn't known
abbrev pub unknown_lasting : {F : Type 0} → Lasting F
unknown_lasting = record {
  bytes = λ _. None;
  moment = λ _. 0;
  stayed = λ _ _ _. ⊥;
  small = λ f all e. absurd (none-some all e);
  now = λ f t le all e. absurd (none-some all e);
  only_now = λ f all never. absurd never;
}

-- Bytes that a file holds, now and at the moments before, of one that says that no write leaves a part of itself.
pub record Whole {F : Type 0} (held : F → Option (List ℕ)) : Type 1 where
  pub lasting : Lasting F
  pub is_held : (f : F) (all : List ℕ) → lasting.bytes f ≡ Some all → held f ≡ Some all

-- of a file of which that isn't known
abbrev pub unknown_whole : {F : Type 0} → {held : F → Option (List ℕ)} → Whole held
unknown_whole = record { lasting = unknown_lasting; is_held = λ f all e. absurd (none-some all e) }

-- the bytes of a file that are looked at: those that an image's file holds whole
abbrev pub seen : {F : Type 0} → Lasting F → (sized : Bool) → Lasting F
seen W true = W
seen W false = unknown_lasting

-- At the end the bytes of old are kept, or these. At each moment the old ones were, or those of the end: what was shown of a
-- change isn't taken back.
pub record StaysOr {F : Type 0} (L : Lasting F) (old new : F) (next : Option (List ℕ)) : Type 0 where
  pub now : (L.bytes new ≡ L.bytes old) ⊎ (L.bytes new ≡ next)
  pub later : L.moment old ≤ L.moment new
  pub each : (all : List ℕ) → L.stayed new (L.moment old) all → (L.bytes old ≡ Some all) ⊎ (L.bytes new ≡ Some all)
  -- for a run that began earlier
  pub before : (t : ℕ) (all : List ℕ) → t ≤ L.moment old → L.stayed new t all
      → L.stayed old t all ⊎ ((L.bytes old ≡ Some all) ⊎ (L.bytes new ≡ Some all))

-- what is known, with these bytes in place of those from n on
abbrev pub overwritten_in : Option (List ℕ) → ℕ → List ℕ → Option (List ℕ)
overwritten_in None n bytes = None
overwritten_in (Some all) n bytes = Some (overwritten all n bytes)

-- a sector of 256 bytes, at a multiple of 256 of a file that reaches so far, if that is known
pub record IsSectorIn (all : Option (List ℕ)) (n : ℕ) (bytes : List ℕ) : Type 0 where
  pub size : length bytes ≡ 256
  pub index : ℕ
  pub at : n ≡ 256 * index
  pub inside : (xs : List ℕ) → all ≡ Some xs → n + 256 ≤ length xs

-- The sector stands in these bytes. At an error it does and stays so, or at each moment what was there before did.
pub record TakesSector {F E : Type 0} (L : Lasting F) (old new : F) (n : ℕ) (bytes : List ℕ) (result : Result Unit E)
    : Type 0 where
  pub stays : StaysOr L old new (overwritten_in (L.bytes old) n bytes)
  pub ok : OnOk result (L.bytes new ≡ overwritten_in (L.bytes old) n bytes)
