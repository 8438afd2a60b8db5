-- What a file that is overwritten holds, and what may remain of it after a power loss. Our own.
use Rattle.std.specs.Prelude.{◌≡◌, ◌⊎◌, ◌≤◌, ◌+◌, ◌-◌, ◌*◌, ℕ, List, ◌++◌, None, OnOk, Option, Result, Some, length, max, option_map}
use Rattle.std.specs.Prelude.{replicate, slice_index, take}
use Rattle.d64_image.specs.Offsets.{overwritten}

-- What is known of a file.
pub record Remains (F : Type 0) : Type 1 where
  -- the bytes that it holds; None if that isn't known
  pub held : F → Option (List ℕ)
  -- the moment, as a number that doesn't fall
  pub moment : F → ℕ
  -- after a power loss now, or at a moment from that one on, these bytes may remain
  pub remain : F → ℕ → List ℕ → Type 0
  -- what may remain from a later moment on may from an earlier one on
  pub sooner : (f : F) (t u : ℕ) (s : List ℕ) → t ≤ u → remain f u s → remain f t s

-- of a file of which nothing is known
abbrev pub unknown : {F : Type 0} → Remains F
unknown = record {
  held = λ _. None;
  moment = λ _. 0;
  remain = λ _ _ _. ⊥;
  sooner = λ f t u s le never. never;
}

-- these bytes with zeros after them, if they are fewer than n
abbrev pub grown : List ℕ → ℕ → List ℕ
grown all n = all ++ replicate (n - length all) 0

-- others in the place of those from n on
abbrev pub put_in : List ℕ → ℕ → List ℕ → List ℕ
put_in all n bytes = overwritten (grown all n) n bytes

-- the first n of these bytes; if they are fewer, all of them with zeros after them
abbrev pub ended_behind : List ℕ → ℕ → List ℕ
ended_behind all n = take n (grown all n)

-- A change of old bytes to new ones reached the disk in part. Each byte is the old one or the new one, and there are at
-- most as many as the longer of the two has.
pub record IsInPart (old new s : List ℕ) : Type 0 where
  pub each : (i : ℕ) → (slice_index s i ≡ slice_index old i) ⊎ (slice_index s i ≡ slice_index new i)
  pub size : length s ≤ max (length old) (length new)

-- 256 bytes at a multiple of 256
pub record IsSectorAt (n : ℕ) (bytes : List ℕ) : Type 0 where
  pub size : length bytes ≡ 256
  pub index : ℕ
  pub at : n ≡ 256 * index

-- The bytes were put in the place of those from n on, in part; of a sector inside the old bytes all were, or none.
pub record IsPutInPart (n : ℕ) (bytes old s : List ℕ) : Type 0 where
  pub mixed : IsInPart old (put_in old n bytes) s
  pub sector : IsSectorAt n bytes → n + 256 ≤ length old → s ≡ put_in old n bytes

-- From old to new there remains what could remain before, or what this makes of bytes that could remain at old.
pub record Changes {F : Type 0} (r : Remains F) (old new : F) (makes : List ℕ → List ℕ → Type 0) : Type 0 where
  pub later : r.moment old ≤ r.moment new
  pub each : (t : ℕ) (s : List ℕ) → t ≤ r.moment old → r.remain new t s
      → r.remain old t s ⊎ ((from : List ℕ) × r.remain old (r.moment old) from × makes from s)

-- bytes were put over those of a file, or a part of them at an error
pub record IsPutOver {F E : Type 0} (r : Remains F) (old new : F) (bytes : List ℕ) (n : ℕ) (result : Result Unit E)
    : Type 0 where
  pub held : OnOk result (r.held new ≡ option_map (λ all. put_in all n bytes) (r.held old))
  pub remain : Changes r old new (IsPutInPart n bytes)

-- a file was ended after n bytes; at an error it may not have been
pub record IsEndedBehind {F E : Type 0} (r : Remains F) (old new : F) (n : ℕ) (result : Result Unit E) : Type 0 where
  pub held : OnOk result (r.held new ≡ option_map (λ all. ended_behind all n) (r.held old))
  pub remain : Changes r old new (λ from s. IsInPart from (ended_behind from n) s)

-- all that a file holds was synced; at an error a part of it may have been
pub record IsBroughtWhole {F E : Type 0} (r : Remains F) (old new : F) (result : Result Unit E) : Type 0 where
  pub same : r.held new ≡ r.held old
  pub remain : Changes r old new (λ from s. ⊥)
  pub ok : OnOk result ((s : List ℕ) → r.remain new (r.moment new) s → r.held new ≡ Some s)

-- a file got its name: what it holds is as before, and so is what may remain of that
pub record IsFinished {F : Type 0} (r : Remains F) (old new : F) : Type 0 where
  pub same : r.held new ≡ r.held old
  pub remain : Changes r old new (λ from s. ⊥)
