-- What a file keeps of a disk, if that is known, now and at the moments before; and what keeping a sector promises. Our
-- own.
use Rattle.std.specs.Prelude.{ℕ, ◌≡◌, ◌<◌, ◌≤◌, ◌+◌, ◌⊎◌, Option, Some, None, Result, Ok, Err, OnErr, OnOk, refl}
use Rattle.std.proofs.Common.{arith}
use Rattle.std.proofs.lemmas.Option.{none-some}
use Rattle.d64_image.specs.Images.{Image, IsImage, Sector, put}
use Rattle.d64_image.specs.declared.place.Place.{Place}

-- What the type of a file promises: what a file keeps of a disk now, what it may have kept before, and what it counts.
pub record Keeps (F : Type 0) : Type 1 where
  -- what it keeps now; None if that isn't known
  pub kept : F → Option Image
  -- the moment, as a number that doesn't fall
  pub moment : F → ℕ
  -- what it may have kept at a moment from that one on
  pub held : F → ℕ → Image → Type 0
  -- how many sectors it took
  pub writes : F → ℕ
  -- how many calls have failed, and the greatest value of that count, at which it is spent
  pub failures : F → ℕ
  pub last : ℕ
  -- there are 683 sectors of 256 bytes
  pub whole : (f : F) (c : Image) → kept f ≡ Some c → IsImage c
  -- what it keeps now is held since each earlier moment
  pub now : (f : F) (t : ℕ) → t ≤ moment f → (c : Image) → kept f ≡ Some c → held f t c
  -- since now nothing else is held
  pub only_now : (f : F) (c : Image) → held f (moment f) c → kept f ≡ Some c
  pub up_to_last : (f : F) → failures f ≤ last
  -- the second comes from the first by sectors that it was to keep
  pub reached : F → F → Type 0
  pub reached_same : (f : F) → reached f f
  pub reached_then : (a b c : F) → reached a b → reached b c → reached a c

-- From old to new the file kept only images that have P.
pub record KeptOnly {F : Type 0} (K : Keeps F) (old new : F) (P : Image → Type 0) : Type 0 where
  pub reached : K.reached old new
  pub later : K.moment old ≤ K.moment new
  pub each : (c : Image) → K.held new (K.moment old) c → P c
  -- for a run that began earlier
  pub before : (t : ℕ) (c : Image) → t ≤ K.moment old → K.held new t c → K.held old t c ⊎ P c

-- The file kept only the image at the start and the one at the end. If it showed the change, the change is there at the end.
abbrev pub KeptInOneStep : {F : Type 0} → Keeps F → F → F → Type 0
KeptInOneStep K old new = KeptOnly K old new (λ c. (K.kept old ≡ Some c) ⊎ (K.kept new ≡ Some c))

-- The count of failures rose, or is spent.
pub record FileFailed {F : Type 0} (K : Keeps F) (old new : F) : Type 0 where
  pub later : K.failures old ≤ K.failures new
  pub rose : K.failures new < K.last → K.failures old < K.failures new

-- An error is returned only if the file failed, and Ok only if no failure was counted.
abbrev pub TellsFileFailure : {F T E : Type 0} → Keeps F → F → F → Result T E → Type 0
TellsFileFailure K old new (Ok _) = K.failures new ≡ K.failures old
TellsFileFailure K old new (Err _) = FileFailed K old new

-- what is kept with these bytes at a place
abbrev pub put_kept : Option Image → Place → Sector → Option Image
put_kept None p bytes = None
put_kept (Some c) p bytes = Some (put c p bytes)

-- what is kept, or this image if that isn't known
abbrev pub kept_or : Option Image → Image → Image
kept_or None img = img
kept_or (Some c) img = c

-- what is kept, if known, is this image
abbrev pub Agrees : Option Image → Image → Type 0
Agrees kept img = kept_or kept img ≡ img

pub kept_whole : (img : Image) → IsImage img → (o : Option Image) → ((c : Image) → o ≡ Some c → IsImage c)
    → IsImage (kept_or o img)
kept_whole img is None each = is
kept_whole img is (Some c) each = each c refl

module _ {F : Type 0} (K : Keeps F) (a b c : F) where
  pub failed_from : K.failures a ≤ K.failures b → FileFailed K b c → FileFailed K a c
  failed_from le f = record { later = omega (arith, le, f.later); rose = λ lt. omega (arith, le, f.rose lt) }

  pub failed_to : FileFailed K a b → K.failures b ≤ K.failures c → FileFailed K a c
  failed_to f le = record {
    later = omega (arith, f.later, le);
    rose = λ lt. omega (arith, f.rose (omega (arith, lt, le)), le);
  }

-- At Ok the bytes are at p, and are kept. At an error they are and stay there, or the file kept what it did before, at each
-- moment of the call. Nothing else was kept on the way.
pub record KeepsSector {F T E : Type 0} (K : Keeps F) (old new : F) (p : Place) (bytes : Sector)
    (result : Result T E) : Type 0 where
  pub ok : OnOk result (K.kept new ≡ put_kept (K.kept old) p bytes)
  pub err : OnErr result ((K.kept new ≡ K.kept old) ⊎ (K.kept new ≡ put_kept (K.kept old) p bytes))
  pub held : KeptOnly K old new (λ c. (K.kept old ≡ Some c) ⊎ (put_kept (K.kept old) p bytes ≡ Some c))
  -- if it shows the new bytes during the call, they are there at its end, also at an error
  pub one_step : KeptInOneStep K old new
  -- a sector is counted at most once, and only at Ok
  pub counted : OnOk result (K.writes new ≤ K.writes old + 1)
  pub uncounted : OnErr result (K.writes new ≡ K.writes old)
  pub failures : TellsFileFailure K old new result

pub none_kept : {c : Image} {A : Type 0} → None ≡ Some c → A
none_kept {c} e = absurd (none-some c e)

-- A file of which nothing is known except that it is the same file, by this relation, and how many of its calls passed
-- and failed.
abbrev pub unknown : {F : Type 0} (writes failures : F → ℕ) (last : ℕ) → ((f : F) → failures f ≤ last)
    → (same : F → F → Type 0) → ((f : F) → same f f)
    → ((a b c : F) → same a b → same b c → same a c) → Keeps F
unknown writes failures last up_to_last same itself then = record {
  kept = λ _. None;
  moment = λ _. 0;
  held = λ _ _ _. ⊥;
  writes = writes;
  failures = failures;
  last = last;
  whole = λ f c e. none_kept e;
  now = λ f t le c e. none_kept e;
  only_now = λ f c h. absurd h;
  up_to_last = up_to_last;
  reached = same;
  reached_same = itself;
  reached_then = then;
}
