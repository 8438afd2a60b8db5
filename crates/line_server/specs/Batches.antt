-- Lines that are taken of an input together. All of it is our own.
use Rattle.std.specs.Prelude.{◌≡◌, ◌≤◌, ◌<◌, ℕ, Bool, true, List, ◌++◌, [], OnSome, Option, length, map}
use Rattle.std.specs.Io.KnownBytes.{Consumes, IsAtEnd}
use Rattle.arrayvec.specs.ArrayVec.{ArrayVec}
use Rattle.request_cards.specs.Reading.{request_of}
use Rattle.line_text.specs.scripts.Lines.{lines}
use Rattle.host_session.specs.declared.events.sources.Next.{Next}
use Rattle.host_session.specs.declared.events.sources.Next.TheVariants as next
use Rattle.line_server.specs.Read.{AreWhole, LacksLf}

-- What an input says of itself.
pub record BatchInput (R : Type 0) : Type 1 where
  -- the bytes that it has left, if they are known
  pub remaining : R → Option (List ℕ)
  -- whether it may have failed
  pub has_failed : R → Bool

-- a reader, which says of itself only what it has left
abbrev pub of_bytes : {R : Type 0} → (R → Option (List ℕ)) → BatchInput R
of_bytes remaining = record { remaining = remaining; has_failed = λ _. true }

-- the texts of these lines
abbrev pub texts_of : List (ArrayVec ℕ) → List (List ℕ)
texts_of ls = map (λ l. l.items) ls

-- these lines are the same requests as those, one by one, or none as those are
abbrev pub AreSame : List (List ℕ) → List (List ℕ) → Type 0
AreSame kept ls = map request_of kept ≡ map request_of ls

-- Lines were taken together, 512 at most, of which these texts were kept. If the input goes on, there is one line at
-- least, and nothing was read after them. Otherwise what was read after them is no line.
pub record IsBatchTaken (old new : Option (List ℕ)) (kept : List (List ℕ)) (said : Next) : Type 0 where
  pub handled : List ℕ
  pub rest : List ℕ
  pub whole : AreWhole handled
  pub lacks : LacksLf rest
  pub read : Consumes old new (handled ++ rest)
  pub same : AreSame kept (lines handled)
  pub most : length kept ≤ 512
  pub ahead : said ≡ next.Event → (rest ≡ []) × (0 < length kept)
  pub end : said ≡ next.End → OnSome old (IsAtEnd new)

-- what an input says of itself: it failed if it reported a failure, and only then
abbrev pub FailedIf : {R : Type 0} → BatchInput R → R → R → Next → Type 0
FailedIf i old new next.Failed = i.has_failed new ≡ true
FailedIf i old new _ = i.has_failed new ≡ i.has_failed old

-- what asking an input for the lines at hand came to
abbrev pub IsBatchGiven : {R : Type 0} → BatchInput R → R → R → (kept : List (List ℕ)) → Next → Type 0
IsBatchGiven i old new kept said =
    IsBatchTaken (i.remaining old) (i.remaining new) kept said × FailedIf i old new said
