-- Lines that are read of the input. Our own.
use Rattle.std.specs.Prelude.{◌≡◌, ◌⊎◌, ◌≤◌, ◌-◌, ◌++◌, ℕ, Bool, List, [], drop, false, length, take, true}
use Rattle.one_host.specs.Worlds.{World}
use Rattle.line_text.specs.scripts.Lines.{lines}
use Rattle.line_server.specs.Batches.{AreSame}
use Rattle.line_server.specs.Read.{AreWhole, LacksLf}
use Rattle.served_lines.specs.Taken.{TakesLines}
use Rattle.served_lines.specs.declared.reading.LineInput.{LineInput}

-- what is kept of the line that has begun
abbrev pub line_kept : LineInput → List ℕ
line_kept i = i.line.items

-- the room for what is read: the bytes that were read last, and what was there before
abbrev pub bytes_read : LineInput → List ℕ
bytes_read i = i.bytes.items

-- the bytes that were read and not looked at
abbrev pub bytes_left : LineInput → List ℕ
bytes_left i = take (i.end - i.at) (drop i.at i.bytes.items)

-- From i to j some first bytes of those that weren't looked at were taken, with their lines.
pub record IsTaken (i j : LineInput) (texts : List (List ℕ)) : Type 0 where
  pub used : ℕ
  pub left : bytes_left j ≡ drop used (bytes_left i)
  pub takes : (raw : List ℕ) → LacksLf raw → line_kept i ≡ take 40 raw → TakesLines raw (take used (bytes_left i)) (line_kept j) texts

-- all bytes that were read are those before, and then those of a line that has begun, and those that weren't looked at
pub record HasMore (i : LineInput) (before all : List ℕ) : Type 0 where
  pub begun : List ℕ
  pub lacks : LacksLf begun
  pub kept_is : line_kept i ≡ take 40 begun
  pub all_are : all ≡ before ++ (begun ++ bytes_left i)

-- all that was read in this world is handled up to there
abbrev pub Awaits : LineInput → (before : List ℕ) → World → Type 0
Awaits i before w = HasMore i before w.heard

-- w is the world v, but more of the input was read
pub record OnlyHeard (v w : World) : Type 0 where
  pub more : List ℕ
  pub over : Bool
  pub is : w ≡ record v { heard = v.heard ++ more; ended = over }

-- Lines were taken of the input, of which these texts were kept. There is one at least, or the input has
-- ended, or as many bytes were read without one as can be counted.
pub record Gives (v : World) (i : LineInput) (before : List ℕ) (texts : List (List ℕ)) (some : Bool) (w : World) : Type 0 where
  pub only : OnlyHeard v w
  pub handled : List ℕ
  pub whole : AreWhole handled
  pub same : AreSame texts (lines handled)
  pub awaits : Awaits i (before ++ handled) w
  pub over : some ≡ false → (texts ≡ []) × (((w.ended ≡ true) × (bytes_left i ≡ [])) ⊎ (18446744073709551615 ≤ length w.heard))

-- and whatever was handled before, they come after it
abbrev pub GoesOn : World → LineInput → LineInput → (texts : List (List ℕ)) → Bool → World → Type 0
GoesOn v i j texts some w = (before : List ℕ) → Awaits i before v → Gives v j before texts some w
