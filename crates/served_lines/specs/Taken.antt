-- Lines that are taken of bytes. Our own.
use Rattle.std.specs.Prelude.{◌≡◌, ◌++◌, ℕ, List, take}
use Rattle.line_text.specs.scripts.Lines.{lines}
use Rattle.line_server.specs.Batches.{AreSame}
use Rattle.line_server.specs.Read.{AreWhole, LacksLf}

-- The bytes of a line that has begun, and these bytes after it, have whole lines, of which these texts were kept. A further line begins
-- after them, of which this was kept.
pub record TakesLines (raw bytes kept : List ℕ) (texts : List (List ℕ)) : Type 0 where
  pub handled : List ℕ
  pub begun : List ℕ
  pub parts : raw ++ bytes ≡ handled ++ begun
  pub whole : AreWhole handled
  pub lacks : LacksLf begun
  pub kept_is : kept ≡ take 40 begun
  pub same : AreSame texts (lines handled)
