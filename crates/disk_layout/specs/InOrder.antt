-- Sectors visited one after another, each written if it isn't right. Our own.
use Rattle.std.specs.Prelude.{◌≡◌, ◌≢◌, ◌≤◌, ◌⊎◌, ◌+◌, ◌++◌, List, Contains, length}
use Rattle.d64_image.specs.History.{HeldOnly, History}
use Rattle.d64_image.specs.Images.{Image, Sector, sector}
use Rattle.d64_image.specs.declared.place.Place.{Place}
use Rattle.disk_layout.specs.Chain.{EachOnce}

-- these sectors are right now; the ones that were right before, and all sectors outside the list, are as they were
pub record AreMade (Right : Place → Sector → Type 0) (ps : List Place) (old new : Image) : Type 0 where
  pub right : (p : Place) → Contains ps p → Right p (sector new p)
  pub kept : (p : Place) → Right p (sector old p) → sector new p ≡ sector old p
  pub rest : (p : Place) → ¬ (Contains ps p) → sector new p ≡ sector old p

-- the first of these sectors are right now, and nothing else has changed
pub record IsUnderWay (Right : Place → Sector → Type 0) (ps : List Place) (old new : Image) : Type 0 where
  pub done : List Place
  pub left : List Place
  pub split : ps ≡ done ++ left
  pub made : AreMade Right done old new

-- a call that makes no write, or makes one after which the sector at p differs
abbrev pub WritesOther : {D : Type 0} → History D → D → D → Place → Type 0
WritesOther S old new p = (S.writes new ≡ S.writes old) ⊎ ((sector (S.image new) p ≢ sector (S.image old) p)
    × (S.writes new ≤ S.writes old + 1))

-- a call that makes at most one write for each sector that it changes
pub record WritesOnce {D : Type 0} (S : History D) (old new : D) : Type 0 where
  pub written : List Place
  pub once : EachOnce written
  pub other : (p : Place) → Contains written p → sector (S.image new) p ≢ sector (S.image old) p
  pub writes : S.writes new ≤ S.writes old + length written

-- a call that visits these sectors in their order, and writes those that aren't right, each once
pub record GoesOver {D : Type 0} (S : History D) (old new : D) (Right : Place → Sector
    → Type 0) (ps : List Place) : Type 0 where
  pub held : HeldOnly S old new (IsUnderWay Right ps (S.image old))
  pub once : WritesOnce S old new
