-- Chains of sectors as far as they go, on damaged disks too. Our own.
use Rattle.std.specs.Prelude.{◌≡◌, ◌⊎◌, ℕ, List, [], ◌∷◌, ◌++◌, Contains}
use Rattle.d64_image.specs.Images.{Image}
use Rattle.d64_image.specs.declared.place.Place.{Place}
use Rattle.disk_layout.specs.Chain.{EachOnce, EndsAt, Leads, LinksNowhere, LinksTo}

-- a walk over these sectors ends at the last one: it ends the chain with index u; or it links to no place of the disk
-- or back to one of them, and u is 0
abbrev pub StopsAt : Image → List Place → Place → ℕ → Type 0
StopsAt img ps last u =
    EndsAt img last u
    ⊎ ((u ≡ 0) × (LinksNowhere img last ⊎ ((q : Place) × LinksTo img last q × Contains ps q)))

-- ps are the sectors that the links from p reach, in order and each once, as far as they go
pub record IsWalk (img : Image) (p : Place) (ps : List Place) (u : ℕ) : Type 0 where
  pub front : List Place
  pub last : Place
  pub places : ps ≡ front ++ last ∷ []
  pub leads : Leads img p front last
  pub stops : StopsAt img ps last u
  pub once : EachOnce ps
