-- A device at an instant. All of it is our own.
use Rattle.std.specs.Prelude.{ℕ}
use Rattle.d64_image.specs.History.{History}
use Rattle.d64_image.specs.Images.{Image}

-- The moment, and what the device holds then. If it is the same moment later, nothing else was held since.
pub record Instant : Type 0 where
  pub moment : ℕ
  pub image : Image

-- the device as it is
abbrev pub instant_of : {D : Type 0} → History D → D → Instant
instant_of h d = record { moment = h.moment d; image = h.image d }
