-- A count that stays at its greatest value once there. Our own.
use Rattle.std.specs.Prelude.{ℕ}
use Rattle.d64_image.specs.declared.count.Count.{Count}

-- how many calls it has counted, up to the greatest value
abbrev pub calls_of : Count → ℕ
calls_of c = c.n
