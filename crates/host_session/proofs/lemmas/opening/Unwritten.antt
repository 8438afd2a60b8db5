-- What wasn't written holds what it held, by any bound.
use Rattle.std.proofs.Common.{ℕ, arith}
use Rattle.host_session.proofs.lemmas.Held.{changes_weaker, no_change}
use Rattle.d64_image.specs.History.{History}
use Rattle.host_session.specs.Held.{Changes}
use Rattle.d64_image.specs.Images.{Image}

pub unwritten : {D : Type 0} (S : History D) (d : D) (n : ℕ) (P : Image → Type 0) → P (S.image d) → Changes S d d n P
unwritten S d n P h = changes_weaker S d d 0 n P P (omega arith) (λ i x. x) (no_change S d P h)
