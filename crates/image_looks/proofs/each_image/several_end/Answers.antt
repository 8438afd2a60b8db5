-- The output handed on what it held back, and the status is told.
use Rattle.std.proofs.Common.{refl, ℕ}
use Rattle.std.specs.Prelude.{◌≡◌}
use Rattle.std.specs.Io.KnownBytes.{Keeps}
use Rattle.image_looks.proofs.EachTold.{several-done}
use Rattle.image_looks.proofs.each_image.several_end.Goals as goal

pub returns-in-Ok : goal.returns-in-Ok
returns-in-Ok g c =
    several-done (λ (n : ℕ). (n ≡ c.args.greatest) × Keeps (g.W.Write.contents c.args.out.now)
    (g.W.Write.contents c.flush.new.self)) c.args.greatest c.status_end.result (refl, c.in-Ok.ensures.bytes)
    c.status_end.ensures
