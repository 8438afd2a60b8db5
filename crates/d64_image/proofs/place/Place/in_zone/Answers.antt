-- The tracks before have so many sectors each.
use Rattle.std.proofs.Common.{arith, ◌/◌}
use Rattle.std.proofs.Math.Nat.{div-add-mod}
use Rattle.d64_image.specs.Places.{index_of}
use Rattle.d64_image.proofs.Places.{below_zone}
use Rattle.d64_image.proofs.place.Place.in_zone.Goals as goal

pub returns : goal.returns
unfolding index_of
returns c =
    let n = c.args.before / c.args.sectors in
    omega (
      arith,
      div-add-mod c.args.before c.args.sectors,
      below_zone c.args.first n c.args.sectors
          (λ t from to. c.requires.each t from (omega (arith, to))),
    )
