-- The object isn't deep.
use Rattle.std.proofs.Common.{◌≤◌, subst, sym}
use Rattle.json_looks.proofs.Depths.{free-flat}
use Rattle.serde_json.specs.Data.{Data, depth}
use Rattle.json_looks.proofs.free_counts.free_object.Goals as goal

pub print_object-requires : goal.print_object-requires
print_object-requires g c =
    subst (λ (d : Data). depth d ≤ 127) (sym c.in-Ok.ensures) (free-flat c.args.name.now c.sector.result.now)
