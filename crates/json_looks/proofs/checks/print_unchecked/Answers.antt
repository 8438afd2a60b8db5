-- The object isn't deep.
use Rattle.std.proofs.Common.{◌≤◌, subst, sym}
use Rattle.json_looks.proofs.Depths.{unchecked-flat}
use Rattle.serde_json.specs.Data.{Data, depth}
use Rattle.json_looks.proofs.checks.print_unchecked.Goals as goal

pub print_object-requires : goal.print_object-requires
print_object-requires g c =
    subst (λ (d : Data). depth d ≤ 127) (sym c.in-Ok.ensures) (unchecked-flat c.args.name.now c.args.size c.args.why.now)
