-- None is cut short: then what the second pass finds.
use Rattle.std.proofs.Common.{None, Some, map, subst, ◌≡◌}
use Rattle.d64_image.specs.Images.{Image}
use Rattle.disk_layout.specs.Layout.{File, IsLayout}
use Rattle.damaged_files.specs.cut.Told.{IsFewerTold}
use Rattle.damaged_files.proofs.cut.cuts.first_shortfall.Goals as goal

pub returns-in-Some-first_fewer-clause-told : goal.returns-in-Some-first_fewer-clause-told
returns-in-Some-first_fewer-clause-told c l is e strays shop =
    let P : Image → Type 0 = λ i. IsLayout i l → c.args.slots.now ≡ map (λ (f : File). f.slot) l.files
    → IsFewerTold l (Some c.in-Some-first_fewer.place) in (
      c.in_default.ensures.told l is e strays shop,
      subst P c.first_cut.ensures.same (c.in-Some-first_fewer.ensures.told l) is e,
    )

pub returns-in-None-clause-told : goal.returns-in-None-clause-told
returns-in-None-clause-told c l is e strays shop =
    let P : Image → Type 0 = λ i. IsLayout i l → c.args.slots.now ≡ map (λ (f : File). f.slot) l.files
    → IsFewerTold l None in (
      c.in_default.ensures.told l is e strays shop,
      subst P c.first_cut.ensures.same (c.in-None.ensures.told l) is e,
    )
