-- The rebuilt disk is judged, and then written.
use Rattle.std.proofs.Common.{arith, refl, subst, sym, ◌∙◌, ◌≡◌}
use Rattle.std.proofs.lemmas.Bool.{false≢true}
use Rattle.std.specs.Prelude.{⊤}
use Rattle.d64_image.specs.Images.{Image}
use Rattle.d64_image.specs.Memory.{disk_image}
use Rattle.disk_layout.specs.Layout.{IsSound}
use Rattle.damaged_files.proofs.lemmas.sides.Mixes.{takes-from}
use Rattle.damaged_files.proofs.lemmas.sides.Results.{rebuilds, rebuilds-none}
use Rattle.damaged_files.specs.sides.Rebuilt.{IsRebuilt}
use Rattle.damaged_files.proofs.sides.rebuilding.rebuild_sides.Goals as goal

pub returns-in_default-clause-rebuilds : goal.returns-in_default-clause-rebuilds
returns-in_default-clause-rebuilds g c =
    let (l, is, of, reads) = c.in_default.ensures.ok in
    rebuilds-none g.D.Sectors.history c.args.disk.now tt (subst IsSound c.requires.holds (l, is))

pub returns-clause-rebuilds : goal.returns-clause-rebuilds
returns-clause-rebuilds g c =
    let S = g.D.Sectors.history in
    let a = S.image c.args.disk.now in
    let b = disk_image c.plan_sides.new.after in
    let reads = c.in-Err.ensures.reads in
    let first : disk_image c.plan_sides.new.before ≡ a = c.plan_sides.ensures.same ∙ reads.image ∙ c.requires.holds in
    let P : Image → Type 0 = λ i. IsRebuilt i b in
    let unsound : IsSound a → ⊥ = λ sound.
    false≢true ((c.in-Err.ensures.sound (record { same = refl; not_spent = omega arith })).1
    (subst IsSound (sym c.requires.holds) sound)) in
    rebuilds S b c.args.disk.now c.write_changes.new.disk c.write_changes.result
    (subst P first (c.is_rebuilt.ensures.told c.if-not-is_rebuilt.false)) unsound
    (takes-from S a b (disk_image c.plan_sides.new.before) (disk_image c.is_rebuilt.new.after) (λ p. ⊤)
    c.args.disk.now c.write_changes.new.disk c.write_changes.result first c.is_rebuilt.ensures.after
    c.write_changes.ensures)
