-- Sector by sector.
use Rattle.std.proofs.Common.{arith, inl, inr, ◌≡◌, ◌<◌, ◌+◌}
use Rattle.std.proofs.lemmas.Result.{err_from_is_err_and}
use Rattle.std.specs.Prelude.{⊤}
use Rattle.d64_image.proofs.Places.{index_below, same_index}
use Rattle.d64_image.specs.Memory.{disk_image}
use Rattle.d64_image.specs.Places.{index_of}
use Rattle.d64_image.specs.declared.place.Place.{Place}
use Rattle.damaged_files.proofs.lemmas.sides.Mixes.{so-far-all, so-far-failed, so-far-more}
use Rattle.damaged_files.proofs.lemmas.Below.{below-or-here}
use Rattle.damaged_files.proofs.sides.writing.write_changes.Goals as goal

pub returns-in_err-write_place : goal.returns-in_err-write_place
returns-in_err-write_place g c =
    let p = err_from_is_err_and c.from_residual.result c.from_residual.ensures.1 in
    let These : Place → Type 0 = λ q. index_of q < c.loop-index.index in
    let Those : Place → Type 0 = λ q. q ≡ c.nth.result in
    let All : Place → Type 0 = λ q. ⊤ in
    rw (p.1, p.2) (so-far-failed g.D.Sectors.history (disk_image c.args.before.now) (disk_image c.args.after.now)
    These Those All c.args.disk.now c.loop-index.disk c.write_place.new.disk _ c.loop-index.invariant
    c.in_err-write_place.ensures)

pub loop-index-preserved : goal.loop-index-preserved
loop-index-preserved g c =
    let These : Place → Type 0 = λ q. index_of q < c.loop-index.index in
    let Those : Place → Type 0 = λ q. q ≡ c.nth.result in
    let All : Place → Type 0 = λ q. index_of q < c.loop-index.index + 1 in
    so-far-more g.D.Sectors.history (disk_image c.args.before.now) (disk_image c.args.after.now) These Those All
    c.args.disk.now c.loop-index.disk c.write_place.new.disk tt
    (λ q lt. elim (below-or-here (index_of q) c.loop-index.index lt) [
      | inl low ↦ inl low
      | inr here ↦ inr (same_index q c.nth.result (omega (arith, here, c.nth.ensures)))
    ])
    c.loop-index.invariant c.in_ok-write_place.ensures

pub returns : goal.returns
returns g c =
    so-far-all g.D.Sectors.history (disk_image c.args.before.now) (disk_image c.args.after.now)
    (λ q. index_of q < c.loop-index.index) (λ q. ⊤) (λ q. ⊤) c.args.disk.now c.loop-index.disk tt
    (λ q _. omega (arith, index_below q, c.loop-index-test.false, c.loop-index.auto.index-end)) c.loop-index.invariant
