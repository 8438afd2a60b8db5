-- The side sector of the last block is there, and was judged.
use Rattle.std.proofs.Common.{ap, arith, refl, sym, ◌+◌, ◌-◌, ◌/◌, ◌%◌, ◌∙◌, ◌≡◌, IsTrue}
use Rattle.std.specs.Prelude.{Some, slice_get}
use Rattle.d64_image.specs.Images.{sector}
use Rattle.d64_image.specs.Memory.{disk_image}
use Rattle.damaged_files.proofs.lemmas.cut.Sides.{last-side, past-judged, same-bytes}
use Rattle.damaged_files.proofs.cut.listed.is_listed_past.Goals as goal

pub returns-in-Some : goal.returns-in-Some
returns-in-Some c f r same count =
    let img = disk_image c.args.disk.now in
    let n = c.args.blocks in
    let (q, there) = last-side img f r (omega (arith, count, c.requires.some)) in
    let at : slice_get f.sides ((n - 1) / 120) ≡ Some q = ap (λ m. slice_get f.sides ((m - 1) / 120)) (sym count)
    ∙ there in
    let read = same-bytes c.in-Some.bytes (sector img q) (sym c.in-Some.is ∙ c.side_at.ensures f q r same at) in
    past-judged img (IsTrue c.args.never_grows) f n ((n - 1) % 120 + 1) q c.in-Some.bytes c.lists_well.result count refl
    at read c.lists_well.ensures
