-- The facts are those of the disk, and so is what follows from them.
use Rattle.std.proofs.Common.{map, subst, ◌∙◌, ◌≡◌, IsTrue}
use Rattle.std.specs.Prelude.{◌↔◌}
use Rattle.d64_image.specs.Images.{Image}
use Rattle.disk_layout.specs.Layout.{File, IsLayout}
use Rattle.disk_layout.specs.Listed.{HasStock}
use Rattle.damaged_files.specs.cut.Cut.{HasStray}
use Rattle.damaged_files.specs.cut.Told.{IsToldOf}
use Rattle.damaged_files.proofs.cut.cuts.find_cut.Goals as goal

pub returns-clause-ok : goal.returns-clause-ok
returns-clause-ok c l is =
    let facts = c.in_ok-facts.facts in
    let (slots, strays, shop) = c.in_ok-facts.ensures.ok l is in
    let Q : Image → Type 0 = λ i. IsLayout i l → c.as_slice.result.now ≡ map (λ (f : File). f.slot) l.files
    → (IsTrue facts.strays ↔ HasStray i l) → (IsTrue facts.shop ↔ HasStock l) → IsToldOf i l c.args.entry c.first_cut.result in
    subst Q c.read_facts.ensures.same (c.first_cut.ensures.told l) is (c.as_slice.ensures.value ∙ slots) strays shop
