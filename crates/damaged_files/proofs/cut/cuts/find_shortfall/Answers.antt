-- The disk is sound, and the facts are its own.
use Rattle.std.proofs.Common.{map, refl, subst, ◌∙◌, ◌≡◌, IsTrue}
use Rattle.std.proofs.lemmas.Bool.{false≢true}
use Rattle.std.specs.Prelude.{◌↔◌}
use Rattle.d64_image.specs.Images.{Image}
use Rattle.d64_image.specs.Memory.{disk_image}
use Rattle.disk_layout.specs.Layout.{File, IsLayout}
use Rattle.disk_layout.specs.Listed.{HasStock}
use Rattle.damaged_files.proofs.lemmas.cut.Told.{shortfall-of-disk}
use Rattle.damaged_files.specs.cut.Cut.{HasStray}
use Rattle.damaged_files.specs.cut.Told.{IsShortfall}
use Rattle.damaged_files.proofs.cut.cuts.find_shortfall.Goals as goal

pub returns-in-Ok-clause-told : goal.returns-in-Ok-clause-told
returns-in-Ok-clause-told c =
    shortfall-of-disk (disk_image c.args.disk.now) c.first_shortfall.result (c.in-Ok.ensures.sound.0 refl) (λ l is.
    let facts = c.in-Ok.facts in
    let (slots, strays, shop) = c.in-Ok.ensures.ok l is in
    let Q : Image → Type 0 = λ i. IsLayout i l → c.as_slice.result.now ≡ map (λ (f : File). f.slot) l.files
    → (IsTrue facts.strays ↔ HasStray i l) → (IsTrue facts.shop ↔ HasStock l) → IsShortfall i l c.first_shortfall.result in
    subst Q c.read_facts.ensures.same (c.first_shortfall.ensures.told l) is (c.as_slice.ensures.value ∙ slots) strays shop)

pub returns-in-Err-clause-told : goal.returns-in-Err-clause-told
returns-in-Err-clause-told c l is = absurd (false≢true (c.in-Err.ensures.sound.1 (l, is)))
