-- The second disk is sound; its directory, its chains and all that nobody owns are those of the first.
use Rattle.std.proofs.Common.{◌∙◌, subst}
use Rattle.std.specs.Prelude.{Contains}
use Rattle.d64_image.specs.Images.{Image}
use Rattle.d64_image.specs.Memory.{disk_image}
use Rattle.d64_image.specs.declared.place.Place.{Place}
use Rattle.disk_layout.specs.Layout.{File, IsLayout, Layout}
use Rattle.damaged_files.proofs.lemmas.sides.Frames.{rebuilt}
use Rattle.damaged_files.specs.sides.Compared.{SameChain, SameDirectory, SameOrOwned}
use Rattle.damaged_files.proofs.sides.judging.is_rebuilt.Goals as goal

pub returns-then-keeps_directory-clause-told : goal.returns-then-keeps_directory-clause-told
returns-then-keeps_directory-clause-told c t =
    let a = disk_image c.args.before.now in
    let b = disk_image c.args.after.now in
    let (l, is, of, reads) = c.in-Ok.ensures.ok in
    let A : Image → Type 0 = λ i. (p : Place) → SameOrOwned a i l p in
    let T : Image → Type 0 = λ i. (m : Layout) → IsLayout i m → (f : File) → Contains m.files f
    → SameChain a i f.slot in
    rebuilt a b l is (subst A reads.image (c.changes_owned.ensures c.if-not-changes_owned.false l of))
    (subst (SameDirectory a) reads.image (c.keeps_directory.ensures.told c.if-keeps_directory.true))
    (subst T (c.keeps_directory.ensures.after ∙ reads.image) (c.keeps_chains.ensures.told t) l is)
