-- The file of the name, and where it is cut short.
use Rattle.std.proofs.Common.{refl, subst, sym}
use Rattle.std.proofs.lemmas.Bool.{false≢true}
use Rattle.d64_image.specs.Images.{Image}
use Rattle.damaged_files.specs.cut.OfName.{IsCutNamed}
use Rattle.disk_changes.proofs.judging.is_named_cut.Goals as goal

pub returns-in-Some-clause-ok : goal.returns-in-Some-clause-ok
returns-in-Some-clause-ok c =
    let p = c.in-Some.field-0 in
    let C : Image → Type 0 = λ i. IsCutNamed i c.args.name.now p in (
      λ t. (c.in_ok-disk.ensures.ok.0, (p, subst C c.in_ok-disk.ensures.ok.1 c.in-Some.ensures.told)),
      λ named. refl,
    )

pub returns-clause-ok : goal.returns-clause-ok
returns-clause-ok c = (
  λ f. absurd (false≢true f),
  λ named.
      let p = named.1.0 in
      let C : Image → Type 0 = λ i. IsCutNamed i c.args.name.now p in
      absurd (c.in-None.ensures.told p (subst C (sym c.in_ok-disk.ensures.ok.1) named.1.1)),
)
