-- The survey, the directory, and then what both tell of the disk.
use Rattle.std.proofs.Common.{ap, subst, sym, ◌∷◌, ◌∙◌, ◌≡◌, IsTrue}
use Rattle.std.specs.Prelude.{Contains, ◌↔◌}
use Rattle.d64_image.specs.Images.{Image, Sector, sector}
use Rattle.d64_image.specs.Memory.{disk_image, memory}
use Rattle.d64_image.specs.declared.place.Place.{Place}
use Rattle.disk_layout.proofs.lemmas.layouts.Layouts.{IsLayout-one}
use Rattle.disk_layout.proofs.lemmas.layouts.Twice.{told-unsound}
use Rattle.disk_layout.specs.Directory.{map_place}
use Rattle.disk_layout.specs.Layout.{IsLayout, Layout, owners}
use Rattle.disk_layout.specs.Map.{IsFree}
use Rattle.layout_check.proofs.lemmas.finding.Roots.{directory-tells}
use Rattle.layout_check.specs.Survey.{IsSurveyOf}
use Rattle.damaged_files.proofs.lemmas.cut.Entries.{entries-listed, stock-in, stock-of}
use Rattle.damaged_files.proofs.cut.cuts.read_facts.Goals as goal

-- a sound disk has a directory
never : (c : goal.After-from_residual-in_err-read_directory) → ⊥
never c =
    let (l, is, of, reads) = c.in_ok-found.ensures.ok in
    let P : Image → Type 0 = λ i. IsLayout i l in
    let tells = directory-tells memory (Unit {0}) c.survey.new.disk c.read_directory.new.disk c.in_err-read_directory.field-0.0
    c.in_err-read_directory.ensures.reads c.in_err-read_directory.ensures.failures c.in_err-read_directory.ensures.err in
    told-unsound (disk_image c.survey.new.disk) c.in_err-read_directory.field-0.0 tells.holds
    (l, subst P (sym reads.image) is)

pub returns-in_err-read_directory-clause-err : goal.returns-in_err-read_directory-clause-err
returns-in_err-read_directory-clause-err c = absurd (never c)

pub returns-in_err-read_directory-clause-sound : goal.returns-in_err-read_directory-clause-sound
returns-in_err-read_directory-clause-sound c = absurd (never c)

pub returns-clause-ok : goal.returns-clause-ok
returns-clause-ok c l is =
    let img = disk_image c.args.disk.now in
    let (m, own, of, reads) = c.in_ok-found.ensures.ok in
    let listed = c.in_ok-read_directory.ensures.reads.image ∙ reads.image in
    let O : Layout → Type 0 = λ k. IsSurveyOf k c.in_ok-found.found in
    let mine = subst O (IsLayout-one img m l own is) of in
    let entries = entries-listed img (disk_image c.survey.new.disk) l c.read_directory.new.slots.items reads.image is
    c.in_ok-read_directory.ensures.ok in
    let bytes : c.sector.result.now ≡ sector img map_place = c.sector.ensures
    ∙ ap (λ (p : Place). sector (disk_image c.read_directory.new.disk) p) c.map_place.ensures
    ∙ ap (λ (i : Image). sector i map_place) listed in
    let B : Sector → Type 0 = λ bs. IsTrue c.has_stray.result
    ↔ ((p : Place) × ¬ (IsFree bs p) × ¬ (Contains (map_place ∷ owners l) p)) in
    let slots = c.as_slice.ensures.value ∙ entries in (
      entries,
      subst B bytes (c.has_stray.ensures l mine),
      (
        λ t. stock-of img l is c.as_slice.result.now slots (c.has_stock.ensures.0 t),
        λ h. c.has_stock.ensures.1 (stock-in img l is c.as_slice.result.now slots h),
      ),
    )
