-- The directory's sectors and the entries are those of the image, which stays.
use Rattle.std.proofs.Common.{Err, List, ap, map, refl, subst, sym, ◌∙◌}
use Rattle.std.proofs.lemmas.Result.{err_from_is_err_and}
use Rattle.d64_image.specs.Images.{Image}
use Rattle.d64_image.specs.Memory.{disk_image}
use Rattle.d64_image.specs.declared.place.Place.{Place}
use Rattle.disk_pictures.specs.Walks.{IsWalk}
use Rattle.disk_layout.specs.declared.slot.Slot.{Slot}
use Rattle.disk_pictures.proofs.Drawn.{drawn-is}
use Rattle.disk_pictures.specs.Drawings.{AreDrawn, IsDrawn, file_in}
use Rattle.disk_pictures.proofs.reading.draw.Goals as goal

pub returns-in_err-directory : goal.returns-in_err-directory
returns-in_err-directory c =
    let p = err_from_is_err_and c.from_residual.result c.from_residual.ensures.1 in
    let told = p.1 ∙ ap Err (p.2 ∙ c.in_err-directory.ensures.err) in
    record {
      ok = rw told tt;
      map = rw told tt;
      same = c.read_directory.ensures.reads.image;
      err = rw told refl;
    }

pub returns-in_err-files : goal.returns-in_err-files
returns-in_err-files c =
    let p = err_from_is_err_and c.from_residual-in_err-files.result c.from_residual-in_err-files.ensures.1 in
    let told = p.1 ∙ ap Err (p.2 ∙ c.in_err-files.ensures.err) in
    record {
      ok = rw told tt;
      map = rw told tt;
      same = c.read_directory.ensures.reads.image;
      err = rw told refl;
    }

pub returns-clause-same : goal.returns-clause-same
returns-clause-same c = c.read_directory.ensures.reads.image

pub returns-clause-ok : goal.returns-clause-ok
returns-clause-ok c =
    let found = c.in_default.ensures.ok in
    let first = c.read_directory.ensures.reads.image in
    let img = disk_image c.args.disk.now in
    let walked = c.walk.new.places.items in
    let walk = subst (λ (p : Place). IsWalk img p walked c.walk.result) c.directory_start.ensures
    (subst (λ (i : Image). IsWalk i c.directory_start.result walked c.walk.result) first c.walk.ensures.ok) in
    let files = map file_in c.in_ok-files.files.items in
    let drawn = subst (λ (ss : List Slot). AreDrawn img ss files) c.as_slice-2.ensures.value
    (subst (λ (i : Image). AreDrawn i c.as_slice-2.result.now files) first c.in_ok-files.ensures.ok) in
    subst (IsDrawn img) (sym c.new.ensures.drawn)
    (drawn-is img found.0 walked c.in_ok-directory.directory.items c.read_directory.new.slots.items files
    c.walk.result found.1 walk (c.in_ok-directory.ensures.ok ∙ c.as_slice.ensures.value) drawn)
