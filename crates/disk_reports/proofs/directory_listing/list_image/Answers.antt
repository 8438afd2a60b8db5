-- What the disk in memory holds is the image, and a fault of the directory is a fact of it.
use Rattle.std.proofs.Common.{◌≡◌, ◌∙◌, Err, ℕ, List, ap, refl, subst, sym}
use Rattle.std.specs.Prelude.{length}
use Rattle.std.proofs.lemmas.Result.{IfErr-weaker, err_from_is_err_and, on_ok_weaker}
use Rattle.d64_image.specs.Images.{Image, sector}
use Rattle.d64_image.specs.Memory.{disk_image, sectors_in}
use Rattle.d64_image.specs.declared.place.Place.{Place}
use Rattle.disk_layout.specs.Directory.{IsDirectory, map_place}
use Rattle.disk_layout.specs.Fault.{HoldsOfDirectory, nowhere}
use Rattle.disk_layout.specs.declared.slot.Slot.{Slot}
use Rattle.disk_reports.proofs.Listings.{is-listed, load-listed}
use Rattle.disk_reports.specs.Listings.{HasDirectory, IsListFault}
use Rattle.disk_reports.proofs.directory_listing.list_image.Goals as goal

abbrev has_directory : (image : List ℕ) (img : Image) (places : List Place) (slots : List Slot)
    → length image ≡ 174848 → img ≡ sectors_in image → IsDirectory img places slots → HasDirectory image
has_directory image img places slots size same directory = record {
  size = size;
  sectors = places;
  entries = slots;
  directory = subst (λ i. IsDirectory i places slots) same directory;
}

pub returns-in_err-disk : goal.returns-in_err-disk
returns-in_err-disk g c =
    let p = err_from_is_err_and c.from_residual.result c.from_residual.ensures.1 in record {
      ok = rw p.1 tt;
      err = load-listed c.args.image.now c.in_err-disk.field-0.0 c.from_residual.result (p.1
          ∙ ap Err p.2) c.in_err-disk.ensures.err;
      untouched = rw p.1 (λ _. refl);
    }

pub returns-in-Err : goal.returns-in-Err
returns-in-Err g c =
    let loaded = c.in_ok-disk.ensures.ok in record {
      ok = tt;
      err = (loaded.0, subst (λ (i : Image). HoldsOfDirectory nowhere i c.in-Err.fault) loaded.1 c.in-Err.ensures.err);
      untouched = λ _. refl;
    }

pub returns : goal.returns
returns g c =
    let loaded = c.in_ok-disk.ensures.ok in
    let found = c.in_default.ensures.ok in
    let directory = has_directory c.args.image.now _ found.0 _ loaded.0 loaded.1 found.1 in
    let here = c.new-map.ensures ∙ c.sector.ensures ∙ ap (sector (disk_image c.read_directory.new.disk)) c.map_place.ensures
    ∙ ap (λ (i : Image). sector i map_place) (c.read_directory.ensures.reads.image ∙ loaded.1) in record {
      ok = on_ok_weaker c.print_directory.result
          (is-listed _ c.args.form c.args.image.now c.args.out.now c.print_directory.new.out directory _ _ here
          c.as_slice.ensures.value) c.print_directory.ensures.ok;
      err = IfErr-weaker c.print_directory.result _ _ (λ fault is. subst (IsListFault c.args.image.now) (sym is)
          directory) c.print_directory.ensures.err;
      untouched = IfErr-weaker c.print_directory.result _ _ (λ fault is other. absurd (other is))
          c.print_directory.ensures.err;
    }
