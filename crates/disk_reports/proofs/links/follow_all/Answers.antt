-- What was read and followed is of the same image.
use Rattle.std.proofs.Common.{List, ap, arith, length, subst, sym, ◌∙◌}
use Rattle.std.specs.Prelude.{not}
use Rattle.std.proofs.lemmas.Result.{err_from_is_err_and}
use Rattle.d64_image.specs.Images.{Image, sector}
use Rattle.d64_image.specs.Memory.{disk_image}
use Rattle.disk_layout.specs.declared.slot.Slot.{Slot}
use Rattle.disk_reports.specs.AllFaults.{AreFollowed}
use Rattle.disk_reports.proofs.links.follow_all.Goals as goal

pub returns-in_err-trails : goal.returns-in_err-trails
returns-in_err-trails c =
    let p = err_from_is_err_and c.from_residual.result c.from_residual.ensures.1 in record {
      ok = rw p.1 tt;
      err = rw (p.1, p.2) c.in_err-trails.ensures.err;
    }

pub returns : goal.returns
returns c =
    let read = c.read_so_far-end.ensures in
    let trails = c.in_ok-trails.trails.items in
    record {
      ok = record {
        entries = c.read_so_far-end.new.entries.items;
        read = read.read;
        trails = subst (λ (ss : List Slot). AreFollowed (disk_image c.args.disk.now) ss trails) c.as_slice.ensures.value
            (subst (λ (i : Image). AreFollowed i c.as_slice.result.now trails) c.unsoundness.ensures.same
            c.in_ok-trails.ensures.ok);
        few = omega (arith, c.in_ok-trails.ensures.few, ap length c.as_slice.ensures.value, read.few);
        header = c.sector-header.ensures ∙ ap (sector (disk_image c.args.disk.now)) c.map_place.ensures;
        sound = (
          λ on. c.unsoundness.ensures.sound.0 (c.is_none-is_sound.ensures ∙ ap not on),
          λ sound. let off = sym c.is_none-is_sound.ensures ∙ c.unsoundness.ensures.sound.1 sound in grind arith,
        );
      };
      err = tt;
    }
