-- The change while the art is aside.
use Rattle.std.proofs.Common.{◌∙◌, Err, ap, inl, inr, refl}
use Rattle.std.proofs.lemmas.Result.{err_from_is_err_and}
use Rattle.disk_changes.proofs.BesideArt.{aside-is, art-low}
use Rattle.d64_image.specs.Memory.{disk_image}
use Rattle.disk_changes.specs.Art.{with_tracks}
use Rattle.disk_changes.proofs.changing.change_beside_art.Goals as goal

pub returns-in_err-disk-clause-err : goal.returns-in_err-disk-clause-err
returns-in_err-disk-clause-err c =
    let p = err_from_is_err_and c.from_residual.result c.from_residual.ensures.1 in
    rw (p.1 ∙ ap Err p.2) (inr (inl c.in_err-disk.ensures.err))

pub put_tracks-requires : goal.put_tracks-requires
put_tracks-requires c =
    let found = rw c.in-Some.is at c.in_ok-disk.ensures.found in
    art-low c.args.image.now c.in-Some.entries.items c.as_slice.result.now found.0 c.as_slice.ensures.value

pub put_tracks-requires-2 : goal.put_tracks-requires-2
put_tracks-requires-2 c =
    let found = rw c.in-Some.is at c.in_ok-disk.ensures.found in
    art-low c.args.image.now c.in-Some.entries.items c.as_slice-2.result.now found.0 c.as_slice-2.ensures.value

pub returns-in_err-made-clause-err : goal.returns-in_err-made-clause-err
returns-in_err-made-clause-err c =
    let p = err_from_is_err_and c.from_residual-in_err-made.result c.from_residual-in_err-made.ensures.1 in
    let found = rw c.in-Some.is at c.in_ok-disk.ensures.found in
    rw (p.1 ∙ ap Err p.2) (inr (inr (
      c.requires.leaves,
      c.bytes.result.now,
      aside-is c.args.image.now c.in-Some.entries.items c.as_slice.result.now c.bytes.result.now c.in-Some.disk c.put_tracks.new.disk
          found.0 found.1 c.as_slice.ensures.value c.put_tracks.ensures c.bytes.ensures.image,
      c.in_err-made.ensures.err,
    )))

pub returns-clause-ok : goal.returns-clause-ok
returns-clause-ok c =
    let found = rw c.in-Some.is at c.in_ok-disk.ensures.found in
    record {
      bytes = c.bytes.result.now;
      aside = aside-is c.args.image.now c.in-Some.entries.items c.as_slice.result.now c.bytes.result.now c.in-Some.disk c.put_tracks.new.disk
          found.0 found.1 c.as_slice.ensures.value c.put_tracks.ensures c.bytes.ensures.image;
      first = c.in_ok-made.made;
      does = c.in_ok-made.ensures.ok;
      back = c.put_tracks-2.ensures ∙ ap (with_tracks 18 (disk_image c.in_ok-made.made.disk)) c.as_slice-2.ensures.value;
      text = refl;
      left = refl;
    }
