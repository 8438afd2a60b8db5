-- The directory was read, the blocks were found, and the files were made.
use Rattle.std.proofs.Common.{◌≡◌, ◌∙◌, List, ap, length, subst, ℕ}
use Rattle.d64_image.specs.Memory.{disk_image, sectors_in}
use Rattle.file_rescues.proofs.lemmas.rescue.Extracted.{extracted, not-extracted}
use Rattle.file_rescues.proofs.lemmas.rescue.Undeleted.{chosen-rescued}
use Rattle.file_rescues.proofs.rescue.extracting.extract_image.Goals as goal

pub add_chosen-requires : goal.add_chosen-requires
add_chosen-requires g c = record {
  once = c.read_so_far-found.ensures.read.once;
  on_track = c.read_so_far-found.ensures.read.on_track;
}

pub rescue_chosen-requires : goal.rescue_chosen-requires
rescue_chosen-requires g c = c.as_slice.ensures.fits

pub extract_files-requires-clause-rescued : goal.extract_files-requires-clause-rescued
extract_files-requires-clause-rescued g c = chosen-rescued c.args.choice c.args.image.now (disk_image c.in_ok-disk.disk)
    c.as_slice.result.now c.in_ok-files.files.items c.as_slice-3.result.now c.in_ok-files.ensures.ok
    c.as_slice-3.ensures.value

pub returns-clause-ok : goal.returns-clause-ok
returns-clause-ok g c = extracted g.F.NewFolder.files c.args.choice c.args.image.now c.args.folder.now
    c.extract_files.new.folder _ _ _ _ _ _ _ _ _ (subst (λ (b : List ℕ). length b ≡ 174848) c.disk_in.ensures c.in_ok-disk.ensures.ok.0)
    (c.in_ok-disk.ensures.ok.1 ∙ ap sectors_in c.disk_in.ensures)
    c.read_so_far-found.ensures.read
    c.add_chosen.ensures c.as_slice.ensures.value c.in_ok-files.ensures.ok c.as_slice-2.ensures.value
    c.as_slice-3.ensures.value c.extract_files.result c.extract_files.ensures.ok

pub returns-clause-err : goal.returns-clause-err
returns-clause-err g c = not-extracted g.F.NewFolder.files c.args.choice c.args.image.now c.args.folder.now
    c.extract_files.new.folder _ _ _ _ _ _ _ _ _ (subst (λ (b : List ℕ). length b ≡ 174848) c.disk_in.ensures c.in_ok-disk.ensures.ok.0)
    (c.in_ok-disk.ensures.ok.1 ∙ ap sectors_in c.disk_in.ensures)
    c.read_so_far-found.ensures.read
    c.add_chosen.ensures c.as_slice.ensures.value c.in_ok-files.ensures.ok c.as_slice-2.ensures.value
    c.as_slice-3.ensures.value c.extract_files.result c.extract_files.ensures.err
