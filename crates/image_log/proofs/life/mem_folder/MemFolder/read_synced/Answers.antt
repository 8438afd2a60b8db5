-- What is synced is as it is read.
use Rattle.std.proofs.Common.{◌∙◌, [], ap, arith, inl, sym}
use Rattle.std.proofs.lemmas.List.{get_or_default}
use Rattle.std.specs.Prelude.{slice_index_or}
use Rattle.image_log.proofs.lemmas.life.MemFolders.{held_is}
use Rattle.d64_image.specs.Images.{Image}
use Rattle.image_log.specs.life.Folders.{Folder}
use Rattle.image_log.specs.life.FolderCalls.{seen_after}
use Rattle.image_log.specs.life.MemFolders.{first_of, held_of}
use Rattle.image_log.proofs.life.mem_folder.MemFolder.read_synced.Goals as goal

pub returns-clause-sector : goal.returns-clause-sector
returns-clause-sector c s held =
    let new = c.sync_image.new.self in
    let fine = c.in_ok-sync_image.ensures.failures.passed ∙ c.if-self.false in
    let seen = held_is new.lost (seen_after (first_of new) new.calls.items) s held in
    ap (λ (image : Image). slice_index_or image c.args.index []) (sym (ap (λ (t : Folder). t.image) seen.1) ∙ sym (new.image_is fine))
    ∙ get_or_default new.image.items c.args.index [] c.index.result.now (omega (arith, new.sized, c.requires.within))
    ∙ sym c.index.ensures

pub returns-clause-left : goal.returns-clause-left
returns-clause-left c = inl (λ s may.
    let new = c.sync_image.new.self in
    let seen = seen_after (first_of new) new.calls.items in
    let synced = c.in_ok-sync_image.ensures.ok seen (sym c.sync_image.ensures.held ∙ ap (λ o. held_of o seen) (new.kept may.0)) s may in
    ap (λ (image : Image). slice_index_or image c.args.index []) (synced ∙ sym (new.image_is may.0))
    ∙ get_or_default new.image.items c.args.index [] c.index.result.now (omega (arith, new.sized, c.requires.within))
    ∙ sym c.index.ensures)
