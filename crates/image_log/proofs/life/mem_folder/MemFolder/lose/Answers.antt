-- The file is the first that is lost, or not.
use Rattle.std.proofs.Common.{◌-◌, arith, refl}
use Rattle.image_log.specs.life.FolderCalls.{moments, seen_after}
use Rattle.image_log.specs.life.MemFolders.{first_of, lost_moments}
use Rattle.image_log.specs.Memory.{memory}
use Rattle.image_log.proofs.lemmas.life.MemFolders.{first_lost, none_held, not_returned, then_lost}
use Rattle.image_log.proofs.life.mem_folder.MemFolder.lose.Goals as goal

pub returns-in-None-clause-returned : goal.returns-in-None-clause-returned
returns-in-None-clause-returned c =
    let old = c.args.self.now in
    let rises = first_lost (moments old.calls.items) (memory.moment c.args.file - old.lent) old.lent old.failed old.lost c.in-None.is in
    not_returned old _ c.args.file c.refused.result c.refused.ensures refl refl refl (omega (arith, rises)) (λ s held. rises)

pub returns-in-Some-clause-returned : goal.returns-in-Some-clause-returned
returns-in-Some-clause-returned c =
    let old = c.args.self.now in
    not_returned old _ c.args.file c.refused-in-Some.result c.refused-in-Some.ensures refl refl refl
    (then_lost (moments old.calls.items) (lost_moments old.lost old.lent) old.failed)
    (λ s held. none_held old.lost c.in-Some.field-0 (seen_after (first_of old) old.calls.items) s c.in-Some.is held)
