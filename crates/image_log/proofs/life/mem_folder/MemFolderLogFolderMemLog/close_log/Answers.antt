-- The file is kept.
use Rattle.std.proofs.Common.{◌∙◌, refl, sym}
use Rattle.image_log.proofs.lemmas.life.MemFolders.{returned}
use Rattle.image_log.proofs.life.mem_folder.MemFolderLogFolderMemLog.close_log.Goals as goal

pub returns-in-Ok-note_return-clause-returned : goal.returns-in-Ok-note_return-clause-returned
returns-in-Ok-note_return-clause-returned c = returned c.args.self.now _ c.args.file _ refl c.in-Ok-note_return.ensures.ok refl c.if-self.false
    c.if-self.false (sym c.is_failed.ensures ∙ c.if-is_failed.false) tt refl
