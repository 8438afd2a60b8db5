-- The file is the log, and at rest.
use Rattle.std.proofs.Common.{◌∙◌, ap, sym}
use Rattle.std.specs.Prelude.{option_map}
use Rattle.image_log.proofs.lemmas.life.MemFolders.{log_opened}
use Rattle.image_log.proofs.life.mem_folder.MemFolderLogFolderMemLog.open_log.Goals as goal

pub returns-clause-file : goal.returns-clause-file
returns-clause-file c = log_opened c.args.self.now c.in-Some.log.items c.in_ok-file.file c.as_slice.result.now c.if-self.false
    (sym (c.args.self.now.log_is c.if-self.false) ∙ ap (option_map (λ b. b.items)) c.in-Some.is) c.as_slice.ensures.value
    c.in_ok-file.ensures.rests (c.args.self.now.fine c.if-self.false)
