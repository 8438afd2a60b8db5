-- Why it isn't known what isn't on the disk is why it isn't drawn.
use Rattle.std.proofs.lemmas.Result.{IfErr-weaker}
use Rattle.disk_pictures.proofs.Tiled.{missing-holds, missing-other}
use Rattle.disk_pictures.proofs.sheets.sheet_printing.lines_beside.Goals as goal

pub returns-clause-err : goal.returns-clause-err
returns-clause-err c =
    IfErr-weaker c.missing_lines.result _ _ (missing-holds c.args.image.now) c.missing_lines.ensures.err

pub returns-clause-not_file : goal.returns-clause-not_file
returns-clause-not_file c =
    IfErr-weaker c.missing_lines.result _ _ (missing-other c.args.image.now) c.missing_lines.ensures.err
