-- What was printed of both is the report.
use Rattle.std.proofs.Common.{List, map, subst}
use Rattle.std.specs.Prelude.{flat_map}
use Rattle.std.specs.Io.KnownBytes.{Appends}
use Rattle.disk_pictures.proofs.lemmas.views.Trimmed.{trim-told}
use Rattle.disk_pictures.specs.Drawings.{file_in}
use Rattle.disk_pictures.specs.Held.{drawn_in}
use Rattle.disk_pictures.specs.Trims.{file_text}
use Rattle.disk_pictures.specs.declared.drawn_file.DrawnFile.{DrawnFile}
use Rattle.disk_pictures.proofs.views.trimming.report.Goals as goal

pub returns-clause-ok : goal.returns-clause-ok
returns-clause-ok g c =
    let image = c.args.image.now in
    let files = subst (λ (fs : List DrawnFile). Appends (g.E.Write.contents c.print_errors.new.err)
    (g.E.Write.contents c.print_files.new.err) (flat_map (file_text image) (map file_in fs)))
    c.as_slice.ensures.value c.in_ok-print_files.ensures.ok in (
      trim-told _ _ _ _ image (drawn_in c.args.drawing.now) c.in_ok-print_errors.ensures.ok files c.flush.ensures.kept,
      c.is_all_there.ensures,
    )
