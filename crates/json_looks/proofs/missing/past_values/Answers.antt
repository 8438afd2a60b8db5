-- One file more.
use Rattle.std.proofs.Common.{◌≡◌, ◌++◌, ap, map, subst}
use Rattle.disk_pictures.specs.Drawings.{file_in}
use Rattle.disk_pictures.specs.declared.drawn_file.DrawnFile.{DrawnFile}
use Rattle.json_looks.specs.Missing.{past_items}
use Rattle.serde_json.specs.View.{view}
use Rattle.json_looks.proofs.Gathered.{next-part}
use Rattle.json_looks.proofs.missing.past_values.Goals as goal

pub loop-file-init : goal.loop-file-init
loop-file-init c = ap (map view) c.new-values.ensures.items

pub loop-file-preserved : goal.loop-file-preserved
loop-file-preserved c =
    let old = c.loop-file.values.items in
    let new = c.add_file_past.new.values.items in
    next-part (past_items c.args.image.now) file_in c.args.files.now c.loop-file.file-index c.file-item.result old new
    c.loop-file-test.true
    (subst (λ (file : DrawnFile). map view new ≡ map view old ++ past_items c.args.image.now (file_in file)) c.file-item.is
    c.in_ok-add_file_past.ensures) c.loop-file.invariant
