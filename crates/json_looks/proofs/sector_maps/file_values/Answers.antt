-- One entry more.
use Rattle.std.proofs.Common.{ap, ◌∙◌}
use Rattle.disk_pictures.specs.declared.drawn_file.DrawnFile.{DrawnFile}
use Rattle.json_looks.specs.Entries.{entry_data}
use Rattle.json_looks.proofs.Gathered.{one-more}
use Rattle.json_looks.proofs.sector_maps.file_values.Goals as goal

pub loop-file-preserved : goal.loop-file-preserved
loop-file-preserved c =
    one-more (λ (file : DrawnFile). entry_data file.slot) c.args.files.now c.loop-file.file-index c.file-item.result
    c.loop-file.values.items c.push.new.self.items c.in_ok-entry_value.field-0 c.loop-file-test.true
    (c.in_ok-entry_value.ensures ∙ ap (λ (file : DrawnFile). entry_data file.slot) c.file-item.is) c.in_ok-push.ensures.items
    c.loop-file.invariant
