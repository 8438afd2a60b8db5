-- Two sectors are written, and the map is made.
use Rattle.std.proofs.Common.{refl}
use Rattle.disk_layout.specs.Directory.{directory_start}
use Rattle.file_changes.proofs.Formatted.{formats-done, formats-failed, formats-half, formats-none}
use Rattle.file_changes.specs.Formats.{empty_directory}
use Rattle.file_changes.proofs.formatting.format_disk.Goals as goal

pub returns-in-Ok : goal.returns-in-Ok
returns-in-Ok g c = formats-done g.D.Sectors.history c.args.disk.now c.write.new.self c.write-2.new.self
    c.args.name.now c.args.id c.blank_header.result c.directory_bytes.result c.blank_header.ensures
    c.directory_bytes.ensures c.map_place.result c.directory_start.result c.map_place.ensures
    c.directory_start.ensures c.in_ok-write.ensures c.in_ok-write-2.ensures c.repair.new.disk c.in-Ok.field-0
    c.in-Ok.ensures

pub returns-in-Err : goal.returns-in-Err
returns-in-Err g c = formats-failed g.D.Sectors.history c.args.disk.now c.write.new.self c.write-2.new.self
    c.args.name.now c.args.id c.blank_header.result c.directory_bytes.result c.blank_header.ensures
    c.directory_bytes.ensures c.map_place.result c.directory_start.result c.map_place.ensures
    c.directory_start.ensures c.in_ok-write.ensures c.in_ok-write-2.ensures c.repair.new.disk c.in-Err.field-0
    c.in-Err.ensures _

pub returns-in_err-write : goal.returns-in_err-write
returns-in_err-write g c = formats-none g.D.Sectors.history c.args.disk.now c.write.new.self c.write.new.self
    c.args.name.now c.args.id c.blank_header.result empty_directory c.blank_header.ensures refl c.map_place.result
    directory_start c.map_place.ensures refl c.from_residual.result _ c.in_err-write.ensures c.from_residual.ensures.1

pub returns-in_err-write-2 : goal.returns-in_err-write-2
returns-in_err-write-2 g c = formats-half g.D.Sectors.history c.args.disk.now c.write.new.self c.write-2.new.self
    c.args.name.now c.args.id c.blank_header.result c.directory_bytes.result c.blank_header.ensures
    c.directory_bytes.ensures c.map_place.result c.directory_start.result c.map_place.ensures
    c.directory_start.ensures c.in_ok-write.ensures c.from_residual-in_err-write-2.result _
    c.in_err-write-2.ensures c.from_residual-in_err-write-2.ensures.1
