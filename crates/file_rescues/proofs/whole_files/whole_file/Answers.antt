-- The file was found, and its bytes were read; then it ends so.
use Rattle.std.proofs.Common.{refl}
use Rattle.d64_image.specs.Memory.{disk_image}
use Rattle.file_rescues.proofs.Files.{file-there}
use Rattle.file_rescues.proofs.WholeFiles.{cut-short, faulty, whole}
use Rattle.file_rescues.specs.declared.finding.Candidates.TheVariants.{Closed}
use Rattle.file_rescues.specs.declared.finding.Kind.TheVariants.{Any}
use Rattle.file_rescues.proofs.whole_files.whole_file.Goals as goal

pub returns-in-Ok-None-clause-ok : goal.returns-in-Ok-None-clause-ok
returns-in-Ok-None-clause-ok c =
    let loaded = c.in_ok-disk.ensures.ok in
    let file = file-there c.args.image.now (Any Closed) c.args.name.now (disk_image c.in_ok-disk.disk) c.in-Ok.file.number
    c.in-Ok.file.slot c.find_file.new.blocks.items c.in-Ok.file.last c.in-Ok.file.fault loaded.0 loaded.1 c.in-Ok.ensures.ok.0 in
    whole c.args.image.now c.args.name.now (disk_image c.in_ok-disk.disk) loaded.1 c.in-Ok.file.fault file c.in-Ok.file.slot refl
    c.as_slice.result.now c.as_slice.ensures.value c.in_ok-bytes.bytes.items c.in_ok-bytes.ensures.ok c.in-Ok-None.field-0
    c.in-Ok-None.ensures c.in-Ok-None.field-0-is

pub returns-in-Ok-Some-clause-err : goal.returns-in-Ok-Some-clause-err
returns-in-Ok-Some-clause-err c =
    let loaded = c.in_ok-disk.ensures.ok in
    let file = file-there c.args.image.now (Any Closed) c.args.name.now (disk_image c.in_ok-disk.disk) c.in-Ok.file.number
    c.in-Ok.file.slot c.find_file.new.blocks.items c.in-Ok.file.last c.in-Ok.file.fault loaded.0 loaded.1 c.in-Ok.ensures.ok.0 in
    cut-short c.args.image.now c.args.name.now (disk_image c.in_ok-disk.disk) loaded.1 c.in-Ok.file.fault file
    c.in-Ok-Some.field-0 c.in-Ok-Some.place c.in-Ok-Some.ensures c.in-Ok-Some.field-0-is

pub returns-clause-err : goal.returns-clause-err
returns-clause-err c =
    let loaded = c.in_ok-disk.ensures.ok in
    let file = file-there c.args.image.now (Any Closed) c.args.name.now (disk_image c.in_ok-disk.disk) c.in-Ok.file.number
    c.in-Ok.file.slot c.find_file.new.blocks.items c.in-Ok.file.last c.in-Ok.file.fault loaded.0 loaded.1 c.in-Ok.ensures.ok.0 in
    faulty c.args.image.now c.args.name.now (disk_image c.in_ok-disk.disk) loaded.1 c.in-Ok.file.fault file
    c.in-Err-ended.fault c.in-Err-ended.ensures
