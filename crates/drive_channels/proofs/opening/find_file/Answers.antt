-- A file is found, or there is none, or the device failed.
use Rattle.drive_channels.proofs.Finds.{found-new}
use Rattle.drive_channels.proofs.Refusals.{device-failed}
use Rattle.rel_records.specs.declared.rel_file.RelFile.{RelFile}
use Rattle.drive_channels.proofs.opening.find_file.Goals as goal

pub returns-in-Ok : goal.returns-in-Ok
returns-in-Ok g c =
    let clean = c.requires.clean in
    let found = c.in-Ok.ensures.ok clean.0 clean.1.layout in
    record {
      found = (
        found-new _ c.new.result c.in-Ok.file c.args.name.now clean.0 found.0 c.new.ensures.file
            c.new.ensures.name c.requires.name found.1 found.2,
        c.new.ensures.name,
      );
      reads = c.find.ensures.reads;
      failures = c.in-Ok.ensures.failures;
    }

pub find-requires : goal.find-requires
find-requires g c = record { sound = (c.requires.clean.0, c.requires.clean.1.layout) }

pub new-requires : goal.new-requires
new-requires g c = record { fits = c.requires.name.high }

pub returns-in-Device : goal.returns-in-Device
returns-in-Device g c = record {
  found = tt;
  reads = c.find.ensures.reads;
  failures = device-failed RelFile g.D.Sectors.history _ _ c.in-Err.fault c.in-Device.is c.in-Err.ensures.failures;
}
