-- The file opened last closes its channel, where there is one.
use Rattle.std.proofs.Common.{Option, Some, ap, refl, subst, sym, ◌∙◌}
use Rattle.drive_channels.proofs.Steady.{known-moved, spot-of}
use Rattle.drive_channels.specs.Inside.{IsKnown, channel_in, channel_of}
use Rattle.drive_channels.specs.Tables.{channel_without}
use Rattle.drive_channels.specs.declared.open_file.NamedFile.{NamedFile}
use Rattle.drive_channels.specs.declared.open_file.OpenFile.{OpenFile}
use Rattle.drive_channels.proofs.open_files.OpenFiles.close.Goals as goal
use Rattle.rel_records.specs.File.{entry_of}

pub returns-in-Some : goal.returns-in-Some
returns-in-Some c =
    let k = c.args.self.now in
    let shut = c.close.new.self in
    record {
      channel = ap (λ (e : NamedFile). channel_in (entry_of e.file) shut.spot) c.close.ensures.found
          ∙ c.close.ensures.channel
          ∙ ap (λ (o : Option OpenFile). channel_without c.args.channel (channel_of o)) (sym c.in-Some.is);
      checked = refl;
      known = λ img known.
          subst (λ (e : NamedFile). IsKnown img (record {
            last = Some (record { found = e; spot = shut.spot });
            before = k.before;
            checked = k.checked;
          })) (sym c.close.ensures.found)
          (known-moved img k c.in-Some.opened shut.spot c.in-Some.is known
          (c.close.ensures.spot (spot-of img k c.in-Some.opened known c.in-Some.is)));
    }
