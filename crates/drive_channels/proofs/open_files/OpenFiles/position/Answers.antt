-- A P: too short or too long, to the file opened last, or to none.
use Rattle.std.proofs.Common.{inl, refl}
use Rattle.drive_channels.proofs.Moves.{move-none}
use Rattle.drive_channels.proofs.Written.{no-file}
use Rattle.drive_channels.proofs.open_files.OpenFiles.position.Goals as goal

pub returns-in_default : goal.returns-in_default
returns-in_default c = record {
  row = λ img s known. inl (c.in_default.ensures, refl);
  known = λ img known. known;
}

pub returns-in-Some-last : goal.returns-in-Some-last
returns-in-Some-last c = record {
  row = λ img s known. c.position.ensures.row img c.args.self.now c.args.text.now s c.in-Some-last.is known
      c.in-Some.ensures.0 c.in-Some.ensures.1 c.in-Some.ensures.2 c.in-Some.ensures.3;
  known = λ img known. c.position.ensures.known img c.args.self.now c.in-Some-last.is known;
}

pub returns : goal.returns
returns c = record {
  row = λ img s known. move-none img c.args.self.now _ c.args.text.now s refl c.in-Some.ensures.0
      (no-file c.args.self.now.last _ c.in_default-last.is);
  known = λ img known. known;
}
