-- A P to the file opened last; where its channel isn't the one, nothing is moved.
use Rattle.std.proofs.Common.{None, Some}
use Rattle.drive_channels.proofs.Moves.{move-none, move-on}
use Rattle.drive_channels.proofs.Steady.{found-last, known-moved, spot-last}
use Rattle.drive_channels.proofs.Written.{none-open, other-open, parts-of, still-known}
use Rattle.drive_channels.proofs.open_file.OpenFile.position.Goals as goal

pub returns-then-spot-wanted : goal.returns-then-spot-wanted
returns-then-spot-wanted c = record {
  row = λ img k text s is known long channel number position.
      move-on img c.args.self.now.found c.in-Some.spot c.args.wanted k text s _ long channel number position
      (parts-of k c.args.self.now _ is c.in-Some.is) c.if-spot-wanted.true
      (c.go_to.ensures.row img s k.checked (found-last img k c.args.self.now known is));
  known = λ img k is known. known-moved img k c.args.self.now (Some c.go_to.new.spot) is known
      (c.go_to.ensures.spot (spot-last img k c.args.self.now c.in-Some.spot known is c.in-Some.is));
}

pub returns-else-spot-wanted : goal.returns-else-spot-wanted
returns-else-spot-wanted c = record {
  row = λ img k text s is known long channel number position.
      let at = parts-of k c.args.self.now _ is c.in-Some.is in
      move-none img k _ text s at long (rw (← channel)
      (other-open c.args.self.now.found c.in-Some.spot k.last c.args.wanted.channel at c.if-spot-wanted.false));
  known = λ img k is known. still-known img k _ (parts-of k c.args.self.now _ is c.in-Some.is) known;
}

pub returns-in_default : goal.returns-in_default
returns-in_default c = record {
  row = λ img k text s is known long channel number position.
      move-none img k _ text s is long (none-open c.args.self.now.found k.last _
      (parts-of k c.args.self.now None is c.in_default.is));
  known = λ img k is known. still-known img k _ is known;
}
