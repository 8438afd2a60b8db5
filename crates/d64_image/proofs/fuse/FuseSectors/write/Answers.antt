-- A blown fuse writes nothing; else the disk beneath answers, and a write that passed uses the fuse up by one.
use Rattle.std.proofs.Common.{arith, refl}
use Rattle.d64_image.proofs.Counting.{left-one_less}
use Rattle.d64_image.proofs.FuseCalls.{write_blown, write_failed, write_passed}
use Rattle.d64_image.proofs.fuse.FuseSectors.write.Goals as goal

pub returns-then-left-eq0 : goal.returns-then-left-eq0
returns-then-left-eq0 g c = record {
  device = write_blown g.D.Sectors.history c.args.self.now _ refl refl refl c.if-left-eq0.true c.add_one.ensures
      c.args.place c.args.from.now;
  spent = λ none. (refl, refl);
  passes = λ some. absurd (omega (arith, some, c.if-left-eq0.true));
  burns = tt;
  kept = refl;
  limit = refl;
}

pub returns-in-Ok : goal.returns-in-Ok
returns-in-Ok g c = record {
  device = write_passed g.D.Sectors.history c.args.self.now _ refl c.if-left-eq0.false c.args.place c.args.from.now refl
      refl c.in-Ok.ensures;
  spent = λ none. absurd (c.if-left-eq0.false none);
  passes = λ some. c.in-Ok.ensures;
  burns = left-one_less c.args.self.now.limit c.args.self.now.passed c.if-left-eq0.false;
  kept = tt;
  limit = refl;
}

pub returns-in-Err : goal.returns-in-Err
returns-in-Err g c = record {
  device = write_failed g.D.Sectors.history c.args.self.now _ refl c.if-left-eq0.false c.args.place c.args.from.now refl
      c.add_one-in-Err.ensures c.in-Err.fault c.in-Err.ensures;
  spent = λ none. absurd (c.if-left-eq0.false none);
  passes = λ some. c.in-Err.ensures;
  burns = tt;
  kept = refl;
  limit = refl;
}
