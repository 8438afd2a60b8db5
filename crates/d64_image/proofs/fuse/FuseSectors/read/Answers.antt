-- A blown fuse reads nothing; else the disk beneath answers.
use Rattle.std.proofs.Common.{arith, refl}
use Rattle.d64_image.proofs.Counting.{left-none, left-some}
use Rattle.d64_image.proofs.FuseCalls.{read_blown, read_failed, read_passed}
use Rattle.d64_image.proofs.fuse.FuseSectors.read.Goals as goal

pub returns-then-self : goal.returns-then-self
returns-then-self g c = record {
  device = read_blown g.D.Sectors.history c.args.self.now _ refl refl refl
      (left-none c.args.self.now.limit c.args.self.now.passed c.if-self.true) c.add_one.ensures c.args.place
      c.args.to.now;
  spent = λ none. (refl, refl);
  passes = λ some. absurd (omega (arith, some, c.if-self.true));
  kept = (refl, refl);
}

pub returns-in-Ok : goal.returns-in-Ok
returns-in-Ok g c =
    let f = c.args.self.now in
    let whole = left-some f.limit f.passed f.within c.if-self.false in
    record {
      device = read_passed g.D.Sectors.history f _ refl whole c.args.place c.read.new.to refl refl c.in-Ok.ensures;
      spent = λ none. absurd (whole none);
      passes = λ some. c.in-Ok.ensures;
      kept = (refl, refl);
    }

pub returns-in-Err : goal.returns-in-Err
returns-in-Err g c =
    let f = c.args.self.now in
    let whole = left-some f.limit f.passed f.within c.if-self.false in
    record {
      device = read_failed g.D.Sectors.history f _ refl whole c.args.place c.read.new.to refl c.add_one-in-Err.ensures
          c.in-Err.fault c.in-Err.ensures;
      spent = λ none. absurd (whole none);
      passes = λ some. c.in-Err.ensures;
      kept = (refl, refl);
    }
