-- The read that fails, or one that the disk beneath answers.
use Rattle.std.proofs.Common.{refl}
use Rattle.d64_image.proofs.OneCalls.{one_more, passes_read, read_beneath, refuses_read}
use Rattle.d64_image.proofs.one_fault.OneFaultSectors.read.Goals as goal

pub returns-then-is_hit : goal.returns-then-is_hit
returns-then-is_hit g c =
    let hit = c.is_hit.ensures.hit c.if-is_hit.true in
    let disk = c.is_hit.ensures.disk in
    record {
      device = refuses_read g.D.Sectors.history _ _ c.args.place _ _ _ refl hit.0 hit.1 disk c.is_hit.ensures.counts.0
          (one_more c.args.self.now.failed c.is_hit.new.self.failed c.add_one.new.self c.is_hit.ensures.counts.1
          c.add_one.ensures);
      due = λ _. (refl, disk, hit.1);
      passes = λ other. absurd (other hit.0);
      counted = λ _ other. absurd (other hit.0);
      done = c.is_hit.ensures.done;
    }

pub returns-in-Ok : goal.returns-in-Ok
returns-in-Ok g c =
    let missed = c.is_hit.ensures.missed c.if-is_hit.false in
    let beneath = read_beneath g.D.Sectors.history _ _ _ c.is_hit.ensures.disk _ _ _ _ c.in-Ok.ensures in
    record {
      device = passes_read g.D.Sectors.history _ _ _ _ _ _ beneath missed.1 c.is_hit.ensures.counts.0
          c.is_hit.ensures.counts.1 tt;
      due = λ due. absurd (missed.0 due);
      passes = λ _. (beneath, missed.1);
      counted = λ none _. c.is_hit.ensures.counted c.if-is_hit.false none;
      done = c.is_hit.ensures.done;
    }

pub returns-in-Err : goal.returns-in-Err
returns-in-Err g c =
    let missed = c.is_hit.ensures.missed c.if-is_hit.false in
    let beneath = read_beneath g.D.Sectors.history _ _ _ c.is_hit.ensures.disk _ _ _ _ c.in-Err.ensures in
    record {
      device = passes_read g.D.Sectors.history _ _ _ _ _ _ beneath missed.1 c.is_hit.ensures.counts.0 tt
          (one_more c.args.self.now.failed c.is_hit.new.self.failed c.add_one-in-Err.new.self c.is_hit.ensures.counts.1
          c.add_one-in-Err.ensures);
      due = λ due. absurd (missed.0 due);
      passes = λ _. (beneath, missed.1);
      counted = λ none _. c.is_hit.ensures.counted c.if-is_hit.false none;
      done = c.is_hit.ensures.done;
    }
