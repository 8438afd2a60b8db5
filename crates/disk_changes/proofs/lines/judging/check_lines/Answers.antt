-- Each line is of a record that the file has or can have, or is the first that isn't.
use Rattle.std.proofs.Common.{◌≡◌, ◌+◌, ℕ, arith, refl, subst}
use Rattle.std.specs.Prelude.{max}
use Rattle.disk_changes.proofs.lemmas.lines.Judged.{JudgedTo, judged-all, judged-bad, judged-more, judged-none}
use Rattle.rel_records.specs.File.{length_of, records_in}
use Rattle.line_text.specs.scripts.Lines.{lines}
use Rattle.disk_changes.proofs.lines.judging.check_lines.Goals as goal

pub loop-line-init : goal.loop-line-init
loop-line-init c = record {
  room = omega arith;
  judged = judged-none (length_of c.args.file.now) (records_in c.args.file.now) (lines c.args.text.now)
      c.args.last.now.places.items c.requires;
}

pub loop-line-preserved-then-number-most : goal.loop-line-preserved-then-number-most
loop-line-preserved-then-number-most c =
    let v = c.args.file.now in
    let to = judged-more (length_of v) (records_in v) (lines c.args.text.now) (lines c.loop-line.rest.now)
    c.loop-line.count c.loop-line.most c.loop-line.last.places.items
    c.loop-line.invariant.judged c.in-Some.line.now (lines c.in-Some.more.now) c.in-Some-number_of.number
    c.count.new.self.places.items c.in-Some.ensures.0 c.count.ensures.here c.count.ensures.others
    c.in-Some-number_of.ensures.found in
    let greater : max c.loop-line.most c.in-Some-number_of.number ≡ c.in-Some-number_of.number =
    omega (arith, c.if-number-most.true) in
    record {
      room = omega (arith, c.loop-line.invariant.room, c.in-Some.ensures.1);
      judged = subst (λ (m : ℕ). JudgedTo (length_of v) (records_in v) (lines c.args.text.now)
          (lines c.in-Some.more.now)
          (c.loop-line.count + 1) m c.count.new.self.places.items) greater to;
    }

pub loop-line-preserved : goal.loop-line-preserved
loop-line-preserved c =
    let v = c.args.file.now in
    let to = judged-more (length_of v) (records_in v) (lines c.args.text.now) (lines c.loop-line.rest.now)
    c.loop-line.count c.loop-line.most c.loop-line.last.places.items
    c.loop-line.invariant.judged c.in-Some.line.now (lines c.in-Some.more.now) c.in-Some-number_of.number
    c.count.new.self.places.items c.in-Some.ensures.0 c.count.ensures.here c.count.ensures.others
    c.in-Some-number_of.ensures.found in
    let same : max c.loop-line.most c.in-Some-number_of.number ≡ c.loop-line.most =
    omega (arith, c.if-number-most.false) in
    record {
      room = omega (arith, c.loop-line.invariant.room, c.in-Some.ensures.1);
      judged = subst (λ (m : ℕ). JudgedTo (length_of v) (records_in v) (lines c.args.text.now)
          (lines c.in-Some.more.now)
          (c.loop-line.count + 1) m c.count.new.self.places.items) same to;
    }

pub returns-in_default-number_of-clause-err : goal.returns-in_default-number_of-clause-err
returns-in_default-number_of-clause-err c =
    let v = c.args.file.now in (
      c.loop-line.count + 1,
      refl,
      judged-bad (length_of v) (records_in v) (lines c.args.text.now) (lines c.loop-line.rest.now) c.loop-line.count
          c.loop-line.most c.loop-line.last.places.items
          c.loop-line.invariant.judged c.in-Some.line.now (lines c.in-Some.more.now) c.in-Some.ensures.0
          (c.in_default-number_of.ensures.none refl),
    )

pub returns-clause-ok : goal.returns-clause-ok
returns-clause-ok c =
    let v = c.args.file.now in
    judged-all (length_of v) (records_in v) (lines c.args.text.now) (lines c.loop-line.rest.now) c.loop-line.count
    c.loop-line.most c.loop-line.last.places.items
    c.loop-line.invariant.judged c.in_default.ensures
