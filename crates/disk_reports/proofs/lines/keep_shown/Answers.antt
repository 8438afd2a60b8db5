-- An entry more, which shows the fault or doesn't.
use Rattle.std.proofs.Common.{List, arith, subst, sym, ◌∙◌}
use Rattle.std.proofs.lemmas.Bool.{false≢true}
use Rattle.std.proofs.lemmas.List.{take_all}
use Rattle.disk_reports.proofs.Those.{those-kept, those-left}
use Rattle.disk_reports.specs.AllFaults.{AreShown}
use Rattle.disk_reports.specs.Trails.{Shows}
use Rattle.disk_reports.specs.declared.trail.Trail.{Trail}
use Rattle.disk_reports.proofs.lines.keep_shown.Goals as goal
use Rattle.disk_reports.proofs.lines.keep_shown.Goals.{then-shows, else-shows}

pub loop-trail-preserved : goal.loop-trail-preserved
loop-trail-preserved c =
    let old = c.loop-trail.invariant in
    let t = c.trail-item.result in
    elim c.if-shows.branch [
      | then-shows w ↦ record {
        few = rw w.files-is (omega (arith, w.push.ensures.len, old.few));
        those = rw w.files-is (those-kept (λ (x : Trail). Shows x c.args.fault) (λ (x : Trail). x.slot) c.args.trails.now
            c.loop-trail.files.items w.push.new.self.items c.loop-trail.trail-index t c.loop-trail-test.true
            c.trail-item.is (c.shows.ensures.0 w.if-shows.true) w.push.ensures.items old.those);
      }
      | else-shows w ↦ record {
        few = rw w.files-is (omega (arith, old.few));
        those = rw w.files-is (those-left (λ (x : Trail). Shows x c.args.fault) (λ (x : Trail). x.slot) c.args.trails.now
            c.loop-trail.files.items c.loop-trail.trail-index t c.loop-trail-test.true c.trail-item.is
            (λ h. false≢true (sym w.if-shows.false ∙ c.shows.ensures.1 h)) old.those);
      }
    ]

pub returns : goal.returns
returns c =
    subst (λ (ts : List Trail). AreShown ts c.args.fault c.loop-trail.files.items)
    (take_all c.loop-trail.trail-index c.args.trails.now c.loop-trail-test.false) c.loop-trail.invariant.those
