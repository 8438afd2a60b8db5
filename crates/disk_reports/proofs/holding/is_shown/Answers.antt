-- An entry shows the fault, or none does.
use Rattle.std.proofs.Common.{arith, refl, sym, ◌∙◌}
use Rattle.std.proofs.lemmas.Bool.{false≢true}
use Rattle.std.proofs.lemmas.Option.{slice_get_within}
use Rattle.disk_layout.proofs.lemmas.lists.Lists.{read-there}
use Rattle.disk_reports.proofs.Shown.{none-later}
use Rattle.disk_reports.proofs.holding.is_shown.Goals as goal

pub loop-trail-preserved : goal.loop-trail-preserved
loop-trail-preserved c =
    let t = c.trail-item.result in
    record {
      none = none-later c.args.trails.now c.loop-trail.trail-index t c.args.fault
          (read-there c.args.trails.now c.loop-trail.trail-index t c.loop-trail-test.true c.trail-item.is)
          (λ h. false≢true (sym c.if-shows.false ∙ c.shows.ensures.1 h)) c.loop-trail.invariant.none;
    }

pub returns-then-shows : goal.returns-then-shows
returns-then-shows c =
    let t = c.trail-item.result in (
      λ _. (
        c.loop-trail.trail-index,
        t,
        read-there c.args.trails.now c.loop-trail.trail-index t c.loop-trail-test.true c.trail-item.is,
        c.shows.ensures.0 c.if-shows.true,
      ),
      λ _. refl,
    )

pub returns : goal.returns
returns c = (
  λ t. absurd (false≢true t),
  λ (k, t, at, h). absurd (c.loop-trail.invariant.none k
      (omega (arith, c.loop-trail-test.false, slice_get_within c.args.trails.now k t at)) t at h),
)
