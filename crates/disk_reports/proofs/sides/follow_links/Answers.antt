-- The side sectors lead from one to the next.
use Rattle.std.proofs.Common.{arith, inl, inr, refl, subst, sym, ℕ}
use Rattle.d64_image.specs.Images.{sector}
use Rattle.d64_image.specs.Memory.{disk_image}
use Rattle.d64_image.specs.declared.place.Place.{Place}
use Rattle.disk_layout.specs.Side.{NamesNext}
use Rattle.layout_check.proofs.lemmas.finding.SideWalks.{next-led}
use Rattle.disk_reports.proofs.Found.{linked}
use Rattle.disk_reports.proofs.sides.follow_links.Goals as goal

pub returns-then-number-count : goal.returns-then-number-count
returns-then-number-count c =
    let old = c.loop-number.invariant in
    linked (disk_image c.args.disk.now) c.args.first c.args.count c.loop-number.places.items c.push.new.self.items
    c.loop-number.at old.leads c.push.ensures.items (omega (arith, c.push.ensures.len, old.count, old.below))
    (inl (omega (arith, c.push.ensures.len, old.count, c.if-number-count.true)))

pub returns-in_default : goal.returns-in_default
returns-in_default c =
    let old = c.loop-number.invariant in
    linked (disk_image c.args.disk.now) c.args.first c.args.count c.loop-number.places.items c.push.new.self.items
    c.loop-number.at old.leads c.push.ensures.items (omega (arith, c.push.ensures.len, old.count, old.below))
    (inr (subst (λ (k : ℕ). (q : Place) → ¬ (NamesNext (sector (disk_image c.args.disk.now) c.loop-number.at) k q))
    (sym old.count) c.in_default.ensures))

pub loop-number-preserved : goal.loop-number-preserved
loop-number-preserved c =
    let old = c.loop-number.invariant in
    record {
      below = omega (arith, old.below, c.if-number-count.false);
      leads = rw c.push.ensures.items (next-led (disk_image c.args.disk.now) c.args.first c.loop-number.places.items
          c.loop-number.at c.in-Some.next c.loop-number.number (sector (disk_image c.args.disk.now) c.loop-number.at)
          old.count refl old.leads c.in-Some.ensures);
      count = omega (arith, c.push.ensures.len, old.count);
    }
