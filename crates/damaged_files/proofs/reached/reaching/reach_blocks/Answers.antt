-- A turn visits one more sector; where the walk stops, the sectors visited are all that the links come to.
use Rattle.std.proofs.Common.{lit<, refl, sym, ◌∙◌}
use Rattle.std.proofs.lemmas.Bool.{false≢true}
use Rattle.d64_image.proofs.Places.{place_at-some}
use Rattle.disk_layout.proofs.lemmas.chains.Chains.{Leads-push}
use Rattle.disk_layout.proofs.lemmas.chains.Counting.{in_list, less_room, visited_all}
use Rattle.disk_layout.proofs.lemmas.chains.Walks.{IsSetOf-push, end-read, link-read, not_in, nowhere-read}
use Rattle.disk_layout.proofs.lemmas.lists.Once.{EachOnce-push}
use Rattle.damaged_files.proofs.lemmas.reached.Walked.{reach-stops}
use Rattle.damaged_files.proofs.reached.reaching.reach_blocks.Goals as goal

pub insert-requires : goal.insert-requires
insert-requires c = record { free = c.walk.invariant.fresh }

pub push-requires : goal.push-requires
push-requires c = (lit< tt, in_list _ _ c.walk.invariant.count)

pub walk-smaller : goal.walk-smaller
walk-smaller c = less_room _ _ c.insert.ensures.room

pub returns-then-sector-eq0 : goal.returns-then-sector-eq0
returns-then-sector-eq0 c =
    let old = c.walk.invariant in
    rw c.push.ensures.items (reach-stops _ _ _ _ _ _ old.leads old.once (not_in c.walk.visited _ _ old.marks old.fresh)
    (end-read _ _ c.walk.at c.sector-sector.result.now refl c.sector-sector.ensures c.if-sector-eq0.true))

pub returns-in_default : goal.returns-in_default
returns-in_default c =
    let old = c.walk.invariant in
    rw (c.push.ensures.items, c.broken.ensures.fault, c.broken.ensures.last)
    (reach-stops _ _ _ _ _ _ old.leads old.once (not_in c.walk.visited _ _ old.marks old.fresh) (
      refl,
      nowhere-read _ _ c.walk.at c.sector-sector.result.now refl c.sector-sector.ensures c.if-sector-eq0.false
          (λ h. false≢true (c.in_default.ensures.on_disk.1 h)),
      refl,
    ))

pub returns-then-contains : goal.returns-then-contains
returns-then-contains c =
    let old = c.walk.invariant in
    let marks = IsSetOf-push c.walk.visited c.insert.new.self _ _ old.marks c.insert.ensures.now in
    rw (c.push.ensures.items, c.broken-then-contains.ensures.fault, c.broken-then-contains.ensures.last)
    (reach-stops _ _ _ _ _ _ old.leads old.once (not_in c.walk.visited _ _ old.marks old.fresh) (
      link-read _ _ c.walk.at c.in-Some.next c.sector-sector.result.now refl c.sector-sector.ensures
          (place_at-some _ _ _ (sym c.new.ensures.value ∙ c.in-Some.is)),
      (marks c.in-Some.next).0 (sym c.contains.ensures ∙ c.if-contains.true),
      refl,
    ))

pub walk-preserved : goal.walk-preserved
walk-preserved c =
    let old = c.walk.invariant in
    record {
      leads = rw c.push.ensures.items (Leads-push _ _ c.walk.blocks.items c.walk.at c.in-Some.next old.leads
          (link-read _ _ c.walk.at c.in-Some.next c.sector-sector.result.now refl c.sector-sector.ensures
          (place_at-some _ _ _ (sym c.new.ensures.value ∙ c.in-Some.is))));
      once = rw c.push.ensures.items (EachOnce-push _ _ old.once (not_in c.walk.visited _ _ old.marks old.fresh));
      fresh = sym c.contains.ensures ∙ c.if-contains.false;
      marks = rw c.push.ensures.items (IsSetOf-push c.walk.visited c.insert.new.self _ _ old.marks
          c.insert.ensures.now);
      count = visited_all _ _ _ _ c.walk.invariant.count c.push.ensures.len c.insert.ensures.room;
    }
