-- A turn visits one more sector; where the walk stops, the sectors visited are all that the links come to.
use Rattle.std.proofs.Common.{◌++◌, ◌∷◌, [], ℕ, sym, subst, ◌∙◌, length, lit<}
use Rattle.std.proofs.lemmas.Bool.{false≢true}
use Rattle.std.proofs.lemmas.Result.{err_from_is_err_and}
use Rattle.std.specs.Prelude.{Err}
use Rattle.d64_image.proofs.Places.{place_at-some}
use Rattle.d64_image.proofs.Moments.{failed_later, reads_then}
use Rattle.disk_layout.proofs.lemmas.chains.Chains.{Leads-push}
use Rattle.disk_layout.proofs.lemmas.chains.Counting.{in_list, less_room, one_visited, still_few, visited_all}
use Rattle.disk_layout.proofs.lemmas.lists.Once.{EachOnce-push}
use Rattle.disk_layout.proofs.lemmas.chains.Walks.{not_in, IsSetOf-push, end-read, link-read, nowhere-read, walk-end}
use Rattle.disk_layout.specs.Fault.{HoldsOfChain, TellsFault}
use Rattle.disk_layout.specs.declared.faults.Fault.{Fault}
use Rattle.disk_layout.proofs.chain.walk_chain.Goals as goal

-- the next one
pub insert-requires : goal.insert-requires
insert-requires g c = record { free = c.walk.invariant.fresh }

pub push-requires : goal.push-requires
push-requires g c =
    (lit< tt, in_list _ _ c.walk.invariant.count)

pub walk-smaller : goal.walk-smaller
walk-smaller g c = less_room _ _ c.insert.ensures.room

pub returns-in_err-read_sector : goal.returns-in_err-read_sector
returns-in_err-read_sector g c =
    let S = g.D.Sectors.history in
    let p = err_from_is_err_and c.from_residual.result c.from_residual.ensures.1 in
    record {
      chain = rw p.1 tt;
      fault = let P : Fault → Type 0 =
          HoldsOfChain (S.failed_at c.read_sector.new.disk) (S.image c.args.disk.now) c.args.first in
          rw (p.1, p.2) (subst P (sym c.in_err-read_sector.ensures.told) c.in_err-read_sector.ensures.failed);
      failures = let P : Fault → Type 0 = λ f. TellsFault {T = ℕ} S c.args.disk.now c.read_sector.new.disk (Err f) in
          rw (p.1, p.2) (subst P (sym c.in_err-read_sector.ensures.told) (failed_later S c.args.disk.now c.walk.disk
          c.read_sector.new.disk c.walk.invariant.failures c.in_err-read_sector.ensures.failures));
      reads = reads_then S _ _ _ (length c.walk.places.items) 1 (length c.push.new.self.items)
          (one_visited _ _ c.push.ensures.len) c.walk.invariant.reads c.read_sector.ensures.reads;
      few = still_few _ _ _ _ c.walk.invariant.count c.push.ensures.len c.insert.ensures.room;
    }

pub returns-then-sector-eq0 : goal.returns-then-sector-eq0
returns-then-sector-eq0 g c = record {
  chain = let old = c.walk.invariant in
      rw c.push.ensures.items (walk-end _ _ _ _ _ old.leads old.once (not_in c.walk.visited _ _ old.marks old.fresh)
      (end-read _ _ c.walk.at c.read_sector.new.to old.reads.image c.in_ok-read_sector.ensures.sector
      c.if-sector-eq0.true));
  fault = tt;
  failures = c.in_ok-read_sector.ensures.failures ∙ c.walk.invariant.failures;
  reads = reads_then g.D.Sectors.history _ _ _ (length c.walk.places.items) 1 (length c.push.new.self.items)
      (one_visited _ _ c.push.ensures.len) c.walk.invariant.reads c.read_sector.ensures.reads;
  few = still_few _ _ _ _ c.walk.invariant.count c.push.ensures.len c.insert.ensures.room;
}

pub returns-in_default : goal.returns-in_default
returns-in_default g c = record {
  chain = tt;
  fault = let old = c.walk.invariant in (
    c.walk.places.items,
    (old.leads, EachOnce-push _ _ old.once (not_in c.walk.visited _ _ old.marks old.fresh)),
    nowhere-read _ _ c.walk.at c.read_sector.new.to old.reads.image c.in_ok-read_sector.ensures.sector
        c.if-sector-eq0.false (λ h. false≢true (c.in_default.ensures.on_disk.1 h)),
  );
  failures = c.in_ok-read_sector.ensures.failures ∙ c.walk.invariant.failures;
  reads = reads_then g.D.Sectors.history _ _ _ (length c.walk.places.items) 1 (length c.push.new.self.items)
      (one_visited _ _ c.push.ensures.len) c.walk.invariant.reads c.read_sector.ensures.reads;
  few = still_few _ _ _ _ c.walk.invariant.count c.push.ensures.len c.insert.ensures.room;
}

pub returns-then-contains : goal.returns-then-contains
returns-then-contains g c = record {
  chain = tt;
  fault = let old = c.walk.invariant in
      let new = not_in c.walk.visited _ _ old.marks old.fresh in
      let link = link-read _ _ c.walk.at c.in-Some.next c.read_sector.new.to old.reads.image
      c.in_ok-read_sector.ensures.sector
      (place_at-some _ _ _ (sym c.new.ensures.value ∙ c.in-Some.is)) in
      let marks = IsSetOf-push c.walk.visited c.insert.new.self _ _ old.marks c.insert.ensures.now in (
        c.walk.places.items ++ c.walk.at ∷ [],
        (
          Leads-push _ _ c.walk.places.items c.walk.at c.in-Some.next old.leads link,
          EachOnce-push _ _ old.once new,
          (marks c.in-Some.next).0 (sym c.contains.ensures ∙ c.if-contains.true),
        ),
      );
  failures = c.in_ok-read_sector.ensures.failures ∙ c.walk.invariant.failures;
  reads = reads_then g.D.Sectors.history _ _ _ (length c.walk.places.items) 1 (length c.push.new.self.items)
      (one_visited _ _ c.push.ensures.len) c.walk.invariant.reads c.read_sector.ensures.reads;
  few = still_few _ _ _ _ c.walk.invariant.count c.push.ensures.len c.insert.ensures.room;
}

pub walk-preserved : goal.walk-preserved
walk-preserved g c =
    let old = c.walk.invariant in
    let S = g.D.Sectors.history in
    record {
      leads = rw c.push.ensures.items (Leads-push _ _ c.walk.places.items c.walk.at c.in-Some.next old.leads
          (link-read _ _ c.walk.at c.in-Some.next c.read_sector.new.to old.reads.image
          c.in_ok-read_sector.ensures.sector
          (place_at-some _ _ _ (sym c.new.ensures.value ∙ c.in-Some.is))));
      once = rw c.push.ensures.items (EachOnce-push _ _ old.once (not_in c.walk.visited _ _ old.marks old.fresh));
      fresh = sym c.contains.ensures ∙ c.if-contains.false;
      marks = rw c.push.ensures.items (IsSetOf-push c.walk.visited c.insert.new.self _ _ old.marks
          c.insert.ensures.now);
      count = visited_all _ (length c.push.new.self.items) _ _ c.walk.invariant.count c.push.ensures.len
          c.insert.ensures.room;
      reads = reads_then S _ _ _ (length c.walk.places.items) 1 (length c.push.new.self.items)
          (one_visited _ _ c.push.ensures.len) old.reads c.read_sector.ensures.reads;
      failures = c.in_ok-read_sector.ensures.failures ∙ old.failures;
    }
