-- What is known of the sector that was read, at each way out and for the next turn.
use Rattle.std.proofs.Common.{ap, arith, length, sym, ◌∙◌}
use Rattle.std.proofs.lemmas.Bool.{false≢true}
use Rattle.disk_layout.proofs.lemmas.chains.Directories.{few-before, reached-next, reached-start, used-more, used-none}
use Rattle.damaged_files.proofs.lemmas.reached.ReadSoFar.{ends-here, leads-back, leads-out}
use Rattle.damaged_files.proofs.reached.directory.read_so_far.Goals as goal

pub add_used-requires : goal.add_used-requires
add_used-requires c = omega (arith, c.sectors.invariant.room, c.sectors.invariant.few)

pub sectors-init : goal.sectors-init
sectors-init c = record {
  reached = reached-start _ _ _ c.clear.ensures c.directory_start-at.ensures;
  slots = used-none _ _ _ c.clear.ensures c.clear-2.ensures;
  room = omega (arith, ap length c.clear-2.ensures);
  few = omega (arith, ap length c.clear.ensures);
}

pub sectors-preserved : goal.sectors-preserved
sectors-preserved c =
    let old = c.sectors.invariant in
    let read = c.sector-bytes.ensures in
    let next = reached-next _ c.sectors.sectors.items c.sectors.at c.in-Some.next c.sector-bytes.result.now old.reached
    read c.in-Some.ensures.0 c.in-Some.ensures.1
    (λ there. false≢true (sym c.if-contains.false ∙ c.contains.ensures.1 (rw c.push.ensures.items there))) in
    record {
      reached = rw c.push.ensures.items next;
      slots = rw c.push.ensures.items (used-more _ c.sectors.sectors.items c.sectors.at c.sector-bytes.result.now _ _
          old.slots read c.add_used.ensures.items);
      room = omega (arith, old.room, c.add_used.ensures.room, c.push.ensures.len);
      few = omega (arith, few-before _ _ _ next, ap length c.push.ensures.items);
    }

pub returns-then-bytes-eq0 : goal.returns-then-bytes-eq0
returns-then-bytes-eq0 c =
    let old = c.sectors.invariant in
    let read = c.sector-bytes.ensures in
    record {
      read = ends-here _ c.sectors.sectors.items _ c.sectors.at _ c.sector-bytes.result.now old.reached
          c.push.ensures.items
          (used-more _ c.sectors.sectors.items c.sectors.at c.sector-bytes.result.now _ _ old.slots read
          c.add_used.ensures.items) read c.if-bytes-eq0.true;
      few = omega (arith, old.room, old.few, c.add_used.ensures.room);
    }

pub returns-in_default : goal.returns-in_default
returns-in_default c =
    let old = c.sectors.invariant in
    let read = c.sector-bytes.ensures in
    record {
      read = leads-out _ c.sectors.sectors.items _ c.sectors.at _ c.sector-bytes.result.now old.reached
          c.push.ensures.items
          (used-more _ c.sectors.sectors.items c.sectors.at c.sector-bytes.result.now _ _ old.slots read
          c.add_used.ensures.items) read c.if-bytes-eq0.false c.in_default.ensures;
      few = omega (arith, old.room, old.few, c.add_used.ensures.room);
    }

pub returns-then-contains : goal.returns-then-contains
returns-then-contains c =
    let old = c.sectors.invariant in
    let read = c.sector-bytes.ensures in
    record {
      read = leads-back _ c.sectors.sectors.items _ c.sectors.at c.in-Some.next _ c.sector-bytes.result.now old.reached
          c.push.ensures.items
          (used-more _ c.sectors.sectors.items c.sectors.at c.sector-bytes.result.now _ _ old.slots read
          c.add_used.ensures.items) read c.in-Some.ensures.0 (c.contains.ensures.0 c.if-contains.true);
      few = omega (arith, old.room, old.few, c.add_used.ensures.room);
    }
