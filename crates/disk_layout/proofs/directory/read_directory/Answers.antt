-- What is known of the sector that was read, at each way out and for the next turn.
use Rattle.std.proofs.Common.{ap, arith, length, refl, subst, sym, ◌∙◌}
use Rattle.std.specs.Prelude.{Err}
use Rattle.std.proofs.lemmas.Bool.{false≢true}
use Rattle.std.proofs.lemmas.Result.{err_from_is_err_and}
use Rattle.d64_image.proofs.Moments.{failed_later, no_reads, reads_then, reads_weaker}
use Rattle.disk_layout.proofs.lemmas.chains.Directories.{
  bad-link,
  comes-back,
  directory-whole,
  few-before,
  reached-next,
  reached-start,
  read-now,
  used-more,
  used-none,
}
use Rattle.disk_layout.specs.Fault.{HoldsOfDirectory, TellsFault}
use Rattle.disk_layout.specs.declared.faults.Fault.{Fault}
use Rattle.disk_layout.proofs.directory.read_directory.Goals as goal

pub add_used-requires : goal.add_used-requires
add_used-requires g c = omega (arith, c.sectors.invariant.room, c.sectors.invariant.few)

pub sectors-init : goal.sectors-init
sectors-init g c = record {
  reads = reads_weaker g.D.Sectors.history _ _ 0 _ (omega arith) (no_reads g.D.Sectors.history _);
  failures = refl;
  reached = reached-start _ _ _ c.new-visited.ensures c.directory_start-at.ensures;
  slots = used-none _ _ _ c.new-visited.ensures c.clear.ensures;
  room = omega (arith, ap length c.clear.ensures);
  few = omega (arith, ap length c.new-visited.ensures);
}

pub returns-in_err-read_sector : goal.returns-in_err-read_sector
returns-in_err-read_sector g c =
    let S = g.D.Sectors.history in
    let p = err_from_is_err_and c.from_residual.result c.from_residual.ensures.1 in
    record {
      ok = rw p.1 tt;
      err = let P : Fault → Type 0 = HoldsOfDirectory (S.failed_at c.read_sector.new.disk) (S.image c.args.disk.now) in
          rw (p.1, p.2) (subst P (sym c.in_err-read_sector.ensures.told) c.in_err-read_sector.ensures.failed);
      failures = let P : Fault → Type 0 = λ f. TellsFault {T = Unit {0}} S c.args.disk.now c.read_sector.new.disk
          (Err f) in
          rw (p.1, p.2) (subst P (sym c.in_err-read_sector.ensures.told) (failed_later S c.args.disk.now c.sectors.disk
          c.read_sector.new.disk c.sectors.invariant.failures c.in_err-read_sector.ensures.failures));
      reads = reads_then S _ _ _ _ 1 18 (omega (arith, c.sectors.invariant.few)) c.sectors.invariant.reads
          c.read_sector.ensures.reads;
    }

pub sectors-preserved : goal.sectors-preserved
sectors-preserved g c =
    let old = c.sectors.invariant in
    let read = read-now _ _ c.sectors.at c.read_sector.new.to old.reads.image c.in_ok-read_sector.ensures.sector in
    let next = reached-next _ c.sectors.visited.items c.sectors.at c.in-Some.next c.read_sector.new.to old.reached read
    c.in-Some.ensures.0 c.in-Some.ensures.1
    (λ there. false≢true (sym c.if-contains.false ∙ c.contains.ensures.1 (rw c.push.ensures.items there))) in
    record {
      reads = reads_then g.D.Sectors.history _ _ _ _ 1 _ (omega (arith, c.push.ensures.len)) old.reads
          c.read_sector.ensures.reads;
      failures = c.in_ok-read_sector.ensures.failures ∙ old.failures;
      reached = rw c.push.ensures.items next;
      slots = rw c.push.ensures.items (used-more _ c.sectors.visited.items c.sectors.at c.read_sector.new.to _ _
          old.slots read c.add_used.ensures.items);
      room = omega (arith, old.room, c.add_used.ensures.room, c.push.ensures.len);
      few = omega (arith, few-before _ _ _ next, ap length c.push.ensures.items);
    }

pub returns-then-sector-eq0 : goal.returns-then-sector-eq0
returns-then-sector-eq0 g c = record {
  ok = let old = c.sectors.invariant in
      let read = read-now _ _ c.sectors.at c.read_sector.new.to old.reads.image c.in_ok-read_sector.ensures.sector in
      directory-whole _ c.sectors.visited.items c.sectors.at c.read_sector.new.to _ old.reached read
      c.if-sector-eq0.true
      (used-more _ c.sectors.visited.items c.sectors.at c.read_sector.new.to _ _ old.slots read
      c.add_used.ensures.items);
  err = tt;
  failures = c.in_ok-read_sector.ensures.failures ∙ c.sectors.invariant.failures;
  reads = reads_then g.D.Sectors.history _ _ _ _ 1 18 (omega (arith, c.sectors.invariant.few)) c.sectors.invariant.reads
      c.read_sector.ensures.reads;
}

pub returns-in_default : goal.returns-in_default
returns-in_default g c = record {
  ok = tt;
  err = let old = c.sectors.invariant in
      let read = read-now _ _ c.sectors.at c.read_sector.new.to old.reads.image c.in_ok-read_sector.ensures.sector in
      bad-link _ c.sectors.visited.items c.sectors.at c.read_sector.new.to old.reached read c.if-sector-eq0.false
      c.in_default.ensures;
  failures = c.in_ok-read_sector.ensures.failures ∙ c.sectors.invariant.failures;
  reads = reads_then g.D.Sectors.history _ _ _ _ 1 18 (omega (arith, c.sectors.invariant.few)) c.sectors.invariant.reads
      c.read_sector.ensures.reads;
}

pub returns-then-contains : goal.returns-then-contains
returns-then-contains g c = record {
  ok = tt;
  err = let old = c.sectors.invariant in
      let read = read-now _ _ c.sectors.at c.read_sector.new.to old.reads.image c.in_ok-read_sector.ensures.sector in
      comes-back _ c.sectors.visited.items c.sectors.at c.in-Some.next c.read_sector.new.to old.reached read
      c.in-Some.ensures.0 (rw c.push.ensures.items at (c.contains.ensures.0 c.if-contains.true));
  failures = c.in_ok-read_sector.ensures.failures ∙ c.sectors.invariant.failures;
  reads = reads_then g.D.Sectors.history _ _ _ _ 1 18 (omega (arith, c.sectors.invariant.few)) c.sectors.invariant.reads
      c.read_sector.ensures.reads;
}
