-- The slot names no first block, or a block has an owner, links to no place or can't be read.
use Rattle.std.proofs.Common.{arith, inl, length, sym, ◌∙◌, ◌≡◌}
use Rattle.std.proofs.lemmas.Bool.{false≢true}
use Rattle.std.proofs.lemmas.Result.{err_from_is_err_and}
use Rattle.disk_layout.proofs.lemmas.chains.Names.{named-match}
use Rattle.disk_layout.proofs.lemmas.chains.Walks.{nowhere-read}
use Rattle.layout_check.proofs.lemmas.judging.Calls.{passes_read, passes_then, tells_read, tells_then, tells_weaker}
use Rattle.layout_check.proofs.lemmas.finding.ClaimedBlocks.{owned-tells, room-left, unclaimed, unlinked-tells}
use Rattle.layout_check.proofs.lemmas.finding.Walked.{no_first}
use Rattle.layout_check.specs.Owners.{owner_of}
use Rattle.layout_check.proofs.blocks.claim_blocks.Goals as goal

pub returns-in_default : goal.returns-in_default
returns-in_default g c =
    let S = g.D.Sectors.history in
    record {
      blocks = tt;
      claimed = tt;
      ok = tt;
      err = let d = c.args.disk.now in
          inl (tells_weaker S d d 720 732 _ (omega arith) (no_first S d c.args.slot.now.sector c.args.slot.now
          c.requires.closed (named-match c.args.slot.now.bytes _ 3 _ c.new.ensures c.in_default.ensures)
          c.requires.names));
    }

pub returns-then-owner : goal.returns-then-owner
returns-then-owner g c = record {
  blocks = tt;
  claimed = tt;
  ok = tt;
  -- a sector that has an owner
  err = let old = c.chain.invariant in
      owned-tells g.D.Sectors.history c.args.disk.now c.chain.disk c.args.slot.now c.args.number c.args.owners.now
      c.chain.owners c.in-Some.first c.chain.at c.chain.places.items _ c.requires.closed
      (named-match c.args.slot.now.bytes _ 3 _ c.new.ensures c.in-Some.ensures) old.leads old.once old.claimed
      old.passes (λ e. c.if-owner.true (c.owner.ensures ∙ e))
      (λ h. c.owned_block.ensures.own (rw c.as_slice.ensures.value h))
      (λ h. c.owned_block.ensures.other (rw c.as_slice.ensures.value h));
}

pub returns-in-None : goal.returns-in-None
returns-in-None g c =
    let S = g.D.Sectors.history in
    record {
      blocks = tt;
      claimed = tt;
      ok = tt;
      -- a sector that links to no place
      err = let old = c.chain.invariant in
          let free : owner_of c.chain.owners c.chain.at ≡ 255 = sym c.owner.ensures ∙ c.if-owner.false in
          let new = unclaimed c.args.owners.now c.chain.owners c.args.number _ _ old.claimed c.requires.some free in
          unlinked-tells S c.args.disk.now c.read_sector.new.disk c.args.slot.now c.args.owners.now c.in-Some.first
          c.chain.at c.chain.places.items c.requires.closed
          (named-match c.args.slot.now.bytes _ 3 _ c.new.ensures c.in-Some.ensures) old.leads old.once new
          (nowhere-read _ _ c.chain.at c.read_sector.new.to old.passes.reads.image c.in_ok-read_sector.ensures.sector
          c.if-sector-eq0.false (λ h. false≢true (c.in-None.ensures.on_disk.1 h)))
          (passes_then S c.args.disk.now c.chain.disk c.read_sector.new.disk (length c.chain.places.items) 1 732
          (omega (arith, room-left c.chain.places.items c.chain.at old.once new)) old.passes
          (passes_read S c.chain.disk c.read_sector.new.disk c.in_ok-read_sector.ensures.reads
          c.in_ok-read_sector.ensures.failures));
    }

pub returns-in_err-read_sector : goal.returns-in_err-read_sector
returns-in_err-read_sector g c =
    let S = g.D.Sectors.history in
    let p = err_from_is_err_and c.from_residual.result c.from_residual.ensures.1 in
    record {
      blocks = rw p.1 tt;
      claimed = rw p.1 tt;
      ok = rw p.1 tt;
      err = let old = c.chain.invariant in
          let read = c.in_err-read_sector.ensures in
          let free : owner_of c.chain.owners c.chain.at ≡ 255 = sym c.owner.ensures ∙ c.if-owner.false in
          let few = room-left c.chain.places.items c.chain.at old.once (unclaimed c.args.owners.now c.chain.owners
          c.args.number _ _ old.claimed c.requires.some free) in
          rw (p.1, p.2) (inl (tells_then S c.args.disk.now c.chain.disk c.read_sector.new.disk
          (length c.chain.places.items) 1 732 _ (omega (arith, few)) old.passes
          (tells_read S c.chain.disk c.read_sector.new.disk c.chain.at _ read.told read.reads read.failures
          read.failed)));
    }
