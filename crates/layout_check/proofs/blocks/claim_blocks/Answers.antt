-- A turn claims one more sector; where the walk ends, the sectors claimed are the chain, or show the fault.
mod Told
use Rattle.std.proofs.Common.{arith, length, lit<, refl, sym, ◌∙◌, ◌<◌, ◌≡◌}
use Rattle.d64_image.proofs.Places.{place_at-some}
use Rattle.disk_layout.proofs.lemmas.chains.Chains.{Leads-push}
use Rattle.disk_layout.proofs.lemmas.chains.Names.{named-match}
use Rattle.disk_layout.proofs.lemmas.chains.Walks.{end-read, link-read, walk-end}
use Rattle.disk_layout.proofs.lemmas.lists.Once.{EachOnce-push}
use Rattle.layout_check.proofs.lemmas.judging.Calls.{passes_none, passes_read, passes_then}
use Rattle.layout_check.proofs.lemmas.finding.ClaimedBlocks.{room-left, unclaimed}
use Rattle.layout_check.proofs.lemmas.owners.Claims.{claim-push}
use Rattle.layout_check.proofs.lemmas.finding.Finding.{claims-none}
use Rattle.layout_check.specs.Owners.{owner_of}
use Rattle.layout_check.proofs.blocks.claim_blocks.Goals as goal
use Rattle.layout_check.proofs.blocks.claim_blocks.Answers.Told as told

pub chain-init : goal.chain-init
chain-init g c = record {
  leads = rw c.clear.ensures refl;
  once = rw c.clear.ensures tt;
  claimed = rw c.clear.ensures (claims-none c.args.owners.now c.args.number);
  passes = rw c.clear.ensures (passes_none g.D.Sectors.history c.args.disk.now);
}

pub push-requires : goal.push-requires
push-requires g c =
    let old = c.chain.invariant in
    let free : owner_of c.chain.owners c.chain.at ≡ 255 = sym c.owner.ensures ∙ c.if-owner.false in
    let h : length c.chain.places.items < 720 =
    omega (
      arith,
      room-left c.chain.places.items c.chain.at old.once (unclaimed c.args.owners.now c.chain.owners
          c.args.number _ _ old.claimed c.requires.some free),
    ) in
    (lit< tt, h)

pub chain-preserved : goal.chain-preserved
chain-preserved g c =
    let S = g.D.Sectors.history in
    let old = c.chain.invariant in
    let free : owner_of c.chain.owners c.chain.at ≡ 255 = sym c.owner.ensures ∙ c.if-owner.false in
    let new = unclaimed c.args.owners.now c.chain.owners c.args.number _ _ old.claimed c.requires.some free in
    record {
      leads = rw c.push.ensures.items (Leads-push _ _ c.chain.places.items c.chain.at c.in-Some-new.next old.leads
          (link-read _ _ c.chain.at c.in-Some-new.next c.read_sector.new.to old.passes.reads.image
          c.in_ok-read_sector.ensures.sector (place_at-some _ _ _ (sym c.new-in-chain.ensures.value
          ∙ c.in-Some-new.is))));
      once = rw c.push.ensures.items (EachOnce-push _ _ old.once new);
      claimed = rw c.push.ensures.items (claim-push c.args.owners.now c.chain.owners c.set.new.self c.args.number
          c.chain.places.items c.chain.at old.claimed new free c.set.ensures.here c.set.ensures.there);
      passes = passes_then S c.args.disk.now c.chain.disk c.read_sector.new.disk (length c.chain.places.items) 1 _
          (omega (arith, c.push.ensures.len)) old.passes (passes_read S c.chain.disk c.read_sector.new.disk
          c.in_ok-read_sector.ensures.reads c.in_ok-read_sector.ensures.failures);
    }

pub chain-smaller : goal.chain-smaller
chain-smaller g c =
    let old = c.chain.invariant in
    let free : owner_of c.chain.owners c.chain.at ≡ 255 = sym c.owner.ensures ∙ c.if-owner.false in
    omega (
      arith,
      c.push.ensures.len,
      room-left c.chain.places.items c.chain.at old.once
          (unclaimed c.args.owners.now c.chain.owners c.args.number _ _ old.claimed c.requires.some free),
    )

pub returns-then-sector-eq0 : goal.returns-then-sector-eq0
returns-then-sector-eq0 g c =
    let S = g.D.Sectors.history in
    record {
      blocks = let old = c.chain.invariant in
          let free : owner_of c.chain.owners c.chain.at ≡ 255 = sym c.owner.ensures ∙ c.if-owner.false in
          rw c.push.ensures.items (
            c.in-Some.first,
            named-match c.args.slot.now.bytes _ 3 _ c.new.ensures c.in-Some.ensures,
            walk-end _ c.in-Some.first c.chain.at c.chain.places.items _ old.leads old.once
                (unclaimed c.args.owners.now c.chain.owners c.args.number _ _ old.claimed c.requires.some free)
                (end-read _ _ c.chain.at c.read_sector.new.to old.passes.reads.image c.in_ok-read_sector.ensures.sector
                c.if-sector-eq0.true),
          );
      claimed = let old = c.chain.invariant in
          let free : owner_of c.chain.owners c.chain.at ≡ 255 = sym c.owner.ensures ∙ c.if-owner.false in
          rw c.push.ensures.items (claim-push c.args.owners.now c.chain.owners c.set.new.self c.args.number
          c.chain.places.items c.chain.at old.claimed (unclaimed c.args.owners.now c.chain.owners c.args.number _ _
          old.claimed c.requires.some free) free c.set.ensures.here c.set.ensures.there);
      ok = passes_then S c.args.disk.now c.chain.disk c.read_sector.new.disk (length c.chain.places.items) 1 _
          (omega (arith, c.push.ensures.len)) c.chain.invariant.passes
          (passes_read S c.chain.disk c.read_sector.new.disk c.in_ok-read_sector.ensures.reads
          c.in_ok-read_sector.ensures.failures);
      err = tt;
    }

pub returns-in_default : goal.returns-in_default
returns-in_default = told.returns-in_default

pub returns-then-owner : goal.returns-then-owner
returns-then-owner = told.returns-then-owner

pub returns-in-None : goal.returns-in-None
returns-in-None = told.returns-in-None

pub returns-in_err-read_sector : goal.returns-in_err-read_sector
returns-in_err-read_sector = told.returns-in_err-read_sector

pub read_sector-requires : goal.read_sector-requires
read_sector-requires g c κs = λ h. h
