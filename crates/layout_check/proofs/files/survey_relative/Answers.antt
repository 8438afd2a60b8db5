-- The blocks, which are claimed on the way, the side sectors, and their claim.
use Rattle.std.proofs.Common.{◌+◌, ◌*◌, ap, arith, inl, length}
use Rattle.std.proofs.lemmas.Result.{err_from_is_err_and}
use Rattle.layout_check.proofs.lemmas.finding.Assembly.{sides-once}
use Rattle.layout_check.proofs.lemmas.judging.Calls.{passes_then, tells_then}
use Rattle.layout_check.proofs.lemmas.finding.Finding.{parts-found, rel-entry, rel-few, rel-finds, side-clash}
use Rattle.layout_check.proofs.lemmas.judging.Judged.{judged-file, judged-same}
use Rattle.layout_check.proofs.files.survey_relative.Goals as goal

pub survey_sides-requires : goal.survey_sides-requires
survey_sides-requires g c = record {
  entry = rel-entry g.D.Sectors.history c.args.disk.now c.claim_blocks.new.disk c.args.slot.now
      c.claim_blocks.new.places.items c.as_slice.result.now _ _ c.requires.closed c.requires.rel
      c.in_ok-claim_blocks.ensures.blocks c.in_ok-claim_blocks.ensures.ok c.as_slice.ensures.value;
  few = c.as_slice.ensures.fits;
}

pub claim-requires-clause-once : goal.claim-requires-clause-once
claim-requires-clause-once g c =
    rw c.as_slice-2.ensures.value (sides-once _ c.args.slot.now _ c.survey_sides.new.sides.items
    c.in_ok-inexact.ensures.sides)

pub returns-in_err-claim_blocks : goal.returns-in_err-claim_blocks
returns-in_err-claim_blocks g c =
    let p = err_from_is_err_and c.from_residual.result c.from_residual.ensures.1 in
    record {
      ok = rw p.1 tt;
      err = rw (p.1, p.2) c.in_err-claim_blocks.ensures.err;
    }

pub returns-in_err-inexact : goal.returns-in_err-inexact
returns-in_err-inexact g c =
    let p = err_from_is_err_and c.from_residual-in_err-inexact.result c.from_residual-in_err-inexact.ensures.1 in
    record {
      ok = rw p.1 tt;
      err = rw (p.1, p.2)
          (inl (tells_then g.D.Sectors.history c.args.disk.now c.claim_blocks.new.disk c.survey_sides.new.disk _ 12 732
          _ (omega (arith, c.as_slice.ensures.fits, ap length c.as_slice.ensures.value)) c.in_ok-claim_blocks.ensures.ok
          c.in_err-inexact.ensures.err));
    }

pub returns-in_err-claim : goal.returns-in_err-claim
returns-in_err-claim g c =
    let S = g.D.Sectors.history in
    record {
      ok = let p = err_from_is_err_and c.from_residual-in_err-claim.result c.from_residual-in_err-claim.ensures.1 in
          rw p.1 tt;
      -- a side sector that had an owner
      err = let a = c.args.disk.now in
          let b = c.claim_blocks.new.disk in
          let s = c.args.slot.now in
          let blocks = c.claim_blocks.new.places.items in
          let sides = c.survey_sides.new.sides.items in
          let claimed = c.in_ok-claim_blocks.ensures in
          let found = c.in_ok-inexact.ensures in
          let p = err_from_is_err_and c.from_residual-in_err-claim.result c.from_residual-in_err-claim.ensures.1 in
          let parts = parts-found S a b s blocks c.as_slice.result.now sides _ _ claimed.blocks claimed.ok
          c.as_slice.ensures.value found.sides found.lists in
          let few = rel-few S _ s blocks c.as_slice.result.now sides found.sides c.as_slice.ensures.value
          c.as_slice.ensures.fits in
          rw (p.1, p.2) (side-clash S a c.survey_sides.new.disk s c.args.number _ c.args.owners.now
          c.claim_blocks.new.owners blocks sides _
          (record { closed = c.requires.closed; rel = c.requires.rel; last = parts.last; chain = parts.chain })
          parts.walk (passes_then S a b c.survey_sides.new.disk _ _ _ (omega arith) claimed.ok found.ok) few
          claimed.claimed (rw (← c.as_slice-2.ensures.value) c.in_err-claim.ensures.err));
    }

pub returns : goal.returns
returns g c =
    let S = g.D.Sectors.history in
    record {
      ok = let a = c.args.disk.now in
          let b = c.claim_blocks.new.disk in
          let s = c.args.slot.now in
          let blocks = c.claim_blocks.new.places.items in
          let sides = c.survey_sides.new.sides.items in
          let claimed = c.in_ok-claim_blocks.ensures in
          let found = c.in_ok-inexact.ensures in
          let parts = parts-found S a b s blocks c.as_slice.result.now sides _ _ claimed.blocks claimed.ok
          c.as_slice.ensures.value found.sides found.lists in
          let exact = judged-same _ _ s blocks c.as_slice.result.now sides c.in_ok-inexact.inexact
          claimed.ok.reads.image c.as_slice.ensures.value found.exact in
          let judged = judged-file _ s blocks sides parts.last _ c.in_ok-inexact.inexact c.unclean_of.result
          c.requires.rel parts.walk (omega (arith, c.len.ensures.value, c.len-2.ensures.value)) exact
          c.unclean_of.ensures in
          rel-finds S a c.survey_sides.new.disk s c.args.number _ c.args.owners.now c.claim_blocks.new.owners
          c.claim.new.self blocks sides parts.last c.unclean_of.result c.requires.proper c.requires.rel parts.chain
          parts.walk parts.lists
          (passes_then S a b c.survey_sides.new.disk _ _ (length blocks + 2 * length sides) (omega arith) claimed.ok
          found.ok) (omega arith) claimed.claimed (rw (← c.as_slice-2.ensures.value) c.in_ok-claim.ensures.ok)
          judged;
      err = tt;
    }

pub claim_blocks-requires : goal.claim_blocks-requires
claim_blocks-requires g c = record {
  closed = c.requires.closed;
  names = inl c.requires.rel;
  some = c.requires.some;
}

pub claim-requires-clause-some : goal.claim-requires-clause-some
claim-requires-clause-some g c = c.requires.some
