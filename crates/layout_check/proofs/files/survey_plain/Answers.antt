-- The chain, whose blocks are claimed.
use Rattle.std.proofs.Common.{inr}
use Rattle.std.proofs.lemmas.Result.{err_from_is_err_and}
use Rattle.layout_check.proofs.lemmas.finding.Finding.{plain-finds}
use Rattle.layout_check.proofs.files.survey_plain.Goals as goal

pub returns-in_err-claim_blocks-clause-err : goal.returns-in_err-claim_blocks-clause-err
returns-in_err-claim_blocks-clause-err g c =
    let p = err_from_is_err_and c.from_residual.result c.from_residual.ensures.1 in
    rw (p.1, p.2) c.in_err-claim_blocks.ensures.err

pub returns-clause-ok : goal.returns-clause-ok
returns-clause-ok g c =
    let found = c.in_ok-claim_blocks.ensures in
    plain-finds g.D.Sectors.history c.args.disk.now c.claim_blocks.new.disk c.args.slot.now c.args.number
    c.args.owners.now c.claim_blocks.new.owners c.claim_blocks.new.places.items _ c.requires.proper c.requires.plain
    c.requires.names found.blocks found.ok found.claimed

pub claim_blocks-requires : goal.claim_blocks-requires
claim_blocks-requires g c = record {
  closed = c.requires.closed;
  names = inr c.requires.names;
  some = c.requires.some;
}
