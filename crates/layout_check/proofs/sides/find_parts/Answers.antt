-- The chain, and then the side sectors.
use Rattle.std.proofs.Common.{ap, arith, length, inl}
use Rattle.std.proofs.lemmas.Result.{err_from_is_err_and, on_ok_weaker, IfErr-weaker, IfOk-weaker}
use Rattle.layout_check.proofs.lemmas.judging.Calls.{passes_then, tells_then, tells_weaker}
use Rattle.layout_check.proofs.lemmas.finding.Finding.{on_ok_both, parts-found, rel-entry}
use Rattle.layout_check.proofs.lemmas.finding.Finding.{rel-few}
use Rattle.layout_check.proofs.lemmas.judging.Judged.{judged-same}
use Rattle.layout_check.proofs.sides.find_parts.Goals as goal

pub survey_sides-requires : goal.survey_sides-requires
survey_sides-requires g c = record {
  entry = rel-entry g.D.Sectors.history c.args.disk.now c.survey_blocks.new.disk c.args.slot.now
      c.survey_blocks.new.blocks.items c.as_slice.result.now _ _ c.requires.closed c.requires.rel
      c.in_ok-survey_blocks.ensures.blocks c.in_ok-survey_blocks.ensures.ok c.as_slice.ensures.value;
  few = c.as_slice.ensures.fits;
}

pub returns : goal.returns
returns g c = record {
  parts = on_ok_both c.survey_sides.result _ _ _
      (λ walk lists. parts-found g.D.Sectors.history c.args.disk.now c.survey_blocks.new.disk c.args.slot.now
      c.survey_blocks.new.blocks.items c.as_slice.result.now c.survey_sides.new.sides.items _ _
      c.in_ok-survey_blocks.ensures.blocks c.in_ok-survey_blocks.ensures.ok c.as_slice.ensures.value walk lists)
      c.survey_sides.ensures.sides c.survey_sides.ensures.lists;
  exact = IfOk-weaker c.survey_sides.result _ _
      (λ inexact judged. judged-same _ _ c.args.slot.now c.survey_blocks.new.blocks.items c.as_slice.result.now
      c.survey_sides.new.sides.items inexact c.in_ok-survey_blocks.ensures.ok.reads.image c.as_slice.ensures.value
      judged)
      c.survey_sides.ensures.exact;
  ok = on_ok_weaker c.survey_sides.result
      (λ passes. passes_then g.D.Sectors.history c.args.disk.now c.survey_blocks.new.disk c.survey_sides.new.disk _ _ _
      (omega arith) c.in_ok-survey_blocks.ensures.ok passes)
      c.survey_sides.ensures.ok;
  few = on_ok_weaker c.survey_sides.result
      (λ walk. rel-few g.D.Sectors.history _ c.args.slot.now c.survey_blocks.new.blocks.items c.as_slice.result.now
      c.survey_sides.new.sides.items walk c.as_slice.ensures.value c.as_slice.ensures.fits)
      c.survey_sides.ensures.sides;
  err = IfErr-weaker c.survey_sides.result _ _
      (λ f tells. tells_then g.D.Sectors.history c.args.disk.now c.survey_blocks.new.disk c.survey_sides.new.disk _ 12
      732 f (omega (arith, c.as_slice.ensures.fits, ap length c.as_slice.ensures.value))
      c.in_ok-survey_blocks.ensures.ok tells)
      c.survey_sides.ensures.err;
}

pub returns-in_err-survey_blocks : goal.returns-in_err-survey_blocks
returns-in_err-survey_blocks g c =
    let p = err_from_is_err_and c.from_residual.result c.from_residual.ensures.1 in
    record {
      parts = rw p.1 tt;
      exact = rw p.1 tt;
      ok = rw p.1 tt;
      few = rw p.1 tt;
      err = rw (p.1, p.2) (tells_weaker g.D.Sectors.history c.args.disk.now c.survey_blocks.new.disk 720 732 _
          (omega arith) c.in_err-survey_blocks.ensures.err);
    }

pub survey_blocks-requires : goal.survey_blocks-requires
survey_blocks-requires g c = record { closed = c.requires.closed; names = inl c.requires.rel }
