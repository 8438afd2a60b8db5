-- One entry more.
use Rattle.std.proofs.Common.{◌≡◌, ◌+◌, ℕ, length, ap, refl, ◌∙◌, arith}
use Rattle.std.proofs.lemmas.List.{length_push}
use Rattle.std.proofs.lemmas.Result.{err_from_is_err_and}
use Rattle.file_rescues.proofs.lemmas.rescue.Reached.{pushed, rescued-all, rescued-more, rescued-none}
use Rattle.file_rescues.proofs.rescue.rescuing.rescue_all.Goals as goal

pub loop-slot-init : goal.loop-slot-init
loop-slot-init c = record {
  rescued = rescued-none _ _ _ c.new-files.ensures.items;
  count = ap length c.new-files.ensures.items;
}

pub loop-slot-preserved : goal.loop-slot-preserved
loop-slot-preserved c =
    let old = c.loop-slot.invariant in
    let more = pushed _ _ _ _ _ c.if-is_err.false c.is_err.ensures.negation c.push.ensures.items in
    record {
      rescued = rescued-more _ _ _ _ _ _ _ _ c.loop-slot-test.true c.slot-item.is old.rescued c.in_ok-file.ensures.slot
          c.in_ok-file.ensures.ok more;
      count = ap length more ∙ length_push c.loop-slot.files.items c.in_ok-file.file
          ∙ ap (λ (n : ℕ). n + 1) old.count;
    }

pub returns-in_err-file : goal.returns-in_err-file
returns-in_err-file c =
    let p = err_from_is_err_and c.from_residual.result c.from_residual.ensures.1 in
    record {
      ok = rw p.1 tt;
      few = rw p.1 tt;
      err = rw (p.1, p.2) c.in_err-file.ensures.err;
    }

pub returns-then-is_err : goal.returns-then-is_err
returns-then-is_err c = record {
  ok = tt;
  few = tt;
  err = refl;
}

pub returns : goal.returns
returns c =
    let end : c.loop-slot.slot-index ≡ length c.args.slots.now =
    omega (arith, c.loop-slot-test.false, c.loop-slot.auto.slot-index-end) in
    record {
      ok = rescued-all _ _ _ _ _ end c.loop-slot.invariant.rescued;
      few = c.loop-slot.invariant.count ∙ end;
      err = tt;
    }
