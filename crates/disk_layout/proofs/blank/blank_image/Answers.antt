-- Each write, and what stands when all are done.
use Rattle.std.proofs.Common.{List, arith, length, subst, ◌+◌, ◌∙◌, ◌≡◌}
use Rattle.std.specs.Prelude.{ℕ}
use Rattle.d64_image.proofs.Moments.{at_end, changes_weaker}
use Rattle.d64_image.specs.declared.place.Place.{Place}
use Rattle.disk_layout.proofs.blank.blank_image.Goals as goal
use Rattle.disk_layout.proofs.lemmas.blank.BlankClean.{blank-is_clean}
use Rattle.disk_layout.proofs.lemmas.blank.Blanks.{AreWritten, blank-whole, moments-more, written-more, written-place}
use Rattle.disk_layout.specs.Blank.{request_blocks}
use Rattle.disk_layout.specs.BlankWritten.{IsWritten}

pub returns-in_err-write-clause-moments : goal.returns-in_err-write-clause-moments
returns-in_err-write-clause-moments g c =
    let S = g.D.Sectors.history in
    let n = request_blocks c.args.tills in
    let P : List Place → Type 0 = λ ps. IsWritten c.args.name.now c.args.id ps c.loop-number.number
    c.blank_sector.result.0 c.blank_sector.result.1 in
    let this = subst P c.as_slice.ensures.value c.blank_sector.ensures in
    let here = written-place _ _ _ n _ _ _ c.request_places-requests.ensures this in
    changes_weaker S _ _ (c.loop-number.number + 1) (5 + n) _ _ (omega (
      arith,
      c.request_places-requests.ensures.count,
      c.len-number-end.ensures.value,
    )) (λ x same. same)
    (moments-more S _ _ _ n _ _ _ c.loop-number.invariant.moments c.write.ensures.held
    (omega (arith, c.in_err-write.ensures.uncounted)) here)

pub loop-number-preserved : goal.loop-number-preserved
loop-number-preserved g c =
    let S = g.D.Sectors.history in
    let n = request_blocks c.args.tills in
    let P : List Place → Type 0 = λ ps. IsWritten c.args.name.now c.args.id ps c.loop-number.number
    c.blank_sector.result.0 c.blank_sector.result.1 in
    let this = subst P c.as_slice.ensures.value c.blank_sector.ensures in
    let here = written-place _ _ _ n _ _ _ c.request_places-requests.ensures this in
    record {
      written = written-more _ _ _ _ _ n _ _ _ (S.whole c.loop-number.disk).size c.request_places-requests.ensures
          c.loop-number.invariant.written this c.in_ok-write.ensures.ok;
      moments = moments-more S _ _ _ n _ _ _ c.loop-number.invariant.moments c.write.ensures.held
          c.in_ok-write.ensures.counted here;
      failures = c.in_ok-write.ensures.failures ∙ c.loop-number.invariant.failures;
    }

pub returns-clause-ok : goal.returns-clause-ok
returns-clause-ok g c =
    let S = g.D.Sectors.history in
    let end : c.loop-number.number ≡ 5 + length c.request_places-requests.result.items =
    omega (arith, c.len-number-end.ensures.value) in
    let P : ℕ → Type 0 = AreWritten (S.image c.loop-number.disk) c.args.name.now c.args.id
    c.request_places-requests.result.items in
    blank-whole _ _ _ _ _ _ c.request_places-requests.ensures (subst P end c.loop-number.invariant.written)
    (at_end S _ _ _ c.loop-number.invariant.moments.held)

pub returns-clause-clean : goal.returns-clause-clean
returns-clause-clean g c =
    let S = g.D.Sectors.history in
    blank-is_clean _ _ _ _ _ c.requires.some c.requires.few (S.whole c.loop-number.disk) (returns-clause-ok g c)
