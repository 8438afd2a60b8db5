-- File by file.
use Rattle.std.proofs.Common.{arith, length, refl}
use borrow.Author.Count.{below_more}
use Rattle.std.proofs.lemmas.Bool.{false≢true}
use Rattle.std.proofs.lemmas.Option.{slice_get_read, slice_get_within}
use Rattle.file_rescues.proofs.lemmas.rescue.Parts.{is-named, not-named}
use Rattle.file_rescues.proofs.rescue.mem_folder.has.Goals as goal

pub returns-then-eq : goal.returns-then-eq
returns-then-eq c = (
  λ _. (
    c.loop-file.file-index,
    c.file-item.result,
    slice_get_read c.args.files.now (length c.args.files.now) c.loop-file.file-index c.file-item.result refl
        c.loop-file-test.true c.file-item.is,
    is-named c.file-item.result c.as_slice.result.now c.args.name.now c.eq.result c.as_slice.ensures.value c.eq.ensures
        c.if-eq.true,
  ),
  λ _. refl,
)

pub loop-file-preserved : goal.loop-file-preserved
loop-file-preserved c =
    let there = slice_get_read c.args.files.now (length c.args.files.now) c.loop-file.file-index c.file-item.result refl
    c.loop-file-test.true c.file-item.is in
    record {
      none = below_more _ _ c.loop-file.invariant.none (not-named c.args.files.now c.loop-file.file-index c.file-item.result
          c.as_slice.result.now c.args.name.now c.eq.result c.as_slice.ensures.value c.eq.ensures c.if-eq.false there);
    }

pub returns : goal.returns
returns c = (
  λ h. absurd (false≢true h),
  λ (k, f, at, same). absurd (c.loop-file.invariant.none k
      (omega (arith, c.loop-file-test.false, slice_get_within c.args.files.now k f at)) f at same),
)
