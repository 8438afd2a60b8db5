-- What the files lost is settled, the disk mended, and then no file lacks anything.
use Rattle.std.proofs.Common.{◌∙◌, ◌++◌, Err, List, ap, inl, inr, refl, subst, sym, ℕ}
use Rattle.std.proofs.lemmas.Result.{err_from_is_err_and}
use Rattle.std.specs.Prelude.{None}
use Rattle.d64_image.specs.Images.{Image, sector}
use Rattle.d64_image.specs.Memory.{disk_image, sectors_in}
use Rattle.damaged_files.specs.cut.Settled.{IsSettled}
use Rattle.damaged_files.specs.cut.Told.{IsShortfallOf}
use Rattle.disk_layout.specs.Directory.{map_place}
use Rattle.disk_changes.specs.mended.Kinds.{IsPlainDisk}
use Rattle.disk_changes.specs.mended.Repairs.{mended_text}
use Rattle.disk_changes.proofs.repairing.settled_and_mended.Goals as goal

pub returns-in_err-second-clause-err : goal.returns-in_err-second-clause-err
returns-in_err-second-clause-err c =
    let p = err_from_is_err_and c.from_residual-in_err-second.result c.from_residual-in_err-second.ensures.1 in
    let settled = subst (IsSettled (sectors_in c.args.image.now)) (sym c.bytes.ensures.image) c.in_ok-settled.ensures.ok in
    rw (p.1 ∙ ap Err p.2) (inr (c.bytes.result.now, settled, inl c.in_err-second.ensures.err))

pub returns-in_err-judge_whole-clause-err : goal.returns-in_err-judge_whole-clause-err
returns-in_err-judge_whole-clause-err c =
    let p = err_from_is_err_and c.from_residual-in_err-judge_whole.result c.from_residual-in_err-judge_whole.ensures.1 in
    let settled = subst (IsSettled (sectors_in c.args.image.now)) (sym c.bytes.ensures.image) c.in_ok-settled.ensures.ok in
    rw (p.1 ∙ ap Err p.2)
    (inr (c.bytes.result.now, settled, inr (c.in_ok-second.second, c.in_ok-second.ensures.ok, c.in_err-judge_whole.ensures.err)))

pub returns-in-Ok-clause-ok : goal.returns-in-Ok-clause-ok
returns-in-Ok-clause-ok c =
    let same = c.print_mended.ensures.quiet.image ∙ c.judge_whole.ensures.same in
    let P : Image → Type 0 = λ i. IsPlainDisk (sector i map_place) in
    let W : Image → Type 0 = λ i. IsShortfallOf i None in
    let left = c.in_ok-second.second.left in
    record {
      size = c.in_ok-before.ensures.ok.0;
      plain = subst P c.in_ok-before.ensures.ok.1 c.in_ok-judge_kind.ensures.plain;
      bytes = c.bytes.result.now;
      settled = subst (IsSettled (sectors_in c.args.image.now)) (sym c.bytes.ensures.image) c.in_ok-settled.ensures.ok;
      second = c.in_ok-second.second;
      mended = c.in_ok-second.ensures.ok;
      disk = same;
      left = refl;
      whole = subst W (sym same) c.in_ok-judge_whole.ensures.ok;
      text = c.in-Ok.ensures.ok
          ∙ ap (λ (xs : List ℕ). xs ++ mended_text (disk_image c.in_ok-before.before) (disk_image c.judge_whole.new.disk) left)
          c.new-text.ensures.items
          ∙ ap (λ (i : Image). mended_text i (disk_image c.judge_whole.new.disk) left) c.in_ok-before.ensures.ok.1
          ∙ ap (λ (i : Image). mended_text (sectors_in c.args.image.now) i left) (sym c.print_mended.ensures.quiet.image);
    }
