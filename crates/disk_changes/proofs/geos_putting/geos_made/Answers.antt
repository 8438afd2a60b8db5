-- The file is laid, and what came of it judged.
use Rattle.std.proofs.Common.{Err, List, ap, inr, subst, sym, ℕ, ◌≡◌, ◌∙◌}
use Rattle.std.proofs.lemmas.Result.{err_from_is_err_and}
use Rattle.d64_image.specs.Images.{Image, sector}
use Rattle.d64_image.specs.Memory.{disk_image, sectors_in}
use Rattle.disk_changes.specs.GeosPuts.{HasContent, HasEntryOf, IsLaid}
use Rattle.disk_changes.specs.Rewrites.{now_at}
use Rattle.disk_layout.specs.Directory.{slot_in}
use Rattle.disk_layout.specs.declared.slot.Slot.{Slot}
use Rattle.disk_changes.proofs.geos_putting.geos_made.Goals as goal

pub returns-in_err-judged-clause-err : goal.returns-in_err-judged-clause-err
returns-in_err-judged-clause-err c =
    let p = err_from_is_err_and c.from_residual-in_err-judged.result c.from_residual-in_err-judged.ensures.1 in
    rw (p.1 ∙ ap Err p.2) (inr (inr (c.bytes.result.now, c.in_err-judged.ensures.err)))

pub returns-then-branch-clause-ok : goal.returns-then-branch-clause-ok
returns-then-branch-clause-ok c l layout =
    let s = c.in_ok-slot.slot in
    let bytes = c.bytes.result.now in
    let same = c.in_ok-judged.ensures.ok.1 in
    let now : c.in_sector-now.result ≡ now_at (sectors_in bytes) s = c.in_sector-now.ensures
    ∙ ap (λ (b : List ℕ). slot_in s.sector b s.number) (c.sector.ensures ∙ ap (λ (i : Image). sector i s.sector) same) in
    let is = c.in_ok-is_made.ensures.ok c.if-branch.true in
    record {
      bytes = bytes;
      slot = s;
      laid = subst (IsLaid (disk_image c.args.disk) l c.args.name.now s) (sym c.bytes.ensures.image)
          (c.in_ok-slot.ensures.ok l layout);
      sound = c.in_ok-judged.ensures.ok.0;
      entry = subst (λ (t : Slot). HasEntryOf t c.args.name.now c.args.cvt.now) now is.0;
      file = subst (λ (t : Slot). HasContent (sectors_in bytes) t c.args.content.now) now
          (subst (λ (i : Image). HasContent i c.in_sector-now.result c.args.content.now) same is.1);
      after = same;
    }
