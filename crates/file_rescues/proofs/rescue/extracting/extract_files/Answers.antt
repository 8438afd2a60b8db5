-- The files of the entries, and behind them the index.
use Rattle.std.proofs.Common.{inr, ◌∙◌}
use Rattle.std.proofs.lemmas.Result.{err_from_is_err_and}
use Rattle.d64_image.specs.Memory.{disk_image}
use Rattle.file_rescues.proofs.lemmas.rescue.Made.{all-made, all-part, rows-with}
use Rattle.file_rescues.proofs.lemmas.rescue.Parts.{none-added}
use Rattle.file_rescues.specs.rescue.Sharing.{owned}
use Rattle.file_rescues.proofs.rescue.extracting.extract_files.Goals as goal

pub returns-in_err-put-clause-err : goal.returns-in_err-put-clause-err
returns-in_err-put-clause-err g c =
    let p = err_from_is_err_and c.from_residual.result c.from_residual.ensures.1 in
    rw (p.1, p.2) (inr c.in_err-put.ensures.err, none-added _ _)

pub returns-in_err-make-clause-err : goal.returns-in_err-make-clause-err
returns-in_err-make-clause-err g c =
    let p = err_from_is_err_and c.from_residual-in_err-make.result c.from_residual-in_err-make.ensures.1 in
    rw (p.1, p.2) (
      c.in_err-make.ensures.err.0,
      all-part _ _ _ c.args.image.now (disk_image c.args.disk.now) c.args.sectors.now c.args.files.now _ _ _ _ c.new-index.ensures.items
          c.in_ok-put.ensures.ok
          (rows-with c.args.image.now (disk_image c.args.disk.now) c.args.sectors.now c.args.files.now _ _ _
          (c.as_slice.ensures.value ∙ c.past_of-shared.ensures)
          (c.in_ok-fault.ensures.rows (owned c.args.sectors.now c.args.files.now) c.owners_of-owners.ensures))
          c.as_slice-2.ensures.value c.in_ok-fault.ensures.made c.in_err-make.ensures.err.1,
    )

pub returns-clause-ok : goal.returns-clause-ok
returns-clause-ok g c = (
  all-made _ _ _ c.args.image.now (disk_image c.args.disk.now) c.args.sectors.now c.args.files.now _ _ _ _ c.new-index.ensures.items
      c.in_ok-put.ensures.ok (rows-with c.args.image.now (disk_image c.args.disk.now) c.args.sectors.now c.args.files.now _ _ _
      (c.as_slice.ensures.value ∙ c.past_of-shared.ensures)
      (c.in_ok-fault.ensures.rows (owned c.args.sectors.now c.args.files.now) c.owners_of-owners.ensures))
      c.as_slice-2.ensures.value c.in_ok-fault.ensures.made c.in_ok-make.ensures.ok,
  c.in_ok-fault.ensures.told (owned c.args.sectors.now c.args.files.now) c.owners_of-owners.ensures,
)
