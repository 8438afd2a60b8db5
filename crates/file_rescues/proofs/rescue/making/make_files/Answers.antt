-- One file after the other.
use Rattle.std.proofs.Common.{ap, arith, inr, length, ◌∙◌}
use Rattle.std.proofs.lemmas.Result.{err_from_is_err_and}
use Rattle.d64_image.specs.Memory.{disk_image}
use Rattle.file_rescues.proofs.lemmas.rescue.Made.{both-made, data-part, lines-part}
use Rattle.file_rescues.proofs.lemmas.rescue.Parts.{none-added}
use Rattle.file_rescues.proofs.rescue.making.make_files.Goals as goal

pub returns-in_err-bytes-clause-err : goal.returns-in_err-bytes-clause-err
returns-in_err-bytes-clause-err g c =
    let p = err_from_is_err_and c.from_residual.result c.from_residual.ensures.1 in
    rw (p.1, p.2) (inr c.in_err-bytes.ensures.err, none-added _ _)

pub returns-in_err-make_first-clause-err : goal.returns-in_err-make_first-clause-err
returns-in_err-make_first-clause-err g c =
    let p = err_from_is_err_and c.from_residual-in_err-make_first.result c.from_residual-in_err-make_first.ensures.1 in
    rw (p.1, p.2) (
      c.in_err-make_first.ensures.err.0,
      data-part _ _ c.args.image.now (disk_image c.args.disk.now) c.args.number c.args.file.now _
          (c.as_slice.ensures.value ∙ c.in_ok-bytes.ensures.ok) c.in_err-make_first.ensures.err.1,
    )

pub make_records-requires : goal.make_records-requires
make_records-requires g c = record {
  short = omega (arith, ap length c.as_slice-2.ensures.value, c.in_ok-bytes.ensures.short);
}

pub returns-in_err-make_records-clause-err : goal.returns-in_err-make_records-clause-err
returns-in_err-make_records-clause-err g c =
    let p = err_from_is_err_and c.from_residual-in_err-make_records.result c.from_residual-in_err-make_records.ensures.1 in
    rw (p.1, p.2) (
      c.in_err-make_records.ensures.err.0,
      lines-part _ _ _ c.args.image.now (disk_image c.args.disk.now) c.args.number c.args.file.now _ _
          (c.as_slice.ensures.value ∙ c.in_ok-bytes.ensures.ok)
          (c.as_slice-2.ensures.value ∙ c.in_ok-bytes.ensures.ok) c.in_ok-make_first.ensures.ok
          c.in_err-make_records.ensures.err.1,
    )

pub returns-clause-ok : goal.returns-clause-ok
returns-clause-ok g c = (
  c.in_ok-bytes.ensures.ok,
  both-made _ _ _ c.args.image.now (disk_image c.args.disk.now) c.args.number c.args.file.now _ _
      (c.as_slice.ensures.value ∙ c.in_ok-bytes.ensures.ok)
      (c.as_slice-2.ensures.value ∙ c.in_ok-bytes.ensures.ok) c.in_ok-make_first.ensures.ok
      c.in_ok-make_records.ensures.ok,
)
