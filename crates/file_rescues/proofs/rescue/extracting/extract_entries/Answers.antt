-- The files of one entry more.
use Rattle.std.proofs.Common.{◌+◌, ◌++◌, List, Option, ap, arith, refl, subst, sym, ◌≡◌, ◌∙◌}
use Rattle.std.specs.Option.{option_or}
use Rattle.std.proofs.lemmas.Result.{err_from_is_err_and}
use Rattle.std.proofs.lemmas.List.{take_all}
use Rattle.d64_image.specs.Memory.{disk_image}
use Rattle.disk_layout.specs.declared.faults.Fault.{Fault}
use Rattle.file_rescues.proofs.lemmas.rescue.Made.{fault-more, made-more, made-part, no-fault, no-files, no-rows, rows-more}
use Rattle.file_rescues.proofs.lemmas.rescue.Reached.{rescued-at}
use Rattle.file_rescues.specs.rescue.Errors.{errors_of}
use Rattle.file_rescues.specs.rescue.Folders.{AddsFiles}
use Rattle.file_rescues.specs.rescue.Index.{row_text}
use Rattle.file_rescues.specs.rescue.Rescues.{fault_of, files_from, first_fault, rows_from}
use Rattle.file_rescues.specs.rescue.Sharing.{first_past}
use Rattle.file_rescues.specs.declared.rescue.rescuing.Rescued.{Rescued}
use Rattle.file_rescues.specs.declared.rescue.rows.Row.{Row}
use Rattle.file_rescues.proofs.rescue.extracting.extract_entries.Goals as goal

pub loop-file-init : goal.loop-file-init
loop-file-init g c = record {
  number_is = refl;
  made = no-files (g.F.NewFolder.files c.args.folder.now) c.args.image.now (disk_image c.args.disk.now) c.args.files.now;
  rows = λ all counts. no-rows c.args.image.now (disk_image c.args.disk.now) all c.args.shared.now c.args.index.now.items c.args.files.now;
  told = λ all counts. no-fault c.args.image.now (disk_image c.args.disk.now) all c.args.before c.args.files.now;
}

pub overflow_add-number : goal.overflow_add-number
overflow_add-number g c = omega (arith, c.requires.few, c.loop-file.invariant.number_is, c.loop-file-test.true)

pub extract_entry-requires : goal.extract_entry-requires
extract_entry-requires g c = record {
  rescued = rescued-at c.args.image.now (disk_image c.args.disk.now) c.args.files.now c.loop-file.file-index c.file-item.result
      c.requires.rescued c.loop-file-test.true c.file-item.is;
}

pub loop-file-preserved : goal.loop-file-preserved
loop-file-preserved g c =
    let old = c.loop-file.invariant in
    let next : c.loop-file.number + 1 ≡ c.loop-file.file-index + 1 = omega (arith, old.number_is) in
    record {
      number_is = next;
      made = made-more _ _ _ c.args.image.now (disk_image c.args.disk.now) c.loop-file.file-index (c.loop-file.number + 1) c.args.files.now
          c.file-item.result c.loop-file-test.true (sym c.file-item.is) next old.made
          (c.in_ok-row.ensures.ok);
      rows = λ all counts. rows-more c.args.image.now (disk_image c.args.disk.now) all c.args.shared.now c.loop-file.file-index (c.loop-file.number + 1)
          c.args.files.now c.file-item.result c.args.index.now.items c.loop-file.index.items _ c.loop-file-test.true
          (sym c.file-item.is) next (old.rows all counts)
          (c.in_ok-row.ensures.index ∙ ap (λ (r : Row). c.loop-file.index.items
          ++ row_text r (first_past c.args.shared.now c.file-item.result) (errors_of c.args.image.now c.file-item.result))
          ((c.in_ok-row.ensures.row all counts)));
      told = λ all counts. c.or-found.ensures
          ∙ ap (λ (o : Option Fault). option_or c.loop-file.found o)
          (c.fault.ensures ∙ ap fault_of ((c.in_ok-row.ensures.row all counts)))
          ∙ fault-more c.args.image.now (disk_image c.args.disk.now) all c.loop-file.file-index (c.loop-file.number + 1)
          c.args.files.now c.file-item.result c.args.before c.loop-file.found c.loop-file-test.true
          (sym c.file-item.is) next (old.told all counts);
    }

pub returns-in_err-row : goal.returns-in_err-row
returns-in_err-row g c =
    let old = c.loop-file.invariant in
    let p = err_from_is_err_and c.from_residual.result c.from_residual.ensures.1 in
    record {
      made = rw p.1 tt;
      rows = rw p.1 tt;
      told = rw p.1 tt;
      err = rw (p.1, p.2) (
        c.in_err-row.ensures.err.0,
        made-part _ _ _ c.args.image.now (disk_image c.args.disk.now) c.loop-file.file-index (c.loop-file.number + 1) c.args.files.now
            c.file-item.result c.loop-file-test.true (sym c.file-item.is) (omega (arith, old.number_is)) old.made
            (c.in_err-row.ensures.err.1),
      );
    }

pub returns : goal.returns
returns g c =
    let img = disk_image c.args.disk.now in
    let all_of = take_all c.loop-file.file-index c.args.files.now c.loop-file-test.false in
    record {
      made = subst (λ (fs : List Rescued). AddsFiles (g.F.NewFolder.files c.args.folder.now)
          (g.F.NewFolder.files c.loop-file.folder) (files_from c.args.image.now img 1 fs)) all_of c.loop-file.invariant.made;
      rows = λ all counts. subst (λ (fs : List Rescued). c.loop-file.index.items
          ≡ c.args.index.now.items ++ rows_from c.args.image.now img all c.args.shared.now 1 fs) all_of (c.loop-file.invariant.rows all counts);
      told = λ all counts. subst (λ (fs : List Rescued). c.loop-file.found ≡ first_fault c.args.image.now img all 1 c.args.before fs)
          all_of (c.loop-file.invariant.told all counts);
      err = tt;
    }
