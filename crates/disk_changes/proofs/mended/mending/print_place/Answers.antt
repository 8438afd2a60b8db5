-- The two sectors were compared, and the line was printed where they are otherwise.
use Rattle.std.proofs.Common.{List, ℕ, lit≤, subst, sym}
use Rattle.std.specs.Prelude.{OnErr, OnOk}
use Rattle.std.specs.Io.KnownBytes.{Appends}
use Rattle.d64_image.proofs.Moments.{reads_no_write}
use Rattle.disk_changes.proofs.lemmas.mended.Mendings.{as-told, failed-there, other-line, same-line, tells-output}
use Rattle.command_faults.proofs.Parts.{part-none}
use Rattle.file_rescues.proofs.Printing.{not-err}
use Rattle.command_faults.specs.Outputs.{HandsPart}
use Rattle.disk_changes.proofs.mended.mending.print_place.Goals as goal

pub returns-then-is_err : goal.returns-then-is_err
returns-then-is_err g c = record {
  ok = tt;
  part = part-none _ _;
  quiet = reads_no_write g.D.Sectors.history _ _ 1 c.read.ensures.reads;
  told = failed-there g.D.Sectors.history _ _ c.read.result (sym c.if-is_err.ensures.value) c.read.ensures.failures;
}

pub eq-requires : goal.eq-requires
eq-requires g c = lit≤ tt

pub returns-then-eq : goal.returns-then-eq
returns-then-eq g c =
    let a = g.W.Write.contents c.args.out.now in
    let b = g.W.Write.contents c.print_freed.new.out in
    let line = same-line _ _ _ _ _ _ _
    c.sector.ensures
    (not-err c.read.result (sym c.if-is_err.ensures.value) c.read.ensures.sector) c.if-eq.ensures in
    record {
      ok = subst (λ (bs : List ℕ). OnOk c.print_freed.result (Appends a b bs)) line c.print_freed.ensures.ok;
      part = subst (λ (bs : List ℕ). OnErr c.print_freed.result (HandsPart a b bs)) line c.print_freed.ensures.part;
      quiet = reads_no_write g.D.Sectors.history _ _ 1 c.read.ensures.reads;
      told = tells-output g.D.Sectors.history _ _ c.print_freed.result (as-told g.D.Sectors.history _ _ c.read.result
          (sym c.if-is_err.ensures.value) c.read.ensures.failures) c.print_freed.ensures.err;
    }

pub returns : goal.returns
returns g c =
    let a = g.W.Write.contents c.args.out.now in
    let b = g.W.Write.contents c.print_about.new.out in
    let line = other-line _ _ _ _ _ _ _
    c.sector.ensures
    (not-err c.read.result (sym c.if-is_err.ensures.value) c.read.ensures.sector) c.if-eq.ensures in
    record {
      ok = subst (λ (bs : List ℕ). OnOk c.print_about.result (Appends a b bs)) line c.print_about.ensures.ok;
      part = subst (λ (bs : List ℕ). OnErr c.print_about.result (HandsPart a b bs)) line c.print_about.ensures.part;
      quiet = reads_no_write g.D.Sectors.history _ _ 1 c.read.ensures.reads;
      told = tells-output g.D.Sectors.history _ _ c.print_about.result (as-told g.D.Sectors.history _ _ c.read.result
          (sym c.if-is_err.ensures.value) c.read.ensures.failures) c.print_about.ensures.err;
    }
