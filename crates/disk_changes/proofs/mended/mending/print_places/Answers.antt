-- A sector's line was printed after the others.
use Rattle.std.proofs.Common.{Err, List, ap, refl, subst, ◌∙◌}
use Rattle.std.proofs.KnownBytes.{Appends-nil}
use Rattle.std.proofs.lemmas.Result.{err_from_is_err_and}
use Rattle.std.specs.Prelude.{flat_map}
use Rattle.std.specs.Io.KnownBytes.{Appends}
use Rattle.d64_image.proofs.Moments.{no_write, no_write_then}
use Rattle.d64_image.proofs.Order.{all-taken}
use Rattle.d64_image.specs.Memory.{disk_image}
use Rattle.d64_image.specs.declared.place.Place.{Place}
use Rattle.disk_changes.proofs.lemmas.mended.Mendings.{place-more, place-part, tells-after}
use Rattle.disk_changes.specs.mended.Repairs.{mended_at}
use Rattle.disk_changes.proofs.mended.mending.print_places.Goals as goal

pub loop-index-init : goal.loop-index-init
loop-index-init g c = record {
  printed = Appends-nil _;
  quiet = no_write g.D.Sectors.history c.args.after.now;
  failures = refl;
}

pub loop-index-preserved : goal.loop-index-preserved
loop-index-preserved g c =
    let so_far = c.loop-index.invariant in
    let done = c.in_ok-print_place.ensures in record {
      printed = place-more _ _ _ _ _ _ _ _ so_far.quiet.image c.loop-index.index c.nth.result c.nth.ensures
          so_far.printed done.ok;
      quiet = no_write_then g.D.Sectors.history _ _ _ so_far.quiet done.quiet;
      failures = done.told ∙ so_far.failures;
    }

pub returns-in_err-print_place-clause-quiet : goal.returns-in_err-print_place-clause-quiet
returns-in_err-print_place-clause-quiet g c = no_write_then g.D.Sectors.history _ _ _ c.loop-index.invariant.quiet
    c.print_place.ensures.quiet

pub returns-in_err-print_place-clause-told : goal.returns-in_err-print_place-clause-told
returns-in_err-print_place-clause-told g c =
    let p = err_from_is_err_and c.from_residual.result c.from_residual.ensures.1 in
    rw (p.1 ∙ ap Err p.2) (tells-after {T = Unit} g.D.Sectors.history _ _ _ (Err c.in_err-print_place.field-0.0)
    c.loop-index.invariant.failures c.in_err-print_place.ensures.told)

pub returns-in_err-print_place-clause-part : goal.returns-in_err-print_place-clause-part
returns-in_err-print_place-clause-part g c =
    let so_far = c.loop-index.invariant in
    let p = err_from_is_err_and c.from_residual.result c.from_residual.ensures.1 in
    rw (p.1 ∙ ap Err p.2) (place-part _ _ _ _ _ _ _ _ so_far.quiet.image c.loop-index.index c.nth.result c.nth.ensures
    so_far.printed c.in_err-print_place.ensures.part)

pub returns-clause-ok : goal.returns-clause-ok
returns-clause-ok g c =
    let maps = c.args.maps.now in
    subst (λ (ps : List Place). Appends (g.W.Write.contents c.args.out.now) (g.W.Write.contents c.loop-index.out)
    (flat_map (mended_at (disk_image c.args.before.now) (g.D.Sectors.history.image c.args.after.now) maps.had maps.has)
    ps)) (all-taken c.loop-index.index c.loop-index-test.false) c.loop-index.invariant.printed
