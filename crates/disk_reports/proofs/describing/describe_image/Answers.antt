-- What the disk in memory holds is the image, which was judged.
use Rattle.std.proofs.Common.{ap, refl, subst, ◌∙◌}
use Rattle.std.proofs.lemmas.Result.{err_from_is_err_and}
use Rattle.std.specs.Io.KnownBytes.{Appends}
use Rattle.d64_image.specs.Images.{Image, Sector, sector}
use Rattle.d64_image.specs.Memory.{disk_image}
use Rattle.damaged_files.specs.cut.Told.{IsShortfallOf}
use Rattle.disk_layout.specs.Directory.{map_place}
use Rattle.disk_reports.specs.Rows.{row_text}
use Rattle.command_faults.proofs.Loads.{by-load}
use Rattle.disk_layout.specs.Clean.{IsVerdict}
use Rattle.disk_reports.specs.Outcomes.{IsDescribeFault}
use Rattle.disk_reports.proofs.describing.describe_image.Goals as goal

pub returns-in_err-disk : goal.returns-in_err-disk
returns-in_err-disk g c =
    let p = err_from_is_err_and c.from_residual.result c.from_residual.ensures.1 in record {
      ok = rw p.1 tt;
      err = rw (p.1, p.2) (by-load c.args.image.now (IsDescribeFault c.args.image.now)
          (λ told. told) (λ told. told) _ c.in_err-disk.ensures.err);
      untouched = rw p.1 (λ _. refl);
    }

pub returns-in-Ok : goal.returns-in-Ok
returns-in-Ok g c =
    let loaded = c.in_ok-disk.ensures.ok in
    let found = c.verdict-found.result in
    let judged = c.verdict-found.ensures.same ∙ loaded.1 in
    let lack = c.find_shortfall-lack.result in
    let map = c.sector.ensures ∙ ap (sector (disk_image c.find_shortfall-lack.new.disk)) c.map_place.ensures
    ∙ ap (λ (i : Image). sector i map_place) (c.find_shortfall-lack.ensures.same ∙ judged) in
    record {
      ok = record {
        size = loaded.0;
        verdict = subst (λ (i : Image). IsVerdict i found) loaded.1 c.verdict-found.ensures.verdict;
        lack = lack;
        lacks = subst (λ (i : Image). IsShortfallOf i lack) judged c.find_shortfall-lack.ensures.told;
        printed = subst (λ (m : Sector). Appends (g.W.Write.contents c.args.out.now) (g.W.Write.contents c.print_row.new.out)
            (row_text c.args.name.now found m lack c.args.image.now)) map c.in-Ok.ensures;
      };
      err = tt;
      untouched = tt;
    }

pub returns : goal.returns
returns g c = record { ok = tt; err = c.in_ok-disk.ensures.ok.0; untouched = λ other. absurd (other refl) }
