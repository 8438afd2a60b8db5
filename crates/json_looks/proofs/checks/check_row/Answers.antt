-- The row is that of what was found on the image's first tracks.
use Rattle.std.proofs.Common.{◌≡◌, ◌∙◌, List, ap, ap₂, subst, sym, ℕ}
use Rattle.std.specs.Prelude.{length, option_map, take}
use Rattle.std.specs.Io.KnownBytes.{Appends}
use Rattle.d64_image.specs.Images.{Image, Sector, sector}
use Rattle.d64_image.specs.Memory.{disk_image, sectors_in}
use Rattle.damaged_files.specs.cut.Told.{IsShortfallOf}
use Rattle.damaged_files.specs.reached.Sizes.{disk_of}
use Rattle.disk_layout.specs.Clean.{IsVerdict}
use Rattle.disk_layout.specs.Directory.{map_place}
use Rattle.disk_pictures.specs.Held.{drawn_in}
use Rattle.disk_pictures.specs.Missing.{IsDrawnOf}
use Rattle.disk_pictures.specs.Outcomes.{map_in}
use Rattle.disk_reports.specs.Rows.{row_as_is}
use Rattle.json_looks.proofs.Whole.{drawn-beside, first-tracks}
use Rattle.json_looks.specs.Missing.{beyond_items, error_items}
use Rattle.json_looks.proofs.checks.check_row.Goals as goal

pub returns-clause-ok : goal.returns-clause-ok
returns-clause-ok g c =
    let image = c.args.image.now in
    let name = c.args.name.now in
    let sized = c.in-Some.ensures in
    let disk : disk_of image ≡ take 174848 image = first-tracks image sized.0 in
    let loaded = c.in_ok-disk.ensures.ok in
    let found = c.verdict-found.result in
    let lack = c.find_shortfall-lack.result in
    let held = loaded.1 ∙ ap sectors_in (sized.1 ∙ sym disk) in
    let judged = c.verdict-found.ensures.same ∙ held in
    let map = c.sector-map.ensures ∙ ap (sector (disk_image c.find_shortfall-lack.new.disk)) c.map_place.ensures
    ∙ ap (λ (i : Image). sector i map_place) (c.find_shortfall-lack.ensures.same ∙ judged) in
    let drawn = option_map (λ drawn. drawn_in drawn.now) c.drawing_in-drawing.result in
    let missing = c.in-Ok.missing in
    let text = ap (λ (n : List ℕ). row_as_is n found c.sector-map.result.now lack image missing.errors missing.beyond)
    c.as_bytes.ensures.value
    ∙ ap (λ (m : Sector). row_as_is name found m lack image missing.errors missing.beyond) map
    ∙ ap₂ (λ (e b : ℕ). row_as_is name found (map_in (disk_of image)) lack image e b) c.in-Ok.ensures.0 c.in-Ok.ensures.1 in
    record {
      size = sized.0;
      found = found;
      verdict = subst (λ (i : Image). IsVerdict i found) held c.verdict-found.ensures.verdict;
      lack = lack;
      lacks = subst (λ (i : Image). IsShortfallOf i lack) judged c.find_shortfall-lack.ensures.told;
      drawn = drawn;
      is_drawn = subst (IsDrawnOf image) (sym c.drawing_in-drawing.ensures)
          (drawn-beside image c.in-Some.tracks.now sized.1 c.in_ok-drawn.drawn c.in_ok-drawn.ensures.ok);
      printed = subst (λ (t : List ℕ). Appends (g.W.Write.contents c.args.out.now) (g.W.Write.contents c.describe_as_is.new.out) t)
          text c.in_ok-describe_as_is.ensures.ok;
      told = c.is_clean.ensures;
    }
