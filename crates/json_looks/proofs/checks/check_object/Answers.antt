-- The object isn't deep, and is that of what was found on the image's first tracks.
use Rattle.std.proofs.Common.{◌≡◌, ◌≤◌, ◌∙◌, List, ap, ap₂, subst, sym, ℕ}
use Rattle.std.specs.Prelude.{option_map, take}
use Rattle.d64_image.specs.Images.{Image, Sector, sector}
use Rattle.d64_image.specs.Memory.{disk_image, sectors_in}
use Rattle.damaged_files.specs.cut.Told.{IsShortfallOf}
use Rattle.damaged_files.specs.reached.Sizes.{disk_of}
use Rattle.disk_layout.specs.Clean.{IsVerdict}
use Rattle.disk_layout.specs.Directory.{map_place}
use Rattle.disk_layout.specs.declared.slot.Slot.{Slot}
use Rattle.disk_pictures.specs.Held.{drawn_in}
use Rattle.disk_pictures.specs.Missing.{IsDrawnOf}
use Rattle.disk_pictures.specs.Outcomes.{map_in}
use Rattle.disk_reports.specs.Outcomes.{AreFound}
use Rattle.json_looks.proofs.Depths.{check-flat}
use Rattle.json_looks.proofs.Whole.{drawn-beside, first-tracks}
use Rattle.json_looks.specs.Checks.{check_data}
use Rattle.json_looks.specs.Objects.{IsObjectPrinted}
use Rattle.serde_json.specs.Data.{Data, depth}
use Rattle.json_looks.proofs.checks.check_object.Goals as goal

pub print_object-requires : goal.print_object-requires
print_object-requires g c =
    let drawn = option_map (λ drawn. drawn_in drawn.now) c.drawing_in.result in
    subst (λ (d : Data). depth d ≤ 127) (sym c.in-Ok.ensures)
    (check-flat c.args.name.now c.args.image.now c.verdict-found.result c.as_slice.result.now c.sector.result.now
    c.find_shortfall-lack.result drawn)

pub returns-clause-ok : goal.returns-clause-ok
returns-clause-ok g c =
    let image = c.args.image.now in
    let sized = c.in-Some.ensures in
    let disk : disk_of image ≡ take 174848 image = first-tracks image sized.0 in
    let loaded = c.in_ok-disk.ensures.ok in
    let found = c.verdict-found.result in
    let lack = c.find_shortfall-lack.result in
    let held = loaded.1 ∙ ap sectors_in (sized.1 ∙ sym disk) in
    let judged = c.verdict-found.ensures.same ∙ held in
    let listed = c.list_files.ensures.same ∙ judged in
    let map = c.sector.ensures ∙ ap (sector (disk_image c.find_shortfall-lack.new.disk)) c.map_place.ensures
    ∙ ap (λ (i : Image). sector i map_place) (c.find_shortfall-lack.ensures.same ∙ listed) in
    let drawn = option_map (λ drawn. drawn_in drawn.now) c.drawing_in.result in
    let shown = c.in-Ok.ensures
    ∙ ap₂ (λ (files : List Slot) (m : Sector). check_data c.args.name.now image found files m lack drawn) c.as_slice.ensures.value map in
    record {
      size = sized.0;
      found = found;
      verdict = subst (λ (i : Image). IsVerdict i found) held c.verdict-found.ensures.verdict;
      files = c.list_files.new.files.items;
      concerned = subst (λ (i : Image). AreFound i found c.list_files.new.files.items) judged c.list_files.ensures.files;
      lack = lack;
      lacks = subst (λ (i : Image). IsShortfallOf i lack) listed c.find_shortfall-lack.ensures.told;
      drawn = drawn;
      is_drawn = subst (IsDrawnOf image) (sym c.drawing_in.ensures)
          (drawn-beside image c.in-Some.tracks.now sized.1 c.in_ok-drawn.drawn c.in_ok-drawn.ensures.ok);
      printed = subst (λ (d : Data). IsObjectPrinted g.W.Write.contents d c.args.out.now c.print_object.new.out) shown
          c.in_ok-print_object.ensures.ok;
      told = c.is_clean.ensures;
    }
