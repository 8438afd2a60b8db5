-- The object isn't deep, and is that of the image's directory.
use Rattle.std.proofs.Common.{◌≤◌, ◌∙◌, ap, ap₂, subst, sym}
use Rattle.std.proofs.lemmas.Result.{on_ok_weaker}
use Rattle.d64_image.specs.Images.{Image, sector}
use Rattle.d64_image.specs.Memory.{disk_image}
use Rattle.disk_layout.specs.Directory.{IsDirectory, map_place}
use Rattle.json_looks.proofs.Depths.{list-flat}
use Rattle.json_looks.specs.Listings.{list_data}
use Rattle.json_looks.specs.Objects.{IsObjectPrinted}
use Rattle.serde_json.specs.Data.{Data, depth}
use Rattle.json_looks.proofs.listings.list_object.Goals as goal

pub print_object-requires : goal.print_object-requires
print_object-requires g c =
    subst (λ (d : Data). depth d ≤ 127) (sym c.in-Ok.ensures)
    (list-flat c.args.name.now c.sector.result.now c.as_slice.result.now)

pub returns-clause-ok : goal.returns-clause-ok
returns-clause-ok g c =
    let loaded = c.in_ok-disk.ensures.ok in
    let found = c.in_default.ensures.ok in
    let here = c.sector.ensures ∙ ap (sector (disk_image c.read_directory.new.disk)) c.map_place.ensures
    ∙ ap (λ (i : Image). sector i map_place) (c.read_directory.ensures.reads.image ∙ loaded.1) in
    let shown = c.in-Ok.ensures ∙ ap₂ (list_data c.args.name.now) here c.as_slice.ensures.value in
    on_ok_weaker c.print_object.result (λ printed. record {
      size = loaded.0;
      sectors = found.0;
      entries = c.read_directory.new.slots.items;
      directory = subst (λ (i : Image). IsDirectory i found.0 c.read_directory.new.slots.items) loaded.1 found.1;
      printed = subst (λ (d : Data). IsObjectPrinted g.W.Write.contents d c.args.out.now c.print_object.new.out) shown printed;
    }) c.print_object.ensures.ok
