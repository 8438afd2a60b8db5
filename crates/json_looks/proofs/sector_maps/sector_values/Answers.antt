-- One sector more.
use Rattle.std.proofs.Common.{ap, map}
use Rattle.disk_pictures.specs.Held.{drawn_in}
use Rattle.json_looks.specs.SectorMaps.{sector_data}
use Rattle.serde_json.specs.View.{view}
use Rattle.json_looks.proofs.Gathered.{all-places, next-place}
use Rattle.json_looks.proofs.sector_maps.sector_values.Goals as goal

pub loop-index-init : goal.loop-index-init
loop-index-init c = ap (map view) c.new-values.ensures.items

pub loop-index-preserved : goal.loop-index-preserved
loop-index-preserved c =
    next-place (sector_data c.args.image.now c.args.drawing.now.map (drawn_in c.args.drawing.now)) c.loop-index.index c.nth.result
    c.loop-index.values.items c.push.new.self.items c.in_ok-sector_value.field-0 c.nth.ensures c.in_ok-sector_value.ensures
    c.in_ok-push.ensures.items c.loop-index.invariant

pub returns : goal.returns
returns c =
    all-places (sector_data c.args.image.now c.args.drawing.now.map (drawn_in c.args.drawing.now)) c.loop-index.index
    c.loop-index.values.items c.loop-index-test.false c.loop-index.invariant
