-- The objects of all sectors that weren't read.
use Rattle.std.proofs.Common.{◌++◌, ap, map, ◌∙◌}
use Rattle.std.proofs.lemmas.Result.{on_ok_weaker}
use Rattle.std.specs.Prelude.{flat_map, option_map}
use Rattle.disk_pictures.specs.Held.{drawn_in}
use Rattle.disk_pictures.specs.PastErrors.{entry_past}
use Rattle.json_looks.specs.Missing.{past_error_item}
use Rattle.long_chains.specs.Sectors.{error_in}
use Rattle.serde_json.specs.View.{view}
use Rattle.json_looks.proofs.missing.add_past_errors.Goals as goal

pub returns : goal.returns
returns c =
    let image = c.args.image.now in
    let drawn = option_map (λ drawn. drawn_in drawn.now) c.args.drawing in
    on_ok_weaker c.add_errors_at.result
    (λ more. more ∙ ap (λ ns. map view c.args.values.now.items
    ++ flat_map (λ n. past_error_item n (entry_past image drawn n) (error_in image n)) ns)
    (c.as_slice.ensures.value ∙ c.misread_past-misread.ensures)) c.add_errors_at.ensures
