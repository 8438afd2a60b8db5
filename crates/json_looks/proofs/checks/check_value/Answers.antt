-- The object is that of what was found.
use Rattle.std.proofs.Common.{◌≡◌, ◌∙◌, Option, ap}
use Rattle.std.specs.Prelude.{option_map}
use Rattle.std.proofs.lemmas.Result.{IfOk-weaker}
use Rattle.d64_image.specs.declared.place.Place.{Place}
use Rattle.disk_layout.specs.Texts.{place_text}
use Rattle.disk_pictures.specs.Held.{drawn_in}
use Rattle.json_looks.specs.Checks.{check_data}
use Rattle.json_looks.specs.Missing.{string_if}
use Rattle.json_looks.proofs.Whole.{check-same}
use Rattle.serde_json.specs.View.{view}
use Rattle.json_looks.proofs.checks.check_value.Goals as goal

pub returns : goal.returns
returns c =
    let finding = c.args.finding in
    let fewer = c.in_ok-fewer.ensures ∙ ap (λ (p : Option Place). string_if (option_map place_text p)) c.fewer_place.ensures in
    let short = c.in_ok-short.ensures ∙ ap (λ (p : Option Place). string_if (option_map place_text p)) c.short_place.ensures in
    IfOk-weaker c.object_with.result _
    (λ value. view value ≡ check_data c.args.name.now c.args.image.now finding.found finding.files.now finding.map.now finding.lack
    (option_map (λ drawn. drawn_in drawn.now) finding.drawing))
    (λ value is. is ∙ check-same _ _ _ _ _ _ _ _ _ _ _ _ _ _ _ _ _ _ _ c.in_ok-beyond.ensures c.in_ok-errors.ensures
    c.in_ok-files.ensures fewer short) c.object_with.ensures
