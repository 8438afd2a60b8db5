-- The object is that of what is drawn.
use Rattle.std.proofs.Common.{◌≡◌, ◌∙◌, List, ap, map, sym, ℕ}
use Rattle.std.specs.Prelude.{flat_map, option_map}
use Rattle.std.proofs.lemmas.Result.{IfOk-weaker}
use Rattle.disk_layout.specs.Layout.{File}
use Rattle.disk_layout.specs.Texts.{place_text}
use Rattle.disk_pictures.specs.Drawings.{file_in}
use Rattle.disk_pictures.specs.Held.{drawn_in}
use Rattle.disk_pictures.specs.declared.drawn_file.DrawnFile.{DrawnFile}
use Rattle.json_looks.specs.Entries.{entry_data}
use Rattle.json_looks.specs.Missing.{past_items}
use Rattle.json_looks.specs.SectorMaps.{map_data, map_with}
use Rattle.json_looks.proofs.Gathered.{map-twice}
use Rattle.json_looks.proofs.Whole.{map-same}
use Rattle.serde_json.specs.Data.{Data}
use Rattle.serde_json.specs.View.{view}
use Rattle.json_looks.proofs.sector_maps.map_value.Goals as goal

pub returns : goal.returns
returns c =
    let image = c.args.image.now in
    let l = drawn_in c.args.drawing.now in
    let beyond = c.in_ok-beyond.ensures
    ∙ ap (λ (fs : List DrawnFile). flat_map (past_items image) (map file_in fs)) c.as_slice.ensures.value in
    let entry : File → Data = λ f. entry_data f.slot in
    let files = c.in_ok-files.ensures ∙ ap (map (λ (file : DrawnFile). entry_data file.slot)) c.as_slice-2.ensures.value
    ∙ sym (map-twice entry file_in c.args.drawing.now.files.items) in
    IfOk-weaker c.map_of.result _ (λ value. view value ≡ map_data c.args.name.now image c.args.verdict c.args.drawing.now.map l)
    (λ value is. is ∙ map-same c.args.name.now _ _ _ _ _ _ _ _ c.args.verdict.found beyond files c.in_ok-sectors.ensures
    c.in_ok-short.ensures) c.map_of.ensures
