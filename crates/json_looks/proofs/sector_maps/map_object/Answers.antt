-- The object isn't deep, and is that of what was drawn.
use Rattle.std.proofs.Common.{◌≤◌, ◌∙◌, List, ap, subst, sym, ℕ}
use Rattle.std.proofs.lemmas.Result.{err_from_is_err_and}
use Rattle.d64_image.specs.Images.{Sector}
use Rattle.disk_pictures.specs.Held.{drawn_in}
use Rattle.disk_pictures.specs.Outcomes.{IsDrawnAndJudged, map_in}
use Rattle.json_looks.proofs.Depths.{map-flat}
use Rattle.json_looks.proofs.Whole.{drawn-why}
use Rattle.json_looks.specs.Objects.{IsObjectPrinted}
use Rattle.json_looks.specs.SectorMaps.{map_data}
use Rattle.serde_json.specs.Data.{Data, depth}
use Rattle.json_looks.proofs.sector_maps.map_object.Goals as goal

pub print_object-requires : goal.print_object-requires
print_object-requires g c =
    subst (λ (d : Data). depth d ≤ 127) (sym c.in-Ok.ensures)
    (map-flat c.args.name.now c.args.image.now c.in_ok-drawing.verdict c.in_ok-drawing.drawing.map (drawn_in c.in_ok-drawing.drawing))

pub returns-in_err-print_object-clause-err : goal.returns-in_err-print_object-clause-err
returns-in_err-print_object-clause-err g c =
    let p = err_from_is_err_and c.from_residual-in_err-print_object.result c.from_residual-in_err-print_object.ensures.1 in
    let drawn = drawn_in c.in_ok-drawing.drawing in
    rw (p.1, p.2) (drawn-why _ drawn c.in_ok-drawing.verdict
    (subst (λ (disk : List ℕ). IsDrawnAndJudged disk drawn c.in_ok-drawing.verdict) c.disk_in.ensures
    c.in_ok-drawing.ensures.ok.judged) _ c.in_err-print_object.ensures.err)

pub returns-clause-ok : goal.returns-clause-ok
returns-clause-ok g c =
    let drawn = drawn_in c.in_ok-drawing.drawing in
    let verdict = c.in_ok-drawing.verdict in
    let map = c.in_ok-drawing.ensures.ok.map ∙ ap map_in c.disk_in.ensures in
    let shown = c.in-Ok.ensures ∙ ap (λ (m : Sector). map_data c.args.name.now c.args.image.now verdict m drawn) map in
    record {
      verdict = verdict;
      drawn = drawn;
      judged = subst (λ (disk : List ℕ). IsDrawnAndJudged disk drawn verdict) c.disk_in.ensures c.in_ok-drawing.ensures.ok.judged;
      printed = subst (λ (d : Data). IsObjectPrinted g.W.Write.contents d c.args.out.now c.print_object.new.out) shown
          c.in_ok-print_object.ensures.ok;
      told = c.is_whole.ensures;
    }
