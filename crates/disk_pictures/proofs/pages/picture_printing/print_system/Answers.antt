-- The map and the directory in a group.
use Rattle.std.proofs.Common.{◌++◌, sym, ◌∙◌}
use Rattle.std.specs.Prelude.{codes}
use Rattle.std.specs.Fmt.{digits}
use Rattle.std.proofs.lemmas.List.{take_all}
use Rattle.std.proofs.lemmas.Result.{on_ok_weaker}
use Rattle.disk_pictures.proofs.Printing.{begun-flat, begun-flat-more, ended-flat}
use Rattle.disk_pictures.specs.Pictures.{directory_arc, map_arc, ring_text, system_group}
use Rattle.disk_pictures.proofs.pages.picture_printing.print_system.Goals as goal

pub loop-place-init : goal.loop-place-init
unfolding map_arc ring_text digits
loop-place-init g c = begun-flat directory_arc _ _ (codes "<g id=\"m\">\n" ++ map_arc) c.in_ok-print_text.ensures.ok

pub loop-place-preserved : goal.loop-place-preserved
unfolding directory_arc
loop-place-preserved g c = begun-flat-more directory_arc _ _ _ (codes "<g id=\"m\">\n" ++ map_arc) _
    c.loop-place.place-index c.place-item.result c.loop-place-test.true (sym c.place-item.is)
    c.loop-place.invariant c.in_ok-print_text-2.ensures.ok

pub returns-clause-ok : goal.returns-clause-ok
unfolding system_group
returns-clause-ok g c = on_ok_weaker c.print_text-2.result
    (λ end. ended-flat directory_arc _ _ _ (codes "<g id=\"m\">\n" ++ map_arc) _ _ _
    (take_all _ c.as_slice-place-items.result.now c.loop-place-test.false ∙ c.as_slice-place-items.ensures.value)
    c.loop-place.invariant end) c.print_text-2.ensures.ok
