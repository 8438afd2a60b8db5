-- A free sector of nobody, or one that is taken in the map.
use Rattle.std.proofs.Common.{◌≡◌, Bool, false, refl, rules, subst, sym, true, ◌∙◌}
use Rattle.std.specs.Prelude.{if◌then◌else◌}
use Rattle.std.specs.Io.KnownBytes.{Appends}
use Rattle.std.proofs.lemmas.Result.{on_ok_weaker}
use Rattle.d64_image.specs.Images.{Sector}
use Rattle.d64_image.specs.declared.place.Place.{Place}
use Rattle.disk_layout.specs.Layout.{Layout}
use Rattle.disk_pictures.specs.Drawings.{owner_of}
use Rattle.disk_pictures.specs.Pictures.{free_arc, lost_arc, other_arc}
use Rattle.disk_pictures.specs.Texts.{is_free}
use Rattle.disk_pictures.specs.declared.owners.Owner.TheVariants as owner
use Rattle.disk_pictures.proofs.pages.others.print_other.Goals as goal

nobodys : (map : Sector) (l : Layout) (p : Place) (free : Bool) → owner.Nobody ≡ owner_of l p → is_free map p ≡ free
    → (if free then free_arc p else lost_arc p) ≡ other_arc map l p
nobodys map l p free nobody is = rw (← nobody, is) refl

pub returns-then-free-clause-ok : goal.returns-then-free-clause-ok
unfolding free_arc
returns-then-free-clause-ok g c =
    let free : is_free c.args.drawing.now.map c.args.place ≡ true = search rules in
    on_ok_weaker c.print_text.result
    (subst (Appends _ _) (nobodys _ _ c.args.place true (sym c.in-Nobody.is ∙ c.owner.ensures) free)) c.print_text.ensures.ok

pub returns-else-free-clause-ok : goal.returns-else-free-clause-ok
unfolding lost_arc
returns-else-free-clause-ok g c =
    let taken : is_free c.args.drawing.now.map c.args.place ≡ false = search rules in
    on_ok_weaker c.print_text-else-free.result
    (subst (Appends _ _) (nobodys _ _ c.args.place false (sym c.in-Nobody.is ∙ c.owner.ensures) taken))
    c.print_text-else-free.ensures.ok
