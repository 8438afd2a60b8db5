-- Nothing, if no sector of the track has the shade.
use Rattle.std.proofs.Common.{subst, sym, ◌∙◌}
use Rattle.std.specs.Io.KnownBytes.{Appends}
use Rattle.std.proofs.KnownBytes.{Appends-nil}
use Rattle.disk_pictures.proofs.lemmas.sheets.Shaded.{no-strokes}
use Rattle.disk_pictures.specs.Held.{drawn_in}
use Rattle.disk_pictures.proofs.sheets.tiles.print_track.Goals as goal

pub returns-else-has-clause-ok : goal.returns-else-has-clause-ok
returns-else-has-clause-ok g c =
    let d = c.args.drawing.now in
    let held = g.W.Write.contents c.args.out.now in
    subst (Appends held held)
    (sym (no-strokes c.args.found d.map (drawn_in d) c.args.shades.now c.args.below c.args.number c.requires.each
    (sym c.has.ensures ∙ c.if-has.false)))
    (Appends-nil held)
