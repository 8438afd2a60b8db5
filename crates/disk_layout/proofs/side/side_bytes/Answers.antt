-- The four parts, one behind the other: link, number and length, the list of side sectors, the pointers.
use Rattle.std.proofs.Common.{List, ◌∷◌, [], take, flat_map, refl, sym, ◌∙◌, arith, length-take}
use Rattle.d64_image.specs.declared.place.Place.{Place}
use Rattle.disk_layout.specs.Side.{place_bytes}
use Rattle.disk_layout.proofs.lemmas.lists.Listed.{put-both, length-place_bytes, take-min, side-parts}
use Rattle.disk_layout.proofs.side.side_bytes.Goals as goal

pub returns : goal.returns
returns c =
    let listed : List Place = take c.min.result c.args.sides.now in
    let pointed : List Place = c.pointers-pointers.result.now in
    c.set_places-2.ensures
    ∙ put-both (c.link-track.result.0 ∷ c.link-track.result.1 ∷ c.args.number ∷ c.args.length ∷ [])
    (flat_map place_bytes listed) (flat_map place_bytes pointed) 12 240 4 16 _ _ refl refl
    (omega (arith, length-place_bytes listed, length-take c.min.result c.args.sides.now, c.min.ensures))
    (sym (length-place_bytes listed)) (sym (length-place_bytes pointed)) _ c.set_places.new.bytes refl
    c.set_places.ensures
    ∙ side-parts c.args.number c.args.blocks.now c.args.sides.now pointed listed c.args.length _ _
    c.pointers-pointers.ensures.places (take-min c.args.sides.now 6 c.min.result c.min.ensures) c.link-track.ensures
