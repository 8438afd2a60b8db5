-- One sector after another.
use Rattle.std.proofs.Common.{◌∙◌, List, arith, length-append, lit<, sym, subst, ap, length, ◌∷◌, []}
use Rattle.d64_image.specs.declared.place.Place.{Place}
use Rattle.rel_records.proofs.lemmas.creation.TakenSectors.{still-few, takes-more}
use Rattle.rel_records.specs.creation.Site.{TakesSectors}
use Rattle.rel_records.proofs.creation.site.take_sectors.Goals as goal

pub push-requires : goal.push-requires
push-requires c = let (owned, is) = c.requires.map in (
  lit< tt,
  still-few c.args.map.now.bytes c.loop.map.bytes c.take_next.new.map.bytes c.loop.places.items c.take_next.result owned
      is c.loop.invariant.taken c.take_next.ensures,
)

pub loop-preserved : goal.loop-preserved
loop-preserved c =
    let (owned, is) = c.requires.map in
    let P : List Place → Type 0 = TakesSectors c.args.map.now.bytes c.take_next.new.map.bytes in
    record {
      taken = subst P (sym c.push.ensures.items) (takes-more c.args.map.now.bytes c.loop.map.bytes
          c.take_next.new.map.bytes c.loop.places.items c.take_next.result owned is c.loop.invariant.taken
          c.take_next.ensures);
      count = ap length c.push.ensures.items
          ∙ omega (arith, length-append c.loop.places.items (c.take_next.result ∷ []), c.loop.invariant.count);
      free = omega (arith, c.take_next.ensures.free, c.loop.invariant.free);
    }
