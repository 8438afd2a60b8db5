-- One more place.
use Rattle.disk_layout.proofs.blank.request_places.Goals as goal
use Rattle.disk_layout.proofs.lemmas.blank.Blanks.{places-more}

pub loop-number-preserved : goal.loop-number-preserved
loop-number-preserved c = places-more c.loop-number.places.items c.push.new.self.items c.loop-number.number
    c.request_place.result c.loop-number.invariant c.request_place.ensures c.push.ensures.items
