-- The tag is kept, and what may be left of the sector on the way is the sector without it, or that before.
use Rattle.image_log.proofs.lemmas.life.Tagged.{kept_off, kept_torn, low_as, never_letters, never_off, never_room, never_torn, room_as}
use Rattle.image_log.proofs.lemmas.life.Told.{put_on}
use Rattle.image_log.proofs.life.tags.keep_tag.Goals as goal

pub returns-then-is_tagged-clause-is : goal.returns-then-is_tagged-clause-is
returns-then-is_tagged-clause-is c is =
    kept_off c.args.before.now c.args.sector.now c.set_tag.new.sector c.told-before c.told-sector c.set_tag.array_long
    (low_as c.args.sector.now c.set_tag.new.sector c.set_tag.ensures.rest) (c.has_no_tag.ensures.0 c.if-not-has_no_tag.false)
    (room_as c.set_tag.new.sector (c.set_tag.ensures.put is))

pub returns-then-is_tagged-clause-torn : goal.returns-then-is_tagged-clause-torn
returns-then-is_tagged-clause-torn c is =
    kept_torn c.args.before.now c.args.sector.now c.set_tag.new.sector c.told-before c.told-sector c.set_tag.array_long
    (low_as c.args.sector.now c.set_tag.new.sector c.set_tag.ensures.rest) (c.has_no_tag.ensures.0 c.if-not-has_no_tag.false)
    (room_as c.set_tag.new.sector (c.set_tag.ensures.put is)) (c.is_tagged.ensures.0 c.if-is_tagged.true).0

pub returns-then-not-have_room-clause-is : goal.returns-then-not-have_room-clause-is
returns-then-not-have_room-clause-is c is =
    never_off c.args.before.now c.args.sector.now
    (never_room c.args.before.now c.args.sector.now (c.have_room.ensures c.if-not-have_room.true))

pub returns-then-not-have_room-clause-torn : goal.returns-then-not-have_room-clause-torn
returns-then-not-have_room-clause-torn c is =
    never_torn c.args.before.now c.args.sector.now
    (never_room c.args.before.now c.args.sector.now (c.have_room.ensures c.if-not-have_room.true))

pub returns-then-lacks_letters-clause-is : goal.returns-then-lacks_letters-clause-is
returns-then-lacks_letters-clause-is c is =
    never_off c.args.before.now c.args.sector.now
    (never_letters c.args.before.now c.args.sector.now (c.lacks_letters.ensures c.if-lacks_letters.true)
    (c.lacks_letters-then-lacks_letters.ensures is))

pub returns-then-lacks_letters-clause-torn : goal.returns-then-lacks_letters-clause-torn
returns-then-lacks_letters-clause-torn c is =
    never_torn c.args.before.now c.args.sector.now
    (never_letters c.args.before.now c.args.sector.now (c.lacks_letters.ensures c.if-lacks_letters.true)
    (c.lacks_letters-then-lacks_letters.ensures is))

pub returns-then-is_tagged-clause-kept : goal.returns-then-is_tagged-clause-kept
returns-then-is_tagged-clause-kept c is tagged = put_on c.set_tag.new.sector (c.set_tag.ensures.put is)
