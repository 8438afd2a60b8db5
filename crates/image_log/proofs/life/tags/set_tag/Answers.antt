use Rattle.std.proofs.Common.{◌≡◌, ◌++◌, ◌∙◌, ℕ, List, arith, drop, length, rules, take}
use Rattle.std.proofs.lemmas.List.{length-append, length-drop, length-take-le}
use Rattle.std.proofs.lemmas.Slice.{between-put_mid, take-put_mid_below}
use Rattle.image_log.proofs.lemmas.life.Tagged.{low_as, room_as, same_but_tag}
use Rattle.image_log.proofs.life.tags.set_tag.Goals as goal

long : (old new : List ℕ) → length old ≡ 256 → length new ≡ 8 → length (take 248 old ++ (new ++ drop 8 (drop 248 old))) ≡ 256
long old new size eight = omega (
  arith,
  length-append (take 248 old) (new ++ drop 8 (drop 248 old)),
  length-append new (drop 8 (drop 248 old)),
  length-take-le 248 old (omega (arith, size)),
  length-drop 8 (drop 248 old),
  length-drop 248 old,
  size,
  eight,
)

pub returns-clause-put : goal.returns-clause-put
unfolding Rattle.image_log.specs.Blocks.part
returns-clause-put c is =
    between-put_mid 248 8 c.args.sector.now c.copy_from_slice.new.self 256 (omega (arith, c.told-sector))
    (omega (arith, c.copy_from_slice.auto.self)) ∙ search rules

pub returns-clause-rest : goal.returns-clause-rest
returns-clause-rest c =
    take-put_mid_below 248 8 c.args.sector.now c.copy_from_slice.new.self 248 (omega arith) (omega (arith, c.told-sector))

pub returns-clause-torn : goal.returns-clause-torn
returns-clause-torn c is torn =
    same_but_tag c.args.sector.now _ torn c.told-sector (long c.args.sector.now c.copy_from_slice.new.self c.told-sector
    (omega (arith, c.copy_from_slice.auto.self))) (c.has_tag_room.ensures.0 c.if-not-has_tag_room.false)
    (room_as _ (returns-clause-put c is)) (low_as c.args.sector.now _ (returns-clause-rest c))
