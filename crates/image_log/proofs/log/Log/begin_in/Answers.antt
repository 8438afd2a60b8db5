-- Zeros, and then the image as the first commit.
use Rattle.std.proofs.Common.{◌≡◌, ◌∙◌, ap, length, refl, replicate, true}
use Rattle.std.proofs.lemmas.Bool.{false≢true}
use Rattle.std.proofs.lemmas.List.{with_items_is}
use Rattle.image_log.proofs.Ends.{all_touched, begun_rest, begun_stands}
use Rattle.image_log.proofs.log.Log.begin_in.Goals as goal

pub returns-in-Ok-clause-ok : goal.returns-in-Ok-clause-ok
returns-in-Ok-clause-ok g c = begun_stands c.args.file c.lay_out.new.file c.append_commit.new.file c.args.image.now
    (replicate 683 true) c.in-Ok.end c.requires.sized (all_touched 683) c.requires.empty c.in_default.ensures.laid
    c.lay_out.ensures.unknown c.append_commit.ensures.unknown c.in-Ok.ensures.ok _ refl false≢true

pub invariant_of-result-clause-rest : goal.invariant_of-result-clause-rest
invariant_of-result-clause-rest g c whole = begun_rest c.args.file c.lay_out.new.file c.append_commit.new.file c.args.image.now
    (replicate 683 true) c.in-Ok.end c.requires.sized (all_touched 683) c.requires.empty c.in_default.ensures.laid
    c.lay_out.ensures.unknown c.append_commit.ensures.unknown c.in-Ok.ensures.ok

pub invariant_of-result-clause-rooms : goal.invariant_of-result-clause-rooms
invariant_of-result-clause-rooms g c =
    let room = c.append_commit.new.room in
    let is : length room ≡ c.args.room.blocks.len = c.append_commit.auto.room ∙ c.deref_mut.ensures.len in
    ap length (with_items_is c.args.room.blocks room is) ∙ c.append_commit.ensures.room
