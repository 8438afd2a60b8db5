-- The sector is given back, if it was taken.
use Rattle.file_changes.proofs.FreedMaps.{freed-given}
use Rattle.file_changes.specs.Frees.{IsLeft}
use Rattle.file_changes.proofs.freeing.give_left.Goals as goal

pub returns-then-is_left : goal.returns-then-is_left
returns-then-is_left c l m one two = freed-given _ _ c.args.place (IsLeft l m)
    ((c.is_left.ensures l m one two).0 c.if-is_left.true) c.give.ensures.given c.give.ensures.free
