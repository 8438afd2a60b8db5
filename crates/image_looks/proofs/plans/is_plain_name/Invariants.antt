-- The bytes so far stand for themselves.
use Rattle.std.proofs.Common.{◌≡◌, take, true}
use Rattle.std.specs.List.{list_all}
use Rattle.image_looks.specs.Plans.{is_plain}
use Rattle.image_looks.proofs.plans.is_plain_name.Given as goal

abbrev pub invariant-loop-byte : goal.invariant-loop-byte
invariant-loop-byte l = list_all is_plain (take l.byte-index l.name) ≡ true
