-- The search over the bytes is the first place of a 00.
use Rattle.std.proofs.Common.{rules, tests}
use Rattle.std.proofs.lemmas.Iterator.{YieldsList-from_slice}
use Rattle.std.proofs.lemmas.Iterator.Search.{position_from_yields_List}
use Rattle.file_rescues.proofs.programs.first_zero.Goals as goal

pub returns : goal.returns
returns c =
    position_from_yields_List _ _ _ _ c.position.ensures.ran (YieldsList-from_slice c.args.bytes.now cc) (λ x b q k. search (rules, tests))
