-- A byte more was written.
use Rattle.std.proofs.Common.{◌++◌}
use Rattle.std.proofs.KnownBytes.{Appends-trans}
use Rattle.std.proofs.lemmas.List.{take_rest}
use Rattle.line_text.proofs.lemmas.Named.{one-more}
use Rattle.line_text.proofs.naming.print_named.Goals as goal

pub loop-rest-preserved : goal.loop-rest-preserved
loop-rest-preserved g c =
    let rest = c.loop-rest.rest.now in
    let before = c.loop-rest.invariant in
    rw (take_rest rest 1) (
      before.0 ++ _,
      Appends-trans _ _ _ _ _ before.1 c.in_ok-print_piece.ensures,
      one-more before.0 c.args.name.now c.loop-rest.begins rest _ c.in-len1-up.len_at_least before.2,
    )
