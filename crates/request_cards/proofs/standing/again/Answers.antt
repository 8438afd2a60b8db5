-- The same is wanted: the answer is told again.
use Rattle.std.proofs.Common.{refl, sym, ◌∙◌}
use Rattle.request_cards.proofs.standing.again.Goals as goal

pub returns-then-same_body : goal.returns-then-same_body
returns-then-same_body c = rw (sym c.same_body.ensures ∙ c.if-same_body.true) refl
