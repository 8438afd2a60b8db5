-- The state stands behind the version, one byte wide.
use Rattle.std.proofs.Common.{ap, set, ◌∙◌}
use Rattle.host_session.proofs.lemmas.writing.Completions.{marked}
use Rattle.host_session.proofs.shop.completion.mark_answered.Goals as goal

pub returns : goal.returns
returns c = λ card two is. ap (λ bytes. set bytes 1 65) is ∙ marked card two
