-- A card of version 1 has no second request.
use Rattle.std.proofs.Common.{sym, ◌∙◌}
use Rattle.host_session.proofs.lemmas.writing.Completions.{old-answered}
use Rattle.host_session.proofs.shop.completion.answered.Goals as goal

pub returns-then-version-eq1 : goal.returns-then-version-eq1
returns-then-version-eq1 c = old-answered c.args.card.now c.answered.result c.to_v2.result c.answered.ensures
    c.to_v2.ensures
    (sym (c.requires.fits.old (sym c.version.ensures ∙ c.if-version-eq1.true)).0)
