use Rattle.std.proofs.Common.{◌<◌, ◌+◌, ◌∙◌, ap, sym, subst, ℕ}
use Rattle.d64_image.proofs.Places.{index_below, index_parts, track_fits}
use Rattle.d64_image.proofs.Rows.{row}
use Rattle.d64_image.proofs.place.Place.index.Goals as goal

pub returns-clause-value : goal.returns-clause-value
returns-clause-value c = ap (λ (n : ℕ). n + c.args.self.sector) (row c.args.self.track (track_fits c.args.self))
    ∙ sym (index_parts c.args.self)

pub returns-clause-bound : goal.returns-clause-bound
returns-clause-bound c = subst (λ (n : ℕ). n < 683) (sym (returns-clause-value c)) (index_below c.args.self)
