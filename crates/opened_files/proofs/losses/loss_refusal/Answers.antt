-- What was seen of the image, where no loss is accepted.
use Rattle.std.proofs.Common.{List, None, Option, Some, inl, inr, refl, ℕ}
use Rattle.damaged_files.proofs.lemmas.cut.Told.{told-cut, told-fewer, told-uncut}
use Rattle.damaged_files.specs.declared.cut.shortfalls.Shortfall.{Shortfall}
use Rattle.damaged_files.specs.declared.cut.shortfalls.Shortfall.TheVariants as lacks
use Rattle.opened_files.specs.Losses.{IsJudged, IsSeen, short_refusal}
use Rattle.damaged_files.specs.declared.sides.planning.Loss.TheVariants.{Refused}
use Rattle.opened_files.proofs.losses.loss_refusal.Goals as goal

judged : (image : List ℕ) (lack : Option Shortfall) → IsSeen image lack → IsJudged image Refused (short_refusal lack)
judged image None seen = inr (λ p h. told-uncut image p (seen h.size) h)
judged image (Some (lacks.Short p)) (size, told) = (refl, inl (p, refl, told-cut image p size told))
judged image (Some (lacks.Fewer q)) (size, told) = inr (λ p h. told-fewer image p q told h)

pub returns-in-Ok : goal.returns-in-Ok
returns-in-Ok c = rw (c.in-Refused.is, c.short_refusal.ensures) (judged c.args.image.now c.in-Ok.lack c.in-Ok.ensures.ok)
