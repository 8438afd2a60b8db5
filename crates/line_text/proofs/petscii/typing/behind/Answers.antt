-- The front was compared.
use Rattle.std.proofs.Common.{◌≡◌, ◌∙◌, sym}
use Rattle.std.proofs.lemmas.Bool.{false≢true}
use Rattle.std.proofs.lemmas.Slice.Eq.{bytes_eq-Decides}
use Rattle.line_text.proofs.lemmas.petscii.Typed.{taken-front}
use Rattle.line_text.proofs.petscii.typing.behind.Goals as goal

pub returns-else-eq : goal.returns-else-eq
returns-else-eq c = λ rest is.
    let head : c.split_at.result.0.now ≡ c.args.front.now =
    c.split_at.ensures.front ∙ taken-front c.args.text.now c.args.front.now rest is in
    false≢true (sym c.if-eq.false ∙ c.eq.ensures ∙ (bytes_eq-Decides _ _).1 head)
