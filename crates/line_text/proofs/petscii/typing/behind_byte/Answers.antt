-- The text of a byte with a character is that character.
use Rattle.std.proofs.Common.{◌≡◌, ◌≢◌, ◌++◌, List, ℕ, arith, subst, sym, ◌∙◌}
use Rattle.std.specs.Prelude.{MatchOption}
use Rattle.std.specs.Borrow.{Bor}
use Rattle.line_text.specs.petscii.Quoted.{quoted_byte}
use Rattle.line_text.proofs.lemmas.petscii.Typed.{shown-text}
use Rattle.line_text.proofs.petscii.typing.behind_byte.Goals as goal

pub returns-in-Some : goal.returns-in-Some
returns-in-Some c =
    let text = c.args.text.now in
    let is : c.as_bytes.result.now ≡ quoted_byte c.args.set c.args.byte =
    c.as_bytes.ensures.value ∙ c.encode_utf8.ensures.value
    ∙ sym (shown-text c.args.set c.args.byte c.in-Some.shown (λ e. omega (arith, e, c.if-byte-eq34.false)) (sym c.in-Some.ensures)) in
    subst (λ (front : List ℕ). MatchOption c.behind-in-Some.result ((rest : List ℕ) → text ≢ front ++ rest)
    (λ (rest : Bor (List ℕ)). text ≡ front ++ rest.now)) is c.behind-in-Some.ensures
