-- Of the three bytes that are put some count.
use Rattle.std.proofs.Common.{◌++◌, ◌∙◌, ◌∷◌, [], List, ℕ, ap, ap₂, arith, take}
use Rattle.line_text.proofs.lemmas.bytes.Rooms.{put-part}
use Rattle.line_text.proofs.bytes.putting.append_byte.Goals as goal

pub returns-clause-written : goal.returns-clause-written
returns-clause-written c =
    let first = c.text_start-first.result.0 in
    let count = c.text_start-first.result.1 in
    put-part c.append_behind.new.room c.args.room.now (first ∷ c.digit.result ∷ c.digit-2.result ∷ []) c.args.start count
    c.append_behind.result (omega (arith, c.requires)) (omega (arith, c.text_start-first.ensures.count))
    c.append_behind.ensures.end c.append_behind.ensures.written
    ∙ ap (λ (xs : List ℕ). take c.args.start c.args.room.now ++ xs)
    (ap₂ (λ (d e : ℕ). take count (first ∷ d ∷ e ∷ [])) c.digit.ensures c.digit-2.ensures
    ∙ c.text_start-first.ensures.text)
