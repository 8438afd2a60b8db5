-- One reply more.
use Rattle.std.proofs.Common.{◌≡◌, ℕ, List, ◌∷◌, ◌++◌, sym, ◌∙◌, ap, append_assoc}
use Rattle.std.specs.Prelude.{codes}
use Rattle.request_cards.specs.Ledgers.{Start, State, after_message, replies_from, reply_in, report}
use Rattle.request_cards.specs.Reading.{request_of}
use Rattle.request_cards.specs.Texts.{reply_text}
use Rattle.request_cards.specs.declared.reply.Reply.{Reply}

-- what was written and the replies that are left are the same before a reply is written and after
pub report_more : (start : Start) (old new : State) (line : List ℕ) (left all : List (List ℕ)) (r : Reply)
    (written whole : List ℕ)
    → all ≡ line ∷ left → r ≡ reply_in start old (request_of line) → new ≡ after_message start old (request_of line)
    → written ++ report (replies_from start old all) ≡ whole
    → (written ++ (reply_text r ++ codes "\n")) ++ report (replies_from start new left) ≡ whole
report_more start old new line left all r written whole cut replied changed before =
    rw (replied, changed) (append_assoc written _ _ ∙ ap (λ ls. written ++ report (replies_from start old ls)) (sym cut)
    ∙ before)
