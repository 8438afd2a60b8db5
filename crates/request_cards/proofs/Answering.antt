-- The texts of answers and replies that were written from their ends.
use Rattle.std.proofs.Common.{◌≡◌, ℕ, List, ◌∷◌, ◌++◌, ap, ap₂, sym, ◌∙◌, append_assoc}
use Rattle.std.specs.Prelude.{codes, decimal}
use Rattle.request_cards.specs.declared.answer.Answer.{Answer}
use Rattle.request_cards.specs.declared.answer.Answer.TheVariants.{Moved}
use Rattle.request_cards.specs.declared.reply.Reply.{Reply}
use Rattle.request_cards.specs.declared.reply.Reply.TheVariants.{Told}
use Rattle.request_cards.specs.declared.reply.Word.{Word}
use Rattle.request_cards.specs.Texts.{answer_text, reply_text, word_text}

-- what is written of an answer, where it is this one
pub text_of : (answer this : Answer) (whole rest : List ℕ) → answer ≡ this → whole ≡ answer_text this ++ rest
    → whole ≡ answer_text answer ++ rest
text_of answer this whole rest is e = e ∙ ap (λ a. answer_text a ++ rest) (sym is)

-- two quantities with a comma between
pub moved_text : (answer : Answer) (h g : ℕ) (whole comma number rest : List ℕ) → answer ≡ Moved h g
    → whole ≡ codes "DONE," ++ (decimal h ++ comma) → comma ≡ 44 ∷ number → number ≡ decimal g ++ rest
    → whole ≡ answer_text answer ++ rest
moved_text answer h g whole comma number rest is first between second =
    text_of answer (Moved h g) whole rest is
    (first ∙ ap (λ (xs : List ℕ). codes "DONE," ++ (decimal h ++ xs)) (between ∙ ap (λ (xs : List ℕ). 44 ∷ xs) second)
    ∙ ap (λ (xs : List ℕ). codes "DONE," ++ xs) (sym (append_assoc (decimal h) (44 ∷ decimal g) rest)))

-- the same of a reply
pub reply_of : (reply this : Reply) (whole rest : List ℕ) → reply ≡ this → whole ≡ reply_text this ++ rest
    → whole ≡ reply_text reply ++ rest
reply_of reply this whole rest is e = e ∙ ap (λ r. reply_text r ++ rest) (sym is)

-- a till, a number and a word, with a comma between two
pub told_text : (reply : Reply) (till same number : ℕ) (word : Word) (whole after text rest : List ℕ)
    → reply ≡ Told till number word → same ≡ till → whole ≡ decimal same ++ 44 ∷ after
    → after ≡ decimal number ++ 44 ∷ text → text ≡ word_text word ++ rest → whole ≡ reply_text reply ++ rest
told_text reply till same number word whole after text rest is e first second third =
    reply_of reply (Told till number word) whole rest is
    (first ∙ ap₂ (λ n (xs : List ℕ). decimal n ++ 44 ∷ xs) e
    (second ∙ ap (λ (xs : List ℕ). decimal number ++ 44 ∷ xs) third
    ∙ sym (append_assoc (decimal number) (44 ∷ word_text word) rest))
    ∙ sym (append_assoc (decimal till) (44 ∷ decimal number ++ 44 ∷ word_text word) rest))
