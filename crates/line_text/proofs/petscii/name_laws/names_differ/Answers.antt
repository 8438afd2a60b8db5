-- The numbers stand before the hyphens, the endings are four bytes each, and the index's second letter is no digit.
use Rattle.std.proofs.Common.{◌∷◌, ◌++◌, List, ap, arith, get_or, map, sym, ◌∙◌, ℕ, append_assoc}
use Rattle.line_text.specs.petscii.FileNames.{ending_text, file_byte, file_name_of, number_text}
use Rattle.line_text.proofs.lemmas.petscii.Names.{endings-same, numbers-same, second-digit}
use Rattle.line_text.proofs.petscii.name_laws.names_differ.Goals as goal

pub returns-clause-numbers : goal.returns-clause-numbers
unfolding file_name_of
returns-clause-numbers c = λ m n a b s t low high same. numbers-same m n _ _ low high same

pub returns-clause-endings : goal.returns-clause-endings
unfolding file_name_of
returns-clause-endings c = λ m n a b s t low high same.
    endings-same (number_text m ++ 45 ∷ map file_byte a) (number_text n ++ 45 ∷ map file_byte b) s t
    (append_assoc (number_text m) (45 ∷ map file_byte a) (ending_text s) ∙ same
    ∙ sym (append_assoc (number_text n) (45 ∷ map file_byte b) (ending_text t)))

pub returns-clause-index : goal.returns-clause-index
unfolding file_name_of
returns-clause-index c = λ n a s same.
    let digit = second-digit n (45 ∷ (map file_byte a ++ ending_text s)) in
    let second = ap (λ (l : List ℕ). get_or l 1 0) same in
    omega (arith, digit, second)
