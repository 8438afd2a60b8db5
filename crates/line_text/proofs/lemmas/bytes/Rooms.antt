-- What was put into a room, each piece behind what it had, and how long a number is.
use Rattle.std.proofs.Common.{◌≡◌, ◌≤◌, ◌<◌, ◌+◌, ◌*◌, ◌/◌, ◌%◌, ◌^◌, ℕ, List, [], ◌∷◌, ◌++◌, length, take, drop, sym}
use Rattle.std.proofs.Common.{ap, ap₂, ◌∙◌, arith}
use Rattle.std.specs.Prelude.{codes, decimal}
use Rattle.std.proofs.Math.Seq.{take-append-add, take-append_seam}
use Rattle.std.proofs.lemmas.Fmt.{decimal_digit, decimal_step}
use Rattle.std.proofs.lemmas.List.{append_assoc, length-append, length-take-le, take-append-drop, take-take}
use Rattle.line_text.specs.bytes.Texts.{record_line, text_of, trimmed}

-- behind the first bytes of a list come the first of the others
take-behind : (xs ys : List ℕ) (start n : ℕ) → length xs ≡ start → take (start + n) (xs ++ ys) ≡ xs ++ take n ys
take-behind xs ys start n long =
    ap (λ (m : ℕ). take (m + n) (xs ++ ys)) (sym long) ∙ take-append-add xs ys n

-- of bytes that were put behind others, the first ones
pub put-part : (room old xs : List ℕ) (start n end : ℕ) → start ≤ length old → n ≤ length xs → end ≡ start + length xs
    → take end room ≡ take start old ++ xs → take (start + n) room ≡ take start old ++ take n xs
put-part room old xs start n end there few last put =
    sym (take-take (start + n) end room (omega (arith, few, last)))
    ∙ ap (λ (ys : List ℕ). take (start + n) ys) put
    ∙ take-behind (take start old) xs start n (length-take-le start old there)

-- digits that stand before `end`, where what is before them stays
pub digits-put : (room old digits rest : List ℕ) (start first end : ℕ) → start ≤ length room
    → first + length digits ≡ end → end ≡ start + length digits → drop first room ≡ digits ++ rest
    → take first room ≡ take first old → take end room ≡ take start old ++ digits
digits-put room old digits rest start first end there last same put before =
    let here : first ≡ start = omega (arith, last, same) in
    let stays : take start room ≡ take start old = ap (λ (n : ℕ). take n room) (sym here) ∙ before
    ∙ ap (λ (n : ℕ). take n old) here in
    let behind : drop start room ≡ digits ++ rest = ap (λ (n : ℕ). drop n room) (sym here) ∙ put in
    ap₂ (λ (n : ℕ) (xs : List ℕ). take n xs) same (sym (take-append-drop start room))
    ∙ take-behind (take start room) (drop start room) start (length digits) (length-take-le start room there)
    ∙ ap₂ (λ (xs ys : List ℕ). xs ++ ys) stays
    (ap (λ (xs : List ℕ). take (length digits) xs) behind ∙ take-append_seam digits rest)

-- a number below ten has one digit
pub one-digit : (n : ℕ) → n < 10 → 1 ≡ length (decimal n)
one-digit n low = sym (ap length (decimal_digit n low))

-- and one that is ten times greater has a digit more
pub digit-more : (k low : ℕ) → ((n : ℕ) → low ≤ n → n < 10 * low → k ≡ length (decimal n)) → (n : ℕ) → 1 ≤ low
    → 10 * low ≤ n → n < 100 * low → n < 2 ^ 64 → k + 1 ≡ length (decimal n)
digit-more k low shorter n some above below short =
    let front : k ≡ length (decimal (n / 10)) = shorter (n / 10) (omega (arith, above)) (omega (arith, below)) in
    let step = decimal_step n (omega (arith, some, above)) short in
    omega (arith, front, ap length step, length-append (decimal (n / 10)) ((48 + n % 10) ∷ []))

pub two-digits : (n : ℕ) → 10 ≤ n → n < 100 → 2 ≡ length (decimal n)
two-digits n above below =
    digit-more 1 1 (λ m above below. one-digit m (omega (arith, below))) n (omega arith) (omega (arith, above))
    (omega (arith, below))
    (omega (arith, below))

pub three-digits : (n : ℕ) → 100 ≤ n → n < 1000 → 3 ≡ length (decimal n)
three-digits n above below =
    digit-more 2 10 two-digits n (omega arith) (omega (arith, above)) (omega (arith, below))
    (omega (arith, below))

pub four-digits : (n : ℕ) → 1000 ≤ n → n < 10000 → 4 ≡ length (decimal n)
four-digits n above below =
    digit-more 3 100 three-digits n (omega arith) (omega (arith, above)) (omega (arith, below))
    (omega (arith, below))

pub five-digits : (n : ℕ) → 10000 ≤ n → n < 100000 → 5 ≡ length (decimal n)
five-digits n above below =
    digit-more 4 1000 four-digits n (omega arith) (omega (arith, above)) (omega (arith, below))
    (omega (arith, below))

pub six-digits : (n : ℕ) → 100000 ≤ n → n < 1000000 → 6 ≡ length (decimal n)
six-digits n above below =
    digit-more 5 10000 five-digits n (omega arith) (omega (arith, above)) (omega (arith, below))
    (omega (arith, below))

pub seven-digits : (n : ℕ) → 1000000 ≤ n → n < 10000000 → 7 ≡ length (decimal n)
seven-digits n above below =
    digit-more 6 100000 six-digits n (omega arith) (omega (arith, above)) (omega (arith, below))
    (omega (arith, below))

pub eight-digits : (n : ℕ) → 10000000 ≤ n → n < 100000000 → 8 ≡ length (decimal n)
eight-digits n above below =
    digit-more 7 1000000 seven-digits n (omega arith) (omega (arith, above)) (omega (arith, below))
    (omega (arith, below))

pub nine-digits : (n : ℕ) → 100000000 ≤ n → n < 1000000000 → 9 ≡ length (decimal n)
nine-digits n above below =
    digit-more 8 10000000 eight-digits n (omega arith) (omega (arith, above)) (omega (arith, below))
    (omega (arith, below))

pub ten-digits : (n : ℕ) → 1000000000 ≤ n → n < 10000000000 → 10 ≡ length (decimal n)
ten-digits n above below =
    digit-more 9 100000000 nine-digits n (omega arith) (omega (arith, above)) (omega (arith, below))
    (omega (arith, below))

-- the text of a line whose bytes were trimmed, put behind others
pub line-put : (front line : List ℕ) (n : ℕ) (bytes kept : List ℕ) → kept ≡ trimmed bytes
    → line ≡ (((front ++ decimal n) ++ codes ",\"") ++ text_of kept) ++ codes "\"\n"
    → line ≡ front ++ record_line n bytes
unfolding record_line
line-put front line n bytes kept is put =
    put
    ∙ append_assoc ((front ++ decimal n) ++ codes ",\"") (text_of kept) (codes "\"\n")
    ∙ append_assoc (front ++ decimal n) (codes ",\"") (text_of kept ++ codes "\"\n")
    ∙ append_assoc front (decimal n) (codes ",\"" ++ (text_of kept ++ codes "\"\n"))
    ∙ ap (λ (xs : List ℕ). front ++ (decimal n ++ (codes ",\"" ++ (text_of xs ++ codes "\"\n")))) is
