-- Texts of pieces put at their positions, one after another.
use Rattle.std.proofs.Common.{◌≡◌, ◌<◌, ◌≤◌, ◌-◌, ◌+◌, ◌∙◌, ℕ, zero, suc, List, [], ◌∷◌, ◌++◌, Bool, false, ap, ap₂, arith}
use Rattle.std.proofs.Common.{drop, get_or, length, map, refl, sym}
use Rattle.std.specs.Prelude.{Option, Some, None, if◌then◌else◌, nat_eq, replicate}
use Rattle.std.specs.Borrow.{Bor}
use Rattle.std.proofs.lemmas.Bool.{le-ltb, lt-ltb}
use Rattle.std.proofs.lemmas.List.{append_assoc, drop_all, drop_more}
use Rattle.line_text.specs.bytes.Texts.{text_of}
use Rattle.line_text.proofs.lemmas.columns.Cut.{cut-first}
use Rattle.line_text.specs.columns.Marks.{without_marks}
use Rattle.line_text.specs.columns.Pieces.{byte_count, columns_after, cut, end_after, joined_at, placed}

-- one zero more
pub zeros-more : (n : ℕ) → text_of (replicate n 0) ++ 92 ∷ 48 ∷ 48 ∷ [] ≡ text_of (replicate (n + 1) 0)
zeros-more zero = refl
zeros-more (suc n) =
    let next : suc (n + 1) ≡ suc n + 1 = omega arith in
    ap (λ (t : List ℕ). 92 ∷ 48 ∷ 48 ∷ t) (zeros-more n) ∙ ap (λ (m : ℕ). text_of (replicate m 0)) next

-- a byte of a text that begins one, and a digit
pub count-first : (text : List ℕ) (i count : ℕ) → i < length text
    → count + byte_count 0 (drop i text)
    ≡ (count + 1) + byte_count (if nat_eq (get_or text i 0) 92 then 2 else 0) (drop (i + 1) text)
unfolding byte_count
count-first text i count low =
    let rest : ℕ = byte_count (if nat_eq (get_or text i 0) 92 then 2 else 0) (drop (i + 1) text) in
    let more : count + suc rest ≡ (count + 1) + rest = omega arith in
    ap (λ (xs : List ℕ). count + byte_count 0 xs) (drop_more text i 0 low) ∙ more

pub count-digit : (text : List ℕ) (i digits : ℕ) → i < length text → 1 ≤ digits
    → byte_count digits (drop i text) ≡ byte_count (digits - 1) (drop (i + 1) text)
unfolding byte_count
count-digit text i zero low some = absurd (omega (arith, some))
count-digit text i (suc digits) low some =
    let one : digits ≡ suc digits - 1 = omega arith in
    ap (byte_count (suc digits)) (drop_more text i 0 low) ∙ ap (λ (d : ℕ). byte_count d (drop (i + 1) text)) one

-- the end of the text, also within a byte
pub count-done : (text : List ℕ) (i : ℕ) → length text ≤ i → byte_count 0 (drop i text) ≡ 0
unfolding byte_count
count-done text i past = ap (byte_count 0) (drop_all i text past)

pub count-within : (text : List ℕ) (i digits : ℕ) → length text ≤ i → 1 ≤ digits → byte_count digits (drop i text) ≡ 255
unfolding byte_count
count-within text i zero past some = absurd (omega (arith, some))
count-within text i (suc digits) past some = ap (byte_count (suc digits)) (drop_all i text past)

-- a piece that isn't empty
pub placed-some : (end p : ℕ) (text : List ℕ) → 1 ≤ length text
    → placed end p text ≡ text_of (replicate (p - 1 - end) 0) ++ text
placed-some end p [] some = absurd (omega (arith, some))
placed-some end p (b ∷ text) some = refl

pub after-some : (end p : ℕ) (text : List ℕ) → 1 ≤ length text → end_after end p text ≡ p - 1 + byte_count 0 text
after-some end p [] some = absurd (omega (arith, some))
after-some end p (b ∷ text) some = refl

-- an empty one
pub placed-none : (end p : ℕ) (text : List ℕ) → length text ≡ 0 → placed end p text ≡ []
placed-none end p [] none = refl
placed-none end p (b ∷ text) none = absurd (omega (arith, none))

pub after-none : (end p : ℕ) (text : List ℕ) → length text ≡ 0 → end_after end p text ≡ end
after-none end p [] none = refl
after-none end p (b ∷ text) none = absurd (omega (arith, none))

-- no column is left
pub end-none : (end : ℕ) (ps : List ℕ) → length ps < 1 → joined_at end ps [] ≡ []
unfolding joined_at
end-none end [] none = refl
end-none end (p ∷ ps) none = absurd (omega (arith, none))

pub end-before : (end : ℕ) (ps : List ℕ) → 1 ≤ length ps → end < get_or ps 0 0 → joined_at end ps [] ≡ []
unfolding joined_at
end-before end [] some low = absurd (omega (arith, some))
end-before end (p ∷ ps) some low = ap (λ (x : Bool). if x then [] else 34 ∷ []) (lt-ltb end p low)

-- what stands before goes beyond the next position
pub too-far : (end : ℕ) (ps : List ℕ) (texts : List (List ℕ)) → 1 ≤ length ps → get_or ps 0 0 ≤ end
    → joined_at end ps texts ≡ 34 ∷ []
unfolding joined_at
too-far end [] texts some past = absurd (omega (arith, some))
too-far end (p ∷ ps) [] some past = ap (λ (x : Bool). if x then [] else 34 ∷ []) (le-ltb end p past)
too-far end (p ∷ ps) (text ∷ texts) some past =
    ap (λ (x : Bool). if x then placed end p text ++ joined_at (end_after end p text) ps texts else 34 ∷ [])
    (le-ltb end p past)

-- a column more than there are positions
no-place : (end : ℕ) (ps text : List ℕ) (texts : List (List ℕ)) → length ps < 1
    → joined_at end ps (text ∷ texts) ≡ 34 ∷ []
unfolding joined_at
no-place end [] text texts none = refl
no-place end (p ∷ ps) text texts none = absurd (omega (arith, none))

-- the next column in its place
in-place : (end : ℕ) (ps text : List ℕ) (texts : List (List ℕ)) → 1 ≤ length ps → end < get_or ps 0 0
    → joined_at end ps (text ∷ texts)
    ≡ placed end (get_or ps 0 0) text ++ joined_at (end_after end (get_or ps 0 0) text) (drop 1 ps) texts
unfolding joined_at
in-place end [] text texts some low = absurd (omega (arith, some))
in-place end (p ∷ ps) text texts some low =
    ap (λ (x : Bool). if x then placed end p text ++ joined_at (end_after end p text) ps texts else 34 ∷ [])
    (lt-ltb end p low)

-- the texts of the columns that are left
abbrev pub texts_after : Option (Bor (List ℕ)) → List (List ℕ)
texts_after rest = map without_marks (columns_after rest)

pub one-too-many : (before all : List ℕ) (rest : Option (Bor (List ℕ))) (line : Bor (List ℕ)) (end : ℕ) (ps : List ℕ)
    → rest ≡ Some line → length ps < 1 → before ++ joined_at end ps (texts_after rest) ≡ all
    → before ++ 34 ∷ [] ≡ all
one-too-many before all rest line end ps is none so_far =
    let some = cut-first line.now false in
    ap (λ (t : List ℕ). before ++ t)
    (sym (ap (λ (r : Option (Bor (List ℕ))). joined_at end ps (texts_after r)) is
    ∙ ap (λ (cs : List (List ℕ)). joined_at end ps (map without_marks cs)) some.is
    ∙ no-place end ps (without_marks some.first) (map without_marks some.rest) none)) ∙ so_far

pub too-long : (before all : List ℕ) (end : ℕ) (ps : List ℕ) (texts : List (List ℕ)) → 1 ≤ length ps
    → get_or ps 0 0 ≤ end → before ++ joined_at end ps texts ≡ all → before ++ 34 ∷ [] ≡ all
too-long before all end ps texts some past so_far =
    ap (λ (t : List ℕ). before ++ t) (sym (too-far end ps texts some past)) ∙ so_far

pub one-more : (before after all : List ℕ) (rest behind : Option (Bor (List ℕ))) (line : Bor (List ℕ)) (end next : ℕ)
    (ps column text : List ℕ) → rest ≡ Some line → 1 ≤ length ps → end < get_or ps 0 0
    → cut false line.now ≡ column ∷ columns_after behind → text ≡ without_marks column
    → next ≡ end_after end (get_or ps 0 0) text → after ≡ before ++ placed end (get_or ps 0 0) text
    → before ++ joined_at end ps (texts_after rest) ≡ all
    → after ++ joined_at next (drop 1 ps) (texts_after behind) ≡ all
one-more before after all rest behind line end next ps column text is some low columns unmarked ends put so_far =
    let p : ℕ = get_or ps 0 0 in
    let texts : List (List ℕ) = texts_after behind in
    ap₂ (λ (t : List ℕ) (n : ℕ). t ++ joined_at n (drop 1 ps) texts) put ends
    ∙ append_assoc before (placed end p text) (joined_at (end_after end p text) (drop 1 ps) texts)
    ∙ ap (λ (t : List ℕ). before ++ t)
    (sym (ap (λ (r : Option (Bor (List ℕ))). joined_at end ps (texts_after r)) is
    ∙ ap (λ (cs : List (List ℕ)). joined_at end ps (map without_marks cs)) columns
    ∙ ap (λ (t : List ℕ). joined_at end ps (t ∷ texts)) (sym unmarked)
    ∙ in-place end ps text texts some low)) ∙ so_far

pub none-more : (before all : List ℕ) (rest : Option (Bor (List ℕ))) (end : ℕ) (ps : List ℕ) → rest ≡ None
    → before ++ joined_at end ps (texts_after rest) ≡ all → before ++ joined_at end ps [] ≡ all
none-more before all rest end ps is so_far =
    sym (ap (λ (r : Option (Bor (List ℕ))). before ++ joined_at end ps (texts_after r)) is) ∙ so_far
