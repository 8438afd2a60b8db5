-- The text of a file's records, line by line.
use Rattle.std.proofs.Common.{◌≡◌, ◌≢◌, ◌≤◌, ◌+◌, ◌-◌, ◌/◌, ◌%◌, ℕ, zero, suc, List, [], ◌∷◌, ◌++◌, Bool, true, false}
use Rattle.std.proofs.Common.{length, take, get_or, length-append, refl, subst, sym, ap, ap₂, ◌∙◌, arith}
use Rattle.std.specs.Str.Parse.{AllDigits}
use Rattle.std.proofs.lemmas.Str.Parse.{digit_from_value}
use Rattle.std.specs.Prelude.{◌==◌, decimal, if◌then◌else◌, slice_index}
use Rattle.std.proofs.Math.Seq.{get_or-append_seam}
use Rattle.std.proofs.lemmas.Fmt.{decimal_is_IsNumeral}
use Rattle.std.proofs.lemmas.List.{append_assoc, append-nil}
use Rattle.line_text.specs.bytes.Texts.{byte_text, digit, is_plain, record_line, text_of, trimmed}
use Rattle.line_text.proofs.lemmas.scripts.Lines.{Lacks, split_piece}
use Rattle.line_text.specs.scripts.Lines.{ended, lines, onto_first, split, without_cr}
use Rattle.file_rescues.specs.Records.{lines_to, records_text}

-- the lines of records, the first with number k; and those of the first n of them
abbrev pub text_from : ℕ → List (List ℕ) → List ℕ
text_from k [] = []
text_from k (r ∷ rs) = record_line k r ++ text_from (suc k) rs

abbrev lines_from : ℕ → List (List ℕ) → ℕ → List ℕ
lines_from k rs zero = []
lines_from k rs (suc n) = lines_from k rs n ++ record_line (k + n) (get_or rs n [])

first-before : (k n : ℕ) (r : List ℕ) (rs : List (List ℕ))
    → lines_from k (r ∷ rs) (suc n) ≡ record_line k r ++ lines_from (suc k) rs n
first-before k zero r rs =
    let here : k + 0 ≡ k = omega arith in
    ap (λ (m : ℕ). record_line m r) here ∙ sym (append-nil (record_line k r))
first-before k (suc n) r rs =
    let next : k + suc n ≡ suc k + n = omega arith in
    ap (λ (t : List ℕ). t ++ record_line (k + suc n) (get_or rs n [])) (first-before k n r rs)
    ∙ ap (λ (m : ℕ). (record_line k r ++ lines_from (suc k) rs n) ++ record_line m (get_or rs n [])) next
    ∙ append_assoc (record_line k r) (lines_from (suc k) rs n) (record_line (suc k + n) (get_or rs n []))

all-from : (k : ℕ) (rs : List (List ℕ)) → lines_from k rs (length rs) ≡ text_from k rs
all-from k [] = refl
all-from k (r ∷ rs) = first-before k (length rs) r rs ∙ ap (λ (t : List ℕ). record_line k r ++ t) (all-from (suc k) rs)

to-from : (rs : List (List ℕ)) (n : ℕ) → lines_to rs n ≡ lines_from 1 rs n
to-from rs zero = refl
to-from rs (suc n) =
    let same : n + 1 ≡ 1 + n = omega arith in
    ap₂ (λ (t : List ℕ) (m : ℕ). t ++ record_line m (get_or rs n [])) (to-from rs n) same

pub text-is : (rs : List (List ℕ)) → records_text rs ≡ text_from 1 rs
unfolding records_text
text-is rs = to-from rs (length rs) ∙ all-from 1 rs

pub text-append : (k : ℕ) (rs ts : List (List ℕ))
    → text_from k (rs ++ ts) ≡ text_from k rs ++ text_from (k + length rs) ts
text-append k [] ts = let here : k ≡ k + 0 = omega arith in ap (λ (m : ℕ). text_from m ts) here
text-append k (r ∷ rs) ts =
    let next : suc k + length rs ≡ k + suc (length rs) = omega arith in
    ap (λ (t : List ℕ). record_line k r ++ t) (text-append (suc k) rs ts
    ∙ ap (λ (m : ℕ). text_from (suc k) rs ++ text_from m ts) next)
    ∙ sym (append_assoc (record_line k r) (text_from (suc k) rs) (text_from (k + suc (length rs)) ts))

-- a record's line without its LF has none, and no CR at its end
abbrev pub line_at : ℕ → List ℕ → List ℕ
line_at n r = decimal n ++ (44 ∷ (34 ∷ (text_of (trimmed r) ++ 34 ∷ [])))

pub line-ended : (n : ℕ) (r : List ℕ) → line_at n r ++ 10 ∷ [] ≡ record_line n r
unfolding record_line
line-ended n r =
    let t = text_of (trimmed r) in
    append_assoc (decimal n) (44 ∷ (34 ∷ (t ++ 34 ∷ []))) (10 ∷ [])
    ∙ ap (λ (zs : List ℕ). decimal n ++ (44 ∷ (34 ∷ zs))) (append_assoc t (34 ∷ []) (10 ∷ []))

pub lacks-both : (xs ys : List ℕ) → Lacks 10 xs → Lacks 10 ys → Lacks 10 (xs ++ ys)
lacks-both [] ys l m = m
lacks-both (x ∷ xs) ys l m = (l.0, lacks-both xs ys l.1 m)

digit-not : (n : ℕ) → digit n ≢ 10
digit-not n is = grind arith

abbrev chosen : Bool → ℕ → List ℕ
chosen plain b = if plain then b ∷ [] else 92 ∷ digit (b / 16) ∷ digit (b % 16) ∷ []

feed-is-none : is_plain 10 ≡ true → ⊥
feed-is-none e = cc

pub chosen-lacks : (p : Bool) (b : ℕ) → is_plain b ≡ p → Lacks 10 (chosen p b)
chosen-lacks true b plain = ((λ is. feed-is-none (subst (λ (m : ℕ). is_plain m ≡ true) is plain)), tt)
chosen-lacks false b plain =
    let digits : Lacks 10 (digit (b / 16) ∷ digit (b % 16) ∷ []) = (digit-not (b / 16), (digit-not (b % 16), tt)) in
    ((λ is. omega (arith, is)), digits)

pub text-lacks : (bs : List ℕ) → Lacks 10 (text_of bs)
text-lacks [] = tt
text-lacks (b ∷ bs) = lacks-both (byte_text b) (text_of bs) (chosen-lacks (is_plain b) b refl) (text-lacks bs)

pub digits-lack : (xs : List ℕ) → AllDigits 10 xs → Lacks 10 xs
digits-lack [] d = tt
digits-lack (x ∷ xs) d = ((λ is. let h = digit_from_value x d.0 in omega (arith, h.0, is)), digits-lack xs d.1)

line-lacks : (n : ℕ) (r : List ℕ) → n ≤ 182880 → Lacks 10 (line_at n r)
line-lacks n r le =
    let t = text_of (trimmed r) in
    let mark : Lacks 10 (34 ∷ []) = ((λ is. omega (arith, is)), tt) in
    let quoted : Lacks 10 (34 ∷ (t ++ 34 ∷ [])) =
    ((λ is. omega (arith, is)), lacks-both t (34 ∷ []) (text-lacks (trimmed r)) mark) in
    lacks-both (decimal n) (44 ∷ (34 ∷ (t ++ 34 ∷ [])))
    (digits-lack (decimal n) (decimal_is_IsNumeral n (omega (arith, le))).0.1)
    ((λ is. omega (arith, is)), quoted)

pub last-is : (xs : List ℕ) (c : ℕ) → slice_index (xs ++ c ∷ []) (length (xs ++ c ∷ []) - 1) ≡ c
last-is xs c =
    let long : length (xs ++ c ∷ []) - 1 ≡ length xs = omega (arith, length-append xs (c ∷ [])) in
    ap (λ (i : ℕ). slice_index (xs ++ c ∷ []) i) long ∙ get_or-append_seam xs c [] 0

no-return : (xs : List ℕ) → without_cr (xs ++ 34 ∷ []) ≡ xs ++ 34 ∷ []
no-return xs =
    let line = xs ++ 34 ∷ [] in
    ap (λ (c : ℕ). if c == 13 then take (length line - 1) line else line) (last-is xs 34)

line-stays : (n : ℕ) (r : List ℕ) → without_cr (line_at n r) ≡ line_at n r
line-stays n r =
    let t = text_of (trimmed r) in
    let inner : (decimal n ++ (44 ∷ (34 ∷ t))) ++ 34 ∷ [] ≡ line_at n r =
    append_assoc (decimal n) (44 ∷ (34 ∷ t)) (34 ∷ []) in
    subst (λ (line : List ℕ). without_cr line ≡ line) inner (no-return (decimal n ++ (44 ∷ (34 ∷ t))))

-- there is always a piece, so an LF ends the one before it
piece-more : (b : ℕ) (t : Bool) (ps : List (List ℕ)) → 1 ≤ length ps
    → 1 ≤ length (if t then [] ∷ ps else onto_first b ps)
piece-more b true ps some = omega arith
piece-more b false [] some = absurd (omega (arith, some))
piece-more b false (p ∷ ps) some = omega arith

pub some-piece : (bs : List ℕ) → 1 ≤ length (split 10 bs)
some-piece [] = omega arith
some-piece (b ∷ bs) = piece-more b (b == 10) (split 10 bs) (some-piece bs)

pub ended-more : (x : List ℕ) (ps : List (List ℕ)) → 1 ≤ length ps → ended (x ∷ ps) ≡ without_cr x ∷ ended ps
ended-more x [] some = absurd (omega (arith, some))
ended-more x (p ∷ ps) some = refl

-- the first line of a text, and the lines behind it
pub first-line : (n : ℕ) (r rest : List ℕ) → n ≤ 182880 → lines (record_line n r ++ rest) ≡ line_at n r ∷ lines rest
first-line n r rest le =
    ap (λ (t : List ℕ). lines (t ++ rest)) (sym (line-ended n r))
    ∙ ap lines (append_assoc (line_at n r) (10 ∷ []) rest)
    ∙ ap ended (split_piece 10 (line_at n r) rest (line-lacks n r le))
    ∙ ended-more (line_at n r) (split 10 rest) (some-piece rest)
    ∙ ap (λ (line : List ℕ). line ∷ lines rest) (line-stays n r)
