-- The lines of a script, one after another, as an input gives them.
use Rattle.std.proofs.Common.{◌≡◌, ◌≢◌, ◌∙◌, ◌<◌, ◌≤◌, ◌+◌, ◌-◌, ◌++◌, ◌∷◌, [], ℕ, zero, suc, Bool, true, false, List}
use Rattle.std.proofs.Common.{None, Option, Some, ap, ap₂, append-nil, append_assoc, arith, inl, inr, length, length-append}
use Rattle.std.proofs.Common.{refl, subst, sym, take, get_or, ⊎_elim}
use Rattle.std.specs.Prelude.{◌==◌, if◌then◌else◌}
use Rattle.std.specs.Io.KnownBytes.{Consumes, IsAtEnd}
use Rattle.std.specs.List.{AllByRecursion}
use Rattle.std.proofs.Math.Seq.{get_or-append_seam, take-append_seam}
use Rattle.std.proofs.lemmas.Bool.{cases_lt}
use Rattle.std.proofs.lemmas.Bool.Decides.{eqb_tells}
use Rattle.std.proofs.lemmas.List.{get_or-append-add, length-take, map-append, take_all}
use Rattle.arrayvec.specs.ArrayVec.{ArrayVec}
use Rattle.request_cards.specs.Reading.{request_of}
use Rattle.line_text.specs.scripts.Lines.{ended, lines, onto_first, split, without_cr}
use Rattle.line_server.specs.Batches.{texts_of}
use Rattle.line_server.specs.Read.{AreWhole, LacksLf}
use Rattle.line_server.specs.Scripts.{crlf_text}
use Rattle.line_server.proofs.Cuts.{lines_more, lines_two, whole_two}
use Rattle.line_server.proofs.Kept.{lacks_more}
use Rattle.line_server.proofs.Long.{long_none}
use Rattle.line_server.proofs.Together.{HasLines, line_more}

cr_plain : LacksLf (13 ∷ [])
cr_plain = (λ e. omega (arith, e), tt)

onto_lacks : (b : ℕ) (ps : List (List ℕ)) → b ≢ 10 → AllByRecursion LacksLf ps → AllByRecursion LacksLf (onto_first b ps)
onto_lacks b [] ne all = tt
onto_lacks b (p ∷ ps) ne all = ((ne, all.0), all.1)

pieces_lack : (script : List ℕ) → AllByRecursion LacksLf (split 10 script)
pieces_lack [] = (tt, tt)
pieces_lack (b ∷ bs) = elim (eqb_tells b 10) [
  | inl h ↦ rw (h.0) (tt, pieces_lack bs)
  | inr h ↦ rw (h.0) (onto_lacks b (split 10 bs) h.1 (pieces_lack bs))
]

take_lacks : (n : ℕ) (bytes : List ℕ) → LacksLf bytes → LacksLf (take n bytes)
take_lacks zero bytes all = tt
take_lacks (suc n) [] all = tt
take_lacks (suc n) (b ∷ bytes) all = (all.0, take_lacks n bytes all.1)

cr_lacks : (line : List ℕ) → LacksLf line → LacksLf (without_cr line)
cr_lacks line all = pick (get_or line (length line - 1) 0 == 13)
  where
    pick : (t : Bool) → LacksLf (if t then take (length line - 1) line else line)
    pick true = take_lacks (length line - 1) line all
    pick false = all

ended_lack : (ps : List (List ℕ)) → AllByRecursion LacksLf ps → AllByRecursion LacksLf (ended ps)
ended_lack [] all = tt
ended_lack (x ∷ []) all = pick (length x == 0)
  where
    pick : (t : Bool) → AllByRecursion LacksLf (if t then [] else x ∷ [])
    pick true = tt
    pick false = all
ended_lack (x ∷ y ∷ ys) all = (cr_lacks x all.0, ended_lack (y ∷ ys) all.1)

-- no line of a script has an LF
pub lines_lack : (script : List ℕ) → AllByRecursion LacksLf (lines script)
lines_lack script = ended_lack (split 10 script) (pieces_lack script)

-- a CR at the end is dropped
pub cr_dropped : (line : List ℕ) → without_cr (line ++ 13 ∷ []) ≡ line
cr_dropped line =
    let all : length (line ++ 13 ∷ []) - 1 ≡ length line = omega (arith, length-append line (13 ∷ [])) in
    let here : get_or (line ++ 13 ∷ []) (length (line ++ 13 ∷ []) - 1) 0 ≡ 13 =
    ap (λ k. get_or (line ++ 13 ∷ []) k 0) all ∙ get_or-append_seam line 13 [] 0 in
    rw here (ap (λ k. take k (line ++ 13 ∷ [])) all ∙ take-append_seam line (13 ∷ []))

-- what was kept of a line is the same message, or none as that is
same_request : (line kept : List ℕ) → kept ≡ take 40 line → request_of kept ≡ request_of line
same_request line kept is = ap request_of is ∙ ⊎_elim
    (λ (long : 40 < length line).
    let cut : 36 < length (take 40 line) = omega (arith, length-take 40 line, long) in
    let whole : 36 < length line = omega (arith, long) in
    long_none (take 40 line) cut ∙ sym (long_none line whole))
    (λ (short : length line ≤ 40). ap request_of (take_all 40 line short))
    (cases_lt 40 (length line))

-- the text of lines, cut behind the first one
text_more : (ls more : List (List ℕ)) (line : List ℕ) → ls ≡ line ∷ more
    → crlf_text ls ≡ ((line ++ 13 ∷ []) ++ 10 ∷ []) ++ crlf_text more
text_more ls more line is = ap crlf_text is ∙ ap (λ bs. bs ++ crlf_text more) (sym (append_assoc line (13 ∷ []) (10 ∷ [])))

first_lacks : (ls more : List (List ℕ)) (line : List ℕ) → ls ≡ line ∷ more → AllByRecursion LacksLf ls → LacksLf line
first_lacks ls more line is all = (subst (AllByRecursion LacksLf) is all).0

-- a line of a script more in the list
pub line_given : (old : Option (List ℕ)) (script more line : List ℕ) (taken after : List (ArrayVec ℕ)) (kept : ArrayVec ℕ)
    → HasLines old (Some (crlf_text (lines script))) (texts_of taken) → lines script ≡ line ∷ lines more
    → kept.items ≡ take 40 line → after ≡ taken ++ kept ∷ []
    → HasLines old (Some (crlf_text (lines more))) (texts_of after)
line_given old script more line taken after kept x is cut all =
    let lacks = first_lacks (lines script) (lines more) line is (lines_lack script) in
    subst (HasLines old (Some (crlf_text (lines more))))
    (sym (ap texts_of all ∙ map-append (λ (l : ArrayVec ℕ). l.items) taken (kept ∷ [])))
    (line_more old (Some (crlf_text (lines script))) (Some (crlf_text (lines more))) (Some (crlf_text (lines more)))
    (texts_of taken) (line ++ 13 ∷ []) kept.items x (lacks_more line (13 ∷ []) lacks cr_plain)
    (same_request line kept.items cut ∙ ap request_of (sym (cr_dropped line)))
    (text_more (lines script) (lines more) line is) refl)

-- a byte of what lacks an LF is none
lacks_at : (bytes : List ℕ) (k : ℕ) → LacksLf bytes → k < length bytes → get_or bytes k 0 ≢ 10
lacks_at [] k all inside = absurd (omega (arith, inside))
lacks_at (b ∷ bytes) zero all inside = all.0
lacks_at (b ∷ bytes) (suc k) all inside = lacks_at bytes k all.1 (omega (arith, inside))

-- what was read behind whole lines, of bytes that end in an LF, is nothing
none_behind : (handled rest front : List ℕ) → LacksLf rest → handled ++ rest ≡ front ++ 10 ∷ [] → rest ≡ []
none_behind handled [] front lacks is = refl
none_behind handled (r ∷ rest) front lacks is =
    let many : length handled + (length rest + 1) ≡ length front + 1 =
    omega (arith, length-append handled (r ∷ rest), length-append front (10 ∷ []), ap length is) in
    let here : length handled + length rest ≡ length front = omega (arith, many) in
    let last : get_or (r ∷ rest) (length rest) 0 ≡ 10 =
    sym (get_or-append-add handled (r ∷ rest) (length rest) 0)
    ∙ ap (λ bs. get_or bs (length handled + length rest) 0) is
    ∙ ap (λ k. get_or (front ++ 10 ∷ []) k 0) here
    ∙ get_or-append_seam front 10 [] 0 in
    absurd (lacks_at (r ∷ rest) (length rest) lacks (omega arith) last)

-- nothing is a part of nothing
empty_behind : (xs ys : List ℕ) → xs ++ ys ≡ [] → ys ≡ []
empty_behind [] ys is = is
empty_behind (x ∷ xs) ys is = cc

-- the text of lines ends in an LF, or is empty
text_whole : (ls : List (List ℕ)) → AreWhole (crlf_text ls)
text_whole [] = inl refl
text_whole (l ∷ ls) = whole_two (l ++ 13 ∷ 10 ∷ []) (crlf_text ls)
    (inr (l ++ 13 ∷ [], sym (append_assoc l (13 ∷ []) (10 ∷ [])))) (text_whole ls)

-- its lines are these
text_lines : (ls : List (List ℕ)) → AllByRecursion LacksLf ls → lines (crlf_text ls) ≡ ls
text_lines [] all = refl
text_lines (l ∷ ls) all =
    ap lines (text_more (l ∷ ls) ls l refl)
    ∙ lines_two ((l ++ 13 ∷ []) ++ 10 ∷ []) (crlf_text ls) (inr (l ++ 13 ∷ [], refl))
    ∙ ap₂ (λ xs ys. xs ++ ys)
    (lines_more [] (l ++ 13 ∷ []) (inl refl) (lacks_more l (13 ∷ []) all.0 cr_plain) ∙ ap (λ x. x ∷ []) (cr_dropped l))
    (text_lines ls all.1)

-- a script that was read to its end: the lines that were handled are its lines
pub all_handled : (script handled rest : List ℕ) (end : Option (List ℕ)) → AreWhole handled → LacksLf rest
    → Consumes (Some (crlf_text (lines script))) end (handled ++ rest)
    → IsAtEnd end → lines handled ≡ lines script
all_handled script handled rest None whole lacks read over = absurd read
all_handled script handled rest (Some left) whole lacks read over =
    let all : crlf_text (lines script) ≡ handled ++ rest =
    read ∙ ap (λ bs. (handled ++ rest) ++ bs) over ∙ append-nil (handled ++ rest) in
    let none : rest ≡ [] = ⊎_elim
    (λ (e : crlf_text (lines script) ≡ []). empty_behind handled rest (sym all ∙ e))
    (λ (w : (front : List ℕ) × (crlf_text (lines script) ≡ front ++ 10 ∷ [])). none_behind handled rest w.0 lacks (sym all ∙ w.1))
    (text_whole (lines script)) in
    sym (ap lines (all ∙ ap (λ bs. handled ++ bs) none ∙ append-nil handled))
    ∙ text_lines (lines script) (lines_lack script)
