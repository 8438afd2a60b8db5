-- The lines of bytes to which one more line comes.
use Rattle.std.proofs.Common.{◌≡◌, ◌<◌, ℕ, Bool, true, false, List, [], ◌∷◌, ◌++◌, length, map, refl, sym, subst, ◌∙◌}
use Rattle.std.proofs.Common.{ap, inr, ⊎_elim, arith, append_assoc, append-nil}
use Rattle.std.specs.Prelude.{◌==◌, if◌then◌else◌}
use Rattle.line_text.specs.scripts.Lines.{ended, lines, onto_first, split, without_cr}
use Rattle.line_text.proofs.lemmas.scripts.Lines.{split_whole}
use Rattle.line_server.specs.Read.{AreWhole, LacksLf}

onto_some : (x : ℕ) (ps : List (List ℕ)) → 0 < length ps → 0 < length (onto_first x ps)
onto_some x [] some = absurd (omega (arith, some))
onto_some x (p ∷ ps) some = omega arith

-- there is always a piece
split_some : (xs : List ℕ) → 0 < length (split 10 xs)
split_some [] = omega arith
split_some (x ∷ xs) = pick (x == 10) (split_some xs)
  where
    pick : (t : Bool) → 0 < length (split 10 xs)
        → 0 < length (if t then [] ∷ split 10 xs else onto_first x (split 10 xs))
    pick true some = omega arith
    pick false some = onto_some x (split 10 xs) some

onto_append : (x : ℕ) (ps qs : List (List ℕ)) → 0 < length ps → onto_first x (ps ++ qs) ≡ onto_first x ps ++ qs
onto_append x [] qs some = absurd (omega (arith, some))
onto_append x (p ∷ ps) qs some = refl

-- an LF cuts
split_append : (xs ys : List ℕ) → split 10 (xs ++ 10 ∷ ys) ≡ split 10 xs ++ split 10 ys
split_append [] ys = refl
split_append (x ∷ xs) ys = pick (x == 10) (split_append xs ys)
  where
    pick : (t : Bool) → split 10 (xs ++ 10 ∷ ys) ≡ split 10 xs ++ split 10 ys
        → (if t then [] ∷ split 10 (xs ++ 10 ∷ ys) else onto_first x (split 10 (xs ++ 10 ∷ ys)))
        ≡ (if t then [] ∷ split 10 xs else onto_first x (split 10 xs)) ++ split 10 ys
    pick true is = ap (λ ps. [] ∷ ps) is
    pick false is = ap (onto_first x) is ∙ onto_append x (split 10 xs) (split 10 ys) (split_some xs)

ended_append : (ps qs : List (List ℕ)) → 0 < length qs → ended (ps ++ qs) ≡ map without_cr ps ++ ended qs
ended_append [] qs some = refl
ended_append (p ∷ []) [] some = absurd (omega (arith, some))
ended_append (p ∷ []) (q ∷ qs) some = refl
ended_append (p ∷ r ∷ ps) qs some = ap (λ ls. without_cr p ∷ ls) (ended_append (r ∷ ps) qs some)

lines_append : (xs ys : List ℕ) → lines (xs ++ 10 ∷ ys) ≡ map without_cr (split 10 xs) ++ lines ys
lines_append xs ys = ap ended (split_append xs ys) ∙ ended_append (split 10 xs) (split 10 ys) (split_some ys)

lines_one : (raw : List ℕ) → LacksLf raw → lines (raw ++ 10 ∷ []) ≡ without_cr raw ∷ []
lines_one raw lacks = lines_append raw [] ∙ ap (λ ps. map without_cr ps ++ []) (split_whole 10 raw lacks)

-- one line more
pub lines_more : (handled raw : List ℕ) → AreWhole handled → LacksLf raw
    → lines (handled ++ (raw ++ 10 ∷ [])) ≡ lines handled ++ without_cr raw ∷ []
lines_more handled raw whole lacks = ⊎_elim
    (λ e. subst (λ hs. lines (hs ++ (raw ++ 10 ∷ [])) ≡ lines hs ++ without_cr raw ∷ []) (sym e) (lines_one raw lacks))
    (λ w. subst (λ hs. lines (hs ++ (raw ++ 10 ∷ [])) ≡ lines hs ++ without_cr raw ∷ []) (sym w.1) (behind w.0))
    whole
  where
    behind : (front : List ℕ) → lines ((front ++ 10 ∷ []) ++ (raw ++ 10 ∷ [])) ≡ lines (front ++ 10 ∷ []) ++ without_cr
        raw ∷ []
    behind front =
        ap lines (append_assoc front (10 ∷ []) (raw ++ 10 ∷ []))
        ∙ lines_append front (raw ++ 10 ∷ [])
        ∙ ap (λ ls. map without_cr (split 10 front) ++ ls) (lines_one raw lacks)
        ∙ ap (λ ls. ls ++ without_cr raw ∷ [])
        (sym (lines_append front [] ∙ append-nil (map without_cr (split 10 front))))

pub whole_more : (handled raw : List ℕ) → AreWhole (handled ++ (raw ++ 10 ∷ []))
whole_more handled raw = inr (handled ++ raw, sym (append_assoc handled raw (10 ∷ [])))

-- lines behind lines
pub lines_two : (handled more : List ℕ) → AreWhole handled → lines (handled ++ more) ≡ lines handled ++ lines more
lines_two handled more whole = ⊎_elim
    (λ e. subst (λ hs. lines (hs ++ more) ≡ lines hs ++ lines more) (sym e) refl)
    (λ w. subst (λ hs. lines (hs ++ more) ≡ lines hs ++ lines more) (sym w.1) (behind w.0))
    whole
  where
    behind : (front : List ℕ) → lines ((front ++ 10 ∷ []) ++ more) ≡ lines (front ++ 10 ∷ []) ++ lines more
    behind front =
        ap lines (append_assoc front (10 ∷ []) more)
        ∙ lines_append front more
        ∙ ap (λ ls. ls ++ lines more) (sym (lines_append front [] ∙ append-nil (map without_cr (split 10 front))))

pub whole_two : (handled more : List ℕ) → AreWhole handled → AreWhole more → AreWhole (handled ++ more)
whole_two handled more whole whole_more = ⊎_elim
    (λ e. subst (λ ms. AreWhole (handled ++ ms)) (sym e) (subst AreWhole (sym (append-nil handled)) whole))
    (λ w. inr (handled ++ w.0, ap (λ ms. handled ++ ms) w.1 ∙ sym (append_assoc handled w.0 (10 ∷ []))))
    whole_more
