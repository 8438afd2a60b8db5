-- The lines of a script, cut at its first LF.
use Rattle.std.proofs.Common.{
  ◌≡◌,
  ◌≢◌,
  ◌<◌,
  ◌≤◌,
  ℕ,
  suc,
  Bool,
  true,
  false,
  List,
  [],
  ◌∷◌,
  ◌++◌,
  ◌+◌,
  length,
  get_or,
  take,
  drop,
  refl,
  sym,
  ◌∙◌,
  ap,
  inl,
  inr,
  eq-eqb,
  ne_eqb,
  add-one,
  arith,
  ◌-◌,
}
use Rattle.std.specs.Prelude.{◌==◌, ◌||◌, fold, zero, if◌then◌else◌, None}
use Rattle.std.specs.List.{AllByRecursion}
use Rattle.std.proofs.Math.Seq.{split_at}
use Rattle.std.proofs.lemmas.List.{length-take-le, get_or-take, length-drop, take_rest}
use Rattle.std.proofs.lemmas.List.Elements.{recursion_from_All, All-from_get_or}
use Rattle.std.proofs.lemmas.Bool.Decides.{eqb_tells}
use Rattle.std.specs.Array.{IsFirstChunk}
use Rattle.line_text.specs.scripts.Lines.{IsFirst, onto_first, split, without_cr, ended, lines, first_reset, is_reset}

-- no byte of the list is c
abbrev pub Lacks : ℕ → List ℕ → Type 0
Lacks c xs = AllByRecursion (λ x. x ≢ c) xs

-- the bytes before a place, where none of them is c
pub lacks_before : (c : ℕ) (xs : List ℕ) (n : ℕ) → n ≤ length xs
    → ((k : ℕ) → k < n → get_or xs k 0 ≢ c)
    → Lacks c (take n xs)
lacks_before c xs n fits before =
    let len : length (take n xs) ≡ n = length-take-le n xs fits in
    recursion_from_All (λ x. x ≢ c) (take n xs) (All-from_get_or (λ x. x ≢ c) (take n xs) 0
    (λ i h. let below : i < n = omega arith in rw (get_or-take n xs i 0 below) (before i below)))

-- what stands before the first c is a piece
pub split_piece : (c : ℕ) (xs ys : List ℕ) → Lacks c xs → split c (xs ++ c ∷ ys) ≡ xs ∷ split c ys
split_piece c [] ys lacks = rw (eq-eqb c c refl) refl
split_piece c (x ∷ xs) ys lacks = rw (ne_eqb x c lacks.0) (ap (onto_first x) (split_piece c xs ys lacks.1))

-- bytes without c are one piece
pub split_whole : (c : ℕ) (xs : List ℕ) → Lacks c xs → split c xs ≡ xs ∷ []
split_whole c [] lacks = refl
split_whole c (x ∷ xs) lacks = rw (ne_eqb x c lacks.0) (ap (onto_first x) (split_whole c xs lacks.1))

-- there is always a piece
IsSome_piece : List (List ℕ) → Type 0
IsSome_piece ps = (z : List ℕ) × (zs : List (List ℕ)) × (ps ≡ z ∷ zs)

piece_more : (b : ℕ) (t : Bool) (ps : List (List ℕ)) → IsSome_piece ps
    → IsSome_piece (if t then [] ∷ ps else onto_first b ps)
unfolding IsSome_piece
piece_more b true ps some = ([], ps, refl)
piece_more b false ps some = (b ∷ some.0, some.1, ap (onto_first b) some.2)

split_some : (c : ℕ) (ys : List ℕ) → IsSome_piece (split c ys)
unfolding IsSome_piece
split_some c [] = ([], [], refl)
split_some c (b ∷ bs) = piece_more b (b == c) (split c bs) (split_some c bs)

-- a piece with another after it was ended by an LF
ended_more : (x : List ℕ) (ps : List (List ℕ)) → IsSome_piece ps → ended (x ∷ ps) ≡ without_cr x ∷ ended ps
unfolding IsSome_piece
ended_more x ps some = rw (some.2) refl

-- the first line ends at the first LF
pub lines_cut : (script : List ℕ) (i : ℕ) → i < length script
    → ((k : ℕ) → k < i → get_or script k 0 ≢ 10)
    → get_or script i 0 ≡ 10
    → lines script ≡ without_cr (take i script) ∷ lines (drop (i + 1) script)
lines_cut script i inside before here =
    let lacks = lacks_before 10 script i (omega arith) before in
    let cut : script ≡ take i script ++ get_or script i 0 ∷ drop (i + 1) script =
    rw add-one (split_at script i 0 inside) in
    ap lines (cut ∙ ap (λ b. take i script ++ b ∷ drop (i + 1) script) here)
    ∙ ap ended (split_piece 10 (take i script) (drop (i + 1) script) lacks)
    ∙ ended_more (take i script) (split 10 (drop (i + 1) script)) (split_some 10 (drop (i + 1) script))

-- the same of the parts that a program lends
pub line_here : (script line : List ℕ) (i : ℕ) → IsFirst 10 script i → line ≡ without_cr (take i script)
    → (lines script ≡ line ∷ lines (take (length script - (i + 1)) (drop (i + 1) script)))
    × (length (take (length script - (i + 1)) (drop (i + 1) script)) < length script)
line_here script line i first stripped =
    rw (take_rest script (i + 1), stripped) (
      lines_cut script i first.inside first.before first.here,
      omega (arith, first.inside, length-drop (i + 1) script),
    )

-- the first byte c of a script's front is its first
pub first_of_front : (c n : ℕ) (front script : List ℕ) (i : ℕ) → IsFirstChunk script front n → IsFirst c front i
    → IsFirst c script i
first_of_front c n front script i chunk first =
    let len : length front ≡ n = ap length chunk.same ∙ length-take-le n script chunk.enough in
    let inside : i < n = omega (arith, first.inside) in
    let same : (k : ℕ) → k < n → get_or front k 0 ≡ get_or script k 0 =
    λ k h. ap (λ (xs : List ℕ). get_or xs k 0) chunk.same ∙ get_or-take n script k 0 h in
    record {
      inside = omega (arith, chunk.enough);
      here = sym (same i inside) ∙ first.here;
      before = λ k h e. first.before k h (same k (omega arith) ∙ e);
    }

-- without an LF, and not empty, a script is one line
pub lines_last : (script : List ℕ) → (length script == 0) ≡ false
    → ((k : ℕ) → k < length script → get_or script k 0 ≢ 10)
    → lines script ≡ script ∷ []
lines_last script some before =
    let lacks = recursion_from_All (λ x. x ≢ 10) script (All-from_get_or (λ x. x ≢ 10) script 0 before) in
    ap ended (split_whole 10 script lacks)
    ∙ ap (λ b. if b then [] else script ∷ []) some

pub some_length : (script : List ℕ) → (length script == 0) ≡ false → 0 < length script
some_length [] some = cc
some_length (b ∷ bs) some = omega arith

-- a script without a byte c is cut into pieces without one
pub pieces_lack : (c d : ℕ) (script : List ℕ) → Lacks c script → AllByRecursion (Lacks c) (split d script)
pieces_lack c d [] lacks = (tt, tt)
pieces_lack c d (b ∷ bs) lacks = more (b == d) (split d bs) (pieces_lack c d bs lacks.1)
  where
    more : (t : Bool) (ps : List (List ℕ)) → AllByRecursion (Lacks c) ps
        → AllByRecursion (Lacks c) (if t then [] ∷ ps else onto_first b ps)
    more true ps all = (tt, all)
    more false [] all = tt
    more false (p ∷ ps) all = ((lacks.0, all.0), all.1)

-- a line without @ is not bad
good_line : (line : List ℕ) → Lacks 64 line → is_reset line ≡ false
good_line [] lacks = refl
good_line (b ∷ bs) lacks = ne_eqb b 64 lacks.0

good_part : (n : ℕ) (line : List ℕ) → Lacks 64 line → is_reset (take n line) ≡ false
good_part zero line lacks = refl
good_part (suc n) [] lacks = refl
good_part (suc n) (b ∷ bs) lacks = ne_eqb b 64 lacks.0

good_without_cr : (line : List ℕ) → Lacks 64 line → is_reset (without_cr line) ≡ false
good_without_cr line lacks = pick (get_or line (length line - 1) 0 == 13)
  where
    pick : (t : Bool) → is_reset (if t then take (length line - 1) line else line) ≡ false
    pick true = good_part (length line - 1) line lacks
    pick false = good_line line lacks

none_bad : (ps : List (List ℕ)) → AllByRecursion (Lacks 64) ps → first_reset (ended ps) ≡ None
none_bad [] all = refl
none_bad (x ∷ []) all = pick (length x == 0)
  where
    pick : (t : Bool) → first_reset (if t then [] else x ∷ []) ≡ None
    pick true = refl
    pick false = rw (good_line x all.0) refl
none_bad (x ∷ y ∷ ys) all = rw (good_without_cr x all.0, none_bad (y ∷ ys) all.1) refl

-- once found, a byte stays found
found_stays : (c : ℕ) (xs : List ℕ) → fold (λ found b. found || b == c) true xs ≡ true
found_stays c [] = refl
found_stays c (x ∷ xs) = found_stays c xs

-- where a byte is not found, the list lacks it
pub not_found : (c : ℕ) (xs : List ℕ) → fold (λ found b. found || b == c) false xs ≡ false → Lacks c xs
not_found c [] none = tt
not_found c (x ∷ xs) none = elim (eqb_tells x c) [
  | inl h ↦ let bad : true ≡ false = sym (found_stays c xs) ∙ (rw (h.0) at none) in cc
  | inr h ↦ (h.1, not_found c xs (rw (h.0) at none))
]

-- a script without @ has no bad line
pub no_at : (script : List ℕ) → fold (λ found b. found || b == 64) false script ≡ false
    → first_reset (lines script) ≡ None
no_at script none = none_bad (split 10 script) (pieces_lack 64 10 script (not_found 64 script none))
