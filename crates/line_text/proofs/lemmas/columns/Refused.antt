-- More columns than there are positions, or one that is too long: a quotation mark is in the text, and in no text of bytes.
use Rattle.std.proofs.Common.{◌≡◌, ◌<◌, ◌≤◌, ◌-◌, ◌+◌, ℕ, zero, suc, List, [], ◌∷◌, ◌++◌, Bool, true, false, arith}
use Rattle.std.proofs.Common.{get_or, length, map, subst, sym}
use Rattle.std.specs.Prelude.{if◌then◌else◌, nat_lt}
use Rattle.std.proofs.lemmas.List.{length-map}
use Rattle.line_text.specs.bytes.Texts.{text_of}
use Rattle.line_text.proofs.lemmas.columns.CutBack.{HasNoMark, text-no_mark}
use Rattle.line_text.proofs.lemmas.columns.Places.{after-some, too-far}
use Rattle.line_text.specs.columns.Pieces.{IsTooLong, byte_count, cut, end_after, joined_at, pieces_text, placed, texts_of}
use Rattle.line_text.specs.columns.Marks.{without_marks}

behind-no_mark : (xs ys : List ℕ) → HasNoMark (xs ++ ys) → HasNoMark ys
behind-no_mark [] ys none = none
behind-no_mark (x ∷ xs) ys none = behind-no_mark xs ys none.1

either-marked : (p : Bool) (before rest : List ℕ) → (HasNoMark rest → ⊥)
    → HasNoMark (if p then before ++ rest else 34 ∷ []) → ⊥
either-marked true before rest marked none = marked (behind-no_mark before rest none)
either-marked false before rest marked none = cc

marked : (end : ℕ) (ps : List ℕ) (texts : List (List ℕ)) → length ps < length texts → HasNoMark (joined_at end ps texts) → ⊥
unfolding joined_at
marked end [] [] more none = absurd (omega (arith, more))
marked end [] (text ∷ texts) more none = cc
marked end (p ∷ ps) [] more none = absurd (omega (arith, more))
marked end (p ∷ ps) (text ∷ texts) more none =
    either-marked (nat_lt end p) (placed end p text) (joined_at (end_after end p text) ps texts)
    (marked (end_after end p text) ps texts (omega (arith, more))) none

pub more-refused : (ps line bytes : List ℕ) → length ps < length (cut false line) → pieces_text ps line ≡ text_of bytes → ⊥
more-refused ps line bytes more is =
    marked 0 ps (map without_marks (cut false line)) (omega (arith, more, length-map (cut false line) without_marks))
    (subst HasNoMark (sym is) (text-no_mark bytes))

-- a piece that goes beyond the next position
long-marked : (k end : ℕ) (ps : List ℕ) (texts : List (List ℕ)) → suc k < length ps → k < length texts
    → 1 ≤ length (get_or texts k []) → get_or ps (suc k) 0 ≤ get_or ps k 0 - 1 + byte_count 0 (get_or texts k [])
    → HasNoMark (joined_at end ps texts) → ⊥
unfolding joined_at
long-marked k end [] texts few low some long none = absurd (omega (arith, few))
long-marked k end (p ∷ ps) [] few low some long none = absurd (omega (arith, low))
long-marked zero end (p ∷ ps) (text ∷ texts) few low some long none =
    let after : ℕ = end_after end p text in
    let past : get_or ps 0 0 ≤ after = omega (arith, long, after-some end p text some) in
    either-marked (nat_lt end p) (placed end p text) (joined_at after ps texts)
    (λ none_after. cannot (subst HasNoMark (too-far after ps texts (omega (arith, few)) past) none_after)) none
  where
    cannot : HasNoMark (34 ∷ []) → ⊥
    cannot h = cc
long-marked (suc k) end (p ∷ ps) (text ∷ texts) few low some long none =
    either-marked (nat_lt end p) (placed end p text) (joined_at (end_after end p text) ps texts)
    (long-marked k (end_after end p text) ps texts (omega (arith, few)) (omega (arith, low)) some long) none

pub long-refused : (ps line bytes : List ℕ) (k : ℕ) → IsTooLong ps line k → pieces_text ps line ≡ text_of bytes → ⊥
long-refused ps line bytes k is same =
    long-marked k 0 ps (texts_of line) is.next is.column is.some is.beyond (subst HasNoMark (sym same) (text-no_mark bytes))
