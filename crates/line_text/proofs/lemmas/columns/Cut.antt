-- A line cut into columns, byte by byte.
use Rattle.std.proofs.Common.{◌≡◌, ◌<◌, ◌≤◌, ◌+◌, ◌∙◌, ℕ, List, [], ◌∷◌, ◌++◌, Bool, true, false, ap}
use Rattle.std.proofs.Common.{drop, get_or, length, refl, sym, take}
use Rattle.std.specs.Prelude.{if◌then◌else◌}
use Rattle.std.proofs.lemmas.List.{append_assoc, append-nil, drop_all, drop_more, take_all, take_more}
use Rattle.line_text.specs.columns.Pieces.{cut, ends_column, onto, toggled}

-- these bytes before the first of the columns
abbrev pub ahead : List ℕ → List (List ℕ) → List (List ℕ)
ahead bytes [] = bytes ∷ []
ahead bytes (column ∷ columns) = (bytes ++ column) ∷ columns

ahead-onto : (bytes : List ℕ) (b : ℕ) (columns : List (List ℕ))
    → ahead bytes (onto b columns) ≡ ahead (bytes ++ b ∷ []) columns
ahead-onto bytes b [] = refl
ahead-onto bytes b (column ∷ columns) =
    ap (λ (c : List ℕ). c ∷ columns) (sym (append_assoc bytes (b ∷ []) column))

-- there is a first column
pub record HasFirst (columns : List (List ℕ)) : Type 0 where
  pub first : List ℕ
  pub rest : List (List ℕ)
  pub is : columns ≡ first ∷ rest

onto-first : (b : ℕ) (columns : List (List ℕ)) → HasFirst (onto b columns)
onto-first b [] = record { first = b ∷ []; rest = []; is = refl }
onto-first b (column ∷ columns) = record { first = b ∷ column; rest = columns; is = refl }

either-first : (p : Bool) (b : ℕ) (behind columns : List (List ℕ)) → HasFirst (if p then [] ∷ behind else onto b columns)
either-first true b behind columns = record { first = []; rest = behind; is = refl }
either-first false b behind columns = onto-first b columns

pub cut-first : (line : List ℕ) (marked : Bool) → HasFirst (cut marked line)
unfolding cut
cut-first [] marked = record { first = []; rest = []; is = refl }
cut-first (b ∷ line) marked = either-first (ends_column marked b) b (cut false line) (cut (toggled marked b) line)

pub none-ahead : (line : List ℕ) (marked : Bool) → cut marked line ≡ ahead [] (cut marked line)
none-ahead line marked =
    let some = cut-first line marked in
    some.is ∙ sym (ap (ahead []) some.is)

-- one byte of a column more
pub ahead-next : (line : List ℕ) (marked : Bool) (i : ℕ) → i < length line
    → ends_column marked (get_or line i 0) ≡ false
    → ahead (take i line) (cut marked (drop i line))
    ≡ ahead (take (i + 1) line) (cut (toggled marked (get_or line i 0)) (drop (i + 1) line))
unfolding cut
ahead-next line marked i low not_end =
    let b : ℕ = get_or line i 0 in
    let rest : List ℕ = drop (i + 1) line in
    ap (λ (xs : List ℕ). ahead (take i line) (cut marked xs)) (drop_more line i 0 low)
    ∙ ap (λ (p : Bool). ahead (take i line) (if p then [] ∷ cut false rest else onto b (cut (toggled marked b) rest))) not_end
    ∙ ahead-onto (take i line) b (cut (toggled marked b) rest)
    ∙ ap (λ (xs : List ℕ). ahead xs (cut (toggled marked b) rest)) (sym (take_more line i 0 low))

-- a comma ends it
pub ahead-comma : (line : List ℕ) (marked : Bool) (i : ℕ) → i < length line
    → ends_column marked (get_or line i 0) ≡ true
    → ahead (take i line) (cut marked (drop i line)) ≡ take i line ∷ cut false (drop (i + 1) line)
unfolding cut
ahead-comma line marked i low ends =
    let b : ℕ = get_or line i 0 in
    let rest : List ℕ = drop (i + 1) line in
    ap (λ (xs : List ℕ). ahead (take i line) (cut marked xs)) (drop_more line i 0 low)
    ∙ ap (λ (p : Bool). ahead (take i line) (if p then [] ∷ cut false rest else onto b (cut (toggled marked b) rest))) ends
    ∙ ap (λ (xs : List ℕ). xs ∷ cut false rest) (append-nil (take i line))

-- so does the end of the line
pub ahead-end : (line : List ℕ) (marked : Bool) (i : ℕ) → length line ≤ i
    → ahead (take i line) (cut marked (drop i line)) ≡ line ∷ []
unfolding cut
ahead-end line marked i past =
    ap (λ (xs : List ℕ). ahead (take i line) (cut marked xs)) (drop_all i line past)
    ∙ ap (λ (xs : List ℕ). xs ∷ []) (append-nil (take i line) ∙ take_all i line past)
