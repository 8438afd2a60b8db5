-- Bytes of a file that are read behind a change of it.
use Rattle.std.proofs.Common.{◌≡◌, ◌≤◌, ◌<◌, ◌+◌, ◌-◌, ◌++◌, ◌∙◌, ℕ, List, ap, arith, refl, sym, ⊎_elim}
use Rattle.std.proofs.Common.{length, get_or, take, drop, replicate, get_or-take, get_or-drop, length-append, length-take}
use Rattle.std.proofs.Common.{length-drop}
use Rattle.std.specs.Prelude.{max}
use Rattle.std.proofs.lemmas.Bool.{cases_lt}
use Rattle.std.proofs.lemmas.List.{get_or_past, get_or_append_left, get_or-append_right, get_or-replicate, length-replicate}
use Rattle.image_file.specs.Remains.{ended_behind, grown, put_in}

zeros : (m i : ℕ) → get_or {A = ℕ} (replicate m 0) i 0 ≡ 0
zeros m i = ⊎_elim
    (λ (here : i < m). get_or-replicate m i 0 0 here)
    (λ (past : m ≤ i). get_or_past (replicate m 0) i 0 (omega (arith, past, length-replicate {A = ℕ} m 0)))
    (cases_lt i m)

-- zeros behind the bytes are read where nothing is, too
pub index_grown : (all : List ℕ) (n i : ℕ) → get_or (grown all n) i 0 ≡ get_or all i 0
index_grown all n i = ⊎_elim
    (λ (here : i < length all). get_or_append_left all (replicate (n - length all) 0) 0 i here)
    (λ (past : length all ≤ i).
    get_or-append_right all (replicate (n - length all) 0) (length all) i 0 refl past
    ∙ zeros (n - length all) (i - length all) ∙ sym (get_or_past all i 0 past))
    (cases_lt i (length all))

pub length_grown : (all : List ℕ) (n : ℕ) → length (grown all n) ≡ length all + (n - length all)
length_grown all n =
    length-append all (replicate (n - length all) 0)
    ∙ ap (λ (m : ℕ). length all + m) (length-replicate {A = ℕ} (n - length all) 0)

-- before the bytes that were put in
pub index_before : (all : List ℕ) (n : ℕ) (bytes : List ℕ) (i : ℕ) → i < n
    → get_or (put_in all n bytes) i 0 ≡ get_or all i 0
index_before all n bytes i lt =
    let g : List ℕ = grown all n in
    let size : length (take n g) ≡ n = omega (arith, length-take n g, length_grown all n) in
    get_or_append_left (take n g ++ bytes) (drop (n + length bytes) g) 0 i
    (omega (arith, lt, size, length-append (take n g) bytes))
    ∙ get_or_append_left (take n g) bytes 0 i (omega (arith, lt, size))
    ∙ get_or-take n g i 0 lt ∙ index_grown all n i

-- among them
pub index_within : (all : List ℕ) (n : ℕ) (bytes : List ℕ) (i : ℕ) → i < length bytes
    → get_or (put_in all n bytes) (n + i) 0 ≡ get_or bytes i 0
index_within all n bytes i lt =
    let g : List ℕ = grown all n in
    let size : length (take n g) ≡ n = omega (arith, length-take n g, length_grown all n) in
    get_or_append_left (take n g ++ bytes) (drop (n + length bytes) g) 0 (n + i)
    (omega (arith, lt, size, length-append (take n g) bytes))
    ∙ get_or-append_right (take n g) bytes n (n + i) 0 size (omega arith)
    ∙ ap (λ (k : ℕ). get_or bytes k 0) (omega arith)

-- behind them
pub index_behind : (all : List ℕ) (n : ℕ) (bytes : List ℕ) (i : ℕ) → n + length bytes ≤ i
    → get_or (put_in all n bytes) i 0 ≡ get_or all i 0
index_behind all n bytes i le =
    let g : List ℕ = grown all n in
    let size : length (take n g) ≡ n = omega (arith, length-take n g, length_grown all n) in
    let both : length (take n g ++ bytes) ≡ n + length bytes = omega (arith, size, length-append (take n g) bytes) in
    get_or-append_right (take n g ++ bytes) (drop (n + length bytes) g) (n + length bytes) i 0 both le
    ∙ get_or-drop (n + length bytes) g (i - (n + length bytes)) 0
    ∙ ap (λ (k : ℕ). get_or g k 0) (omega (arith, le)) ∙ index_grown all n i

-- how many bytes there are then
pub length_put_in : (all : List ℕ) (n : ℕ) (bytes : List ℕ)
    → length (put_in all n bytes) ≡ max (length all) (n + length bytes)
length_put_in all n bytes =
    let g : List ℕ = grown all n in
    omega (
      arith,
      length-append (take n g ++ bytes) (drop (n + length bytes) g),
      length-append (take n g) bytes,
      length-take n g,
      length-drop (n + length bytes) g,
      length_grown all n,
    )

-- before the new end
pub index_ended : (all : List ℕ) (n i : ℕ) → i < n → get_or (ended_behind all n) i 0 ≡ get_or all i 0
index_ended all n i lt = get_or-take n (grown all n) i 0 lt ∙ index_grown all n i
