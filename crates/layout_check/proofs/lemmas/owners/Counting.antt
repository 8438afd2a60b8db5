-- How many sectors other entries own, counted over the table of owners.
use Rattle.std.proofs.Common.{ℕ, zero, suc, ◌≡◌, ◌≢◌, ◌<◌, ◌≤◌, ◌+◌, ◌-◌, ◌⊎◌, Bool, true, false, cond, List}
use Rattle.std.proofs.Common.{[], ◌∷◌}
use Rattle.std.proofs.Common.{◌++◌, length, slice_index, sym, ◌∙◌, ap, refl, arith, inl, inr}
use Rattle.std.specs.Prelude.{Contains, Some, filter, flat_map, nat_eq, not, slice_get, ◌&&◌}
use Rattle.std.proofs.lemmas.Bool.{false≢true}
use Rattle.std.proofs.lemmas.Bool.Decides.{nat_tests}
use Rattle.std.proofs.lemmas.List.Elements.{Contains-append_cases, Contains-append_left}
use Rattle.std.proofs.lemmas.List.Elements.{Contains-append_right}
use Rattle.std.proofs.lemmas.Option.{slice_get_within}
use Rattle.std.proofs.Math.Decide.{dec_lt}
use Rattle.d64_image.proofs.Places.{at_low, below_grows, place_of}
use Rattle.d64_image.specs.Geometry.{sectors_below, sectors_on}
use Rattle.d64_image.specs.Places.{index_of}
use Rattle.d64_image.specs.declared.place.Place.{Place}
use Rattle.disk_layout.proofs.lemmas.counts.Recount.{filter-out, flat_map-out}
use Rattle.disk_layout.proofs.lemmas.layouts.Layouts.{get-contains}
use Rattle.disk_layout.proofs.lemmas.lists.Lists.{contains-get, filter-once}
use Rattle.disk_layout.proofs.lemmas.lists.Once.{Contains-cases, Contains-nil}
use Rattle.disk_layout.proofs.lemmas.lists.Once.{EachOnce-apart, EachOnce-join, EachOnce-left, EachOnce-right}
use Rattle.disk_layout.proofs.lemmas.lists.Once.{all-in}
use Rattle.disk_layout.proofs.lemmas.lists.Once.{filter-in, flat_map-in}
use Rattle.disk_layout.specs.Chain.{EachOnce}
use Rattle.disk_layout.specs.Directory.{map_place}
use Rattle.disk_layout.specs.Layout.{File, Layout, file_owns, owners}
use Rattle.disk_layout.specs.Rest.{others, taken_by_others}
use Rattle.layout_check.specs.Open.{IsShut}
use Rattle.layout_check.specs.Owners.{owner_of}
use Rattle.layout_check.specs.Survey.{IsSurveyOf}
use Rattle.layout_check.specs.declared.survey_outcome.Survey.{Survey}
use Rattle.layout_check.proofs.lemmas.owners.Ranks.{rank, rank-all, rank-in, rank-none, rank-out}

-- a sector of track 18 stands at 357 to 375 in an image, and no other does
on_18 : (p : Place) → p.track ≡ 18 → (357 ≤ index_of p) × (index_of p < 376)
unfolding index_of
on_18 p e =
    let at : sectors_below p.track ≡ 357 = ap sectors_below e ∙ at_low 18 (omega arith) (omega arith) in
    let many : sectors_on p.track ≡ 19 = ap sectors_on e in
    (omega arith, omega (arith, p.on_disk))

off_18 : (p : Place) → p.track ≢ 18 → (index_of p < 357) ⊎ (376 ≤ index_of p)
unfolding index_of
off_18 p ne = elim (dec_lt p.track 18) [
  | yes lt ↦ inl (omega (arith, below_grows p.track 18 lt, at_low 18 (omega arith) (omega arith), p.on_disk))
  | no le ↦ inr (let grown : sectors_below 18 + 19 ≤ sectors_below p.track =
      below_grows 18 p.track (omega (arith, le, ne)) in omega (arith, grown, at_low 18 (omega arith) (omega arith)))
]

left-out : (n e : ℕ) → (not (nat_eq n e) && not (nat_eq n e)) ≡ true → n ≢ e
left-out n e is same = grind (arith, nat_tests)

left-in : (n e : ℕ) → n ≢ e → (not (nat_eq n e) && not (nat_eq n e)) ≡ true
left-in n e ne = grind (arith, nat_tests)

-- what the other files own
others-own : (e n : ℕ) (fs : List File) (p : Place) → Contains (flat_map file_owns (others e e n fs)) p → (k : ℕ)
    × (f : File) × (slice_get fs k ≡ Some f) × (n + k ≢ e) × Contains (file_owns f) p
others-own e n [] p c = absurd (Contains-nil p c)
others-own e n (f ∷ fs) p c = step (not (nat_eq n e) && not (nat_eq n e)) refl (others-own e (suc n) fs p) c
  where
    later : (Contains (flat_map file_owns (others e e (suc n) fs)) p → (k : ℕ) × (g : File) × (slice_get fs k ≡ Some g)
        × (suc n + k ≢ e) × Contains (file_owns g) p) → Contains (flat_map file_owns (others e e (suc n) fs)) p
        → (k : ℕ) × (g : File) × (slice_get (f ∷ fs) k ≡ Some g) × (n + k ≢ e) × Contains (file_owns g) p
    later more d = let (k, g, there, ne, own) = more d in (suc k, g, there, (λ z. ne (omega arith)), own)

    step : (t : Bool) → (not (nat_eq n e) && not (nat_eq n e)) ≡ t
        → (Contains (flat_map file_owns (others e e (suc n) fs)) p → (k : ℕ) × (g : File) × (slice_get fs k ≡ Some g)
        × (suc n + k ≢ e) × Contains (file_owns g) p)
        → Contains (flat_map file_owns (cond t (f ∷ []) [] ++ others e e (suc n) fs)) p → (k : ℕ) × (g : File)
        × (slice_get (f ∷ fs) k ≡ Some g) × (n + k ≢ e) × Contains (file_owns g) p
    step true is more d = elim (Contains-append_cases (file_owns f) (flat_map file_owns (others e e (suc n) fs)) p d) [
      | inl own ↦ (0, f, refl, (λ z. left-out n e is (omega arith)), own)
      | inr rest ↦ later more rest
    ]
    step false is more d = later more d

owned-others : (e n : ℕ) (fs : List File) (k : ℕ) (f : File) (p : Place) → slice_get fs k ≡ Some f → n + k ≢ e
    → Contains (file_owns f) p → Contains (flat_map file_owns (others e e n fs)) p
owned-others e n [] k f p there ne own = cc
owned-others e n (g ∷ fs) zero f p there ne own = step (not (nat_eq n e) && not (nat_eq n e))
    (left-in n e (λ z. ne (omega arith)))
  where
    step : (t : Bool) → t ≡ true → Contains (flat_map file_owns (cond t (g ∷ []) [] ++ others e e (suc n) fs)) p
    step true is = Contains-append_left (file_owns g) (flat_map file_owns (others e e (suc n) fs)) p (let same : g ≡ f =
        cc in rw same own)
    step false is = absurd (false≢true is)
owned-others e n (g ∷ fs) (suc k) f p there ne own = step (not (nat_eq n e) && not (nat_eq n e))
    (owned-others e (suc n) fs k f p there (λ z. ne (omega arith)) own)
  where
    step : (t : Bool) → Contains (flat_map file_owns (others e e (suc n) fs)) p
        → Contains (flat_map file_owns (cond t (g ∷ []) [] ++ others e e (suc n) fs)) p
    step true rest = Contains-append_right (file_owns g) (flat_map file_owns (others e e (suc n) fs)) p rest
    step false rest = rest

abbrev off : Place → Bool
off p = not (nat_eq p.track 18)

off-true : (p : Place) → p.track ≢ 18 → off p ≡ true
off-true p ne = grind (arith, nat_tests)

off-out : (p : Place) → off p ≡ true → p.track ≢ 18
off-out p t = grind (arith, nat_tests)

-- the places outside track 18 that other entries own
abbrev pub elsewhere : Layout → ℕ → List Place
elsewhere l e = filter off (flat_map file_owns (others e e 0 l.files))

-- what other files own is in what all own, and comes once where that does
others-in : (e n : ℕ) (fs : List File) (p : Place) → Contains (flat_map file_owns (others e e n fs)) p
    → Contains (flat_map file_owns fs) p
others-in e n fs p c = let (k, f, there, ne, own) = others-own e n fs p c in
    flat_map-in file_owns fs f p (get-contains fs k f there) own

others-once : (e n : ℕ) (fs : List File) → EachOnce (flat_map file_owns fs)
    → EachOnce (flat_map file_owns (others e e n fs))
others-once e n [] once = tt
others-once e n (f ∷ fs) once = step (not (nat_eq n e) && not (nat_eq n e))
    (others-once e (suc n) fs (EachOnce-right (file_owns f) (flat_map file_owns fs) once))
  where
    step : (t : Bool) → EachOnce (flat_map file_owns (others e e (suc n) fs))
        → EachOnce (flat_map file_owns (cond t (f ∷ []) [] ++ others e e (suc n) fs))
    step true rest = EachOnce-join (file_owns f) (flat_map file_owns (others e e (suc n) fs))
        (EachOnce-left (file_owns f) (flat_map file_owns fs) once) rest
        (λ p c d. EachOnce-apart (file_owns f) (flat_map file_owns fs) once p c (others-in e (suc n) fs p d))
    step false rest = rest

elsewhere-once : (l : Layout) (e : ℕ) → EachOnce (map_place ∷ owners l) → EachOnce (elsewhere l e)
unfolding owners
elsewhere-once l e once =
    filter-once off _ (others-once e 0 l.files (EachOnce-right l.directory (flat_map file_owns l.files) once.1))

elsewhere-owner : (l : Layout) (s : Survey) (e : ℕ) (p : Place) → IsSurveyOf l s → Contains (elsewhere l e) p
    → (owner_of s.owners p ≢ 255) × (owner_of s.owners p ≢ e) × (p.track ≢ 18)
elsewhere-owner l s e p h c =
    let (d, out) = filter-out off (flat_map file_owns (others e e 0 l.files)) p c in
    let (k, f, there, ne, own) = others-own e 0 l.files p d in
    let is : owner_of s.owners p ≡ k = h.table.own k f p there own in
    let small : k < length l.files = slice_get_within l.files k f there in
    ((λ z. omega (arith, h.few, h.entries)), (λ z. ne (omega arith)), off-out p out)

elsewhere-in : (l : Layout) (s : Survey) (e : ℕ) (p : Place) → IsSurveyOf l s → owner_of s.owners p ≢ 255
    → owner_of s.owners p ≢ e → p.track ≢ 18 → Contains (elsewhere l e) p
elsewhere-in l s e p h some other out =
    elim (Contains-cases p map_place (l.directory ++ flat_map file_owns l.files) ((h.table.owned p).0 some)) [
      | inl z ↦ absurd (out (sym (ap (λ (x : Place). x.track) z)))
      | inr c ↦ elim (Contains-append_cases l.directory (flat_map file_owns l.files) p c) [
        | inl d ↦ absurd (out (all-in (λ (x : Place). x.track ≡ 18) l.directory p h.on_track d))
        | inr d ↦
            let (f, of, own) = flat_map-out file_owns l.files p d in
            let (k, there) = contains-get l.files f of in
            filter-in off _ p (owned-others e 0 l.files k f p there (λ z. other (h.table.own k f p there own
            ∙ (let n : 0 + k ≡ k = omega arith in sym n) ∙ z)) own) (off-true p out)
      ]
    ]

-- how many sectors of track 18 stand below n in an image
abbrev pub eighteen : ℕ → ℕ
eighteen n = (n - 357) - (n - 376)

-- of the sectors below n, those that were counted, those that others own, and those of track 18 are all
pub IsCounted : Survey → ℕ → ℕ → ℕ → Type 0
IsCounted s e n count = (l : Layout) → IsSurveyOf l s → count + rank (elsewhere l e) n + eighteen n ≡ n

pub counted-none : (s : Survey) (e : ℕ) → IsCounted s e 0 0
unfolding IsCounted
counted-none s e l h = omega (arith, rank-none (elsewhere l e))

-- the number that is read
number-at : (s : Survey) (numbers : List ℕ) (n number : ℕ)
    → ((p : Place) → slice_index numbers (index_of p) ≡ owner_of s.owners p) → n < 683 → number ≡ slice_index numbers n
    → (p : Place) × (index_of p ≡ n) × (owner_of s.owners p ≡ number)
number-at s numbers n number table low read =
    let (p, at) = place_of n low in
    (p, at, sym (table p) ∙ ap (slice_index numbers) at ∙ sym read)

pub counted-free : (s : Survey) (e n number count : ℕ) (numbers : List ℕ)
    → ((p : Place) → slice_index numbers (index_of p) ≡ owner_of s.owners p) → n < 683 → number ≡ slice_index numbers n
    → (n < 357) ⊎ (376 ≤ n) → (number ≡ 255) ⊎ (number ≡ e) → IsCounted s e n count → IsCounted s e (n + 1) (count + 1)
unfolding IsCounted
counted-free s e n number count numbers table low read out mine so_far l h =
    let (p, at, is) = number-at s numbers n number table low read in
    let none : ¬ (Contains (elsewhere l e) p) = λ c. not-mine p (elsewhere-owner l s e p h c) is mine in
    let same = rank-out (elsewhere l e) p none in
    by_side out (rw at at same) (so_far l h)
  where
    not-mine : (p : Place) → (owner_of s.owners p ≢ 255) × (owner_of s.owners p ≢ e) × (p.track ≢ 18)
        → owner_of s.owners p ≡ number → (number ≡ 255) ⊎ (number ≡ e) → ⊥
    not-mine p h is (inl z) = h.0 (is ∙ z)
    not-mine p h is (inr z) = h.1 (is ∙ z)

    by_side : (n < 357) ⊎ (376 ≤ n) → rank (elsewhere l e) (n + 1) ≡ rank (elsewhere l e) n
        → count + rank (elsewhere l e) n + eighteen n ≡ n → count + 1 + rank (elsewhere l e) (n + 1) + eighteen (n + 1)
        ≡ n + 1
    by_side (inl lt) same so_far = omega arith
    by_side (inr ge) same so_far = omega arith

counted-other : (s : Survey) (e n number count : ℕ) (numbers : List ℕ)
    → ((p : Place) → slice_index numbers (index_of p) ≡ owner_of s.owners p) → n < 683 → number ≡ slice_index numbers n
    → (n < 357) ⊎ (376 ≤ n) → number ≢ 255 → number ≢ e → IsCounted s e n count → IsCounted s e (n + 1) count
unfolding IsCounted
counted-other s e n number count numbers table low read out some other so_far l h =
    let (p, at, is) = number-at s numbers n number table low read in
    let there = elsewhere-in l s e p h (λ z. some (sym is ∙ z)) (λ z. other (sym is ∙ z))
    (λ t. not-there p (on_18 p t) at out) in
    let more = rank-in (elsewhere l e) p (elsewhere-once l e h.once) there in
    by_side out (rw at at more) (so_far l h)
  where
    not-there : (p : Place) → (357 ≤ index_of p) × (index_of p < 376) → index_of p ≡ n → (n < 357) ⊎ (376 ≤ n) → ⊥
    not-there p h at (inl lt) = omega (arith, h, at)
    not-there p h at (inr ge) = omega (arith, h, at)

    by_side : (n < 357) ⊎ (376 ≤ n) → rank (elsewhere l e) (n + 1) ≡ rank (elsewhere l e) n + 1
        → count + rank (elsewhere l e) n + eighteen n ≡ n → count + rank (elsewhere l e) (n + 1) + eighteen (n + 1) ≡ n
        + 1
    by_side (inl lt) more so_far = omega arith
    by_side (inr ge) more so_far = omega arith

counted-18 : (s : Survey) (e n count : ℕ) → n < 683 → 357 ≤ n → n < 376 → IsCounted s e n count
    → IsCounted s e (n + 1) count
unfolding IsCounted
counted-18 s e n count low from to so_far l h =
    let (p, at) = place_of n low in
    let none : ¬ (Contains (elsewhere l e) p) = λ c. not-18 p (off_18 p (elsewhere-owner l s e p h c).2) at in
    let same = rank-out (elsewhere l e) p none in
    by_side (rw at at same) (so_far l h)
  where
    not-18 : (p : Place) → (index_of p < 357) ⊎ (376 ≤ index_of p) → index_of p ≡ n → ⊥
    not-18 p (inl lt) at = omega arith
    not-18 p (inr ge) at = omega arith

    by_side : rank (elsewhere l e) (n + 1) ≡ rank (elsewhere l e) n → count + rank (elsewhere l e) n + eighteen n ≡ n
        → count + rank (elsewhere l e) (n + 1) + eighteen (n + 1) ≡ n + 1
    by_side same so_far = omega arith

pub counted-shut : (s : Survey) (e n number count : ℕ) (numbers : List ℕ)
    → ((p : Place) → slice_index numbers (index_of p) ≡ owner_of s.owners p) → n < 683 → number ≡ slice_index numbers n
    → IsShut e n number → IsCounted s e n count → IsCounted s e (n + 1) count
counted-shut s e n number count numbers table low read (inl h) so_far = counted-18 s e n count low h.0 h.1 so_far
counted-shut s e n number count numbers table low read (inr h) so_far = counted-other s e n number count numbers table
    low read h.0 h.1 h.2 so_far

pub counted-all : (s : Survey) (e n count : ℕ) → n ≡ 683 → IsCounted s e n count → (l : Layout) → IsSurveyOf l s
    → count + taken_by_others l e ≡ 664
unfolding IsCounted taken_by_others
counted-all s e n count all so_far l h =
    let ends : count + rank (elsewhere l e) 683 + eighteen 683 ≡ 683 = rw all at (so_far l h) in
    omega (arith, ends, rank-all (elsewhere l e))
