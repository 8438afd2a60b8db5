-- An image that is brought to another one, sector by sector, where that is marked and differs.
use Rattle.std.proofs.Common.{◌≡◌, ◌≢◌, ◌<◌, ◌≤◌, ◌+◌, ◌⊎◌, ◌∙◌, ℕ, Bool, List, [], Some, ap, arith, false, get_or, inl, inr, length, refl, replicate}
use Rattle.std.proofs.Common.{set, sym, true, ⊎_elim}
use Rattle.std.specs.Prelude.{slice_index_or, slice_set}
use Rattle.std.proofs.lemmas.Bool.{cases_lt, false≢true}
use Rattle.std.proofs.lemmas.List.{get_or-replicate, get_or-set_other, get_or-set_same, get_or_past, length-replicate, length-set, same_lists}
use Rattle.std.proofs.lemmas.Option.{slice_get-get_or}
use Rattle.d64_image.specs.Images.{Image, Sector}
use Rattle.image_log.specs.Marks.{Covers}

-- the sectors below the i-th are brought
pub record AreBrought (first kept now : Image) (marked touched : List Bool) (i : ℕ) : Type 0 where
  pub size : length kept ≡ 683
  pub marks : length touched ≡ 683
  pub untouched : (j : ℕ) → slice_index_or touched j false ≡ false
      → slice_index_or kept j [] ≡ slice_index_or first j []
  pub here : (j : ℕ) → j < i → slice_index_or marked j false ≡ true → slice_index_or kept j [] ≡ slice_index_or now j []
  pub unmarked : (j : ℕ) → slice_index_or marked j false ≡ false → slice_index_or touched j false ≡ false
  pub differs : (j : ℕ) → slice_index_or touched j false ≡ true
      → slice_index_or first j [] ≡ slice_index_or now j [] → ⊥
  pub later : (j : ℕ) → i ≤ j → slice_index_or touched j false ≡ false

none_set : (j : ℕ) → get_or (replicate 683 false) j false ≡ false
none_set j = elim (cases_lt j 683) [
  | inl low ↦ get_or-replicate 683 j false false low
  | inr past ↦ get_or_past (replicate 683 false) j false (omega (arith, past, length-replicate 683 false))
]

bool_either : (b : Bool) → (b ≡ false) ⊎ (b ≡ true)
bool_either true = inr refl
bool_either false = inl refl

pub none_brought : (first now : Image) (marked : List Bool) → length first ≡ 683
    → AreBrought first first now marked (replicate 683 false) 0
none_brought first now marked size = record {
  size = size;
  marks = length-replicate 683 false;
  untouched = λ j none. refl;
  here = λ j low. absurd (omega (arith, low));
  unmarked = λ j none. none_set j;
  differs = λ j set. absurd (false≢true (sym (none_set j) ∙ set));
  later = λ j from. none_set j;
}

module _ (first kept now : Image) (marked touched : List Bool) (i : ℕ)
    (x : AreBrought first kept now marked touched i) where
  -- a sector that stays
  pub stays : (slice_index_or marked i false ≡ false) ⊎ (slice_index_or kept i [] ≡ slice_index_or now i [])
      → AreBrought first kept now marked touched (i + 1)
  stays why = record {
    size = x.size;
    marks = x.marks;
    untouched = x.untouched;
    here = λ j low mark. elim (cases_lt j i) [
      | inl before ↦ x.here j before mark
      | inr from ↦
          let is : j ≡ i = omega (arith, low, from) in
          ⊎_elim
          (λ none. absurd (false≢true (sym none ∙ ap (λ k. slice_index_or marked k false) (sym is) ∙ mark)))
          (λ same. ap (λ k. slice_index_or kept k []) is ∙ same ∙ ap (λ k. slice_index_or now k []) (sym is))
          why
    ];
    unmarked = x.unmarked;
    differs = x.differs;
    later = λ j from. x.later j (omega (arith, from));
  }

  -- one that is brought
  module _ (low : i < 683) (mark : slice_index_or marked i false ≡ true)
      (other : slice_index_or kept i [] ≡ slice_index_or now i [] → ⊥) (sector : Sector)
      (is : sector ≡ slice_index_or now i []) where
    within : i < length kept
    within = omega (arith, low, x.size)

    touches : i < length touched
    touches = omega (arith, low, x.marks)

    was : slice_index_or kept i [] ≡ slice_index_or first i []
    was = x.untouched i (x.later i (omega arith))

    is_set : (j : ℕ) → j ≡ i → get_or (set touched i true) j false ≡ true
    is_set j same = ap (λ k. get_or (set touched i true) k false) same ∙ get_or-set_same touched i true false touches

    pub comes : AreBrought first (slice_set kept i sector) now marked (slice_set touched i true) (i + 1)
    comes = record {
      size = length-set kept i sector ∙ x.size;
      marks = length-set touched i true ∙ x.marks;
      untouched = λ j none.
          let apart : j ≢ i = λ e. false≢true (sym none ∙ is_set j e) in
          get_or-set_other kept i j sector [] apart
          ∙ x.untouched j (sym (get_or-set_other touched i j true false apart) ∙ none);
      here = λ j below marked_j. elim (cases_lt j i) [
        | inl before ↦ get_or-set_other kept i j sector [] (λ e. omega (arith, before, e)) ∙ x.here j before marked_j
        | inr from ↦
            let same : j ≡ i = omega (arith, below, from) in
            ap (λ k. get_or (set kept i sector) k []) same ∙ get_or-set_same kept i sector [] within ∙ is
            ∙ ap (λ k. slice_index_or now k []) (sym same)
      ];
      unmarked = λ j none.
          let apart : j ≢ i = λ e. false≢true (sym none ∙ ap (λ k. slice_index_or marked k false) e ∙ mark) in
          get_or-set_other touched i j true false apart ∙ x.unmarked j none;
      differs = λ j touch same. ⊎_elim
          (λ none. false≢true (sym (get_or-set_other touched i j true false
          (λ e. false≢true (sym none ∙ ap (λ k. slice_index_or marked k false) e ∙ mark))
          ∙ x.unmarked j none) ∙ touch))
          (λ some. elim (cases_lt j i) [
            | inl before ↦ x.differs j (sym (get_or-set_other touched i j true false (λ e. omega (arith, before, e))) ∙ touch) same
            | inr from ↦ elim (cases_lt i j) [
              | inl past ↦ x.differs j (sym (get_or-set_other touched i j true false (λ e. omega (arith, past, e))) ∙ touch) same
              | inr not_past ↦
                  let at : j ≡ i = omega (arith, from, not_past) in
                  other (was ∙ ap (λ k. slice_index_or first k []) (sym at) ∙ same ∙ ap (λ k. slice_index_or now k []) at)
            ]
          ])
          (bool_either (slice_index_or marked j false));
      later = λ j from. get_or-set_other touched i j true false (λ e. omega (arith, from, e))
          ∙ x.later j (omega (arith, from));
    }

module _ (first kept now : Image) (marked touched : List Bool)
    (x : AreBrought first kept now marked touched 683) where
  -- each that differs is touched
  pub covers : Covers marked first now → Covers touched first now
  covers all j low none = ⊎_elim
      (λ off. all j low off)
      (λ on. sym (x.untouched j none) ∙ x.here j low on)
      (bool_either (slice_index_or marked j false))

  each : Covers marked first now → (j : ℕ) → j < 683 → get_or kept j [] ≡ get_or now j []
  each all j low = ⊎_elim
      (λ off. x.untouched j (x.unmarked j off) ∙ all j low off)
      (λ on. x.here j low on)
      (bool_either (slice_index_or marked j false))

  some_same : {A : Type 0} (a b : A) → Some a ≡ Some b → a ≡ b
  some_same a b e = cc

  read_any : (xs : Image) (k : ℕ) (d : Sector) → k < length xs → get_or xs k d ≡ get_or xs k []
  read_any xs k d low = some_same (get_or xs k d) (get_or xs k [])
      (sym (slice_get-get_or xs k d low) ∙ slice_get-get_or xs k [] low)

  pub brought : length now ≡ 683 → Covers marked first now → kept ≡ now
  brought size all = same_lists kept now (x.size ∙ sym size) (λ k d low.
      read_any kept k d low ∙ each all k (omega (arith, low, x.size))
      ∙ sym (read_any now k d (omega (arith, low, x.size, size))))
