-- A free slot of the directory becomes used, in a directory sector or in a new one.
use Rattle.std.proofs.Common.{◌≡◌, ◌≢◌, ℕ, suc, ◌<◌, true, false, List, [], ◌∷◌, ◌++◌, length, refl, sym, ◌∙◌, ap}
use Rattle.std.proofs.Common.{arith, subst, append_assoc, take, drop}
use Rattle.std.specs.Prelude.{Contains, filter}
use Rattle.std.proofs.lemmas.List.Elements.{filter-append}
use Rattle.d64_image.proofs.Images.{sector-put_same}
use Rattle.d64_image.specs.Images.{Image, put, sector}
use Rattle.d64_image.specs.declared.place.Place.{Place}
use Rattle.disk_layout.proofs.lemmas.counts.Recount.{around, slot-get, slots-around, used-append, used-split}
use Rattle.disk_layout.proofs.lemmas.layouts.Frames.{unless-same, used_slots-frame}
use Rattle.disk_layout.proofs.lemmas.lists.Once.{Contains-here, EachOnce-apart, EachOnce-right}
use Rattle.disk_layout.specs.Chain.{EachOnce}
use Rattle.disk_layout.specs.Directory.{is_used, slot_in, slots_in, used_slots}
use Rattle.disk_layout.specs.declared.slot.Slot.{Slot}

-- the used slots of a sector around a free one
around-free : (p : Place) (bytes : List ℕ) (n : ℕ) → n < 8 → is_used (slot_in p bytes n) ≡ false
    → filter is_used (slots_in p bytes) ≡ filter is_used (take n (slots_in p bytes)) ++ filter is_used
    (drop (suc n) (slots_in p bytes))
around-free p bytes n h free =
    ap (filter is_used) (around (slots_in p bytes) n (slot_in p bytes n) (slot-get p bytes n h))
    ∙ filter-append is_used (take n (slots_in p bytes)) (slot_in p bytes n ∷ drop (suc n) (slots_in p bytes))
    ∙ ap (λ xs. filter is_used (take n (slots_in p bytes)) ++ xs) gone
  where
    gone : filter is_used (slot_in p bytes n ∷ drop (suc n) (slots_in p bytes)) ≡ filter is_used
        (drop (suc n) (slots_in p bytes))
    gone = rw free refl

-- the used slots before slot n of the directory sector at p, and those behind it
abbrev pub used_before : Image → List Place → Place → ℕ → List Slot
used_before a front p n = used_slots a front ++ filter is_used (take n (slots_in p (sector a p)))

abbrev pub used_behind : Image → Place → ℕ → List Place → List Slot
used_behind a p n back = filter is_used (drop (suc n) (slots_in p (sector a p))) ++ used_slots a back

-- the used slots around a free one
pub used_slots-free : (a : Image) (front back : List Place) (p : Place) (n : ℕ) → n < 8
    → is_used (slot_in p (sector a p) n) ≡ false → used_slots a (front ++ p ∷ back) ≡ used_before a front p n
    ++ used_behind a p n back
used_slots-free a front back p n h free =
    used-append a front back p ∙ ap (λ xs. used_slots a front ++ (xs ++ used_slots a back))
    (around-free p (sector a p) n h free) ∙ shape (used_slots a front) _ _ (used_slots a back)
  where
    shape : (f x y g : List Slot) → f ++ ((x ++ y) ++ g) ≡ (f ++ x) ++ (y ++ g)
    shape f x y g = simp append_assoc

-- it becomes used: they are the old ones, and that one among them
pub used_slots-new : (a : Image) (front back : List Place) (p : Place) (n : ℕ) (b : List ℕ) → length a ≡ 683
    → EachOnce (front ++ p ∷ back) → n < 8 → ((k : ℕ) → k < 8 → k ≢ n → slot_in p (sector a p) k ≡ slot_in p b k)
    → is_used (slot_in p b n) ≡ true → used_slots (put a p b) (front ++ p ∷ back) ≡ used_before a front p n ++ slot_in p
    b n ∷ used_behind a p n back
used_slots-new a front back p n b full each h apart new =
    let not_front : ¬ (Contains front p) = λ c. EachOnce-apart front (p ∷ back) each p c (Contains-here p back) in
    let not_back : ¬ (Contains back p) = (EachOnce-right front (p ∷ back) each).0 in
    let F : used_slots a front ≡ used_slots (put a p b) front =
    used_slots-frame a (put a p b) front
    (λ q c. unless-same a p q b (λ s. not_front (let P : Place → Type 0 = λ x. Contains front x in
    subst P (sym s) c))) in
    let B : used_slots a back ≡ used_slots (put a p b) back =
    used_slots-frame a (put a p b) back
    (λ q c. unless-same a p q b (λ s. not_back (let P : Place → Type 0 = λ x. Contains back x in
    subst P (sym s) c))) in
    let T = slots-around p (sector a p) b n h apart in
    let there : sector (put a p b) p ≡ b = sector-put_same a p b full in
    used-append (put a p b) front back p
    ∙ ap (λ x. used_slots (put a p b) front ++ (filter is_used (slots_in p x) ++ used_slots (put a p b) back)) there
    ∙ ap (λ xs. used_slots (put a p b) front ++ (xs ++ used_slots (put a p b) back)) (used-split p b n h new)
    ∙ shape (used_slots (put a p b) front) _ _ (used_slots (put a p b) back) (slot_in p b n)
    ∙ cc (F, B, T.0, T.1)
  where
    shape : (f x y g : List Slot) (s : Slot) → f ++ ((x ++ s ∷ y) ++ g) ≡ (f ++ x) ++ s ∷ (y ++ g)
    shape f x y g s = simp append_assoc

-- a new directory sector, in which the first slot alone is used
pub used_slots-sector : (a : Image) (ps : List Place) (p : Place) → is_used (slot_in p (sector a p) 0) ≡ true
    → ((n : ℕ) → 0 < n → n < 8 → is_used (slot_in p (sector a p) n) ≡ false)
    → used_slots a (ps ++ p ∷ []) ≡ used_slots a ps ++ slot_in p (sector a p) 0 ∷ []
unfolding used_slots slots_in
used_slots-sector a ps p used free = used-append a ps [] p ∙ ap (λ xs. used_slots a ps ++ xs) last
  where
    last : filter is_used (slots_in p (sector a p)) ++ used_slots a [] ≡ slot_in p (sector a p) 0 ∷ []
    last = rw (
      used,
      free 1 (omega arith) (omega arith),
      free 2 (omega arith) (omega arith),
      free 3 (omega arith) (omega arith),
      free 4 (omega arith) (omega arith),
      free 5 (omega arith) (omega arith),
      free 6 (omega arith) (omega arith),
      free 7 (omega arith) (omega arith),
    ) refl
