-- One slot of a directory sector rewritten in its block count.
use Rattle.std.proofs.Common.{
  Bool,
  List,
  [],
  ap,
  append_assoc,
  arith,
  drop,
  false,
  inl,
  inr,
  length,
  refl,
  subst,
  suc,
  sym,
  take,
  true,
  zero,
  ℕ,
  ◌++◌,
  ◌+◌,
  ◌<◌,
  ◌∙◌,
  ◌∷◌,
  ◌≡◌,
  ◌≢◌,
}
use Rattle.std.proofs.lemmas.Grind.{flat_map-append}
use Rattle.std.proofs.lemmas.List.{get_or-drop, get_or-take, length-drop, length-take, same_lists}
use Rattle.std.proofs.lemmas.List.Elements.{Contains-append_cases, Contains-append_right, filter-append}
use Rattle.std.specs.Prelude.{Contains, Some, cond, filter, flat_map, slice_get}
use Rattle.d64_image.proofs.Images.{sector-put_same}
use Rattle.d64_image.specs.Images.{Image, put, sector}
use Rattle.d64_image.specs.declared.place.Place.{Place}
use Rattle.disk_layout.proofs.lemmas.chains.Chains.{cons_both}
use Rattle.disk_layout.proofs.lemmas.counts.Slots.{slots_at, slots-eight}
use Rattle.disk_layout.proofs.lemmas.layouts.Frames.{unless-same, used_slots-frame}
use Rattle.disk_layout.proofs.lemmas.lists.Once.{
  Contains-cases,
  Contains-here,
  Contains-nil,
  Contains-there,
  EachOnce-apart,
  EachOnce-right,
}
use Rattle.disk_layout.specs.Chain.{EachOnce}
use Rattle.disk_layout.specs.Directory.{is_used, slot_in, slots_in, used_slots}
use Rattle.disk_layout.specs.declared.slot.Slot.{Slot}

-- a list around one of its elements
pub around : {X : Type 0} (xs : List X) (n : ℕ) (x : X) → slice_get xs n ≡ Some x
    → xs ≡ take n xs ++ x ∷ drop (suc n) xs
around [] n x e = cc
around (y ∷ xs) zero x e = let s : y ≡ x = cc in rw s refl
around (y ∷ xs) (suc n) x e = ap (λ ys. y ∷ ys) (around xs n x e)

pub split-at : {X : Type 0} (xs : List X) (x : X) → Contains xs x → (front : List X) × (back : List X)
    × (xs ≡ front ++ x ∷ back)
split-at [] x c = absurd (Contains-nil x c)
split-at (y ∷ xs) x c = elim (Contains-cases x y xs c) [
  | inl e ↦ ([], xs, ap (λ z. z ∷ xs) e)
  | inr d ↦ let (front, back, e) = split-at xs x d in (y ∷ front, back, ap (λ ys. y ∷ ys) e)
]

-- a list has one split at an element that stands once in it
pub split-one : {X : Type 0} (xs ys zs ws : List X) (x : X) → xs ++ x ∷ ys ≡ zs ++ x ∷ ws → ¬ (Contains zs x)
    → ¬ (Contains ws x) → (xs ≡ zs) × (ys ≡ ws)
split-one [] ys [] ws x e a b = (refl, cc)
split-one [] ys (z ∷ zs) ws x e a b = let s : z ≡ x = cc in absurd (a (rw s (Contains-here x zs)))
split-one (y ∷ xs) ys [] ws x e a b = let s : xs ++ x ∷ ys ≡ ws = cc in
    absurd (b (rw (← s) (Contains-append_right xs (x ∷ ys) x (Contains-here x ys))))
split-one (y ∷ xs) ys (z ∷ zs) ws x e a b =
    let h : y ≡ z = cc in
    let t : xs ++ x ∷ ys ≡ zs ++ x ∷ ws = cc in
    let both = split-one xs ys zs ws x t (λ c. a (Contains-there x z zs c)) b in
    (cons_both h both.0, both.1)

pub filter-out : {X : Type 0} (t : X → Bool) (xs : List X) (x : X) → Contains (filter t xs) x → Contains xs x
    × (t x ≡ true)
filter-out t [] x c = absurd (Contains-nil x c)
filter-out {X} t (z ∷ xs) x c = step (filter-out t xs x) (t z) refl c
  where
    step : (Contains (filter t xs) x → Contains xs x × (t x ≡ true)) → (b : Bool) → t z ≡ b
        → Contains (cond b (z ∷ filter t xs) (filter t xs)) x → Contains (z ∷ xs) x × (t x ≡ true)
    step more true h d = elim (Contains-cases x z (filter t xs) d) [
      | inl e ↦ (rw e (Contains-here x xs), ap t (sym e) ∙ h)
      | inr r ↦ let (p, q) = more r in (Contains-there x z xs p, q)
    ]
    step more false h d = let (p, q) = more d in (Contains-there x z xs p, q)

pub flat_map-out : {X Y : Type 0} (f : X → List Y) (xs : List X) (y : Y) → Contains (flat_map f xs) y → (x : X)
    × Contains xs x × Contains (f x) y
flat_map-out f [] y c = absurd (Contains-nil y c)
flat_map-out f (x ∷ xs) y c = elim (Contains-append_cases (f x) (flat_map f xs) y c) [
  | inl d ↦ (x, Contains-here x xs, d)
  | inr d ↦ let (z, e, g) = flat_map-out f xs y d in (z, Contains-there z x xs e, g)
]

-- the slots of a sector
pub slot-get : (p : Place) (bytes : List ℕ) (n : ℕ) → n < 8 → slice_get (slots_in p bytes) n ≡ Some (slot_in p bytes n)
unfolding slots_in
slot-get p bytes zero h = refl
slot-get p bytes (suc zero) h = refl
slot-get p bytes (suc (suc zero)) h = refl
slot-get p bytes (suc (suc (suc zero))) h = refl
slot-get p bytes (suc (suc (suc (suc zero)))) h = refl
slot-get p bytes (suc (suc (suc (suc (suc zero))))) h = refl
slot-get p bytes (suc (suc (suc (suc (suc (suc zero)))))) h = refl
slot-get p bytes (suc (suc (suc (suc (suc (suc (suc zero))))))) h = refl
slot-get p bytes (suc (suc (suc (suc (suc (suc (suc (suc n)))))))) h = absurd (omega arith)

-- a slot among them is the one of its number
pub slot-number : (p : Place) (bytes : List ℕ) (s : Slot) → Contains (slots_in p bytes) s → (s.number < 8)
    × (s ≡ slot_in p bytes s.number)
slot-number p bytes s (k, lt, e) =
    let below : k < 8 = omega (arith, lt, slots-eight p bytes) in
    let same : s ≡ slot_in p bytes k = sym e ∙ slots_at p bytes k _ below in
    let n : s.number ≡ k = ap (λ x. x.number) same in
    (rw n below, same ∙ ap (slot_in p bytes) (sym n))

-- a used slot of the directory is where it says
pub slot-there : (a : Image) (ps : List Place) (s : Slot) → Contains (used_slots a ps) s → Contains ps s.sector
    × (s.number < 8) × (s ≡ slot_in s.sector (sector a s.sector) s.number) × (is_used s ≡ true)
unfolding used_slots
slot-there a ps s c =
    let (d, used) = filter-out is_used (flat_map (λ p. slots_in p (sector a p)) ps) s c in
    let (p, on, e) = flat_map-out (λ p. slots_in p (sector a p)) ps s d in
    let (low, same) = slot-number p (sector a p) s e in
    let one : s.sector ≡ p = ap (λ x. x.sector) same in
    (rw one on, low, same ∙ ap (λ x. slot_in x (sector a x) s.number) (sym one), used)

pub slots-around : (p : Place) (x y : List ℕ) (n : ℕ) → n < 8
    → ((k : ℕ) → k < 8 → k ≢ n → slot_in p x k ≡ slot_in p y k) → (take n (slots_in p x) ≡ take n (slots_in p y))
    × (drop (suc n) (slots_in p x) ≡ drop (suc n) (slots_in p y))
slots-around p x y n h same = (
  same_lists _ _ (length-take n (slots_in p x) ∙ cc (slots-eight p x, slots-eight p y)
      ∙ sym (length-take n (slots_in p y))) (λ k d lt.
      let below : k < n = omega (arith, lt, length-take n (slots_in p x)) in
      get_or-take n (slots_in p x) k d below ∙ slots_at p x k d (omega arith) ∙ same k (omega arith) (omega arith)
      ∙ sym (get_or-take n (slots_in p y) k d below ∙ slots_at p y k d (omega arith))),
  same_lists _ _ (length-drop (suc n) (slots_in p x) ∙ cc (slots-eight p x, slots-eight p y)
      ∙ sym (length-drop (suc n) (slots_in p y))) (λ k d lt.
      let below : suc n + k < 8 = omega (arith, lt, length-drop (suc n) (slots_in p x), slots-eight p x) in
      get_or-drop (suc n) (slots_in p x) k d ∙ slots_at p x (suc n + k) d below ∙ same (suc n + k) below (omega arith)
      ∙ sym (get_or-drop (suc n) (slots_in p y) k d ∙ slots_at p y (suc n + k) d below)),
)

-- the used slots around one used slot
pub used-split : (p : Place) (bytes : List ℕ) (n : ℕ) → n < 8 → is_used (slot_in p bytes n) ≡ true
    → filter is_used (slots_in p bytes) ≡ filter is_used (take n (slots_in p bytes)) ++ slot_in p bytes n ∷ filter
    is_used (drop (suc n) (slots_in p bytes))
used-split p bytes n h used =
    ap (filter is_used) (around (slots_in p bytes) n (slot_in p bytes n) (slot-get p bytes n h))
    ∙ filter-append is_used (take n (slots_in p bytes)) (slot_in p bytes n ∷ drop (suc n) (slots_in p bytes))
    ∙ ap (λ xs. filter is_used (take n (slots_in p bytes)) ++ xs) keep
  where
    keep : filter is_used (slot_in p bytes n ∷ drop (suc n) (slots_in p bytes)) ≡ slot_in p bytes n ∷ filter is_used
        (drop (suc n) (slots_in p bytes))
    keep = rw used refl

pub used-append : (a : Image) (front back : List Place) (p : Place)
    → used_slots a (front ++ p ∷ back) ≡ used_slots a front ++ (filter is_used (slots_in p (sector a p)) ++ used_slots a
    back)
unfolding used_slots
used-append a front back p =
    ap (filter is_used) (flat_map-append (λ p. slots_in p (sector a p)) front (p ∷ back))
    ∙ filter-append is_used (flat_map (λ p. slots_in p (sector a p)) front)
    (slots_in p (sector a p) ++ flat_map (λ p. slots_in p (sector a p)) back)
    ∙ ap (λ xs. filter is_used (flat_map (λ p. slots_in p (sector a p)) front) ++ xs)
    (filter-append is_used (slots_in p (sector a p)) (flat_map (λ p. slots_in p (sector a p)) back))

-- one slot of one directory sector rewritten: the used slots are the old ones with that slot changed
pub used_slots-one : (a : Image) (ps : List Place) (p : Place) (n : ℕ) (b : List ℕ) → length a ≡ 683 → EachOnce ps
    → Contains ps p → n < 8 → ((k : ℕ) → k < 8 → k ≢ n → slot_in p (sector a p) k ≡ slot_in p b k)
    → is_used (slot_in p (sector a p) n) ≡ true → is_used (slot_in p b n) ≡ true → (xs : List Slot) × (ys : List Slot)
    × (used_slots a ps ≡ xs ++ slot_in p (sector a p) n ∷ ys) × (used_slots (put a p b) ps ≡ xs ++ slot_in p b n ∷ ys)
used_slots-one a ps p n b full once on h apart old new =
    let (front, back, e) = split-at ps p on in
    let each : EachOnce (front ++ p ∷ back) = rw e at once in
    let not_front : ¬ (Contains front p) = λ c. EachOnce-apart front (p ∷ back) each p c (Contains-here p back) in
    let not_back : ¬ (Contains back p) = (EachOnce-right front (p ∷ back) each).0 in
    let F : used_slots a front ≡ used_slots (put a p b) front =
    used_slots-frame a (put a p b) front
    (λ q c. unless-same a p q b (λ s. not_front (let P : Place → Type 0 = λ x. Contains front x in
    subst P (sym s) c))) in
    let B : used_slots a back ≡ used_slots (put a p b) back =
    used_slots-frame a (put a p b) back
    (λ q c. unless-same a p q b (λ s. not_back (let P : Place → Type 0 = λ x. Contains back x in
    subst P (sym s) c))) in
    let T = slots-around p (sector a p) b n h apart in
    let there : sector (put a p b) p ≡ b = sector-put_same a p b full in (
      used_slots a front ++ filter is_used (take n (slots_in p (sector a p))),
      filter is_used (drop (suc n) (slots_in p (sector a p))) ++ used_slots a back,
      ap (used_slots a) e ∙ used-append a front back p ∙ ap (λ xs. used_slots a front ++ (xs ++ used_slots a back))
          (used-split p (sector a p) n h old)
          ∙ shape (used_slots a front) _ _ (used_slots a back) (slot_in p (sector a p) n),
      ap (used_slots (put a p b)) e ∙ used-append (put a p b) front back p
          ∙ ap (λ x. used_slots (put a p b) front ++ (filter is_used (slots_in p x) ++ used_slots (put a p b) back))
          there
          ∙ ap (λ xs. used_slots (put a p b) front ++ (xs ++ used_slots (put a p b) back)) (used-split p b n h new)
          ∙ shape (used_slots (put a p b) front) _ _ (used_slots (put a p b) back) (slot_in p b n)
          ∙ cc (F, B, T.0, T.1),
    )
  where
    shape : (f x y g : List Slot) (s : Slot) → f ++ ((x ++ s ∷ y) ++ g) ≡ (f ++ x) ++ s ∷ (y ++ g)
    shape f x y g s = simp append_assoc
