-- How many slots of a directory are used: where all are, and before the first free one.
use Rattle.std.proofs.Common.{◌≡◌, ℕ, suc, ◌+◌, ◌*◌, ◌<◌, ◌≤◌, Bool, true, false, IsTrue, List, [], ◌∷◌, ◌++◌, ap}
use Rattle.std.proofs.Common.{arith, drop, length, length-append, refl, sym, take, ◌∙◌}
use Rattle.std.specs.Prelude.{Contains, filter, if◌then◌else◌, nat_lt}
use Rattle.std.proofs.lemmas.Bool.{le-ltb, lt-ltb}
use Rattle.std.proofs.lemmas.List.{get_or-take, length-drop, length-map, length-take}
use Rattle.d64_image.specs.Images.{Image, Sector, sector}
use Rattle.d64_image.specs.declared.place.Place.{Place}
use Rattle.disk_layout.proofs.lemmas.counts.Recount.{used-append}
use Rattle.disk_layout.proofs.lemmas.counts.Slots.{slots_at}
use Rattle.disk_layout.proofs.lemmas.lists.Once.{Contains-here, Contains-there}
use Rattle.disk_layout.specs.Directory.{is_used, slot_in, slots_in, used_slots}
use Rattle.disk_layout.specs.Layout.{File, IsLayout, Layout}
use Rattle.disk_layout.specs.declared.slot.Slot.{Slot}
use Rattle.rel_records.proofs.lemmas.directory.NewSlots.{used_before, used_behind, used_slots-free}
use Rattle.rel_records.specs.creation.Made.{creation_writes}
use Rattle.rel_records.specs.creation.Room.{AreFullSectors, IsFirstRoom, IsFirstSlot, IsFullSector}

filter-all : {X : Type 0} (t : X → Bool) (xs : List X) → ((x : X) → Contains xs x → t x ≡ true) → filter t xs ≡ xs
filter-all t [] h = refl
filter-all t (x ∷ xs) h =
    let rest = filter-all t xs (λ y c. h y (Contains-there y x xs c)) in
    rw (h x (Contains-here x xs)) (ap (λ ys. x ∷ ys) rest)

one-few : {X : Type 0} (t : X → Bool) (x : X) (xs : List X) (b : Bool) → t x ≡ b → length (filter t xs) ≤ length xs
    → length (filter t (x ∷ xs)) ≤ length (x ∷ xs)
one-few t x xs true e rest = rw e (omega (arith, rest))
one-few t x xs false e rest = rw e (omega (arith, rest))

filter-few : {X : Type 0} (t : X → Bool) (xs : List X) → length (filter t xs) ≤ length xs
filter-few t [] = omega arith
filter-few t (x ∷ xs) = one-few t x xs (t x) refl (filter-few t xs)

slots-eight : (p : Place) (bytes : Sector) → length (slots_in p bytes) ≡ 8
unfolding slots_in
slots-eight p bytes = refl

-- the slots below n are all used
first-used : (p : Place) (bytes : Sector) (n : ℕ) → n ≤ 8 → ((k : ℕ) → k < n → IsTrue (is_used (slot_in p bytes k)))
    → filter is_used (take n (slots_in p bytes)) ≡ take n (slots_in p bytes)
first-used p bytes n few used = filter-all is_used (take n (slots_in p bytes)) (λ s (j, lt, there).
    let low : j < n = omega (arith, lt, length-take n (slots_in p bytes)) in
    ap is_used (sym there ∙ get_or-take n (slots_in p bytes) j s low ∙ slots_at p bytes j s (omega (arith, low, few)))
    ∙ used j low)

sector-full : (p : Place) (bytes : Sector) → IsFullSector p bytes → length (filter is_used (slots_in p bytes)) ≡ 8
sector-full p bytes h =
    let all : filter is_used (slots_in p bytes) ≡ slots_in p bytes =
    filter-all is_used (slots_in p bytes) (λ s (j, lt, there).
    let low : j < 8 = omega (arith, lt, slots-eight p bytes) in
    ap is_used (sym there ∙ slots_at p bytes j s low) ∙ h j low) in
    ap length all ∙ slots-eight p bytes

none-used : (a : Image) → used_slots a [] ≡ []
unfolding used_slots
none-used a = refl

pub full-slots : (a : Image) (ps : List Place) → AreFullSectors a ps → length (used_slots a ps) ≡ 8 * length ps
full-slots a [] full = ap length (none-used a)
full-slots a (p ∷ ps) full =
    let rest = full-slots a ps (λ q c. full q (Contains-there q p ps c)) in
    let here = sector-full p (sector a p) (full p (Contains-here p ps)) in
    let none = none-used a in
    let one : used_slots a (p ∷ ps) ≡ filter is_used (slots_in p (sector a p)) ++ used_slots a ps =
    used-append a [] ps p ∙ ap (λ xs. xs ++ (filter is_used (slots_in p (sector a p)) ++ used_slots a ps)) none in
    ap length one ∙ omega (
      arith,
      length-append (filter is_used (slots_in p (sector a p))) (used_slots a ps),
      here,
      rest,
    )

few-slots : (a : Image) (ps : List Place) → length (used_slots a ps) ≤ 8 * length ps
few-slots a [] = omega (arith, ap length (none-used a))
few-slots a (p ∷ ps) =
    let rest = few-slots a ps in
    let none = none-used a in
    let one : used_slots a (p ∷ ps) ≡ filter is_used (slots_in p (sector a p)) ++ used_slots a ps =
    used-append a [] ps p ∙ ap (λ xs. xs ++ (filter is_used (slots_in p (sector a p)) ++ used_slots a ps)) none in
    omega (
      arith,
      ap length one,
      length-append (filter is_used (slots_in p (sector a p))) (used_slots a ps),
      filter-few is_used (slots_in p (sector a p)),
      slots-eight p (sector a p),
      rest,
    )

-- how many are used before the first free one
pub slots-before : (a : Image) (front : List Place) (p : Place) (n : ℕ) → AreFullSectors a front
    → IsFirstSlot p (sector a p) n → length (used_before a front p n) ≡ 8 * length front + n
slots-before a front p n full first =
    let low = first.number in
    let here : length (filter is_used (take n (slots_in p (sector a p)))) ≡ n =
    ap length (first-used p (sector a p) n (omega (arith, low)) first.used)
    ∙ length-take n (slots_in p (sector a p)) ∙ omega (arith, low, slots-eight p (sector a p)) in
    omega (
      arith,
      length-append (used_slots a front) (filter is_used (take n (slots_in p (sector a p)))),
      full-slots a front full,
      here,
    )

slots-behind : (a : Image) (p : Place) (n : ℕ) (back : List Place) → n < 8 → length (used_behind a p n back) + n < 8 + 8
    * length back
slots-behind a p n back low =
    let xs : List Slot = drop (suc n) (slots_in p (sector a p)) in
    omega (
      arith,
      low,
      length-append (filter is_used xs) (used_slots a back),
      filter-few is_used xs,
      length-drop (suc n) (slots_in p (sector a p)),
      slots-eight p (sector a p),
      few-slots a back,
    )

-- the entries are the files
files-count : (a : Image) (l : Layout) → IsLayout a l → length l.files ≡ length (used_slots a l.directory)
files-count a l h = sym (length-map l.files (λ (f : File). f.slot)) ∙ ap length h.directory.slots

pub files-full : (a : Image) (l : Layout) → IsLayout a l → AreFullSectors a l.directory
    → length l.files ≡ 8 * length l.directory
files-full a l h full = files-count a l h ∙ full-slots a l.directory full

pub five-writes : (a : Image) (l : Layout) → IsLayout a l → AreFullSectors a l.directory → creation_writes l ≡ 5
five-writes a l h full =
    let same = files-full a l h full in
    let e : nat_lt (length l.files) (8 * length l.directory) ≡ false = le-ltb (length l.files) (8 * length l.directory)
    (omega (arith, same)) in
    ap (λ (b : Bool). if b then 4 else 5) e

pub four-writes : (a : Image) (l : Layout) (p : Place) (n : ℕ) → IsLayout a l → IsFirstRoom a l.directory p n
    → creation_writes l ≡ 4
four-writes a l p n h room =
    let split = ap (used_slots a) room.split ∙ used_slots-free a room.front room.back p n room.slot.number
    room.slot.free in
    let some : length l.files < 8 * length l.directory = omega (
      arith,
      files-count a l h,
      ap length split,
      length-append (used_before a room.front p n) (used_behind a p n room.back),
      slots-before a room.front p n room.full room.slot,
      slots-behind a p n room.back room.slot.number,
      ap length room.split,
      length-append room.front (p ∷ room.back),
    ) in
    let e : nat_lt (length l.files) (8 * length l.directory) ≡ true = lt-ltb (length l.files) (8 * length l.directory)
    some in
    ap (λ (free : Bool). if free then 4 else 5) e
