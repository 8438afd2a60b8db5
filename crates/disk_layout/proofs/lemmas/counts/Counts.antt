-- The write of a block count.
use Rattle.std.proofs.Common.{IsTrue, List, [], ap, arith, drop, get_or, inl, inr, length, map, refl, slice_index, sym}
use Rattle.std.proofs.Common.{take, true, ℕ, ◌*◌, ◌++◌, ◌+◌, ◌-◌, ◌<◌, ◌∙◌, ◌∷◌, ◌≡◌, ◌≢◌, ◌≤◌, ◌⊎◌}
use Rattle.std.proofs.lemmas.Bool.{cases_eq, cases_lt}
use Rattle.std.proofs.lemmas.Grind.{flat_map-append, same_number_lists}
use Rattle.std.proofs.lemmas.List.{drop-take, get_or-take, length-take}
use Rattle.std.proofs.lemmas.List.Elements.{Contains-append_left, Contains-append_right}
use Rattle.std.specs.List.{AllByRecursion}
use Rattle.std.specs.Prelude.{Contains, flat_map, nat_eq, not, slice_range}
use Rattle.d64_image.proofs.Images.{sector-put_same}
use Rattle.d64_image.proofs.Places.{same_index}
use Rattle.d64_image.specs.Images.{Image, put, sector}
use Rattle.d64_image.specs.Places.{index_of}
use Rattle.d64_image.specs.declared.place.Place.{Place}
use Rattle.disk_layout.proofs.lemmas.chains.Chains.{SameLinks, chain-last}
use Rattle.disk_layout.proofs.lemmas.counts.Faces.{IsFile-slot, IsLayout-directory, SameFace, with_slot}
use Rattle.disk_layout.proofs.lemmas.counts.Recount.{slot-there, split-one, used_slots-one}
use Rattle.disk_layout.proofs.lemmas.growth.Commit.{IsAlone, all-join, all-left, all-right, alone, keeps-other}
use Rattle.disk_layout.proofs.lemmas.growth.SideWrites.{file-there, same-layout}
use Rattle.disk_layout.proofs.lemmas.layouts.Layouts.{IsFile-one}
use Rattle.disk_layout.proofs.lemmas.layouts.Frames.{files-frame, unless-same}
use Rattle.disk_layout.proofs.lemmas.lists.Lists.{take-take}
use Rattle.disk_layout.proofs.lemmas.lists.Once.{Contains-here, EachOnce-apart, all-in, flat_map-in, map-in}
use Rattle.disk_layout.proofs.lemmas.records.Pieces.{length-piece, piece, piece-byte, piece-same}
use Rattle.disk_layout.specs.Chain.{EachOnce}
use Rattle.disk_layout.specs.Directory.{is_used, map_place, slot_in, used_slots}
use Rattle.disk_layout.specs.Entries.{IsRecounted, uncounted}
use Rattle.disk_layout.specs.Layout.{File, IsFile, IsLayout, Layout, exchanged, file_owns, is_rel, owners}
use Rattle.disk_layout.specs.declared.slot.Slot.{Slot}

uncounted-byte : (s t : Slot) → uncounted s ≡ uncounted t → (i : ℕ) → i < 30
    → slice_index s.bytes i ≡ slice_index t.bytes i
uncounted-byte s t e i h = sym (get_or-take 30 s.bytes i 0 h) ∙ ap (λ x. get_or x.bytes i 0) e
    ∙ get_or-take 30 t.bytes i 0 h

-- the same entry, its count aside, has the same face
pub uncounted-face : (s t : Slot) → uncounted s ≡ uncounted t → SameFace s t
uncounted-face s t e = record {
  kind = uncounted-byte s t e 2 (omega arith);
  first_track = uncounted-byte s t e 3 (omega arith);
  first_sector = uncounted-byte s t e 4 (omega arith);
  side_track = uncounted-byte s t e 21 (omega arith);
  side_sector = uncounted-byte s t e 22 (omega arith);
  length = uncounted-byte s t e 23 (omega arith);
}

-- and the same name
pub uncounted-name : (s t : Slot) → uncounted s ≡ uncounted t → slice_range s.bytes 5 21 ≡ slice_range t.bytes 5 21
uncounted-name s t e = name s ∙ ap (λ x. slice_range x.bytes 5 21) e ∙ sym (name t)
  where
    name : (s : Slot) → slice_range s.bytes 5 21 ≡ slice_range (take 30 s.bytes) 5 21
    name s = sym (ap (take 16) (drop-take 5 25 s.bytes) ∙ take-take 16 25 (drop 5 s.bytes) (omega arith))

pub range-piece : (x : List ℕ) (k : ℕ) → slice_range x (32 * k) (32 * k + 32) ≡ piece 32 k x
range-piece x k = let m : 32 * k + 32 - 32 * k ≡ 32 = omega arith in let c : 32 * k ≡ k * 32 = omega arith in
    rw (m, c) refl

other-slot : (p : Place) (x y : List ℕ) (n k : ℕ) → IsRecounted x y n → k < 8 → k ≢ n → slot_in p x k ≡ slot_in p y k
other-slot p x y n k h lt ne =
    let e : slice_range x (32 * k) (32 * k + 32) ≡ slice_range y (32 * k) (32 * k + 32) =
    range-piece x k ∙ piece-same 32 k x y (omega (arith, h.old_long)) (omega (arith, h.long))
    (λ i a b. sym (h.same i (outside i a b))) ∙ sym (range-piece y k) in
    ap (λ (bs : List ℕ). record { sector = p; number = k; bytes = bs }) e
  where
    outside : (i : ℕ) → k * 32 ≤ i → i < k * 32 + 32 → (i < 32 * n + 30) ⊎ (32 * n + 32 ≤ i)
    outside i a b = elim (cases_lt k n) [ inl c ↦ inl (omega arith) | inr c ↦ inr (omega arith) ]

-- the slot itself is the same entry, its count aside
pub recounted-slot : (p : Place) (x y : List ℕ) (n : ℕ) → IsRecounted x y n → n < 8
    → uncounted (slot_in p x n) ≡ uncounted (slot_in p y n)
recounted-slot p x y n h lt =
    let lx = length-piece 32 n x (omega (arith, h.old_long)) in
    let ly = length-piece 32 n y (omega (arith, h.long)) in
    let e : take 30 (slice_range x (32 * n) (32 * n + 32)) ≡ take 30 (slice_range y (32 * n) (32 * n + 32)) =
    ap (take 30) (range-piece x n)
    ∙ same_number_lists (take 30 (piece 32 n x)) (take 30 (piece 32 n y)) (length-take 30 (piece 32 n x) ∙ cc (lx, ly)
    ∙ sym (length-take 30 (piece 32 n y)))
    (λ j d. let below : j < 30 = omega (arith, length-take 30 (piece 32 n x), d) in
    get_or-take 30 (piece 32 n x) j 0 below ∙ piece-byte 32 n x j (omega arith)
    ∙ sym (h.same (n * 32 + j) (inl (omega arith))) ∙ sym (get_or-take 30 (piece 32 n y) j 0 below
    ∙ piece-byte 32 n y j (omega arith)))
    ∙ sym (ap (take 30) (range-piece y n)) in
    ap (λ (bs : List ℕ). record { sector = p; number = n; bytes = bs }) e

all-slots-of : (fs gs : List File) (f : File) → map (λ x. x.slot) (fs ++ f ∷ gs) ≡ map (λ x. x.slot) fs ++ f.slot ∷ map
    (λ x. x.slot) gs
all-slots-of [] gs f = refl
all-slots-of (g ∷ fs) gs f = ap (λ xs. g.slot ∷ xs) (all-slots-of fs gs f)

-- a file that owns a block is the one file of its slot
module _ (a : Image) (l : Layout) (before after : List File) (f : File) (h : IsLayout a l)
    (split : l.files ≡ before ++ f ∷ after) (rel : IsTrue (is_rel f.slot)) where
  files : AllByRecursion (IsFile a) (before ++ f ∷ after)
  files = rw split at h.files

  file : IsFile a f
  file = file-there a l before after f h split

  once : EachOnce (map_place ∷ owners (exchanged l before f after))
  once = rw (same-layout l before after f split) h.once

  abbrev last : Place
  last = (file.rel rel).chain.2.last

  mine : Contains (file_owns f) last
  mine = Contains-append_left f.blocks f.sides last (chain-last a (file.rel rel).chain.0 f.blocks f.last
      (file.rel rel).chain.2)

  only : IsAlone l before after last
  only = alone l before after f once last mine

  owns-in : (fs : List File) (g : File) → Contains fs g → IsFile a g → g.slot ≡ f.slot
      → Contains (flat_map file_owns fs) last
  owns-in fs g c is e =
      let one : g ≡ f = IsFile-one a g f e is file in
      flat_map-in file_owns fs g last c (rw one mine)

  slot-once : (fs : List File) → AllByRecursion (IsFile a) fs → ¬ (Contains (flat_map file_owns fs) last)
      → ¬ (Contains (map (λ x. x.slot) fs) f.slot)
  slot-once fs all free c =
      let (g, there, e) = map-in (λ x. x.slot) fs f.slot c in
      free (owns-in fs g there (all-in (IsFile a) fs g all there) e)

  pub slot-alone : (¬ (Contains (map (λ x. x.slot) before) f.slot)) × (¬ (Contains (map (λ x. x.slot) after) f.slot))
  slot-alone = (
    slot-once before (all-left (IsFile a) before (f ∷ after) files) only.before,
    slot-once after (all-right (IsFile a) before (f ∷ after) files).1 only.after,
  )

  abbrev p : Place
  p = f.slot.sector

  has-slot : Contains (used_slots a l.directory) f.slot
  has-slot = rw (← h.directory.slots, split, all-slots-of before after f)
      (Contains-append_right (map (λ x. x.slot) before) (f.slot ∷ map (λ x. x.slot) after) f.slot
      (Contains-here f.slot (map (λ x. x.slot) after)))

  place : Contains l.directory p × (f.slot.number < 8) × (f.slot ≡ slot_in p (sector a p) f.slot.number)
      × (is_used f.slot ≡ true)
  place = slot-there a l.directory f.slot has-slot

  -- the write of a directory sector that changes the block count of the file's slot alone
  module _ (b : List ℕ) (full : length a ≡ 683) (r : IsRecounted (sector a p) b f.slot.number) where
    abbrev new : Slot
    new = slot_in p b f.slot.number

    pub new-slot : uncounted f.slot ≡ uncounted new
    new-slot = ap uncounted place.2 ∙ recounted-slot p (sector a p) b f.slot.number r place.1

    used : is_used new ≡ true
    used = ap (λ n. not (nat_eq n 0)) (sym (uncounted-face f.slot new new-slot).kind) ∙ place.3

    pub recounted-slots : used_slots (put a p b) l.directory ≡ map (λ x. x.slot) before ++ new ∷ map (λ x. x.slot) after
    recounted-slots =
        let (xs, ys, e, d) = used_slots-one a l.directory p f.slot.number b full h.directory.chain.once place.0 place.1
        (λ k lt ne. other-slot p (sector a p) b f.slot.number k r lt ne) (ap is_used (sym place.2)
        ∙ place.3) used in
        let old : xs ++ f.slot ∷ ys ≡ map (λ x. x.slot) before ++ f.slot ∷ map (λ x. x.slot) after =
        ap (λ s. xs ++ s ∷ ys) place.2 ∙ sym e ∙ sym h.directory.slots ∙ ap (map (λ x. x.slot)) split
        ∙ all-slots-of before after f in
        let both = split-one xs ys (map (λ x. x.slot) before) (map (λ x. x.slot) after) f.slot old slot-alone.0
        slot-alone.1 in
        d ∙ ap (λ zs. zs ++ new ∷ ys) both.0 ∙ ap (λ zs. map (λ x. x.slot) before ++ new ∷ zs) both.1

    links : SameLinks a (put a p b) l.directory
    links q c = elim (cases_eq (index_of p) (index_of q)) [
      | inl e ↦ let one : p ≡ q = same_index p q e in
          let there : sector (put a p b) q ≡ b = ap (sector (put a p b)) (sym one) ∙ sector-put_same a p b full in
          let was : sector a q ≡ sector a p = ap (sector a) (sym one) in (
            ap (λ x. slice_index x 0) was ∙ sym (r.same 0 (inl (omega arith))) ∙ ap (λ x. slice_index x 0) (sym there),
            ap (λ x. slice_index x 1) was ∙ sym (r.same 1 (inl (omega arith))) ∙ ap (λ x. slice_index x 1) (sym there),
          )
      | inr n ↦ let same : sector a q ≡ sector (put a p b) q = unless-same a p q b (λ e. n (ap index_of e)) in
          (ap (λ s. slice_index s 0) same, ap (λ s. slice_index s 1) same)
    ]

    unowned : ¬ (Contains (flat_map file_owns l.files) p)
    unfolding owners
    unowned = EachOnce-apart l.directory (flat_map file_owns l.files) h.once.1 p place.0

    same-owns : flat_map file_owns (before ++ with_slot f new ∷ after) ≡ flat_map file_owns l.files
    same-owns = flat_map-append file_owns before (with_slot f new ∷ after)
        ∙ sym (ap (flat_map file_owns) split ∙ flat_map-append file_owns before (f ∷ after))

    pub IsLayout-recount : IsLayout (put a p b) (exchanged l before (with_slot f new) after)
    IsLayout-recount =
        let now : AllByRecursion (IsFile (put a p b)) (before ++ f ∷ after) =
        rw split at (files-frame a (put a p b) l.files (keeps-other a p b l.files unowned) h.files) in
        let behind = all-right (IsFile (put a p b)) before (f ∷ after) now in
        IsLayout-directory a (put a p b) l (before ++ with_slot f new ∷ after) h links
        (all-slots-of before after (with_slot f new) ∙ sym recounted-slots)
        (all-join (IsFile (put a p b)) before (with_slot f new ∷ after)
        (all-left (IsFile (put a p b)) before (f ∷ after) now)
        (IsFile-slot (put a p b) f new (uncounted-face f.slot new new-slot) behind.0, behind.1))
        same-owns
