-- Block counts written into directory sectors, any number of them: each file with its slot as the new image has it.
use Rattle.std.proofs.Common.{◌≡◌, ℕ, ◌+◌, ◌*◌, ◌<◌, Bool, true, false, List, [], ◌∷◌, ◌++◌, length, map, take}
use Rattle.std.proofs.Common.{slice_index, refl, sym, ◌∙◌, ap, subst, arith}
use Rattle.std.specs.Prelude.{Contains, filter, flat_map, slice_range, cond, nat_eq, not}
use Rattle.std.specs.List.{AllByRecursion}
use Rattle.std.proofs.Common.{inl, inr, drop}
use Rattle.std.proofs.lemmas.List.{drop-take, get_or-take, length-take, map-append}
use Rattle.std.proofs.lemmas.Grind.{same_number_lists}
use Rattle.d64_image.proofs.Images.{sector-put_same}
use Rattle.d64_image.proofs.Places.{same_or_other}
use Rattle.d64_image.specs.Images.{Image, Sector, put, sector}
use Rattle.d64_image.specs.declared.place.Place.{Place}
use Rattle.disk_layout.proofs.lemmas.chains.Chains.{AgreeAt, SameLinks}
use Rattle.disk_layout.proofs.lemmas.counts.Counts.{range-piece, uncounted-face}
use Rattle.disk_layout.proofs.lemmas.counts.Faces.{IsFile-slot, IsLayout-directory, with_slot}
use Rattle.disk_layout.proofs.lemmas.counts.Recount.{flat_map-out, slot-number, slot-there}
use Rattle.disk_layout.proofs.lemmas.layouts.Agree.{stays-agree}
use Rattle.disk_layout.proofs.lemmas.layouts.Frames.{KeepsFiles, all_blocks, files-frame}
use Rattle.disk_layout.proofs.lemmas.layouts.Frames.{unless-same}
use Rattle.disk_layout.proofs.lemmas.lists.Lists.{in-map}
use Rattle.disk_layout.proofs.lemmas.lists.Once.{Contains-here, Contains-there, flat_map-in}
use Rattle.disk_layout.proofs.lemmas.records.Pieces.{length-piece, piece, piece-byte}
use Rattle.disk_layout.specs.Directory.{is_used, slot_in, slots_in, used_slots}
use Rattle.disk_layout.specs.Entries.{IsRecountedAll, uncounted}
use Rattle.disk_layout.specs.Layout.{File, IsFile, IsLayout, Layout, file_owns}
use Rattle.disk_layout.specs.Same.{stays_of}
use Rattle.disk_layout.specs.declared.slot.Slot.{Slot}

-- the slot as this image has it
abbrev pub reslot : Image → Slot → Slot
reslot img s = slot_in s.sector (sector img s.sector) s.number

-- the file, and the files, with their slots as this image has them
abbrev pub reread : Image → File → File
reread img f = with_slot f (reslot img f.slot)

abbrev pub reread_layout : Image → Layout → Layout
reread_layout img l = record { directory = l.directory; files = map (reread img) l.files }

-- the eight entries of a directory sector are the same, block counts aside
abbrev pub KeepsEntries : Image → Image → Place → Type 0
KeepsEntries a b p = (n : ℕ) → n < 8 → uncounted (slot_in p (sector a p) n) ≡ uncounted (slot_in p (sector b p) n)

-- lists
pub filter-map : {X : Type 0} (t : X → Bool) (f : X → X) (xs : List X) → ((x : X) → Contains xs x → t (f x) ≡ t x)
    → filter t (map f xs) ≡ map f (filter t xs)
filter-map t f [] same = refl
filter-map {X} t f (x ∷ xs) same = step (t x) refl (filter-map t f xs (λ y c. same y (Contains-there y x xs c)))
  where
    here : t (f x) ≡ t x
    here = same x (Contains-here x xs)

    step : (b : Bool) → t x ≡ b → filter t (map f xs) ≡ map f (filter t xs)
        → cond (t (f x)) (f x ∷ filter t (map f xs)) (filter t (map f xs))
        ≡ map f (cond (t x) (x ∷ filter t xs) (filter t xs))
    step true e rest = rw (here, e) (ap (λ ys. f x ∷ ys) rest)
    step false e rest = rw (here, e) rest

pub map-map : {X Y Z : Type 0} (f : Y → Z) (g : X → Y) (xs : List X) → map f (map g xs) ≡ map (λ x. f (g x)) xs
map-map f g [] = refl
map-map f g (x ∷ xs) = ap (λ ys. f (g x) ∷ ys) (map-map f g xs)

pub map-same_on : {X Y : Type 0} (f g : X → Y) (xs : List X) → ((x : X) → Contains xs x → f x ≡ g x)
    → map f xs ≡ map g xs
map-same_on f g [] same = refl
map-same_on f g (x ∷ xs) same =
    let here = same x (Contains-here x xs) in
    let rest = map-same_on f g xs (λ y c. same y (Contains-there y x xs c)) in
    cc

-- the slots of the new image, sector by sector
pub slots-reslot : (a b : Image) (p : Place) → slots_in p (sector b p) ≡ map (reslot b) (slots_in p (sector a p))
unfolding slots_in
slots-reslot a b p = refl

pub all_slots-reslot : (a b : Image) (ps : List Place) → flat_map (λ p. slots_in p (sector b p)) ps ≡ map (reslot b)
    (flat_map (λ p. slots_in p (sector a p)) ps)
all_slots-reslot a b [] = refl
all_slots-reslot a b (p ∷ ps) =
    let here = slots-reslot a b p in
    let rest = all_slots-reslot a b ps in
    cc (here, rest, map-append (reslot b) (slots_in p (sector a p)) (flat_map (λ q. slots_in q (sector a q)) ps))

pub slot-any : (a : Image) (ps : List Place) (s : Slot) → Contains (flat_map (λ p. slots_in p (sector a p)) ps) s
    → Contains ps s.sector × (s.number < 8) × (s ≡ slot_in s.sector (sector a s.sector) s.number)
slot-any a ps s d =
    let (p, on, e) = flat_map-out (λ p. slots_in p (sector a p)) ps s d in
    let (low, same) = slot-number p (sector a p) s e in
    let one : s.sector ≡ p = ap (λ x. x.sector) same in
    (rw one on, low, same ∙ ap (λ x. slot_in x (sector a x) s.number) (sym one))

-- a slot of the directory is the same entry in both images
module _ (a b : Image) (ps : List Place) (keeps : (p : Place) → Contains ps p → KeepsEntries a b p) where
  pub reslot-same : (s : Slot) → Contains (flat_map (λ p. slots_in p (sector a p)) ps) s
      → uncounted s ≡ uncounted (reslot b s)
  reslot-same s c = let (on, low, e) = slot-any a ps s c in ap uncounted e ∙ keeps s.sector on s.number low

  reslot-used : (s : Slot) → Contains (flat_map (λ p. slots_in p (sector a p)) ps) s → is_used (reslot b s) ≡ is_used s
  reslot-used s c = ap (λ n. not (nat_eq n 0)) (sym (uncounted-face s (reslot b s) (reslot-same s c)).kind)

  -- so the used slots are those of before, as the new image has them
  pub used_slots-reslot : used_slots b ps ≡ map (reslot b) (used_slots a ps)
  unfolding used_slots
  used_slots-reslot = ap (filter is_used) (all_slots-reslot a b ps)
      ∙ filter-map is_used (reslot b) (flat_map (λ p. slots_in p (sector a p)) ps) reslot-used

-- the files of the new image own what they owned
pub reread-owns : (b : Image) (fs : List File) → flat_map file_owns (map (reread b) fs) ≡ flat_map file_owns fs
reread-owns b [] = refl
reread-owns b (f ∷ fs) = ap (λ ps. file_owns f ++ ps) (reread-owns b fs)

pub reread-files : (b : Image) (fs : List File)
    → ((f : File) → Contains fs f → uncounted f.slot ≡ uncounted (reslot b f.slot)) → AllByRecursion (IsFile b) fs
    → AllByRecursion (IsFile b) (map (reread b) fs)
reread-files b [] same h = tt
reread-files b (f ∷ fs) same h = (
  IsFile-slot b f (reslot b f.slot) (uncounted-face f.slot (reslot b f.slot) (same f (Contains-here f fs))) h.0,
  reread-files b fs (λ g c. same g (Contains-there g f fs c)) h.1,
)

-- a file's slot stands in the directory
pub slot-of : (a : Image) (l : Layout) (f : File) → IsLayout a l → Contains l.files f
    → Contains (used_slots a l.directory) f.slot
slot-of a l f h c = let P : List Slot → Type 0 = λ ss. Contains ss f.slot in
    subst P h.directory.slots (in-map (λ g. g.slot) l.files f c)

pub slot-same : (a b : Image) (l : Layout) (f : File) → IsLayout a l
    → ((p : Place) → Contains l.directory p → KeepsEntries a b p) → Contains l.files f
    → uncounted f.slot ≡ uncounted (reslot b f.slot)
slot-same a b l f h keeps c =
    let (on, low, e, used) = slot-there a l.directory f.slot (slot-of a l f h c) in
    ap uncounted e ∙ keeps f.slot.sector on f.slot.number low

-- images that agree in directory links and entries, block counts aside, in the links of all blocks and in all side
-- sectors
pub IsLayout-reread : (a b : Image) (l : Layout) → IsLayout a l → SameLinks a b l.directory
    → ((p : Place) → Contains l.directory p → KeepsEntries a b p) → KeepsFiles a b l.files
    → IsLayout b (reread_layout b l)
IsLayout-reread a b l h links keeps files =
    IsLayout-directory a b l (map (reread b) l.files) h links
    (map-map (λ f. f.slot) (reread b) l.files ∙ sym (map-map (reslot b) (λ f. f.slot) l.files)
    ∙ ap (map (reslot b)) h.directory.slots ∙ sym (used_slots-reslot a b l.directory keeps))
    (reread-files b l.files (λ f c. slot-same a b l f h keeps c) (files-frame a b l.files files h.files))
    (reread-owns b l.files)

-- and all that repair leaves of them
stays-slot : (img : Image) (f : File) (s : Slot) → uncounted f.slot ≡ uncounted s
    → stays_of img (with_slot f s) ≡ stays_of img f
stays-slot img f s e = λ i. record {
  sector = (sym e i).sector;
  number = (sym e i).number;
  entry = sym (entry f.slot ∙ ap (λ x. drop 2 x.bytes) e ∙ sym (entry s)) i;
  blocks = f.blocks;
  last = f.last;
  bytes = map (sector img) f.blocks;
  sides = f.sides;
}
  where
    entry : (x : Slot) → slice_range x.bytes 2 30 ≡ drop 2 (take 30 x.bytes)
    entry x = sym (drop-take 2 28 x.bytes)

pub stays-reread : (a b : Image) (l : Layout) → IsLayout a l
    → ((p : Place) → Contains l.directory p → KeepsEntries a b p) → AgreeAt a b (all_blocks l.files)
    → map (stays_of b) (map (reread b) l.files) ≡ map (stays_of a) l.files
stays-reread a b l h keeps same = map-map (stays_of b) (reread b) l.files
    ∙ map-same_on (λ f. stays_of b (reread b f)) (stays_of a) l.files (λ f c.
    stays-slot b f (reslot b f.slot) (slot-same a b l f h keeps c)
    ∙ sym (stays-agree a b f (λ q d. same q (flat_map-in (λ g. g.blocks) l.files f q c d))))

entries-kept : (p : Place) (x y : Sector) (n : ℕ) → IsRecountedAll x y → n < 8
    → uncounted (slot_in p x n) ≡ uncounted (slot_in p y n)
entries-kept p x y n h lt =
    let lx = length-piece 32 n x (omega (arith, h.old_long)) in
    let ly = length-piece 32 n y (omega (arith, h.long)) in
    let e : take 30 (slice_range x (32 * n) (32 * n + 32)) ≡ take 30 (slice_range y (32 * n) (32 * n + 32)) =
    ap (take 30) (range-piece x n)
    ∙ same_number_lists (take 30 (piece 32 n x)) (take 30 (piece 32 n y)) (length-take 30 (piece 32 n x) ∙ cc (lx, ly)
    ∙ sym (length-take 30 (piece 32 n y)))
    (λ j d. let below : j < 30 = omega (arith, length-take 30 (piece 32 n x), d) in
    let at : 32 * n + j ≡ n * 32 + j = omega arith in
    get_or-take 30 (piece 32 n x) j 0 below ∙ piece-byte 32 n x j (omega arith) ∙ ap (slice_index x) (sym at)
    ∙ sym (h.same n j lt below) ∙ ap (slice_index y) at ∙ sym (get_or-take 30 (piece 32 n y) j 0 below
    ∙ piece-byte 32 n y j (omega arith)))
    ∙ sym (ap (take 30) (range-piece y n)) in
    ap (λ (bs : List ℕ). record { sector = p; number = n; bytes = bs }) e

-- a write of a directory sector that changes block counts alone
module _ (a : Image) (l : Layout) (p : Place) (bytes : Sector) (full : length a ≡ 683) (h : IsLayout a l)
    (own : Contains l.directory p) (r : IsRecountedAll (sector a p) bytes) where
  abbrev b : Image
  b = put a p bytes

  there : sector (put a p bytes) p ≡ bytes
  there = sector-put_same a p bytes full

  pub keeps-put_counts : (q : Place) → KeepsEntries a (put a p bytes) q
  keeps-put_counts q n low = elim (same_or_other p q) [
    | inl e ↦ let P : Place → Type 0 = λ x. uncounted (slot_in x (sector a x) n) ≡ uncounted
        (slot_in x (sector (put a p bytes) x) n) in
        subst P e (entries-kept p (sector a p) bytes n r low ∙ ap (λ x. uncounted (slot_in p x n)) (sym there))
    | inr ne ↦ ap (λ x. uncounted (slot_in q x n)) (unless-same a p q bytes ne)
  ]
