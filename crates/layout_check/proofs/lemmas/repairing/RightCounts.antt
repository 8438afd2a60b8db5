-- Directory sectors whose block counts alone differ: the image keeps its files, and its counts are those written.
use Rattle.std.proofs.Common.{
  ℕ,
  ◌≡◌,
  ◌<◌,
  ◌+◌,
  ◌*◌,
  ◌%◌,
  ◌/◌,
  List,
  [],
  ◌++◌,
  length,
  take,
  drop,
  sym,
  ◌∙◌,
  ap,
  refl,
  arith,
  subst,
  inl,
  inr,
  slice_index,
}
use Rattle.std.specs.Prelude.{Contains, IsTrue, flat_map, nat_eq, ◌||◌}
use Rattle.d64_image.proofs.Images.{is_sector, sector-put_other, sector-put_same}
use Rattle.d64_image.proofs.Places.{same_or_other}
use Rattle.d64_image.specs.Images.{Image, IsImage, Sector, put, sector}
use Rattle.d64_image.specs.declared.place.Place.{Place}
use Rattle.disk_layout.proofs.lemmas.chains.Chains.{SameLinks}
use Rattle.disk_layout.proofs.lemmas.counts.Counts.{uncounted-face}
use Rattle.disk_layout.proofs.lemmas.counts.Recount.{slot-there}
use Rattle.disk_layout.proofs.lemmas.counts.Recounts.{
  IsLayout-reread,
  KeepsEntries,
  keeps-put_counts,
  reread,
  reread_layout,
  reslot,
  slot-of,
  slot-same,
  stays-reread,
}
use Rattle.disk_layout.proofs.lemmas.layouts.Layouts.{IsLayout-one}
use Rattle.disk_layout.proofs.lemmas.layouts.Frames.{KeepsFiles, block-owned, side-owned}
use Rattle.disk_layout.proofs.lemmas.lists.Once.{Contains-cases, Contains-here, Contains-nil, EachOnce-apart, map-in}
use Rattle.disk_layout.specs.Directory.{map_place, slot_in}
use Rattle.disk_layout.specs.Entries.{IsRecountedAll, uncounted}
use Rattle.disk_layout.specs.Layout.{File, IsLayout, Layout, count_field, file_owns, is_rel, owners}
use Rattle.disk_layout.specs.Same.{IsCountByte, SameFiles}
use Rattle.layout_check.specs.Recounted.{AreCounted, AreRightIn, IsCountedAs, IsSameButCounts, IsRecountAt, IsRecountOf, owned_count}

-- the first thirty bytes of a slot are no count bytes
slot-byte : (n i : ℕ) → i < 30 → (32 * n + i) % 32 ≡ i
slot-byte n i h = omega arith

pub plain-byte : (old new : Sector) (n i : ℕ) → IsCountedAs old new → n < 8 → i < 30
    → slice_index new (32 * n + i) ≡ slice_index old (32 * n + i)
plain-byte old new n i h eight low = elim (h.same (32 * n + i) (omega arith)) [
  | inl c ↦ absurd (omega (arith, c.0, slot-byte n i low))
  | inr e ↦ e
]

pub counted-all : (old new : Sector) → IsCountedAs old new → IsRecountedAll old new
counted-all old new h = record {
  old_long = h.old_long;
  long = h.long;
  same = λ n i eight low. plain-byte old new n i h eight low;
}

pub counted-none : (x : Sector) → length x ≡ 256 → IsCountedAs x x
counted-none x long = record { old_long = long; long = long; same = λ i h. inr refl }

-- a byte of the count is one after as before
type-byte : (x y : Sector) (i : ℕ) → IsCountedAs x y → i < 256
    → slice_index y (32 * (i / 32) + 2) ≡ slice_index x (32 * (i / 32) + 2)
type-byte x y i h lt = plain-byte x y (i / 32) 2 h (omega arith) (omega arith)

count-byte : (x y : Sector) (i : ℕ) → IsCountedAs x y → i < 256 → IsCountByte y i → IsCountByte x i
count-byte x y i h lt (high, kind) = (
  high,
  elim kind [
    | inl e ↦ inl (sym (type-byte x y i h lt) ∙ e)
    | inr e ↦ inr (sym (type-byte x y i h lt) ∙ e)
  ],
)

pub counted-then : (x y z : Sector) → IsCountedAs x y → IsCountedAs y z → IsCountedAs x z
counted-then x y z h k = record {
  old_long = h.old_long;
  long = k.long;
  same = λ i lt. elim (h.same i lt) [
    | inl c ↦ inl c
    | inr e ↦ elim (k.same i lt) [ inl c ↦ inl (count-byte x y i h lt c) | inr d ↦ inr (d ∙ e) ]
  ];
}

-- images that differ in counts of the directory alone
module _ (a b : Image) (l : Layout) (full : length a ≡ 683) (h : IsLayout a l) (r : IsRecountOf a b l.directory) where
  keeps : (p : Place) → Contains l.directory p → KeepsEntries a b p
  keeps p c n low =
      let all = counted-all (sector a p) (sector b p) (r.counts p c) in
      keeps-put_counts a l p (sector b p) full h c all p n low
      ∙ ap (λ x. uncounted (slot_in p x n)) (sector-put_same a p (sector b p) full)

  links : SameLinks a b l.directory
  links p c =
      let k = r.counts p c in (
        sym (plain-byte (sector a p) (sector b p) 0 0 k (omega arith) (omega arith)),
        sym (plain-byte (sector a p) (sector b p) 0 1 k (omega arith) (omega arith)),
      )

  off-directory : (p : Place) → Contains (flat_map file_owns l.files) p → ¬ (Contains l.directory p)
  unfolding owners
  off-directory p c own = EachOnce-apart l.directory (flat_map file_owns l.files) h.once.1 p own c

  same-owned : (p : Place) → Contains (flat_map file_owns l.files) p → sector a p ≡ sector b p
  same-owned p c = sym (r.rest p (off-directory p c))

  files : KeepsFiles a b l.files
  files = record {
    links = λ p c. let e = same-owned p (block-owned l.files p c) in
        (ap (λ x. slice_index x 0) e, ap (λ x. slice_index x 1) e);
    sides = λ p c. same-owned p (side-owned l.files p c);
  }

  pub reread-layout : IsLayout b (reread_layout b l)
  reread-layout = IsLayout-reread a b l h links keeps files

  pub same-files : SameFiles a b l (reread_layout b l)
  same-files = record {
    directory = refl;
    files = stays-reread a b l h keeps (λ p c. same-owned p (block-owned l.files p c));
    entries = λ p c. (r.counts p c).same;
    header = ap (λ (s : Sector). take 4 s ++ drop 144 s) (r.rest map_place h.directory.not_map);
    elsewhere = λ p ne off sides. r.rest p off;
  }

  pub recount-mended : IsSameButCounts a b l
  recount-mended = record { layout = reread_layout b l; sound = reread-layout; files = same-files; rest = r.rest }

  same-rel : (f : File) → Contains l.files f → is_rel (reslot b f.slot) ≡ is_rel f.slot
  same-rel f c = ap (λ t. nat_eq t 132 || nat_eq t 196)
      (sym (uncounted-face f.slot (reslot b f.slot) (slot-same a b l f h keeps c)).kind)

  -- where all counts of all directory sectors are right, the image is counted
  pub all-counted : ((p : Place) → Contains l.directory p → AreRightIn a p (sector b p)) → AreCounted b
  all-counted right m g is own rel =
      let one : m ≡ reread_layout b l = IsLayout-one b m (reread_layout b l) is reread-layout in
      let there = (let P : Layout → Type 0 = λ x. Contains x.files g in subst P one own) in
      let (f, c, e) = map-in (reread b) l.files g there in
      let P : File → Type 0 = λ x. IsTrue (is_rel x.slot) → count_field x.slot ≡ owned_count x in
      subst P e (λ t. (counted-file f c (sym (same-rel f c) ∙ t))) rel
    where
      counted-file : (f : File) → Contains l.files f → IsTrue (is_rel f.slot)
          → count_field (reslot b f.slot) ≡ owned_count f
      counted-file f c t =
          let (on, low, e, used) = slot-there a l.directory f.slot (slot-of a l f h c) in
          right f.slot.sector on f.slot.number low l f h (record { own = c; rel = t; sector = refl; number = refl })

-- a write of one of these sectors more
pub recount-then : (a b c : Image) (ps : List Place) (p : Place) → Contains ps p → IsRecountOf a b ps
    → IsRecountAt b p c → IsRecountOf a c ps
recount-then a b c ps p on r s = record {
  counts = λ q d. elim (same_or_other p q) [
    | inl e ↦ counted-then (sector a q) (sector b q) (sector c q) (r.counts q d)
        (s.counts q (rw e (Contains-here q [])))
    | inr ne ↦ let same =
        s.rest q (λ k. elim (Contains-cases q p [] k) [ inl e ↦ ne e | inr none ↦ Contains-nil q none ]) in
        let P : Sector → Type 0 = λ x. IsCountedAs (sector a q) x in subst P (sym same) (r.counts q d)
  ];
  rest = λ q off. s.rest q (λ k. elim (Contains-cases q p [] k) [
    | inl e ↦ off (rw (← e) on)
    | inr none ↦ Contains-nil q none
  ]) ∙ r.rest q off;
}

pub recount-none : (a : Image) (ps : List Place) → IsImage a → IsRecountOf a a ps
recount-none a ps whole = record {
  counts = λ p c. counted-none (sector a p) (is_sector a p whole).size;
  rest = λ p off. refl;
}

-- a directory sector written
pub recount-put : (a : Image) (p : Place) (bytes : Sector) → IsImage a → IsCountedAs (sector a p) bytes
    → IsRecountAt a p (put a p bytes)
recount-put a p bytes whole h = record {
  counts = λ q c. elim (Contains-cases q p [] c) [
    | inl e ↦ let P : Place → Type 0 = λ x. IsCountedAs (sector a x) (sector (put a p bytes) x) in
        let Q : Sector → Type 0 = λ x. IsCountedAs (sector a p) x in
        subst P e (subst Q (sym (sector-put_same a p bytes whole.size)) h)
    | inr none ↦ absurd (Contains-nil q none)
  ];
  rest = λ q off. sector-put_other a p q bytes (λ e. off (rw e (Contains-here q [])));
}
