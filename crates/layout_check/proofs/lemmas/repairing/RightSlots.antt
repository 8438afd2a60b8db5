-- One slot of a directory sector: its block count read, judged, and written.
use Rattle.std.proofs.Common.{ℕ, ◌≡◌, ◌≢◌, ◌<◌, ◌≤◌, ◌+◌, ◌*◌, ◌/◌, ◌⊎◌, List, [], ◌∷◌, ◌++◌, length, length-append, sym, ◌∙◌, ap, arith, subst, inl, inr, slice_index}
use Rattle.std.specs.Prelude.{Contains, IsTrue, nat_eq, slice_range, ◌||◌}
use Rattle.std.proofs.lemmas.Bool.{cases_lt}
use Rattle.std.proofs.lemmas.Bool.Decides.{nat_tests}
use Rattle.d64_image.specs.Images.{Image, Sector, sector}
use Rattle.d64_image.specs.declared.place.Place.{Place}
use Rattle.disk_layout.proofs.lemmas.counts.CountWrites.{slot-byte}
use Rattle.disk_layout.proofs.lemmas.counts.Counts.{range-piece}
use Rattle.disk_layout.proofs.lemmas.counts.Recount.{slot-get, slot-there}
use Rattle.disk_layout.proofs.lemmas.counts.Recounts.{slot-of}
use Rattle.disk_layout.proofs.lemmas.layouts.Layouts.{get-contains}
use Rattle.disk_layout.proofs.lemmas.layouts.Unsound.{slot-file}
use Rattle.disk_layout.proofs.lemmas.records.Pieces.{piece-same}
use Rattle.disk_layout.proofs.lemmas.chains.Chains.{Names-one}
use Rattle.disk_layout.proofs.lemmas.lists.Once.{Contains-here, all-in}
use Rattle.disk_layout.specs.Chain.{IsChain, Leads, Names, NamesNone}
use Rattle.std.proofs.lemmas.List.Elements.{Contains-append_left}
use Rattle.layout_check.proofs.lemmas.repairing.RightCounts.{counted-then}
use Rattle.disk_layout.specs.Directory.{slot_in, slots_in, type_byte}
use Rattle.disk_layout.specs.Entries.{IsRecounted}
use Rattle.disk_layout.specs.Layout.{File, IsFile, IsLayout, IsRelFile, IsSound, Layout, count_field, file_owns, is_rel}
use Rattle.disk_layout.specs.Same.{IsCountByte}
use Rattle.disk_layout.specs.declared.slot.Slot.{Slot}
use Rattle.layout_check.proofs.lemmas.finding.Listed.{directory-sector}
use Rattle.layout_check.specs.Entry.{IsEntry}
use Rattle.layout_check.specs.Owners.{AreOwnedWith, NumbersEach}
use Rattle.layout_check.specs.declared.owners.Owners.{Owners}
use Rattle.layout_check.specs.Recounted.{
  AreCounted,
  AreRightIn,
  GetsCounts,
  IsCountedAs,
  IsInDirectory,
  IsRelAt,
  IsRightAt,
  owned_count,
}

-- the other slots stay
pub other-slot : (p : Place) (x y : Sector) (n k : ℕ) → IsRecounted x y n → k < 8 → k ≢ n
    → slot_in p y k ≡ slot_in p x k
other-slot p x y n k h lt ne =
    let e : slice_range y (32 * k) (32 * k + 32) ≡ slice_range x (32 * k) (32 * k + 32) =
    range-piece y k ∙ piece-same 32 k y x (omega (arith, h.long)) (omega (arith, h.old_long))
    (λ i a b. h.same i (outside i a b)) ∙ sym (range-piece x k) in
    ap (λ (bs : List ℕ). record { sector = p; number = k; bytes = bs }) e
  where
    outside : (i : ℕ) → k * 32 ≤ i → i < k * 32 + 32 → (i < 32 * n + 30) ⊎ (32 * n + 32 ≤ i)
    outside i a b = elim (cases_lt k n) [ inl c ↦ inl (omega arith) | inr c ↦ inr (omega arith) ]

-- a relative entry by its type byte
rel-type : (t : ℕ) → IsTrue (nat_eq t 132 || nat_eq t 196) → (t ≡ 132) ⊎ (t ≡ 196)
rel-type t h = grind (arith, nat_tests)

rel-used : (t : ℕ) → IsTrue (nat_eq t 132 || nat_eq t 196) → t ≢ 0
rel-used t h = elim (rel-type t h) [ inl e ↦ omega arith | inr e ↦ omega arith ]

-- the count of a relative slot alone was written
pub counted-one : (p : Place) (x y : Sector) (n : ℕ) → n < 8 → IsTrue (is_rel (slot_in p x n)) → IsRecounted x y n
    → IsCountedAs x y
counted-one p x y n low rel h = record {
  old_long = h.old_long;
  long = h.long;
  same = λ i lt. elim (cases_lt i (32 * n + 30)) [
    | inl below ↦ inr (h.same i (inl below))
    | inr high ↦ elim (cases_lt i (32 * n + 32)) [
      | inl inside ↦ inl (here i high inside)
      | inr above ↦ inr (h.same i (inr (omega (arith, above))))
    ]
  ];
}
  where
    kind : (i : ℕ) → i / 32 ≡ n → (slice_index x (32 * (i / 32) + 2) ≡ 132) ⊎ (slice_index x (32 * (i / 32) + 2) ≡ 196)
    kind i e = let there = sym (slot-byte x n 2 (omega arith)) in
        rw e (elim (rel-type _ rel) [ inl k ↦ inl (there ∙ k) | inr k ↦ inr (there ∙ k) ])

    here : (i : ℕ) → 32 * n + 30 ≤ i → i < 32 * n + 32 → IsCountByte x i
    here i high inside = (omega (arith, high), kind i (omega (arith, high)))

-- the slot of a file of the layout, as its directory sector has it
pub slot-is : (img : Image) (l : Layout) (f : File) (p : Place) (n : ℕ) → IsLayout img l → IsRelAt l p n f
    → f.slot ≡ slot_in p (sector img p) n
slot-is img l f p n h at =
    let (on, low, e, used) = slot-there img l.directory f.slot (slot-of img l f h at.own) in
    e ∙ ap (λ q. slot_in q (sector img q) f.slot.number) at.sector ∙ ap (slot_in p (sector img p)) at.number

pub rel-entry-at : (img : Image) (p : Place) (n : ℕ) (s : Slot) → IsSound img → IsInDirectory img p → n < 8
    → s ≡ slot_in p (sector img p) n → IsTrue (is_rel s) → IsEntry img s
rel-entry-at img p n s (l, h) own low e rel =
    let P : Slot → Type 0 = IsEntry img in
    let used = rel-used _ rel in
    subst P (sym e) (record {
      slot = record {
        directory = directory-sector img l.directory _ p h.directory (own l h);
        slot = get-contains (slots_in p (sector img p)) n (slot_in p (sector img p) n)
            (slot-get p (sector img p) n low);
      };
      used = λ z. used (ap type_byte e ∙ z);
    })

-- the count of a slot that isn't relative isn't asked for
pub right-plain : (img : Image) (p : Place) (bytes : Sector) (n : ℕ) (s : Slot) → s ≡ slot_in p (sector img p) n
    → is_rel s ≢ Rattle.std.proofs.Common.true → IsRightAt img p bytes n
right-plain img p bytes n s e plain l f h at = absurd (plain (ap is_rel (e ∙ sym (slot-is img l f p n h at)) ∙ at.rel))

-- a chain begins with its first sector
chain-first : (img : Image) (p : Place) (ps : List Place) (u : ℕ) → IsChain img p ps u → Contains ps p
chain-first img p ps u c = rw c.places (starts c.front c.leads)
  where
    starts : (front : List Place) → Leads img p front c.last → Contains (front ++ c.last ∷ []) p
    starts [] e = rw e (Contains-here c.last [])
    starts (v ∷ vs) (next, e, link, more) = let P : Place → Type 0 = λ x. Contains (x ∷ (vs ++ c.last ∷ [])) p in
        subst P (sym e) (Contains-here p (vs ++ c.last ∷ []))

-- a relative entry of the image in this slot, whose bytes 3-4 name this place
module _ (img : Image) (p : Place) (n : ℕ) (s : Slot) (e : s ≡ slot_in p (sector img p) n) where
  slot-at : (l : Layout) (f : File) → IsLayout img l → IsRelAt l p n f → f.slot ≡ s
  slot-at l f is at = slot-is img l f p n is at ∙ sym e

  chain-at : (l : Layout) (f : File) → IsLayout img l → IsRelAt l p n f → IsRelFile img f
  chain-at l f is at = (all-in (IsFile img) l.files f is.files at.own).rel at.rel

  -- no relative entry has none
  pub right-nowhere : (bytes : Sector) → NamesNone s.bytes 3 → IsRightAt img p bytes n
  right-nowhere bytes none l f is at =
      let (q, names, chain) = (chain-at l f is at).chain in
      let P : Slot → Type 0 = λ x. Names x.bytes 3 q in
      absurd (none q (subst P (slot-at l f is at) names))

  -- as many sectors have its number as the file owns
  module _ (t : Owners) (numbers : NumbersEach t img) (first : Place) (names : Names s.bytes 3 first) (count : ℕ)
      (counts : (ps : List Place) → AreOwnedWith t first ps → count ≡ length ps) where
    count-at : (l : Layout) (f : File) → IsLayout img l → IsRelAt l p n f → count ≡ owned_count f
    count-at l f is at =
        let rel = chain-at l f is at in
        let (q, there, chain) = rel.chain in
        let P : Slot → Type 0 = λ x. Names x.bytes 3 q in
        let one : q ≡ first = Names-one s.bytes 3 q first (subst P (slot-at l f is at) there) names in
        let Q : Place → Type 0 = λ x. Contains (file_owns f) x in
        let own = subst Q one (Contains-append_left f.blocks f.sides q (chain-first img q f.blocks f.last chain)) in
        counts (file_owns f) (numbers l is f first at.own own) ∙ length-append f.blocks f.sides
        ∙ ap (λ k. length f.blocks + k) rel.count

    -- so that is the right count; a count that was right is the same
    pub gets-count : (x y : Sector) → IsSound img → IsInDirectory img p → n < 8 → slot_in p x n ≡ s
        → IsTrue (is_rel s) → IsRecounted x y n → count_field (slot_in p y n) ≡ count
        → (count_field (slot_in p x n) ≡ count → y ≡ x) → GetsCounts (λ b. IsRightAt img p b n) x y
    gets-count x y (l, h) own low same rel recounted right kept = record {
      counts = counted-one p x y n low (ap is_rel same ∙ rel) recounted;
      right = λ m f is at. right ∙ count-at m f is at;
      kept = λ was.
          let entry = rel-entry-at img p n s (l, h) own low e rel in
          let (f, of, is, file) = slot-file img l s.sector s h entry.slot entry.used in
          let at : IsRelAt l p n f = record {
            own = of;
            rel = ap is_rel is ∙ rel;
            sector = ap (λ z. z.sector) (is ∙ e);
            number = ap (λ z. z.number) (is ∙ e);
          } in
          kept (was l f h at ∙ sym (count-at l f h at));
    }

-- a slot with the same bytes is as right
pub right-same : (img : Image) (p : Place) (x y : Sector) (n : ℕ) → slot_in p y n ≡ slot_in p x n → IsRightAt img p x n
    → IsRightAt img p y n
right-same img p x y n e right l f h at = ap count_field e ∙ right l f h at

-- in a counted image each is right
pub counted-right : (img : Image) (p : Place) → AreCounted img → AreRightIn img p (sector img p)
counted-right img p all n low l f h at = ap count_field (sym (slot-is img l f p n h at)) ∙ all l f h at.own at.rel

-- the slots below n are right
abbrev pub AreRightBelow : Image → Place → ℕ → Sector → Type 0
AreRightBelow img p n bytes = (k : ℕ) → k < n → IsRightAt img p bytes k

-- one slot more got its count
pub gets-next : (img : Image) (p : Place) (x y z : Sector) (n : ℕ) → n < 8 → IsRecounted y z n
    → GetsCounts (AreRightBelow img p n) x y → GetsCounts (λ b. IsRightAt img p b n) y z
    → GetsCounts (AreRightBelow img p (n + 1)) x z
gets-next img p x y z n low h old now = record {
  counts = counted-then x y z old.counts now.counts;
  right = λ k below. elim (cases_lt k n) [
    | inl lt ↦ right-same img p y z k (other-slot p y z n k h (omega (arith, lt, low))
        (λ e. omega (arith, e, lt))) (old.right k lt)
    | inr high ↦ let e : n ≡ k = omega (arith, below, high) in
        let P : ℕ → Type 0 = λ m. IsRightAt img p z m in
        subst P e now.right
  ];
  kept = λ right.
      let same = old.kept (λ k lt. right k (omega (arith, lt))) in
      let P : Sector → Type 0 = λ b. IsRightAt img p b n in
      now.kept (subst P (sym same) (right n (omega arith))) ∙ same;
}
