-- A loss that is settled: relative files keep their records, and entries but for their block counts.
use Rattle.std.proofs.Common.{◌≡◌, ◌<◌, ◌≤◌, ◌+◌, ◌*◌, ◌/◌, ◌%◌, ◌∙◌, ℕ, List, [], ◌∷◌, ◌++◌, ap, ap₂, arith, drop, get_or-drop, get_or-take}
use Rattle.std.proofs.Common.{inl, inr, length, length-drop, length-take, map, refl, slice_index, subst, sym}
use Rattle.std.specs.Prelude.{Contains, IsTrue, codes, filter, max, replicate, slice_range}
use Rattle.std.specs.List.{AllByRecursion}
use Rattle.std.proofs.lemmas.Bool.{cases_lt}
use Rattle.std.proofs.lemmas.Grind.{same_number_lists}
use Rattle.std.proofs.lemmas.List.{map-append}
use Rattle.d64_image.proofs.Images.{length-put, sector-put_same}
use Rattle.d64_image.proofs.Places.{same_or_other}
use Rattle.d64_image.specs.Images.{Image, Sector, put, sector}
use Rattle.d64_image.specs.Memory.{sectors_in}
use Rattle.d64_image.specs.Offsets.{overwritten}
use Rattle.d64_image.specs.declared.place.Place.{Place}
use Rattle.damaged_files.specs.cut.Settled.{IsCountIn, IsLostEndIn, IsSettled, with_counts, with_ends}
use Rattle.disk_changes.specs.Sorts.{all_slots}
use Rattle.disk_layout.proofs.lemmas.chains.Chains.{SameLinks}
use Rattle.disk_layout.proofs.lemmas.counts.CountWrites.{slot-byte}
use Rattle.disk_layout.proofs.lemmas.counts.Counts.{range-piece}
use Rattle.disk_layout.proofs.lemmas.counts.Recount.{slot-there}
use Rattle.disk_layout.proofs.lemmas.counts.Recounts.{slot-of}
use Rattle.disk_layout.proofs.lemmas.layouts.Frames.{unless-same}
use Rattle.disk_layout.proofs.lemmas.layouts.Layouts.{get-contains}
use Rattle.disk_layout.proofs.lemmas.lists.Once.{Contains-here, Contains-there}
use Rattle.disk_layout.proofs.lemmas.records.Pieces.{length-piece}
use Rattle.disk_layout.specs.Directory.{slot_in, slots_in}
use Rattle.disk_layout.specs.Entries.{IsRecountedAll}
use Rattle.disk_layout.specs.Layout.{File, IsLayout, Layout, is_rel}
use Rattle.disk_layout.specs.declared.slot.Slot.{Slot}
use Rattle.file_changes.proofs.Overwritten.{over-long, over-other}
use Rattle.changed_life.proofs.Blocks.{AreSameBlocks, IsSameBlock, same-block}
use Rattle.changed_life.proofs.Entries.{keeps-entries, named_in, off-directory, slots-frame}
use Rattle.changed_life.proofs.Firsts.{entry_of, is_entry}
use Rattle.changed_life.proofs.OneByte.{sector-size, sectors-full}
use Rattle.changed_life.specs.Changes.{KeepsShops}

-- a block as it is in an image that has that sector
same-then : (a b c : Image) (q : Place) → IsSameBlock a b q → sector b q ≡ sector c q → IsSameBlock a c q
same-then a b c q s e = record {
  track = s.track ∙ ap (λ (x : Sector). slice_index x 0) e;
  link = elim s.link [
    | inl d ↦ inl (d ∙ ap (λ (x : Sector). slice_index x 1) e)
    | inr d ↦ inr (d.0, d.1 ∙ ap (λ (x : Sector). max (slice_index x 1) 1) e)
  ];
  rest = s.rest ∙ ap (drop 2) e;
}

-- an end of a chain over a sector of zeros
ended : (a b c : Image) (p : Place) → IsSameBlock a b p → sector a p ≡ replicate 256 0
    → sector c p ≡ overwritten (sector b p) 0 (0 ∷ 1 ∷ []) → IsSameBlock a c p
ended a b c p s zeros e =
    let none : (sector a p) ≡ replicate 256 0 = zeros in
    let zero-at : slice_index (sector a p) 0 ≡ 0 = ap (λ (x : Sector). slice_index x 0) zeros in
    let one-at : slice_index (sector a p) 1 ≡ 0 = ap (λ (x : Sector). slice_index x 1) zeros in
    record {
      track = zero-at ∙ sym (ap (λ (x : Sector). slice_index x 0) e);
      link = inr (zero-at, ap (λ (n : ℕ). max n 1) one-at ∙ sym (ap (λ (x : Sector). max (slice_index x 1) 1) e));
      rest = s.rest ∙ sym (ap (drop 2) e);
    }

module _ (a : Image) (l : Layout) (h : IsLayout a l) (full : length a ≡ 683)
    (sizes : (p : Place) → length (sector a p) ≡ 256) where
  -- with ends in last blocks of zeros
  record IsEnded (b : Image) : Type 0 where
    many : length b ≡ 683
    blocks : (q : Place) → IsSameBlock a b q
    directory : (q : Place) → Contains l.directory q → sector a q ≡ sector b q

  with-ends : (ps : List Place) → AllByRecursion (IsLostEndIn a l) ps → IsEnded (with_ends a ps)
  with-ends [] all = record { many = full; blocks = λ q. same-block a a q refl; directory = λ q on. refl }
  with-ends (p ∷ ps) all =
      let r = with-ends ps all.1 in
      let b = with_ends a ps in
      let w = overwritten (sector b p) 0 (0 ∷ 1 ∷ []) in
      let c = put b p w in
      let lost = all.0 in
      let own : Contains lost.0.blocks p = get-contains lost.0.blocks _ p lost.2.last in
      record {
        many = length-put b p w ∙ r.many;
        blocks = λ q. elim (same_or_other p q) [
          | inl e ↦ subst (IsSameBlock a c) e
              (ended a b c p (r.blocks p) lost.2.zeros (sector-put_same b p w r.many))
          | inr ne ↦ same-then a b c q (r.blocks q) (unless-same b p q w ne)
        ];
        directory = λ q on. r.directory q on
            ∙ unless-same b p q w (λ e. off-directory a l q lost.0 p h on lost.1 own (sym e));
      }

  -- with other block counts in entries of the directory
  record IsCounted (b c : Image) : Type 0 where
    many : length c ≡ 683
    inside : (q : Place) → Contains l.directory q → IsRecountedAll (sector b q) (sector c q)
    elsewhere : (q : Place) → ¬ (Contains l.directory q) → sector b q ≡ sector c q

  recount : (x y z : Sector) → IsRecountedAll x y → IsRecountedAll y z → IsRecountedAll x z
  recount x y z r s = record { old_long = r.old_long; long = s.long; same = λ n i low lt. s.same n i low lt ∙ r.same n i low lt }

  counted : (x : Sector) (k lo hi : ℕ) → length x ≡ 256 → k < 8
      → IsRecountedAll x (overwritten x (32 * k + 30) (lo ∷ hi ∷ []))
  counted x k lo hi size low =
      let room : 32 * k + 30 + 2 ≤ length x = omega (arith, size, low) in
      record {
        old_long = size;
        long = over-long x (lo ∷ hi ∷ []) (32 * k + 30) room ∙ size;
        same = λ n i few lt. over-other x (lo ∷ hi ∷ []) (32 * k + 30) room (32 * n + i) (elim (cases_lt k n) [
          | inl c ↦ inr (omega (arith, c))
          | inr c ↦ inl (omega (arith, c, lt))
        ]);
      }

  with-counts : (b : Image) (es : List (Slot × ℕ)) → length b ≡ 683
      → ((q : Place) → Contains l.directory q → length (sector b q) ≡ 256) → AllByRecursion (IsCountIn l) es
      → IsCounted b (with_counts b es)
  with-counts b [] many long all = record {
    many = many;
    inside = λ q on. record { old_long = long q on; long = long q on; same = λ n i low lt. refl };
    elsewhere = λ q not. refl;
  }
  with-counts b (e ∷ es) many long all =
      let r = with-counts b es many long all.1 in
      let c = with_counts b es in
      let it = all.0 in
      let there = slot-there a l.directory it.0.slot (slot-of a l it.0 h it.1) in
      let on : Contains l.directory e.0.sector = subst (λ (s : Slot). Contains l.directory s.sector) it.2 there.0 in
      let low : e.0.number < 8 = subst (λ (s : Slot). s.number < 8) it.2 there.1 in
      let p = e.0.sector in
      let w = overwritten (sector c p) (32 * e.0.number + 30) ((e.1 % 256) ∷ (e.1 / 256) ∷ []) in
      let d = put c p w in
      let first = r.inside p on in
      record {
        many = length-put c p w ∙ r.many;
        inside = λ q of. elim (same_or_other p q) [
          | inl s ↦ subst (λ (x : Place). IsRecountedAll (sector b x) (sector d x)) s
              (subst (IsRecountedAll (sector b p)) (sym (sector-put_same c p w r.many))
              (recount (sector b p) (sector c p) w first
              (counted (sector c p) e.0.number (e.1 % 256) (e.1 / 256) first.long low)))
          | inr ne ↦ subst (IsRecountedAll (sector b q)) (unless-same c p q w ne) (r.inside q of)
        ];
        elsewhere = λ q not. r.elsewhere q not
            ∙ unless-same c p q w (λ s. not (subst (Contains l.directory) s on));
      }

-- a slot whose block count alone may differ has its entry
recounted-entry : (p : Place) (x y : Sector) (n : ℕ) → IsRecountedAll x y → n < 8
    → entry_of (slot_in p y n) ≡ entry_of (slot_in p x n)
recounted-entry p x y n r low = same_number_lists _ _ (long y r.long ∙ sym (long x r.old_long)) (λ j d.
    let lt : j < 28 = omega (arith, d, long y r.long) in
    at y j lt ∙ r.same n (2 + j) low (omega (arith, lt)) ∙ sym (at x j lt))
  where
    long : (z : Sector) → length z ≡ 256 → length (slice_range (slice_range z (32 * n) (32 * n + 32)) 2 30) ≡ 28
    long z size = omega (
      arith,
      ap length (range-piece z n) ∙ length-piece 32 n z (omega (arith, size, low)),
      length-take 28 (drop 2 (slice_range z (32 * n) (32 * n + 32))),
      length-drop 2 (slice_range z (32 * n) (32 * n + 32)),
    )

    at : (z : Sector) (j : ℕ) → j < 28
        → slice_index (slice_range (slice_range z (32 * n) (32 * n + 32)) 2 30) j ≡ slice_index z (32 * n + (2 + j))
    at z j lt = get_or-take 28 (drop 2 (slice_range z (32 * n) (32 * n + 32))) j 0 lt
        ∙ get_or-drop 2 (slice_range z (32 * n) (32 * n + 32)) j 0 ∙ slot-byte z n (2 + j) (omega (arith, lt))

map-slots : (p : Place) (x y : Sector) (ns : List ℕ) → IsRecountedAll x y → AllByRecursion (λ n. n < 8) ns
    → map entry_of (map (slot_in p y) ns) ≡ map entry_of (map (slot_in p x) ns)
map-slots p x y [] r low = refl
map-slots p x y (n ∷ ns) r low = ap₂ (λ (e : List ℕ) (es : List (List ℕ)). e ∷ es) (recounted-entry p x y n r low.0)
    (map-slots p x y ns r low.1)

recounted-slots : (b c : Image) (ps : List Place)
    → ((q : Place) → Contains ps q → IsRecountedAll (sector b q) (sector c q))
    → map entry_of (all_slots c ps) ≡ map entry_of (all_slots b ps)
unfolding slots_in
recounted-slots b c [] r = refl
recounted-slots b c (p ∷ ps) r = map-append entry_of (slots_in p (sector c p)) (all_slots c ps)
    ∙ ap₂ (λ (xs ys : List (List ℕ)). xs ++ ys)
    (map-slots p (sector b p) (sector c p) (0 ∷ 1 ∷ 2 ∷ 3 ∷ 4 ∷ 5 ∷ 6 ∷ 7 ∷ []) (r p (Contains-here p ps)) (omega arith, (omega arith, (omega arith, (omega arith, (omega arith, (omega arith, (omega arith, (omega arith, tt)))))))))
    (recounted-slots b c ps (λ q on. r q (Contains-there q p ps on)))
    ∙ sym (map-append entry_of (slots_in p (sector b p)) (all_slots b ps))

module _ (image bytes : List ℕ) (m : Layout) (size : length image ≡ 174848) (x : IsSettled (sectors_in image) (sectors_in bytes))
    (is : IsLayout (sectors_in bytes) m) where
  abbrev a : Image
  a = sectors_in image

  abbrev c : Image
  c = sectors_in bytes

  abbrev l : Layout
  l = x.layout

  abbrev b : Image
  b = with_ends (sectors_in image) x.ends

  ends : IsEnded a l x.sound (sectors-full image) (λ p. sector-size image p size) b
  ends = with-ends a l x.sound (sectors-full image) (λ p. sector-size image p size) x.ends x.each_end

  counts : IsCounted a l x.sound (sectors-full image) (λ p. sector-size image p size) b c
  counts = subst (IsCounted a l x.sound (sectors-full image) (λ p. sector-size image p size) b) (sym x.after)
      (with-counts a l x.sound (sectors-full image) (λ p. sector-size image p size) b x.counts ends.many
      (λ q on. ap length (sym (ends.directory q on)) ∙ sector-size image q size) x.each_count)

  blocks-stay : (f : File) → Contains l.files f → IsTrue (is_rel f.slot) → AreSameBlocks a c f.blocks
  blocks-stay f own rel q there = same-then a b c q (ends.blocks q)
      (counts.elsewhere q (λ on. off-directory a l q f q x.sound on own there refl))

  links-stay : SameLinks a c l.directory
  links-stay q on =
      let r = counts.inside q on in
      let s = ends.directory q on in (
        ap (λ (y : Sector). slice_index y 0) s ∙ sym (r.same 0 0 (omega arith) (omega arith)),
        ap (λ (y : Sector). slice_index y 1) s ∙ sym (r.same 0 1 (omega arith) (omega arith)),
      )

  named-stays : (name : List ℕ) → named_in name (all_slots c l.directory) ≡ named_in name (all_slots a l.directory)
  named-stays name = ap (filter (is_entry name)) (recounted-slots b c l.directory counts.inside)
      ∙ ap (named_in name) (sym (slots-frame a b l.directory ends.directory))

  pub settled-keeps : KeepsShops a c
  settled-keeps = keeps-entries a c l m x.sound is blocks-stay links-stay
      (λ n f first long. named-stays (codes "STOCK")) (λ n f first long. named-stays (codes "REQUESTS"))
