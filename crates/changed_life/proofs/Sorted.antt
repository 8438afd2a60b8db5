-- A directory in another order: the first file of a name is the one that it was, because entries of one name keep their order.
use Rattle.std.proofs.Common.{◌≡◌, ◌<◌, ◌≤◌, ◌+◌, ◌-◌, ◌*◌, ◌∙◌, ◌++◌, ℕ, zero, suc, Bool, true, false, List, [], ◌∷◌, ap, ap₂, arith, drop, get_or, get_or-drop}
use Rattle.std.proofs.Common.{get_or-take, inl, inr, length, length-append, length-drop, length-take, map, refl, slice_index, subst, sym, take, take-append-drop}
use Rattle.std.specs.Prelude.{Contains, IsTrue, codes, filter, not, ◌&&◌, replicate, slice_range}
use Rattle.std.specs.Cmp.{nat_cmp_is}
use Rattle.std.specs.Cmp.Lexicographic.{slice_cmp}
use Rattle.std.specs.List.{AllByRecursion}
use Rattle.std.specs.List.Sorted.{ties}
use Rattle.std.specs.Ordering.{is_lt, nat_cmp}
use Rattle.std.specs.declared.cmp.Ordering.TheVariants.{Equal}
use Rattle.std.proofs.lemmas.Bool.{cases_Bool, false≢true}
use Rattle.std.proofs.lemmas.Grind.{same_number_lists}
use Rattle.std.proofs.lemmas.List.{map-append}
use Rattle.std.proofs.lemmas.List.Sorted.{Contains-permutation, IsPermutation-sym, length_permutation}
use Rattle.d64_image.proofs.Images.{length-put, put-put, put-sector, sector-put_same}
use Rattle.d64_image.specs.Images.{Image, Sector, put, sector}
use Rattle.d64_image.specs.Memory.{sectors_in}
use Rattle.d64_image.specs.Offsets.{overwritten}
use Rattle.d64_image.specs.declared.place.Place.{Place}
use Rattle.damaged_files.specs.reached.Names.{unpadded}
use Rattle.disk_changes.specs.Sorts.{IsReordered, all_slots, rank, rank_cmp, with_entries, with_entry}
use Rattle.disk_layout.proofs.lemmas.chains.Chains.{SameLink, SameLinks}
use Rattle.disk_layout.proofs.lemmas.counts.Counts.{range-piece}
use Rattle.disk_layout.proofs.lemmas.counts.Recount.{flat_map-out, slot-number}
use Rattle.disk_layout.proofs.lemmas.counts.Slots.{slots-eight}
use Rattle.disk_layout.proofs.lemmas.layouts.Frames.{unless-same}
use Rattle.disk_layout.proofs.lemmas.lists.Once.{Contains-cases, Contains-here, Contains-nil, Contains-there}
use Rattle.disk_layout.proofs.lemmas.records.Pieces.{length-piece}
use Rattle.disk_layout.specs.Chain.{EachOnce}
use Rattle.disk_layout.specs.Directory.{is_used, slot_in, slots_in}
use Rattle.disk_layout.specs.Layout.{File, IsLayout, Layout, is_rel}
use Rattle.disk_layout.specs.Rest.{IsFirst, slot_name}
use Rattle.disk_layout.specs.declared.slot.Slot.{Slot}
use Rattle.file_changes.proofs.Overwritten.{over-before, over-in, over-long, over-slot, over-slots}
use Rattle.changed_life.proofs.Blocks.{AreSameBlocks, same-block}
use Rattle.changed_life.proofs.Entries.{keeps-entries, named-filter, named_in, off-directory, slots-frame, unused-no-entry}
use Rattle.changed_life.proofs.Firsts.{entries-tell, entry_of, is_entry}
use Rattle.changed_life.proofs.OneByte.{sector-size, sectors-full}
use Rattle.changed_life.specs.Changes.{KeepsShops}

-- a byte of an entry
entry-at : (xs : List ℕ) (j : ℕ) → j < 28 → get_or (slice_range xs 2 30) j 0 ≡ get_or xs (2 + j) 0
entry-at xs j lt = get_or-take 28 (drop 2 xs) j 0 lt ∙ get_or-drop 2 xs j 0

entry-long : (xs : List ℕ) → length xs ≡ 32 → length (slice_range xs 2 30) ≡ 28
entry-long xs long = omega (arith, long, length-take 28 (drop 2 xs), length-drop 2 xs)

new-long : (xs : List ℕ) → length xs ≡ 32 → length (slice_range xs 2 32) ≡ 30
new-long xs long = omega (arith, long, length-take 30 (drop 2 xs), length-drop 2 xs)

-- a slot over which the bytes of another are written has its entry
entry-over : (z u : List ℕ) → length z ≡ 32 → length u ≡ 32
    → slice_range (overwritten z 2 (slice_range u 2 32)) 2 30 ≡ slice_range u 2 30
entry-over z u lz lu =
    let new = slice_range u 2 32 in
    let ln : length new ≡ 30 = new-long u lu in
    let room : 2 + length new ≤ length z = omega (arith, ln, lz) in
    let ly : length (overwritten z 2 new) ≡ 32 = over-long z new 2 room ∙ lz in
    same_number_lists _ _ (entry-long (overwritten z 2 new) ly ∙ sym (entry-long u lu)) (λ j d.
    let lt : j < 28 = omega (arith, d, entry-long (overwritten z 2 new) ly) in
    entry-at (overwritten z 2 new) j lt ∙ over-in z new 2 room (2 + j) (omega arith) (omega (arith, lt, ln))
    ∙ ap (slice_index new) (omega arith) ∙ get_or-take 30 (drop 2 u) j 0 (omega (arith, lt)) ∙ get_or-drop 2 u j 0
    ∙ sym (entry-at u j lt))

-- the entries of these slots are written over those of the slots of a sector with these numbers
abbrev writes : Sector → List ℕ → List Slot → Sector
writes b [] us = b
writes b (n ∷ ns) [] = b
writes b (n ∷ ns) (u ∷ us) = writes (overwritten b (32 * n + 2) (slice_range u.bytes 2 32)) ns us

abbrev AreLow : List ℕ → Type 0
AreLow ns = AllByRecursion (λ n. n < 8) ns

abbrev AreLong : List Slot → Type 0
AreLong us = AllByRecursion (λ u. length u.bytes ≡ 32) us

fits : (b u : List ℕ) (n : ℕ) → length b ≡ 256 → length u ≡ 32 → n < 8 → 32 * n + 2 + length (slice_range u 2 32) ≤ length b
fits b u n size long low = omega (arith, size, low, new-long u long)

writes-size : (b : Sector) (ns : List ℕ) (us : List Slot) → length b ≡ 256 → AreLow ns → AreLong us
    → length (writes b ns us) ≡ 256
writes-size b [] us size low long = size
writes-size b (n ∷ ns) [] size low long = size
writes-size b (n ∷ ns) (u ∷ us) size low long = writes-size (overwritten b (32 * n + 2) (slice_range u.bytes 2 32)) ns us
    (over-long b (slice_range u.bytes 2 32) (32 * n + 2) (fits b u.bytes n size long.0 low.0) ∙ size) low.1 long.1

writes-link : (b : Sector) (ns : List ℕ) (us : List Slot) (i : ℕ) → i < 2 → length b ≡ 256 → AreLow ns → AreLong us
    → slice_index (writes b ns us) i ≡ slice_index b i
writes-link b [] us i lt size low long = refl
writes-link b (n ∷ ns) [] i lt size low long = refl
writes-link b (n ∷ ns) (u ∷ us) i lt size low long =
    let room = fits b u.bytes n size long.0 low.0 in
    writes-link (overwritten b (32 * n + 2) (slice_range u.bytes 2 32)) ns us i lt
    (over-long b (slice_range u.bytes 2 32) (32 * n + 2) room ∙ size) low.1 long.1
    ∙ over-before b (slice_range u.bytes 2 32) (32 * n + 2) room i (omega (arith, lt))

-- the other slots stay
writes-other : (b : Sector) (ns : List ℕ) (us : List Slot) (j : ℕ) → j < 8 → ¬ (Contains ns j) → length b ≡ 256 → AreLow ns
    → AreLong us → slice_range (writes b ns us) (32 * j) (32 * j + 32) ≡ slice_range b (32 * j) (32 * j + 32)
writes-other b [] us j lt not size low long = refl
writes-other b (n ∷ ns) [] j lt not size low long = refl
writes-other b (n ∷ ns) (u ∷ us) j lt not size low long =
    let new = slice_range u.bytes 2 32 in
    let room = fits b u.bytes n size long.0 low.0 in
    writes-other (overwritten b (32 * n + 2) new) ns us j lt (λ there. not (Contains-there j n ns there))
    (over-long b new (32 * n + 2) room ∙ size) low.1 long.1
    ∙ sym (over-slots b new n 2 size low.0 (omega (arith, new-long u.bytes long.0)) j lt
    (λ e. not (subst (Contains (n ∷ ns)) (sym e) (Contains-here n ns))))

-- these have the entries
writes-here : (p : Place) (b : Sector) (ns : List ℕ) (us : List Slot) → length us ≡ length ns → EachOnce ns → length b ≡ 256
    → AreLow ns → AreLong us → map entry_of (map (slot_in p (writes b ns us)) ns) ≡ map entry_of us
writes-here p b [] [] many once size low long = refl
writes-here p b [] (u ∷ us) many once size low long = absurd (omega (arith, many))
writes-here p b (n ∷ ns) [] many once size low long = absurd (omega (arith, many))
writes-here p b (n ∷ ns) (u ∷ us) many once size low long =
    let new = slice_range u.bytes 2 32 in
    let b1 = overwritten b (32 * n + 2) new in
    let room = fits b u.bytes n size long.0 low.0 in
    let size1 : length b1 ≡ 256 = over-long b new (32 * n + 2) room ∙ size in
    let z = slice_range b (32 * n) (32 * n + 32) in
    let lz : length z ≡ 32 = ap length (range-piece b n) ∙ length-piece 32 n b (omega (arith, size, low.0)) in
    let first : entry_of (slot_in p (writes b1 ns us) n) ≡ entry_of u = ap (λ (xs : List ℕ). slice_range xs 2 30)
    (writes-other b1 ns us n low.0 once.0 size1 low.1 long.1
    ∙ over-slot b new n 2 size low.0 (omega (arith, new-long u.bytes long.0)))
    ∙ entry-over z u.bytes lz long.0 in
    ap₂ (λ (x : List ℕ) (xs : List (List ℕ)). x ∷ xs) first
    (writes-here p b1 ns us (omega (arith, many)) once.1 size1 low.1 long.1)

-- these writes to the slots of a sector are one of the sector
sector-writes : (img : Image) (p : Place) (was : Sector) (ns : List ℕ) (us : List Slot) → length img ≡ 683
    → length us ≡ length ns → with_entries img (map (slot_in p was) ns) us ≡ put img p (writes (sector img p) ns us)
sector-writes img p was [] [] full many = sym (put-sector img p)
sector-writes img p was [] (u ∷ us) full many = absurd (omega (arith, many))
sector-writes img p was (n ∷ ns) [] full many = absurd (omega (arith, many))
sector-writes img p was (n ∷ ns) (u ∷ us) full many =
    let b1 = overwritten (sector img p) (32 * n + 2) (slice_range u.bytes 2 32) in
    sector-writes (put img p b1) p was ns us (length-put img p b1 ∙ full) (omega (arith, many))
    ∙ ap (λ (b : Sector). put (put img p b1) p (writes b ns us)) (sector-put_same img p b1 full)
    ∙ put-put img p b1 (writes b1 ns us)

entries-append : (img : Image) (xs ys us vs : List Slot) → length us ≡ length xs
    → with_entries img (xs ++ ys) (us ++ vs) ≡ with_entries (with_entries img xs us) ys vs
entries-append img [] ys [] vs many = refl
entries-append img [] ys (u ∷ us) vs many = absurd (omega (arith, many))
entries-append img (x ∷ xs) ys [] vs many = absurd (omega (arith, many))
entries-append img (x ∷ xs) ys (u ∷ us) vs many = entries-append (with_entry img x u) xs ys us vs (omega (arith, many))

abbrev eight : List ℕ
eight = 0 ∷ 1 ∷ 2 ∷ 3 ∷ 4 ∷ 5 ∷ 6 ∷ 7 ∷ []

not-in : (n : ℕ) (ns : List ℕ) → AllByRecursion (λ m. n < m) ns → ¬ (Contains ns n)
not-in n [] all there = Contains-nil n there
not-in n (m ∷ ns) all there = elim (Contains-cases n m ns there) [
  | inl e ↦ omega (arith, e, all.0)
  | inr rest ↦ not-in n ns all.1 rest
]

eight-once : EachOnce eight
eight-once = (not-in 0 (1 ∷ 2 ∷ 3 ∷ 4 ∷ 5 ∷ 6 ∷ 7 ∷ []) (omega arith, (omega arith, (omega arith, (omega arith, (omega arith, (omega arith, (omega arith, tt))))))), (not-in 1 (2 ∷ 3 ∷ 4 ∷ 5 ∷ 6 ∷ 7 ∷ []) (omega arith, (omega arith, (omega arith, (omega arith, (omega arith, (omega arith, tt)))))), (not-in 2 (3 ∷ 4 ∷ 5 ∷ 6 ∷ 7 ∷ []) (omega arith, (omega arith, (omega arith, (omega arith, (omega arith, tt))))), (not-in 3 (4 ∷ 5 ∷ 6 ∷ 7 ∷ []) (omega arith, (omega arith, (omega arith, (omega arith, tt)))), (not-in 4 (5 ∷ 6 ∷ 7 ∷ []) (omega arith, (omega arith, (omega arith, tt))), (not-in 5 (6 ∷ 7 ∷ []) (omega arith, (omega arith, tt)), (not-in 6 (7 ∷ []) (omega arith, tt), (not-in 7 [] tt, tt))))))))

eight-low : AreLow eight
eight-low = (omega arith, (omega arith, (omega arith, (omega arith, (omega arith, (omega arith, (omega arith, (omega arith, tt))))))))

-- the image has these entries in the slots of the directory, in order, and is otherwise as it was
record IsWritten (img : Image) (ps : List Place) (es : List Slot) (now : Image) : Type 0 where
  entries : map entry_of (all_slots now ps) ≡ map entry_of es
  elsewhere : (q : Place) → ¬ (Contains ps q) → sector now q ≡ sector img q
  links : SameLinks img now ps

all-take : (n : ℕ) (us : List Slot) → AreLong us → AreLong (take n us) × AreLong (drop n us)
all-take zero us all = (tt, all)
all-take (suc n) [] all = (tt, tt)
all-take (suc n) (u ∷ us) all = let r = all-take n us all.1 in ((all.0, r.0), r.1)

written : (img now : Image) (ps : List Place) (es : List Slot) → length img ≡ 683
    → ((p : Place) → Contains ps p → length (sector img p) ≡ 256) → EachOnce ps → length es ≡ length (all_slots img ps)
    → AreLong es → now ≡ with_entries img (all_slots img ps) es → IsWritten img ps es now
unfolding slots_in
written img now [] [] full sizes once many long e = record {
  entries = refl;
  elsewhere = λ q not. ap (λ (i : Image). sector i q) e;
  links = λ q there. absurd (Contains-nil q there);
}
written img now [] (u ∷ es) full sizes once many long e = absurd (omega (arith, many))
written img now (p ∷ ps) es full sizes once many long e =
    let b = sector img p in
    let us = take 8 es in
    let vs = drop 8 es in
    let count : length (slots_in p b) ≡ 8 = slots-eight p b in
    let total : length (slots_in p b ++ all_slots img ps) ≡ length (slots_in p b) + length (all_slots img ps) =
    length-append (slots_in p b) (all_slots img ps) in
    let lu : length us ≡ 8 = omega (arith, many, total, count, length-take 8 es) in
    let lv : length vs ≡ length (all_slots img ps) = omega (arith, many, total, count, length-drop 8 es) in
    let parts = all-take 8 es long in
    let w = writes b eight us in
    let img1 = put img p w in
    let size = sizes p (Contains-here p ps) in
    let apart : (q : Place) → Contains ps q → sector img q ≡ sector img1 q =
    λ q on. unless-same img p q w (λ s. once.0 (subst (Contains ps) (sym s) on)) in
    let frame : all_slots img ps ≡ all_slots img1 ps = slots-frame img img1 ps apart in
    let whole : us ++ vs ≡ es = take-append-drop 8 es in
    let first : with_entries img (slots_in p b) us ≡ img1 = sector-writes img p b eight us full lu in
    let next : now ≡ with_entries img1 (all_slots img1 ps) vs = e
    ∙ ap (with_entries img (slots_in p b ++ all_slots img ps)) (sym whole)
    ∙ entries-append img (slots_in p b) (all_slots img ps) us vs (lu ∙ sym count)
    ∙ ap (λ (i : Image). with_entries i (all_slots img ps) vs) first
    ∙ ap (λ (ss : List Slot). with_entries img1 ss vs) frame in
    let r = written img1 now ps vs (length-put img p w ∙ full)
    (λ q on. ap length (sym (apart q on)) ∙ sizes q (Contains-there q p ps on)) once.1
    (lv ∙ ap length frame) parts.1 next in
    let here : sector now p ≡ w = r.elsewhere p once.0 ∙ sector-put_same img p w full in
    record {
      entries = map-append entry_of (slots_in p (sector now p)) (all_slots now ps)
          ∙ ap (λ (x : Sector). map entry_of (slots_in p x) ++ map entry_of (all_slots now ps)) here
          ∙ ap₂ (λ (xs ys : List (List ℕ)). xs ++ ys)
          (writes-here p b eight us lu eight-once size eight-low parts.0) r.entries
          ∙ sym (map-append entry_of us vs) ∙ ap (map entry_of) whole;
      elsewhere = λ q not. r.elsewhere q (λ on. not (Contains-there q p ps on))
          ∙ sym (unless-same img p q w (λ s. not (subst (Contains (p ∷ ps)) s (Contains-here p ps))));
      links = λ q on. elim (Contains-cases q p ps on) [
        | inl s ↦ subst (SameLink img now) s (
          sym (ap (λ (x : Sector). slice_index x 0) here ∙ writes-link b eight us 0 (omega arith) size eight-low parts.0),
          sym (ap (λ (x : Sector). slice_index x 1) here ∙ writes-link b eight us 1 (omega arith) size eight-low parts.0),
        )
        | inr rest ↦
            let l = r.links q rest in
            let s = apart q rest in
            (ap (λ (x : Sector). slice_index x 0) s ∙ l.0, ap (λ (x : Sector). slice_index x 1) s ∙ l.1)
      ];
    }

-- a list is no other than itself
same-cmp : (xs : List ℕ) → slice_cmp nat_cmp xs xs ≡ Equal
same-cmp [] = refl
same-cmp (x ∷ xs) = rw (sym (nat_cmp_is x x Equal refl)) (same-cmp xs)

rank-same : (r : ℕ × List ℕ) → rank_cmp r r ≡ Equal
rank-same r = rw (sym (nat_cmp_is r.0 r.0 Equal refl)) (same-cmp r.1)

-- entries of one name have one rank
abbrev filled : List ℕ → List ℕ
filled name = unpadded name ++ replicate (16 - length (unpadded name)) 0

used-entry : (name : List ℕ) (s : Slot) → is_entry name (entry_of s) ≡ true → is_used s ≡ true
used-entry name s is = elim (cases_Bool (is_used s)) [
  | inl e ↦ e
  | inr e ↦ absurd (false≢true (sym (unused-no-entry name s e) ∙ is))
]

rank-of : (name : List ℕ) (s : Slot) → is_entry name (entry_of s) ≡ true → rank s ≡ (0, filled (slot_name name))
rank-of name s is =
    let f : File = record { slot = s; blocks = []; last = 0; sides = [] } in
    let named = (entries-tell name f).1 is in
    rw (used-entry name s is) (ap (λ (xs : List ℕ). (0, filled xs)) named.1)

abbrev below : Slot → Slot → Bool
below x y = is_lt (rank_cmp (rank x) (rank y))

tied : (name : List ℕ) (s t : Slot) → is_entry name (entry_of s) ≡ true → is_entry name (entry_of t) ≡ true
    → ties below s t ≡ true
tied name s t is it =
    let r : ℕ × List ℕ = (0, filled (slot_name name)) in
    ap₂ (λ (x y : ℕ × List ℕ). not (is_lt (rank_cmp x y)) && not (is_lt (rank_cmp y x))) (rank-of name s is) (rank-of name t it)
    ∙ rw (rank-same r) refl

untied-out : (name : List ℕ) (s t : Slot) → is_entry name (entry_of s) ≡ true → ties below s t ≡ false
    → is_entry name (entry_of t) ≡ false
untied-out name s t is apart = elim (cases_Bool (is_entry name (entry_of t))) [
  | inl it ↦ absurd (false≢true (sym apart ∙ tied name s t is it))
  | inr e ↦ e
]

module _ (image bytes : List ℕ) (l m : Layout) (size : length image ≡ 174848) (was : IsLayout (sectors_in image) l)
    (is : IsLayout (sectors_in bytes) m) (x : IsReordered (sectors_in image) l.directory (sectors_in bytes)) where
  abbrev a : Image
  a = sectors_in image

  abbrev c : Image
  c = sectors_in bytes

  abbrev slots : List Slot
  slots = all_slots a l.directory

  slot-long : (u : Slot) → Contains slots u → length u.bytes ≡ 32
  slot-long u there =
      let (p, on, e) = flat_map-out (λ q. slots_in q (sector a q)) l.directory u there in
      let (low, same) = slot-number p (sector a p) u e in
      ap (λ (s : Slot). length s.bytes) same ∙ ap length (range-piece (sector a p) u.number)
      ∙ length-piece 32 u.number (sector a p) (omega (arith, sector-size image p size, low))

  all-long : (us : List Slot) → ((u : Slot) → Contains us u → Contains slots u) → AreLong us
  all-long [] sub = tt
  all-long (u ∷ us) sub = (
    slot-long u (sub u (Contains-here u us)),
    all-long us (λ v on. sub v (Contains-there v u us on)),
  )

  sub : (u : Slot) → Contains x.entries u → Contains slots u
  sub u = Contains-permutation x.entries slots u (IsPermutation-sym slots x.entries x.order.moved)

  done : IsWritten a l.directory x.entries c
  done = written a c l.directory x.entries (sectors-full image) (λ p on. sector-size image p size)
      was.directory.chain.once (length_permutation slots x.entries x.order.moved) (all-long x.entries sub) x.is

  named-stays : (name : List ℕ) (n : ℕ) (f : File) → IsFirst l name n f
      → named_in name (all_slots c l.directory) ≡ named_in name slots
  named-stays name n f first =
      let it : is_entry name (entry_of f.slot) ≡ true = (entries-tell name f).0 first.named in
      let out : (t : Slot) → ties below f.slot t ≡ false → is_entry name (entry_of t) ≡ false =
      λ t. untied-out name f.slot t it in
      ap (filter (is_entry name)) done.entries ∙ sym (named-filter name (ties below f.slot) out x.entries)
      ∙ ap (named_in name) (x.order.stable f.slot) ∙ named-filter name (ties below f.slot) out slots

  blocks-stay : (f : File) → Contains l.files f → IsTrue (is_rel f.slot) → AreSameBlocks a c f.blocks
  blocks-stay f own rel q there = same-block a c q
      (sym (done.elsewhere q (λ on. off-directory a l q f q was on own there refl)))

  pub sorted-keeps : KeepsShops a c
  sorted-keeps = keeps-entries a c l m was is blocks-stay done.links
      (λ n f first long. named-stays (codes "STOCK") n f first)
      (λ n f first long. named-stays (codes "REQUESTS") n f first)
