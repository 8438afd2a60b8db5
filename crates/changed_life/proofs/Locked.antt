-- A file locked or unlocked: the layout that the disk has then, and the shop's files.
use Rattle.std.proofs.Common.{◌≡◌, ◌≢◌, ◌<◌, ◌≤◌, ◌+◌, ◌-◌, ◌∙◌, ◌⊎◌, ℕ, zero, suc, true, List, ◌∷◌, ◌++◌, Some, ap, arith, drop, inl, inr, length, lit≤, refl, slice_index, subst, sym, take}
use Rattle.std.specs.Prelude.{Contains, IsTrue, codes, flat_map, nat_eq, not, slice_get, slice_range}
use Rattle.std.specs.List.{AllByRecursion}
use Rattle.std.proofs.lemmas.Bool.Decides.{nat_tests}
use Rattle.std.proofs.lemmas.Grind.{flat_map-append}
use Rattle.std.proofs.lemmas.List.{map-append}
use Rattle.std.proofs.lemmas.List.Elements.{Contains-append_left}
use Rattle.d64_image.specs.Images.{Image, Sector, sector}
use Rattle.d64_image.specs.Memory.{sectors_in}
use Rattle.d64_image.specs.declared.place.Place.{Place}
use Rattle.disk_changes.specs.Locks.{locked_type, with_lock}
use Rattle.disk_changes.specs.ShopFiles.{IsRelativeOf, IsShopSlot}
use Rattle.disk_changes.specs.Sorts.{all_slots}
use Rattle.disk_changes.specs.declared.changes.Lock.{Lock}
use Rattle.disk_changes.specs.declared.changes.Lock.TheVariants.{Cleared, Set}
use Rattle.disk_layout.proofs.lemmas.counts.Faces.{IsLayout-directory, with_slot}
use Rattle.disk_layout.proofs.lemmas.counts.Recount.{split-one, used_slots-one}
use Rattle.disk_layout.proofs.lemmas.growth.Commit.{all-join, all-left, all-right, keeps-other}
use Rattle.disk_layout.proofs.lemmas.layouts.Frames.{files-frame}
use Rattle.disk_layout.proofs.lemmas.lists.Once.{all-in}
use Rattle.disk_layout.specs.Directory.{is_used, slot_in, type_byte, used_slots}
use Rattle.disk_layout.specs.Layout.{File, HasChain, IsClosedType, IsFile, IsLayout, IsRelFile, Layout, file_owns, is_rel, is_rel_type, record_length}
use Rattle.disk_layout.specs.Rest.{IsFirst, IsNamed}
use Rattle.disk_layout.specs.declared.slot.Slot.{Slot}
use Rattle.file_changes.proofs.Reslotted.{not-before, not-behind, own, owned-stays, place, slots-split, slots_of, split, unowned}
use Rattle.rel_records.proofs.lemmas.creation.InSlot.{put-links}
use Rattle.changed_life.proofs.Blocks.{AreSameBlocks, same-block}
use Rattle.changed_life.proofs.Entries.{keeps-entries, named-one, named_in, slots-one}
use Rattle.changed_life.proofs.Firsts.{entry_of, is_entry, not-entry}
use Rattle.changed_life.proofs.OneByte.{byte-stays, links-stay, name-stays, others-stay, retyped, sector-size, sectors-full, type-now}
use Rattle.changed_life.specs.Changes.{KeepsShops}

-- a closed type stays one, and is relative if it was
abbrev Stays : Lock → ℕ → Type 0
Stays lock t = IsClosedType (locked_type lock t) × (is_rel_type t ≡ is_rel_type (locked_type lock t))

each : (lock : Lock) (base : ℕ) → Stays lock (base + 0) → Stays lock (base + 1) → Stays lock (base + 2)
    → Stays lock (base + 3) → Stays lock (base + 4) → (k : ℕ) → k < 5 → Stays lock (base + k)
each lock base a b c d e zero lt = a
each lock base a b c d e (suc zero) lt = b
each lock base a b c d e (suc (suc zero)) lt = c
each lock base a b c d e (suc (suc (suc zero))) lt = d
each lock base a b c d e (suc (suc (suc (suc zero)))) lt = e
each lock base a b c d e (suc (suc (suc (suc (suc k))))) lt = absurd (omega (arith, lt))

from : (lock : Lock) (base k : ℕ) → k < 5 → (base ≡ 128) ⊎ (base ≡ 192) → Stays lock (base + k)
from Set base k lt (inl e) = subst (λ (n : ℕ). Stays Set (n + k)) (sym e)
    (each Set 128 (inr (lit≤ tt, lit≤ tt), refl) (inr (lit≤ tt, lit≤ tt), refl) (inr (lit≤ tt, lit≤ tt), refl)
    (inr (lit≤ tt, lit≤ tt), refl) (inr (lit≤ tt, lit≤ tt), refl) k lt)
from Set base k lt (inr e) = subst (λ (n : ℕ). Stays Set (n + k)) (sym e)
    (each Set 192 (inr (lit≤ tt, lit≤ tt), refl) (inr (lit≤ tt, lit≤ tt), refl) (inr (lit≤ tt, lit≤ tt), refl)
    (inr (lit≤ tt, lit≤ tt), refl) (inr (lit≤ tt, lit≤ tt), refl) k lt)
from Cleared base k lt (inl e) = subst (λ (n : ℕ). Stays Cleared (n + k)) (sym e)
    (each Cleared 128 (inl (lit≤ tt, lit≤ tt), refl) (inl (lit≤ tt, lit≤ tt), refl) (inl (lit≤ tt, lit≤ tt), refl)
    (inl (lit≤ tt, lit≤ tt), refl) (inl (lit≤ tt, lit≤ tt), refl) k lt)
from Cleared base k lt (inr e) = subst (λ (n : ℕ). Stays Cleared (n + k)) (sym e)
    (each Cleared 192 (inl (lit≤ tt, lit≤ tt), refl) (inl (lit≤ tt, lit≤ tt), refl) (inl (lit≤ tt, lit≤ tt), refl)
    (inl (lit≤ tt, lit≤ tt), refl) (inl (lit≤ tt, lit≤ tt), refl) k lt)

-- and the slot is in use
used-now : (u : ℕ) → u ≢ 0 → not (nat_eq u 0) ≡ true
used-now u ne = grind (arith, nat_tests)

closed-used : (u : ℕ) → IsClosedType u → not (nat_eq u 0) ≡ true
closed-used u (inl c) = used-now u (λ e. omega (arith, e, c.0))
closed-used u (inr c) = used-now u (λ e. omega (arith, e, c.0))

type-stays : (lock : Lock) (t : ℕ) → IsClosedType t → Stays lock t
type-stays lock t (inl h) = subst (Stays lock) (omega (arith, h.0, h.1))
    (from lock 128 (t - 128) (omega (arith, h.0, h.1)) (inl refl))
type-stays lock t (inr h) = subst (Stays lock) (omega (arith, h.0, h.1))
    (from lock 192 (t - 192) (omega (arith, h.0, h.1)) (inr refl))

-- a file whose entry has another type of that kind
module _ (img : Image) (f : File) (s : Slot) (closed : IsClosedType (type_byte s)) (rel : is_rel f.slot ≡ is_rel s)
    (same : (i : ℕ) → 3 ≤ i → slice_index f.slot.bytes i ≡ slice_index s.bytes i) where
  at : (i : ℕ) → slice_index f.slot.bytes (3 + i) ≡ slice_index s.bytes (3 + i)
  at i = same (3 + i) (omega arith)

  chain-now : HasChain img f → HasChain img (with_slot f s)
  chain-now (p, named, chain) = (p, (sym (at 0) ∙ named.0, sym (at 1) ∙ named.1), chain)

  rel-now : IsRelFile img f → IsRelFile img (with_slot f s)
  rel-now r = record {
    chain = chain-now r.chain;
    length_low = subst (λ (n : ℕ). 1 ≤ n) (at 20) r.length_low;
    length_high = subst (λ (n : ℕ). n ≤ 254) (at 20) r.length_high;
    count = r.count;
    first_side = λ q e. (sym (at 18) ∙ (r.first_side q e).0, sym (at 19) ∙ (r.first_side q e).1);
    sides = λ j q e.
        let h = r.sides j q e in
        record { number = h.number; length_byte = h.length_byte ∙ at 20; sides = h.sides; link = h.link; pointers = h.pointers };
  }

  file-now : IsFile img f → IsFile img (with_slot f s)
  file-now h = record {
    closed = closed;
    rel = λ t. rel-now (h.rel (rel ∙ t));
    empty = λ t z. h.empty (rel ∙ t) (at 0 ∙ z);
    plain = λ t n.
        let p = h.plain (rel ∙ t) (λ z. n (sym (at 0) ∙ z)) in
        (chain-now p.0, p.1);
  }

module _ (image : List ℕ) (l : Layout) (n : ℕ) (f : File) (lock : Lock) (size : length image ≡ 174848)
    (h : IsLayout (sectors_in image) l) (there : slice_get l.files n ≡ Some f) where
  abbrev a : Image
  a = sectors_in image

  abbrev p : Place
  p = f.slot.sector

  abbrev k : ℕ
  k = f.slot.number

  abbrev t : ℕ
  t = locked_type lock (type_byte f.slot)

  pub bytes : length (sector (sectors_in image) f.slot.sector) ≡ 256
  bytes = sector-size image f.slot.sector size

  pub low : f.slot.number < 8
  low = (place (sectors_in image) l n f h there).1

  abbrev b : Sector
  b = retyped a p k t bytes low

  abbrev pub now : Image
  now = with_lock (sectors_in image) f.slot lock

  abbrev old : Slot
  old = slot_in p (sector a p) k

  abbrev new : Slot
  new = slot_in p b k

  abbrev g : File
  g = with_slot f new

  is-old : f.slot ≡ old
  is-old = (place a l n f h there).2

  type-of : Stays lock (type_byte f.slot)
  type-of = type-stays lock (type_byte f.slot) (all-in (IsFile a) l.files f h.files (own a l n f h there)).closed

  rel-same : is_rel f.slot ≡ is_rel new
  rel-same = type-of.1 ∙ ap is_rel_type (sym (type-now a p k t bytes low))

  closed-now : IsClosedType (type_byte new)
  closed-now = subst IsClosedType (sym (type-now a p k t bytes low)) type-of.0

  same-bytes : (i : ℕ) → 3 ≤ i → slice_index f.slot.bytes i ≡ slice_index new.bytes i
  same-bytes i le = ap (λ (s : Slot). slice_index s.bytes i) is-old ∙ byte-stays a p k t bytes low i le

  used-was : is_used old ≡ true
  used-was = ap is_used (sym is-old) ∙ (place a l n f h there).3

  abbrev before : List File
  before = take n l.files

  abbrev behind : List File
  behind = drop (suc n) l.files

  abbrev m : Layout
  m = record { directory = l.directory; files = take n l.files ++ g ∷ drop (suc n) l.files }

  slots-now : used_slots now l.directory ≡ slots_of before ++ new ∷ slots_of behind
  slots-now =
      let (xs, ys, e, d) = used_slots-one a l.directory p k b (sectors-full image) h.directory.chain.once
      (place a l n f h there).0 low (others-stay a p k t bytes low) used-was (closed-used (type_byte new) closed-now) in
      let both = split-one xs ys (slots_of before) (slots_of behind) f.slot
      (ap (λ (s : Slot). xs ++ s ∷ ys) is-old ∙ sym e ∙ sym h.directory.slots ∙ slots-split a l n f h there)
      (not-before a l n f h there) (not-behind a l n f h there) in
      d ∙ ap (λ (zs : List Slot). zs ++ new ∷ ys) both.0 ∙ ap (λ (zs : List Slot). slots_of before ++ new ∷ zs) both.1

  pub relocked : IsLayout now m
  relocked =
      let was : AllByRecursion (IsFile now) (before ++ f ∷ behind) =
      subst (AllByRecursion (IsFile now)) (split a l n f h there)
      (files-frame a now l.files (keeps-other a p b l.files (unowned a l n f h there)) h.files) in
      let right = all-right (IsFile now) before (f ∷ behind) was in
      IsLayout-directory a now l (before ++ g ∷ behind) h (put-links a p b (sectors-full image) (links-stay a p k t bytes low) l.directory)
      (map-append (λ (x : File). x.slot) before (g ∷ behind) ∙ sym slots-now)
      (all-join (IsFile now) before (g ∷ behind) (all-left (IsFile now) before (f ∷ behind) was)
      (file-now now f new closed-now rel-same same-bytes right.0, right.1))
      (flat_map-append file_owns before (g ∷ behind)
      ∙ sym (ap (flat_map file_owns) (split a l n f h there) ∙ flat_map-append file_owns before (f ∷ behind)))

  -- what files own stays
  blocks-stay : (y : File) → Contains l.files y → IsTrue (is_rel y.slot) → AreSameBlocks a now y.blocks
  blocks-stay y on rel q there' = same-block a now q
      (sym (owned-stays a l n f h there b y q on (Contains-append_left y.blocks y.sides q there')))

  -- a name that the file hasn't
  named-stays : (of : List ℕ) → ¬ (IsNamed of f) → named_in of (all_slots now l.directory) ≡ named_in of (all_slots a l.directory)
  named-stays of not =
      let (xs, ys, e, d) = slots-one a l.directory p k b (sectors-full image) h.directory.chain.once
      (place a l n f h there).0 low (others-stay a p k t bytes low) in
      ap (named_in of) d
      ∙ named-one of xs ys old new (ap (λ (s : Slot). is_entry of (entry_of s)) (sym is-old) ∙ not-entry of f not)
      (not-entry of g (λ named. not (
        rel-same ∙ named.0,
        ap (λ (s : Slot). slice_range s.bytes 5 21) is-old
            ∙ sym (name-stays a p k t bytes low) ∙ named.1,
      )))
      ∙ ap (named_in of) (sym e)

  pub locked-keeps : ((of : List ℕ) (L i : ℕ) (y : File) → ((s : Slot) → IsRelativeOf of L s → IsShopSlot s)
      → IsFirst l of i y → record_length y.slot ≡ L → ¬ (IsNamed of f)) → KeepsShops a now
  locked-keeps other = keeps-entries a now l m h relocked blocks-stay
      (put-links a p b (sectors-full image) (links-stay a p k t bytes low) l.directory)
      (λ i y first long. named-stays (codes "STOCK") (other (codes "STOCK") 18 i y (λ s is. inl is) first long))
      (λ i y first long. named-stays (codes "REQUESTS") (other (codes "REQUESTS") 127 i y (λ s is. inr is) first long))
