-- A repair keeps files whole at each moment: what its side sectors list is as it was, or exact.
use Rattle.std.proofs.Common.{◌≡◌, ℕ, ◌+◌, ◌-◌, ◌*◌, ◌/◌, ◌<◌, ◌≤◌, inl, inr, List, ◌∷◌, ◌++◌, map, length, sym, ◌∙◌, ap, ap₂}
use Rattle.std.proofs.Common.{arith, subst, IsTrue, slice_index}
use Rattle.std.proofs.lemmas.List.Elements.{Contains-append_cases, Contains-append_left}
use Rattle.std.specs.Prelude.{Contains, Some, flat_map, nat_eq, nat_le, slice_get, slice_range, ◌&&◌, ◌||◌}
use Rattle.d64_image.proofs.Moments.{reads_change}
use Rattle.d64_image.specs.History.{HeldOnly, History, OnlyReads}
use Rattle.d64_image.specs.Images.{Image, Sector, sector}
use Rattle.d64_image.specs.declared.place.Place.{Place}
use Rattle.disk_layout.proofs.lemmas.counts.Recount.{slot-there}
use Rattle.disk_layout.proofs.lemmas.counts.Recounts.{slot-of}
use Rattle.disk_layout.proofs.lemmas.layouts.Agree.{owned-by_files}
use Rattle.disk_layout.proofs.lemmas.layouts.Frames.{side-owned}
use Rattle.disk_layout.proofs.lemmas.layouts.Layouts.{IsLayout-one, get-contains}
use Rattle.disk_layout.proofs.lemmas.lists.Lists.{alike}
use Rattle.disk_layout.proofs.lemmas.lists.Once.{Contains-cases, Contains-here, Contains-there, all-in}
use Rattle.disk_layout.proofs.lemmas.whole.Ends.{ends-exact}
use Rattle.disk_layout.proofs.lemmas.whole.Files.{chain-some, map-at, none-behind, rel-not-plain}
use Rattle.disk_layout.specs.Chain.{named_at}
use Rattle.disk_layout.specs.Directory.{map_place, slot_in, type_byte}
use Rattle.disk_layout.specs.InOrder.{IsUnderWay}
use Rattle.disk_layout.specs.Layout.{File, IsFile, IsLayout, IsRelFile, Layout, count_field, file_owns, is_rel, owners}
use Rattle.disk_layout.specs.Layout.{record_length}
use Rattle.disk_layout.specs.Listed.{EndsBy, HasStock, ListsOne, ListsOneMore, ListsWell, NeverGrows, is_plain, used_of}
use Rattle.disk_layout.specs.Same.{IsCountByte, Stays, stays_of}
use Rattle.disk_layout.specs.Whole.{IsWhole, IsWholeFile}
use Rattle.layout_check.proofs.lemmas.repairing.Repairs.{owners-same}
use Rattle.layout_check.proofs.lemmas.repairing.StaysSame.{count-byte, in-or-out, range-byte, same-byte, same-length}
use Rattle.layout_check.proofs.lemmas.repairing.StaysSame.{same-name, same-rel, stock-stays}
use Rattle.layout_check.specs.Mended.{IsMended}
use Rattle.layout_check.specs.RepairOrder.{IsRightBut, repair_order, sides_of}

module _ (a c : Image) (l : Layout) (strays : List Place) (is : IsLayout a l) (mended : IsMended a l c)
    (way : IsUnderWay (IsRightBut strays l) (repair_order l) a c) (w : IsWhole a) where
  abbrev m : Layout
  m = mended.layout

  -- what was gone over is owned, or the map's
  done-owned : (q : Place) → Contains way.done q → Contains (map_place ∷ owners l) q
  unfolding owners
  done-owned q on =
      let P : List Place → Type 0 = λ ps. Contains ps q in
      let there : Contains (repair_order l) q = subst P (sym way.split) (Contains-append_left way.done way.left q on) in
      elim (Contains-cases q map_place (sides_of l.files ++ l.directory) there) [
        | inl e ↦ (let Q : Place → Type 0 = Contains (map_place ∷ owners l) in
            subst Q e (Contains-here map_place (owners l)))
        | inr rest ↦ Contains-there q map_place (owners l) (elim (Contains-append_cases (sides_of l.files) l.directory q rest) [
          | inl side ↦ owned-by_files l q (side-owned l.files q side)
          | inr entry ↦ Contains-append_left l.directory (flat_map file_owns l.files) q entry
        ])
      ]

  -- a file of the new image is one of the old
  module _ (k : ℕ) (x y : File) (there : slice_get l.files k ≡ Some x) (now : slice_get m.files k ≡ Some y)
      (e : stays_of a x ≡ stays_of c y) where
    old : IsWholeFile a l x
    old = w l is k x there

    blocks : x.blocks ≡ y.blocks
    blocks = ap (λ (s : Stays). s.blocks) e

    sides : x.sides ≡ y.sides
    sides = ap (λ (s : Stays). s.sides) e

    plain : is_plain x.slot ≡ is_plain y.slot
    plain = ap (λ t. (nat_le 129 t && nat_le t 131) || (nat_le 193 t && nat_le t 195))
        (same-byte a c x y e 0 (omega arith))

    own : Contains l.files x
    own = get-contains l.files k x there

    rel-file : IsTrue (is_rel x.slot) → IsRelFile a x
    rel-file rel = (all-in (IsFile a) l.files x is.files own).rel rel

    -- the side sector of its last block lists well
    lists : (never : Type 0) → (NeverGrows (HasStock l) x.slot → never) → (never → NeverGrows (HasStock l) x.slot)
        → IsTrue (is_rel x.slot) → (q : Place) → slice_get x.sides ((length x.blocks - 1) / 120) ≡ Some q
        → ListsWell c never (sector c q) (used_of (length x.blocks))
        × ((s : Place) → named_at (sector c q) 0 ≡ Some s → ¬ (Contains (map_place ∷ owners l) s))
    lists never to from rel q at = elim (in-or-out way.done q) [
      | inl on ↦
          let exact = (way.made.right q on).side x ((length x.blocks - 1) / 120) own rel at in
          let P : Sector → Type 0 = λ b. EndsBy b (used_of (length x.blocks)) in
          let ends = subst P (sym exact) (ends-exact x.blocks x.sides (record_length x.slot)
          (chain-some a x (rel-file rel)) (rel-file rel).count) in
          (inl ends, none-behind c l q _ ends)
      | inr out ↦
          let same : sector c q ≡ sector a q = way.made.rest q out in
          let behind : (s : Place) → named_at (sector c q) 0 ≡ Some s → ¬ (Contains (map_place ∷ owners l) s) =
          λ s named. old.behind rel q s at (ap (λ b. named_at b 0) (sym same) ∙ named) in
          (as-before q same behind (old.listed rel q at), behind)
    ]
      where
        one-more : (q : Place) → ((s : Place) → named_at (sector a q) 0 ≡ Some s → ¬ (Contains (map_place ∷ owners l) s))
            → ListsOneMore a (sector a q) (used_of (length x.blocks))
            → ListsOneMore c (sector a q) (used_of (length x.blocks))
        one-more q behind (inl here) = inl here
        one-more q behind (inr (full, (s, named, one))) =
            let P : Sector → Type 0 = ListsOne in
            inr (full, (s, named, subst P (sym (way.made.rest s (λ on. behind s named (done-owned s on)))) one))

        as-before : (q : Place) → sector c q ≡ sector a q
            → ((s : Place) → named_at (sector c q) 0 ≡ Some s → ¬ (Contains (map_place ∷ owners l) s))
            → ListsWell a (NeverGrows (HasStock l) x.slot) (sector a q) (used_of (length x.blocks))
            → ListsWell c never (sector c q) (used_of (length x.blocks))
        as-before q same behind well =
            let P : Sector → Type 0 = λ b. ListsWell c never b (used_of (length x.blocks)) in
            let near : (s : Place) → named_at (sector a q) 0 ≡ Some s → ¬ (Contains (map_place ∷ owners l) s) =
            λ s named. behind s (ap (λ b. named_at b 0) same ∙ named) in
            subst P (sym same) (elim well [
              | inl ends ↦ inl ends
              | inr more ↦ inr (λ n. more.0 (from n), one-more q near more.1)
            ])

    -- the count of a file that isn't relative stays
    count-same : IsTrue (is_plain x.slot) → count_field y.slot ≡ count_field x.slot
    count-same t =
        ap count_field new-slot ∙ ap₂ (λ i j. i + 256 * (j + 256 * 0)) (byte-same 0 (omega arith)) (byte-same 1 (omega arith))
        ∙ sym (ap count_field old-slot)
      where
        p : Place
        p = x.slot.sector

        n : ℕ
        n = x.slot.number

        on : Contains l.directory p
        on = (slot-there a l.directory x.slot (slot-of a l x is own)).0

        low : n < 8
        low = (slot-there a l.directory x.slot (slot-of a l x is own)).1

        old-slot : x.slot ≡ slot_in p (sector a p) n
        old-slot = (slot-there a l.directory x.slot (slot-of a l x is own)).2

        new-slot : y.slot ≡ slot_in p (sector c p) n
        new-slot = (slot-there c m.directory y.slot (slot-of c m y mended.sound (get-contains m.files k y now))).2
            ∙ sym (ap₂ (λ (q : Place) (j : ℕ). slot_in q (sector c q) j) (ap (λ (s : Stays). s.sector) e)
            (ap (λ (s : Stays). s.number) e))

        kind : slice_index (sector a p) (32 * n + 2) ≡ type_byte x.slot
        kind = sym (ap type_byte old-slot ∙ range-byte (sector a p) (32 * n) 32 2 (omega arith))

        off : (i : ℕ) → i < 2 → ¬ (IsCountByte (sector a p) (32 * n + 30 + i))
        off i lt (high, rel) =
            let d : (32 * n + 30 + i) / 32 ≡ n = omega (arith, lt) in
            let there : slice_index (sector a p) (32 * ((32 * n + 30 + i) / 32) + 2) ≡ type_byte x.slot =
            ap (λ j. slice_index (sector a p) (32 * j + 2)) d ∙ kind in
            rel-not-plain x.slot (elim rel [
              | inl t4 ↦ ap (λ t. nat_eq t 132 || nat_eq t 196) (sym there ∙ t4)
              | inr t6 ↦ ap (λ t. nat_eq t 132 || nat_eq t 196) (sym there ∙ t6)
            ]) t

        byte-same : (i : ℕ) → i < 2 → slice_index (slice_range (slot_in p (sector c p) n).bytes 30 32) i
            ≡ slice_index (slice_range (slot_in p (sector a p) n).bytes 30 32) i
        byte-same i lt =
            count-byte p (sector c p) n i lt
            ∙ elim (mended.same.entries p on (32 * n + 30 + i) (omega (arith, lt, low))) [
              | inl bad ↦ absurd (off i lt bad)
              | inr same ↦ same
            ]
            ∙ sym (count-byte p (sector a p) n i lt)

    never-back : NeverGrows (HasStock m) y.slot → NeverGrows (HasStock l) x.slot
    never-back (shop, long, name) =
        (stock-stays a c l m mended.same.files shop, same-length a c x y e ∙ long, same-name a c x y e ∙ name)

    never-on : NeverGrows (HasStock l) x.slot → NeverGrows (HasStock m) y.slot
    never-on (shop, long, name) =
        (stock-stays c a m l (sym mended.same.files) shop, sym (same-length a c x y e) ∙ long, sym (same-name a c x y e) ∙ name)

    side-at : (q : Place) → slice_get y.sides ((length y.blocks - 1) / 120) ≡ Some q
        → slice_get x.sides ((length x.blocks - 1) / 120) ≡ Some q
    side-at q at = ap₂ (λ (ss bs : List Place). slice_get ss ((length bs - 1) / 120)) sides blocks ∙ at

    rel-back : IsTrue (is_rel y.slot) → IsTrue (is_rel x.slot)
    rel-back rel = same-rel a c x y e ∙ rel

    pub stays-whole : IsWholeFile c m y
    stays-whole = record {
      listed = λ rel q at.
          let P : List Place → Type 0 = λ bs. ListsWell c (NeverGrows (HasStock m) y.slot) (sector c q)
          (used_of (length bs)) in
          subst P blocks (lists (NeverGrows (HasStock m) y.slot) never-on never-back (rel-back rel) q (side-at q at)).0;
      behind = λ rel q s at named.
          let P : List Place → Type 0 = λ ps. ¬ (Contains (map_place ∷ ps) s) in
          subst P (sym (owners-same a c l m mended.same)) ((lists (NeverGrows (HasStock m) y.slot) never-on never-back
          (rel-back rel) q (side-at q at)).1 s named);
      counted = λ t.
          let P : List Place → Type 0 = λ bs. count_field y.slot ≤ length bs in
          let was : IsTrue (is_plain x.slot) = plain ∙ t in
          subst P blocks (omega (arith, count-same was, old.counted was));
      ended = λ t q last zeros.
          let there' : slice_get x.blocks (length x.blocks - 1) ≡ Some q =
          ap (λ (bs : List Place). slice_get bs (length bs - 1)) blocks ∙ last in
          let bytes : map (sector c) x.blocks ≡ map (sector a) x.blocks =
          ap (map (sector c)) blocks ∙ sym (ap (λ (s : Stays). s.bytes) e) in
          old.ended (ap₂ (λ u v. u || v) (same-rel a c x y e) plain ∙ t) q there'
          (sym (map-at a c x.blocks _ q bytes there') ∙ zeros);
    }

  pub repair-whole : IsWhole c
  repair-whole k' is' =
      let P : Layout → Type 0 = λ z. (k : ℕ) (y : File) → slice_get z.files k ≡ Some y → IsWholeFile c z y in
      subst P (IsLayout-one c m k' mended.sound is') (λ k y now.
      let (x, there, e) = alike (stays_of c) (stays_of a) m.files l.files k y mended.same.files now in
      stays-whole k x y there now e)

-- so of a device
pub repair-held : {D : Type 0} (S : History D) (a b : D) (l : Layout) (strays : List Place)
    → IsLayout (S.image a) l → HeldOnly S a b (IsMended (S.image a) l)
    → HeldOnly S a b (IsUnderWay (IsRightBut strays l) (repair_order l) (S.image a)) → IsWhole (S.image a)
    → HeldOnly S a b IsWhole
repair-held S a b l strays is mended way w = record {
  reached = mended.reached;
  later = mended.later;
  each = λ c h. repair-whole (S.image a) c l strays is (mended.each c h) (way.each c h) w;
  before = λ t c le h. elim (mended.before t c le h) [
    | inl early ↦ inl early
    | inr m ↦ elim (way.before t c le h) [
      | inl early ↦ inl early
      | inr u ↦ inr (repair-whole (S.image a) c l strays is m u w)
    ]
  ];
}

-- and where nothing is written
pub reads-held : {D : Type 0} (S : History D) (a b : D) (n : ℕ) → OnlyReads S a b n → IsWhole (S.image a)
    → HeldOnly S a b IsWhole
reads-held S a b n reads w = (reads_change S a b n IsWhole reads w).held
