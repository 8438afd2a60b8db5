-- A sector with two owners.
use Rattle.std.proofs.Common.{
  ℕ,
  zero,
  suc,
  ◌≡◌,
  ◌≢◌,
  ◌≤◌,
  ◌+◌,
  ◌⊎◌,
  Bool,
  true,
  false,
  IsTrue,
  List,
  [],
  ◌∷◌,
  ◌++◌,
  length,
  length-append,
  slice_index,
  sym,
  ◌∙◌,
  ap,
  refl,
  arith,
  inl,
  inr,
  subst,
}
use Rattle.std.specs.Prelude.{Contains, IsFalse, Some, flat_map, slice_get}
use Rattle.std.specs.List.{AllByRecursion}
use Rattle.std.proofs.lemmas.Bool.{cases_eq}
use Rattle.std.proofs.lemmas.List.Elements.{Contains-append_cases}
use Rattle.std.proofs.lemmas.Option.{slice_get_within}
use Rattle.d64_image.specs.Images.{Image, sector}
use Rattle.d64_image.specs.declared.place.Place.{Place}
use Rattle.disk_layout.proofs.lemmas.layouts.SidesAt.{SidesLead-push}
use Rattle.disk_layout.proofs.lemmas.counts.Recount.{flat_map-out}
use Rattle.disk_layout.proofs.lemmas.lists.Lists.{contains-get, get-some}
use Rattle.disk_layout.proofs.lemmas.lists.Once.{Contains-cases, Contains-nil, all-in}
use Rattle.disk_layout.specs.Directory.{IsDirectory, map_place, type_byte}
use Rattle.disk_layout.specs.Fault.{
  Holds,
  IsClosed,
  IsSideSector,
  SidesLead,
  Owner,
  Owns,
  blocks_of,
  map_itself,
  sides_of,
  the_directory,
}
use Rattle.disk_layout.specs.Side.{NamesNext}
use Rattle.disk_layout.specs.Layout.{File, HasChain, IsClosedType, IsFile, IsRelFile, file_owns, is_rel}
use Rattle.disk_layout.specs.declared.faults.Fault.TheVariants.{OwnedTwice}
use Rattle.disk_layout.specs.declared.slot.Slot.{Slot}
use Rattle.layout_check.proofs.lemmas.finding.Assembly.{owns-block}
use Rattle.layout_check.proofs.lemmas.finding.Listed.{directory-sector, entry-listed}
use Rattle.layout_check.specs.Survey.{taken}

pub closed-high : (t : ℕ) → IsClosedType t → 128 ≤ t
closed-high t (inl h) = omega (arith, h)
closed-high t (inr h) = omega (arith, h)

-- the side sectors of a relative file lead to each other
rel-reached : (img : Image) (f : File) (j : ℕ) (p : Place) → (r : IsRelFile img f) → slice_get f.sides j ≡ Some p
    → (first : Place) × (slice_get f.sides 0 ≡ Some first) × (vs : List Place) × (length vs ≡ j)
    × SidesLead img 0 first vs p
rel-reached img f zero p r h = (p, h, [], refl, refl)
rel-reached img f (suc j) p r h =
    let (q, there) = get-some f.sides j (omega (arith, slice_get_within f.sides (suc j) p h)) in
    let (first, start, vs, long, leads) = rel-reached img f j q r there in
    let n : suc j ≡ j + 1 = omega arith in (
      first,
      start,
      vs ++ q ∷ [],
      omega (arith, long, length-append vs (q ∷ [])),
      let at : slice_get f.sides (j + 1) ≡ Some p = ap (slice_get f.sides) (sym n) ∙ h in
          let m : j ≡ 0 + length vs = omega (arith, long) in
          SidesLead-push img 0 first vs q p leads (subst (λ (k : ℕ). NamesNext (sector img q) k p) m
          ((r.sides j q there).link p at, (r.sides j q there).sides (j + 1) p at)),
    )

rel-side : (img : Image) (f : File) (j : ℕ) (p : Place) → IsRelFile img f → slice_get f.sides j ≡ Some p
    → IsSideSector img f.slot f.blocks j p
rel-side img f j p r h =
    let (first, start, vs, long, leads) = rel-reached img f j p r h in
    record {
      first_block = r.chain.0;
      named_block = r.chain.1;
      last = f.last;
      chain = r.chain.2;
      wanted = omega (arith, slice_get_within f.sides j p h, r.count);
      first = first;
      named = r.first_side first start;
      before = vs;
      number = long;
      leads = leads;
    }

-- what a file has
block-chain : (img : Image) (f : File) (p : Place) → IsFile img f → Contains f.blocks p → HasChain img f
block-chain img f p h c = by_type (is_rel f.slot) refl
  where
    by_start : IsFalse (is_rel f.slot) → (slice_index f.slot.bytes 3 ≡ 0) ⊎ (slice_index f.slot.bytes 3 ≢ 0)
        → HasChain img f
    by_start e (inl z) = absurd (Contains-nil p (rw (h.empty e z).0 at c))
    by_start e (inr n) = (h.plain e n).0

    by_type : (t : Bool) → is_rel f.slot ≡ t → HasChain img f
    by_type true e = (h.rel e).chain
    by_type false e = by_start e (cases_eq (slice_index f.slot.bytes 3) 0)

side-rel : (img : Image) (f : File) (p : Place) → IsFile img f → Contains f.sides p → IsTrue (is_rel f.slot)
side-rel img f p h c = by_type (is_rel f.slot) refl
  where
    by_start : IsFalse (is_rel f.slot) → (slice_index f.slot.bytes 3 ≡ 0) ⊎ (slice_index f.slot.bytes 3 ≢ 0)
        → IsTrue (is_rel f.slot)
    by_start e (inl z) = absurd (Contains-nil p (rw (h.empty e z).2 at c))
    by_start e (inr n) = absurd (Contains-nil p (rw (h.plain e n).1 at c))

    by_type : (t : Bool) → is_rel f.slot ≡ t → IsTrue (is_rel f.slot)
    by_type true e = e
    by_type false e = by_start e (cases_eq (slice_index f.slot.bytes 3) 0)

file-owner : (img : Image) (f : File) (p : Place) → IsClosed img f.slot.sector f.slot → IsFile img f
    → Contains (file_owns f) p → Owns img (blocks_of f.slot) p ⊎ Owns img (sides_of f.slot) p
file-owner img f p closed h c = elim (Contains-append_cases f.blocks f.sides p c) [
  | inl d ↦ inl (owns-block img f.slot f.blocks f.last p closed (block-chain img f p h d) d)
  | inr d ↦
      let rel = side-rel img f p h d in
      let (j, there) = contains-get f.sides p d in
      inr (f.slot.sector, closed, rel, f.blocks, j, rel-side img f j p (h.rel rel) there)
]

-- an owner that isn't the entry of this slot
abbrev IsOther : Owner → Slot → Type 0
IsOther a s = (a ≢ blocks_of s) × (a ≢ sides_of s)

other-entry : (s t : Slot) → t ≢ s → IsOther (blocks_of t) s × IsOther (sides_of t) s
other-entry s t ne = ((λ e. ne cc, λ e. cc), (λ e. cc, λ e. ne cc))

-- what is owned already has an owner other than the entry of a slot that is yet to come
other-owner : (img : Image) (dir : List Place) (es : List Slot) (fs : List File) (s : Slot) (p : Place)
    → IsDirectory img dir es → AllByRecursion (IsFile img) fs → ((f : File) → Contains fs f → Contains es f.slot
    × (f.slot ≢ s)) → Contains (taken dir fs) p → (a : Owner) × Owns img a p × IsOther a s
other-owner img dir es fs s p d all slots c = elim (Contains-cases p map_place (dir ++ flat_map file_owns fs) c) [
  | inl e ↦ (map_itself, sym e, (λ x. cc, λ x. cc))
  | inr e ↦ elim (Contains-append_cases dir (flat_map file_owns fs) p e) [
    | inl on ↦ (the_directory, directory-sector img dir es p d on, (λ x. cc, λ x. cc))
    | inr of ↦
        let (f, there, own) = flat_map-out file_owns fs p of in
        let file = all-in (IsFile img) fs f all there in
        let (listed, ne) = slots f there in
        let closed : IsClosed img f.slot.sector f.slot = record {
          slot = (entry-listed img dir es f.slot d listed).slot;
          closed = closed-high (type_byte f.slot) file.closed;
        } in
        let others = other-entry s f.slot ne in
        elim (file-owner img f p closed file own) [
          | inl o ↦ (blocks_of f.slot, o, others.0)
          | inr o ↦ (sides_of f.slot, o, others.1)
        ]
  ]
]

pub clash-holds : (failed : Place → Type 0) (img : Image) (dir : List Place) (es : List Slot) (fs : List File)
    (s : Slot) (p : Place) → IsDirectory img dir es → AllByRecursion (IsFile img) fs
    → ((f : File) → Contains fs f → Contains es f.slot × (f.slot ≢ s)) → Contains (taken dir fs) p
    → Owns img (blocks_of s) p ⊎ Owns img (sides_of s) p → Holds failed img (OwnedTwice p)
clash-holds failed img dir es fs s p d all slots c own =
    let (a, x, other) = other-owner img dir es fs s p d all slots c in
    elim own [ inl y ↦ inl (a, blocks_of s, other.0, x, y) | inr y ↦ inl (a, sides_of s, other.1, x, y) ]
