-- The side sectors to which links lead, one after another.
use Rattle.std.proofs.Common.{
  ℕ,
  zero,
  suc,
  ◌≡◌,
  ◌<◌,
  ◌≤◌,
  ◌+◌,
  ◌*◌,
  List,
  [],
  ◌∷◌,
  ◌++◌,
  length,
  length-append,
  sym,
  ◌∙◌,
  ap,
  refl,
  arith,
  subst,
  inl,
  inr,
  get_or,
}
use Rattle.std.specs.Prelude.{Some, slice_get}
use Rattle.std.proofs.lemmas.Option.{slice_get_within}
use Rattle.d64_image.specs.Images.{Image, sector}
use Rattle.d64_image.specs.declared.place.Place.{Place}
use Rattle.disk_layout.specs.Chain.{Names, NamesNone}
use Rattle.disk_layout.proofs.lemmas.layouts.SidesAt.{SidesLead-push}
use Rattle.disk_layout.specs.Fault.{Holds, IsBadSide, IsSideSector, SidesLead, length_byte, link, listed, number, pointer}
use Rattle.disk_layout.specs.Side.{NamesNext}
use Rattle.disk_layout.specs.Layout.{sides_for}
use Rattle.disk_layout.specs.declared.faults.Fault.TheVariants.{BadSide}
use Rattle.disk_layout.specs.declared.slot.Slot.{Slot}
use Rattle.disk_layout.proofs.lemmas.lists.Lists.{read-there}
use Rattle.layout_check.specs.Sides.{
  AreLinkedSides,
  HasOtherFields,
  HasOtherNumber,
  IsRelEntry,
  IsSoundSide,
  IsUnsoundSide,
  IsWalkOfSides,
  ListsEach,
}

pub some-blocks : (img : Image) (s : Slot) (blocks : List Place) → IsRelEntry img s blocks → 0 < length blocks
some-blocks img s blocks e =
    let chain = e.chain.2 in
    omega (arith, ap length chain.places, length-append chain.front (chain.last ∷ []))

pub no_first_side : (failed : Place → Type 0) (img : Image) (s : Slot) (blocks : List Place) → IsRelEntry img s blocks
    → NamesNone s.bytes 21 → Holds failed img (BadSide s.sector)
no_first_side failed img s blocks e none = inl (s, e.closed, e.rel, none)

-- where the links lead is a side sector of the entry
pub side-reached : (img : Image) (s : Slot) (blocks sides : List Place) (first at : Place) (j : ℕ)
    → IsRelEntry img s blocks → Names s.bytes 21 first → SidesLead img 0 first sides at → length sides ≡ j
    → j < sides_for (length blocks) → IsSideSector img s blocks j at
side-reached img s blocks sides first at j e named leads count below = record {
  first_block = e.chain.0;
  named_block = e.chain.1;
  last = e.last;
  chain = e.chain.2;
  wanted = below;
  first = first;
  named = named;
  before = sides;
  number = count;
  leads = leads;
}

pub misjudged-bad : (img : Image) (s : Slot) (blocks : List Place) (j : ℕ) (p : Place) (bytes : List ℕ)
    → bytes ≡ sector img p → HasOtherFields bytes s blocks j → IsBadSide img s blocks j p
misjudged-bad img s blocks j p bytes e h = here (let P : List ℕ → Type 0 = λ b. HasOtherFields b s blocks j in
    subst P e h)
  where
    here : HasOtherFields (sector img p) s blocks j → IsBadSide img s blocks j p
    here (inl n) = number n
    here (inr (inl n)) = length_byte n
    here (inr (inr h)) = pointer h.k h.q h.low h.there h.other

pub misnumbered : (bytes : List ℕ) (s : Slot) (blocks : List Place) (j : ℕ) → HasOtherNumber bytes s j
    → HasOtherFields bytes s blocks j
misnumbered bytes s blocks j (inl n) = inl n
misnumbered bytes s blocks j (inr n) = inr (inl n)

pub unlinked-bad : (img : Image) (s : Slot) (blocks : List Place) (j : ℕ) (p : Place) (bytes : List ℕ)
    → bytes ≡ sector img p → j + 1 < sides_for (length blocks)
    → ((q : Place) → ¬ (NamesNext bytes j q)) → IsBadSide img s blocks j p
unlinked-bad img s blocks j p bytes e more none = link more (let P : List ℕ → Type 0 = λ b. (q : Place) → ¬ (NamesNext b j q) in
    subst P e none)

pub bad-holds : (failed : Place → Type 0) (img : Image) (s : Slot) (blocks : List Place) (j : ℕ) (p : Place)
    → IsRelEntry img s blocks → IsSideSector img s blocks j p → IsBadSide img s blocks j p
    → Holds failed img (BadSide p)
bad-holds failed img s blocks j p e side bad = inr (s.sector, s, e.closed, e.rel, blocks, j, side, bad)

-- one more of them
pub next-led : (img : Image) (first : Place) (sides : List Place) (p q : Place) (j : ℕ) (bytes : List ℕ)
    → length sides ≡ j → bytes ≡ sector img p → SidesLead img 0 first sides p → NamesNext bytes j q
    → SidesLead img 0 first (sides ++ p ∷ []) q
next-led img first sides p q j bytes count e leads h =
    let n : j ≡ 0 + length sides = omega (arith, count) in
    SidesLead-push img 0 first sides p q leads (subst (λ (k : ℕ). NamesNext (sector img p) k q) n
    (subst (λ (b : List ℕ). NamesNext b j q) e h))

-- all side sectors are there
pub walk-done : (img : Image) (s : Slot) (blocks sides : List Place) (first at : Place) → Names s.bytes 21 first
    → SidesLead img 0 first sides at → length sides + 1 ≡ sides_for (length blocks)
    → AreLinkedSides img s blocks (sides ++ at ∷ [])
walk-done img s blocks sides first at named leads full = record {
  first = first;
  named = named;
  front = sides;
  last = at;
  places = refl;
  leads = leads;
  count = omega (arith, length-append sides (at ∷ []), full);
}

-- each sector of a walk is reached by as many links as its place in the list says
pub leads-at : (img : Image) (i : ℕ) (first : Place) (front : List Place) (last : Place) (j : ℕ) (p : Place)
    → SidesLead img i first front last → slice_get (front ++ last ∷ []) j ≡ Some p → (vs : List Place)
    × (length vs ≡ j) × SidesLead img i first vs p
leads-at img i first [] last zero p leads h = ([], refl, leads ∙ cc)
leads-at img i first [] last (suc j) p leads h = cc
leads-at img i first (v ∷ front) last zero p (n, same, linked, more) h = ([], refl, sym same ∙ cc)
leads-at img i first (v ∷ front) last (suc j) p (n, same, linked, more) h =
    let (vs, long, leads) = leads-at img (i + 1) n front last j p more h in
    (v ∷ vs, ap suc long, (n, same, linked, leads))

pub walk-side : (img : Image) (s : Slot) (blocks sides : List Place) (j : ℕ) (p : Place) → IsRelEntry img s blocks
    → AreLinkedSides img s blocks sides → slice_get sides j ≡ Some p → IsSideSector img s blocks j p
walk-side img s blocks sides j p e w h =
    let at : slice_get (w.front ++ w.last ∷ []) j ≡ Some p = ap (λ (xs : List Place). slice_get xs j) (sym w.places)
    ∙ h in
    let (vs, long, leads) = leads-at img 0 w.first w.front w.last j p w.leads at in
    side-reached img s blocks vs w.first p j e w.named leads long (omega (arith, slice_get_within sides j p h, w.count))

-- a side sector that isn't as a sound image asks
pub unsound-holds : (failed : Place → Type 0) (img : Image) (s : Slot) (blocks sides : List Place) (j : ℕ) (p : Place)
    (bytes : List ℕ) → IsRelEntry img s blocks → AreLinkedSides img s blocks sides → slice_get sides j ≡ Some p
    → bytes ≡ sector img p → IsUnsoundSide bytes s blocks sides j → Holds failed img (BadSide p)
unsound-holds failed img s blocks sides j p bytes e w there same (inl other) =
    bad-holds failed img s blocks j p e (walk-side img s blocks sides j p e w there)
    (misjudged-bad img s blocks j p bytes same other)
unsound-holds failed img s blocks sides j p bytes e w there same (inr wrong) =
    bad-holds failed img s blocks j p e (walk-side img s blocks sides j p e w there)
    (listed wrong.k wrong.q (walk-side img s blocks sides wrong.k wrong.q e w wrong.there)
    (λ h. wrong.other (let P : List ℕ → Type 0 = λ b. Names b (4 + 2 * wrong.k) wrong.q in subst P (sym same) h)))

-- there are six side sectors at most, so they are read twelve times at most
pub few-sides : (img : Image) (s : Slot) (blocks sides items : List Place) (i : ℕ) → AreLinkedSides img s blocks sides
    → length blocks ≤ 720 → items ≡ sides → i < length items → (length items + i) + 1 ≤ 12
few-sides img s blocks sides items i w few same below = omega (arith, w.count, ap length same)

pub side-there : (sides items : List Place) (i : ℕ) (p : Place) → items ≡ sides → i < length items
    → p ≡ get_or items i p → slice_get sides i ≡ Some p
side-there sides items i p same below read = ap (λ (xs : List Place). slice_get xs i) (sym same)
    ∙ read-there items i p below read

-- the sector that was read
pub sound-here : (img : Image) (s : Slot) (blocks items : List Place) (i : ℕ) (p : Place) (bytes : List ℕ)
    → i < length items → p ≡ get_or items i p → bytes ≡ sector img p → IsSoundSide bytes s blocks items i → (q : Place)
    → slice_get items i ≡ Some q → IsSoundSide (sector img q) s blocks items i
sound-here img s blocks items i p bytes below read e h q there =
    let one : p ≡ q = cc (read-there items i p below read) in
    let P : List ℕ → Type 0 = λ b. IsSoundSide b s blocks items i in
    let Q : Place → Type 0 = λ x. IsSoundSide (sector img x) s blocks items i in
    subst Q one (subst P e h)

-- each of them is as a sound image asks
pub all-sound : (img : Image) (s : Slot) (blocks sides items : List Place) → items ≡ sides
    → AreLinkedSides img s blocks sides → ((j : ℕ) (p : Place) → slice_get items j ≡ Some p
    → IsSoundSide (sector img p) s blocks items j) → IsWalkOfSides img s blocks sides × ListsEach img sides
all-sound img s blocks sides items same linked all =
    let P : List Place → Type 0 = λ xs. (j : ℕ) (p : Place) → slice_get xs j ≡ Some p
    → IsSoundSide (sector img p) s blocks xs j in
    let each = subst P same all in
    (record { linked = linked; judged = λ j q h. (each j q h).fields }, λ j p h. (each j p h).lists)
