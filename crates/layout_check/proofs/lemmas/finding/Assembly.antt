-- The file of an entry, from what was found of its blocks and side sectors.
use Rattle.std.proofs.Common.{
  ℕ,
  zero,
  suc,
  ◌≡◌,
  ◌≢◌,
  ◌+◌,
  IsTrue,
  List,
  [],
  ◌∷◌,
  ◌++◌,
  slice_index,
  sym,
  ◌∙◌,
  ap,
  refl,
  arith,
  subst,
  inl,
  inr,
  append_assoc,
}
use Rattle.std.specs.Prelude.{Contains, IsFalse, Some, slice_get}
use Rattle.std.proofs.lemmas.Bool.{false≢true}
use Rattle.d64_image.specs.Images.{Image}
use Rattle.d64_image.specs.declared.place.Place.{Place}
use Rattle.disk_layout.proofs.lemmas.chains.Chains.{cons_both}
use Rattle.disk_layout.proofs.lemmas.lists.Lists.{contains-get, numbered-once}
use Rattle.disk_layout.proofs.lemmas.lists.Once.{Contains-cases, Contains-nil, EachOnce-left}
use Rattle.disk_layout.specs.Chain.{EachOnce, IsChain, Leads, LinksTo, Names, Visits, byte}
use Rattle.disk_layout.specs.Fault.{IsClosed, Owns, blocks_of, sides_of}
use Rattle.disk_layout.specs.Layout.{IsFile, is_rel}
use Rattle.disk_layout.specs.declared.slot.Slot.{Slot}
use Rattle.disk_layout.proofs.lemmas.layouts.SidesAt.{SidesLead-links}
use Rattle.layout_check.proofs.lemmas.finding.SideWalks.{walk-side}
use Rattle.layout_check.specs.Entry.{HasBlocks, IsProper}
use Rattle.layout_check.specs.Sides.{AreLinkedSides, IsRelEntry, IsWalkOfSides, ListsEach}

-- the first sector of a walk, and the next
leads-head : (img : Image) (first : Place) (front : List Place) (last q : Place) → Leads img first front last
    → slice_get (front ++ last ∷ []) 0 ≡ Some q → q ≡ first
leads-head img first [] last q leads h = let e : last ≡ q = cc in sym e ∙ sym leads
leads-head img first (v ∷ front) last q (n, same, linked, more) h = let e : v ≡ q = cc in sym e ∙ same

leads-link : (img : Image) (first : Place) (front : List Place) (last : Place) (j : ℕ) (p q : Place)
    → Leads img first front last → slice_get (front ++ last ∷ []) j ≡ Some p
    → slice_get (front ++ last ∷ []) (suc j) ≡ Some q → LinksTo img p q
leads-link img first [] last zero p q leads h k = cc
leads-link img first [] last (suc j) p q leads h k = cc
leads-link img first (v ∷ front) last zero p q (n, same, linked, more) h k =
    let e : v ≡ p = cc in
    let f : q ≡ n = leads-head img n front last q more k in
    rw (f, ← e) linked
leads-link img first (v ∷ front) last (suc j) p q (n, same, linked, more) h k = leads-link img n front last j p q more h
    k

pub first-side : (img : Image) (s : Slot) (blocks sides : List Place) (q : Place) → AreLinkedSides img s blocks sides
    → slice_get sides 0 ≡ Some q → Names s.bytes 21 q
first-side img s blocks sides q w h =
    let e : q ≡ w.first = leads-head img w.first w.front w.last q (SidesLead-links img 0 w.first w.front w.last w.leads) (ap (λ (xs : List Place). slice_get xs 0)
    (sym w.places) ∙ h) in
    rw e w.named

pub side-link : (img : Image) (s : Slot) (blocks sides : List Place) (j : ℕ) (p q : Place)
    → AreLinkedSides img s blocks sides → slice_get sides j ≡ Some p → slice_get sides (j + 1) ≡ Some q
    → LinksTo img p q
side-link img s blocks sides j p q w h k =
    let n : suc j ≡ j + 1 = omega arith in
    leads-link img w.first w.front w.last j p q (SidesLead-links img 0 w.first w.front w.last w.leads) (ap (λ (xs : List Place). slice_get xs j) (sym w.places)
    ∙ h) (ap (λ (xs : List Place). slice_get xs (suc j)) (sym w.places) ∙ ap (slice_get sides) n ∙ k)

pub sides-once : (img : Image) (s : Slot) (blocks sides : List Place) → IsWalkOfSides img s blocks sides
    → EachOnce sides
sides-once img s blocks sides w = numbered-once (λ p. byte img p 2) 0 sides (λ k q h. let e : 0 + k ≡ k = omega arith in
    (w.judged k q h).number ∙ sym e)

-- the file of a relative entry
pub rel-file : (img : Image) (s : Slot) (blocks sides : List Place) (u : ℕ) → IsProper s → IsTrue (is_rel s)
    → HasBlocks img s blocks u → IsWalkOfSides img s blocks sides → ListsEach img sides
    → IsFile img (record { slot = s; blocks = blocks; last = u; sides = sides })
rel-file img s blocks sides u proper rel chain w lists = record {
  closed = proper.closed;
  rel = λ _. record {
    chain = chain;
    length_low = (proper.length rel).0;
    length_high = (proper.length rel).1;
    count = w.linked.count;
    first_side = λ q h. first-side img s blocks sides q w.linked h;
    sides = λ j p h. record {
      number = (w.judged j p h).number;
      length_byte = (w.judged j p h).length_byte;
      sides = λ k q there. lists j p h k q there;
      link = λ q there. side-link img s blocks sides j p q w.linked h there;
      pointers = (w.judged j p h).pointers;
    };
  };
  empty = λ other z. absurd (false≢true (sym other ∙ rel));
  plain = λ other z. absurd (false≢true (sym other ∙ rel));
}

-- of an entry that isn't relative and names a first block
pub plain-file : (img : Image) (s : Slot) (blocks : List Place) (u : ℕ) → IsProper s → IsFalse (is_rel s)
    → slice_index s.bytes 3 ≢ 0 → HasBlocks img s blocks u
    → IsFile img (record { slot = s; blocks = blocks; last = u; sides = [] })
plain-file img s blocks u proper other some chain = record {
  closed = proper.closed;
  rel = λ rel. absurd (false≢true (sym other ∙ rel));
  empty = λ _ z. absurd (some z);
  plain = λ _ _. (chain, refl);
}

-- of one that names none
pub empty-file : (img : Image) (s : Slot) → IsProper s → IsFalse (is_rel s) → slice_index s.bytes 3 ≡ 0
    → IsFile img (record { slot = s; blocks = []; last = 0; sides = [] })
empty-file img s proper other none = record {
  closed = proper.closed;
  rel = λ rel. absurd (false≢true (sym other ∙ rel));
  empty = λ _ _. (refl, refl, refl);
  plain = λ _ some. absurd (some none);
}

-- each sector of a chain is visited
pub front-visits : (img : Image) (p : Place) (front : List Place) (last q : Place) → Leads img p front last
    → Contains (front ++ last ∷ []) q → (vs : List Place) × (rest : List Place) × (front ++ last ∷ [] ≡ vs ++ q ∷ rest)
    × Leads img p vs q
front-visits img p [] last q a c = elim (Contains-cases q last [] c) [
  | inl e ↦ ([], [], ap (λ x. x ∷ []) e, a ∙ e)
  | inr n ↦ absurd (Contains-nil q n)
]
front-visits img p (v ∷ front) last q (n, same, linked, more) c = step (front-visits img n front last q more)
  where
    step : (Contains (front ++ last ∷ []) q → (vs : List Place) × (rest : List Place)
        × (front ++ last ∷ [] ≡ vs ++ q ∷ rest) × Leads img n vs q) → (vs : List Place) × (rest : List Place)
        × (v ∷ (front ++ last ∷ []) ≡ vs ++ q ∷ rest) × Leads img p vs q
    step later = elim (Contains-cases q v (front ++ last ∷ []) c) [
      | inl e ↦ ([], front ++ last ∷ [], cons_both e refl, sym same ∙ e)
      | inr d ↦ let (vs, rest, eq, leads) = later d in (v ∷ vs, rest, cons_both refl eq, (n, same, linked, leads))
    ]

pub chain-visits : (img : Image) (p : Place) (ps : List Place) (u : ℕ) (q : Place) → IsChain img p ps u → Contains ps q
    → (vs : List Place) × (rest : List Place) × (ps ≡ vs ++ q ∷ rest) × Visits img p vs q
chain-visits img p ps u q c h =
    let P : List Place → Type 0 = λ xs. Contains xs q in
    let (vs, rest, eq, leads) = front-visits img p c.front c.last q c.leads (subst P c.places h) in
    let whole = let Q : List Place → Type 0 = EachOnce in subst Q (c.places ∙ eq ∙ sym (append_assoc vs (q ∷ []) rest))
    c.once in
    (vs, rest, c.places ∙ eq, (leads, EachOnce-left (vs ++ q ∷ []) rest whole))

-- what the entry owns by its chain, and by its side sectors
pub owns-block : (img : Image) (s : Slot) (blocks : List Place) (u : ℕ) (p : Place) → IsClosed img s.sector s
    → HasBlocks img s blocks u → Contains blocks p → Owns img (blocks_of s) p
owns-block img s blocks u p closed (first, named, chain) c =
    let (vs, rest, eq, visits) = chain-visits img first blocks u p chain c in
    (s.sector, closed, record { first = first; named = named; before = vs; visits = visits })

pub owns-side : (img : Image) (s : Slot) (blocks sides : List Place) (p : Place) → IsRelEntry img s blocks
    → IsWalkOfSides img s blocks sides → Contains sides p → Owns img (sides_of s) p
owns-side img s blocks sides p e w c =
    let (j, there) = contains-get sides p c in
    (s.sector, e.closed, e.rel, blocks, j, walk-side img s blocks sides j p e w.linked there)
