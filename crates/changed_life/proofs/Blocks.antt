-- A relative file has its records where its entry stays, its links, and the data of its blocks.
use Rattle.std.proofs.Common.{◌≡◌, ◌<◌, ◌+◌, ◌-◌, ◌*◌, ◌/◌, ◌∙◌, ◌⊎◌, ℕ, List, [], ◌∷◌, ◌++◌, ap, ap₂, arith, drop, get_or, get_or-drop, get_or-take}
use Rattle.std.proofs.Common.{inl, inr, length, refl, slice_index, subst, sym}
use Rattle.std.specs.Prelude.{Contains, max, slice_range}
use Rattle.std.proofs.lemmas.List.Elements.{Contains-append_left}
use Rattle.d64_image.specs.Images.{Image, sector}
use Rattle.d64_image.specs.declared.place.Place.{Place}
use Rattle.disk_layout.proofs.lemmas.chains.Chains.{IsChain-one, Names-one, chain-last, ends-no_link}
use Rattle.disk_layout.proofs.lemmas.lists.Once.{Contains-here, Contains-there}
use Rattle.disk_layout.specs.Chain.{IsChain, Leads, LinksTo, byte}
use Rattle.disk_layout.specs.Layout.{File, HasChain, record_length}
use Rattle.disk_layout.specs.Records.{joined, pieces, record_count, records}
use Rattle.disk_layout.specs.declared.slot.Slot.{Slot}
use Rattle.changed_life.proofs.Firsts.{entry_of}

-- The sectors at p have the same data and the same link; or both end a chain, with no byte of data or with one.
pub record IsSameBlock (a c : Image) (p : Place) : Type 0 where
  pub track : byte a p 0 ≡ byte c p 0
  pub link : (byte a p 1 ≡ byte c p 1) ⊎ ((byte a p 0 ≡ 0) × (max (byte a p 1) 1 ≡ max (byte c p 1) 1))
  pub rest : drop 2 (sector a p) ≡ drop 2 (sector c p)

-- the sectors are the same
pub same-block : (a c : Image) (p : Place) → sector a p ≡ sector c p → IsSameBlock a c p
same-block a c p e = record {
  track = ap (λ (s : List ℕ). slice_index s 0) e;
  link = inl (ap (λ (s : List ℕ). slice_index s 1) e);
  rest = ap (drop 2) e;
}

abbrev pub AreSameBlocks : Image → Image → List Place → Type 0
AreSameBlocks a c ps = (p : Place) → Contains ps p → IsSameBlock a c p

leads-same : (a c : Image) (p q : Place) (vs : List Place) → AreSameBlocks a c vs → Leads a p vs q → Leads c p vs q
leads-same a c p q [] same h = h
leads-same a c p q (v ∷ vs) same (n, e, link, more) = (
  n,
  e,
  linked (same v (Contains-here v vs)),
  leads-same a c n q vs (λ x on. same x (Contains-there x v vs on)) more,
)
  where
    linked : IsSameBlock a c v → LinksTo c v n
    linked s = elim s.link [
      | inl e ↦ (sym s.track ∙ link.0, sym e ∙ link.1)
      | inr e ↦ absurd (ends-no_link a v n (byte a v 1) (e.0, refl) link)
    ]

-- the same blocks are a chain, with as many bytes in the last
chain-same : (a c : Image) (p : Place) (ps : List Place) (u : ℕ) → AreSameBlocks a c ps → IsChain a p ps u
    → (w : ℕ) × IsChain c p ps w × (max u 1 ≡ max w 1)
chain-same a c p ps u same chain =
    let last = same chain.last (chain-last a p ps u chain) in (
      byte c chain.last 1,
      record {
        front = chain.front;
        last = chain.last;
        places = chain.places;
        leads = leads-same a c p chain.last chain.front
            (λ x on. same x (subst (λ (zs : List Place). Contains zs x) (sym chain.places)
            (Contains-append_left chain.front (chain.last ∷ []) x on))) chain.leads;
        ends = (sym last.track ∙ chain.ends.0, refl);
        once = chain.once;
      },
      elim last.link [
        | inl e ↦ ap (λ (n : ℕ). max n 1) (sym chain.ends.1 ∙ e)
        | inr e ↦ ap (λ (n : ℕ). max n 1) (sym chain.ends.1) ∙ e.1
      ],
    )

joined-same : (a c : Image) (ps : List Place) → AreSameBlocks a c ps → joined a ps ≡ joined c ps
unfolding joined
joined-same a c [] same = refl
joined-same a c (p ∷ ps) same = ap₂ (λ (xs ys : List ℕ). xs ++ ys) (same p (Contains-here p ps)).rest
    (joined-same a c ps (λ q on. same q (Contains-there q p ps on)))

-- a byte of an entry
entry-byte : (s t : Slot) → entry_of t ≡ entry_of s → (i : ℕ) → i < 28
    → slice_index t.bytes (2 + i) ≡ slice_index s.bytes (2 + i)
entry-byte s t e i lt = sym (at t.bytes) ∙ ap (λ (zs : List ℕ). get_or zs i 0) e ∙ at s.bytes
  where
    at : (zs : List ℕ) → get_or (slice_range zs 2 30) i 0 ≡ get_or zs (2 + i) 0
    at zs = get_or-take 28 (drop 2 zs) i 0 lt ∙ get_or-drop 2 zs i 0

-- the record length of an entry
pub entry-length : (s t : Slot) → entry_of t ≡ entry_of s → record_length t ≡ record_length s
entry-length s t e = entry-byte s t e 21 (omega arith)

-- a file of the same entry with such blocks
pub records-same : (a c : Image) (f g : File) → entry_of g.slot ≡ entry_of f.slot → HasChain a f → HasChain c g
    → AreSameBlocks a c f.blocks → records c g ≡ records a f
unfolding records record_count
records-same a c f g e (p, named, chain) (q, named', chain') same =
    let at : p ≡ q = Names-one f.slot.bytes 3 p q named
    (sym (entry-byte f.slot g.slot e 1 (omega arith)) ∙ named'.0, sym (entry-byte f.slot g.slot e 2 (omega arith)) ∙ named'.1) in
    let r = chain-same a c p f.blocks f.last same chain in
    let one = IsChain-one c q f.blocks g.blocks r.0 g.last
    (subst (λ (x : Place). IsChain c x f.blocks r.0) at r.1) chain' in
    let last : max g.last 1 ≡ max f.last 1 = ap (λ (n : ℕ). max n 1) (sym one.1) ∙ sym r.2 in
    let long : record_length g.slot ≡ record_length f.slot = entry-length f.slot g.slot e in
    let bytes : joined c g.blocks ≡ joined a f.blocks = ap (joined c) (sym one.0) ∙ sym (joined-same a c f.blocks same) in
    λ i. pieces (long i) ((254 * (length (sym one.0 i) - 1) + last i - 1) / long i) (bytes i)
