-- What is written before the link leaves an image that growth may leave.
use Rattle.std.proofs.Common.{◌≡◌, ◌≢◌, ℕ, ◌<◌, ◌≤◌, ◌⊎◌, inl, inr, List, ◌∷◌, ◌++◌, length, sym, ◌∙◌, ap, subst, append-nil, IsTrue}
use Rattle.std.specs.Prelude.{Contains, Some, slice_get, take, drop}
use Rattle.d64_image.proofs.Images.{length-put, sector-put_other, sector-put_same}
use Rattle.d64_image.proofs.Places.{same_or_other}
use Rattle.d64_image.specs.Images.{Image, Sector, put, sector}
use Rattle.d64_image.specs.declared.place.Place.{Place}
use Rattle.disk_layout.proofs.lemmas.growth.SideWrites.{IsLonger}
use Rattle.disk_layout.proofs.lemmas.lists.Once.{Contains-here, Contains-there}
use Rattle.disk_layout.specs.Directory.{map_place}
use Rattle.disk_layout.specs.Layout.{File, IsLayout, Layout, is_rel, owners, record_length}
use Rattle.disk_layout.specs.Records.{records}
use Rattle.disk_layout.specs.Rest.{header_of}
use Rattle.disk_layout.specs.Side.{side_sector}
use Rattle.rel_records.proofs.lemmas.steps.Preparing.{preparing-has}
use Rattle.rel_records.proofs.lemmas.steps.Sided.{get-once}
use Rattle.disk_layout.specs.Chain.{EachOnce}
use Rattle.std.proofs.lemmas.Bool.{cases_lt}
use Rattle.rel_records.specs.Others.{HasRecords}
use Rattle.rel_records.specs.Written.{grown_by}
use Rattle.rel_records.specs.declared.growth.step_parts.Growing.{Growing}
use Rattle.rel_records.specs.growth.Preparing.{IsPrepared, IsPreparing}
use Rattle.rel_records.specs.growth.Steps.{AreSidedFrom, IsBefore, IsSided}

module _ (a : Image) (l : Layout) (f g : File) (p : Growing) (fresh : Place) (block : Sector) (full : length a ≡ 683)
    (h : IsLayout a l)
    (header : (take 4 p.map.bytes ≡ take 4 (sector a map_place))
    × (drop 144 p.map.bytes ≡ drop 144 (sector a map_place)))
    (free : ¬ (Contains (map_place ∷ owners l) fresh))
    (blocks : p.blocks.items ≡ g.blocks) (sides : p.sides.items ≡ g.sides) (size : p.size ≡ record_length g.slot)
    (sided : (j : ℕ) (q : Place) → slice_get g.sides j ≡ Some q → (slice_get f.sides j ≡ Some q)
    ⊎ (¬ (Contains (map_place ∷ owners l) q)))
    (apart : (j : ℕ) → ¬ (slice_get f.sides j ≡ Some map_place)) where
  unowned : (q : Place) → ¬ (Contains (map_place ∷ owners l) q) → ¬ (Contains (owners l) q)
  unowned q out c = out (Contains-there q map_place (owners l) c)

  other-map : (q : Place) → ¬ (Contains (map_place ∷ owners l) q) → q ≢ map_place
  other-map q out e = out (let P : Place → Type 0 = Contains (map_place ∷ owners l) in
      subst P (sym e) (Contains-here map_place (owners l)))

  new-header : (c : Image) → sector c map_place ≡ p.map.bytes → header_of c ≡ header_of a
  new-header c e = ap (λ s. take 4 s ++ drop 144 s) e ∙ cc (header.0, header.1)

  abbrev mapped : Image
  mapped = put a map_place p.map.bytes

  abbrev laid : Image
  laid = put mapped fresh block

  laid-map : sector laid map_place ≡ p.map.bytes
  laid-map = sector-put_other mapped fresh map_place block (other-map fresh free)
      ∙ sector-put_same a map_place p.map.bytes full

  -- the first two writes change sectors that nobody owns
  laid-each : (q : Place) → (sector laid q ≡ sector a q) ⊎ (¬ (Contains (owners l) q))
  laid-each q = elim (same_or_other fresh q) [
    | inl e ↦ inr (let P : Place → Type 0 = λ x. ¬ (Contains (owners l) x) in subst P e (unowned fresh free))
    | inr ne ↦ elim (same_or_other map_place q) [
      | inl e ↦ inr (let P : Place → Type 0 = λ x. ¬ (Contains (owners l) x) in subst P e h.once.0)
      | inr no_map ↦ inl (sector-put_other mapped fresh q block ne ∙ sector-put_other a map_place q p.map.bytes no_map)
    ]
  ]

  exact-for : (c : Image) (j : ℕ) (q : Place) → sector c q ≡ side_sector j p.blocks.items p.sides.items p.size
      → sector c q ≡ side_sector j g.blocks g.sides (record_length g.slot)
  exact-for c j q e = e ∙ cc (blocks, sides, size)

  there-for : (j : ℕ) (q : Place) → slice_get p.sides.items j ≡ Some q → slice_get g.sides j ≡ Some q
  there-for j q at = ap (λ xs. slice_get xs j) (sym sides) ∙ at

  -- with side sectors
  sided-preparing : (c : Image) → IsSided laid p.blocks.items p.sides.items p.size c → IsPreparing a c l f g
  sided-preparing c is = record {
    each = λ q. elim (is q) [
      | inl e ↦ elim (laid-each q) [ inl s ↦ inl (e ∙ s) | inr out ↦ inr (inl out) ]
      | inr d ↦ elim (sided d.0 q (there-for d.0 q d.1)) [
        | inl at ↦ inr (inr (record { number = d.0; there = at; exact = exact-for c d.0 q d.2 }))
        | inr out ↦ inr (inl (unowned q out))
      ]
    ];
    header = new-header c (elim (is map_place) [
      | inl e ↦ e ∙ laid-map
      | inr d ↦ elim (sided d.0 map_place (there-for d.0 map_place d.1)) [
        | inl at ↦ absurd (apart d.0 at)
        | inr out ↦ absurd (out (Contains-here map_place (owners l)))
      ]
    ]);
  }

  pub before-preparing : (c : Image) → IsBefore a p fresh block c → IsPreparing a c l f g
  before-preparing c (inl e) = record { each = λ q. inl (ap (λ i. sector i q) e); header = ap header_of e }
  before-preparing c (inr (inl e)) = record {
    each = λ q. elim (same_or_other map_place q) [
      | inl one ↦ inr (inl (let P : Place → Type 0 = λ x. ¬ (Contains (owners l) x) in subst P one h.once.0))
      | inr ne ↦ inl (ap (λ i. sector i q) e ∙ sector-put_other a map_place q p.map.bytes ne)
    ];
    header = new-header c (ap (λ i. sector i map_place) e ∙ sector-put_same a map_place p.map.bytes full);
  }
  before-preparing c (inr (inr is)) = sided-preparing c is.each

  -- so each image held before the link has the records of before
  pub before-grows : (before after : List File) → l.files ≡ before ++ f ∷ after → IsTrue (is_rel f.slot)
      → IsLonger f g → length g.sides ≤ 6 → (c : Image) → IsBefore a p fresh block c
      → HasRecords a c l (length before) (grown_by (record_length f.slot) 0 (records a f))
  before-grows before after split rel long few c is =
      let P : List (List ℕ) → Type 0 = HasRecords a c l (length before) in
      subst P (sym (append-nil (records a f))) (preparing-has a c l before after f g h split rel long few
      (before-preparing c is))

  map-there : (c : Image) → IsSided laid p.blocks.items p.sides.items p.size c → sector c map_place ≡ p.map.bytes
  map-there c is = elim (is map_place) [
    | inl e ↦ e ∙ laid-map
    | inr d ↦ elim (sided d.0 map_place (there-for d.0 map_place d.1)) [
      | inl at ↦ absurd (apart d.0 at)
      | inr out ↦ absurd (out (Contains-here map_place (owners l)))
    ]
  ]

  -- when all of it is written, the file is prepared for the link: side sectors below k weren't rewritten, and are right
  pub prepared-of : (c : Image) (k : ℕ) → IsSided laid p.blocks.items p.sides.items p.size c
      → AreSidedFrom k c p.blocks.items p.sides.items p.size
      → EachOnce g.sides → ((j : ℕ) → ¬ (slice_get g.sides j ≡ Some fresh))
      → ((j : ℕ) (q : Place) → j < k → slice_get g.sides j ≡ Some q → Contains (owners l) q
      × (sector a q ≡ side_sector j g.blocks g.sides (record_length g.slot)))
      → IsPrepared a c l f g fresh p.map.bytes block
  prepared-of c k is from once no_side right = record {
    preparing = sided-preparing c is;
    map = map-there c is;
    block = elim (is fresh) [
      | inl e ↦ e ∙ sector-put_same mapped fresh block (length-put a map_place p.map.bytes ∙ full)
      | inr d ↦ absurd (no_side d.0 (there-for d.0 fresh d.1))
    ];
    sides = λ j q at. elim (cases_lt j k) [
      | inl lt ↦ elim (is q) [
        | inl e ↦ elim (laid-each q) [
          | inl s ↦ e ∙ s ∙ (right j q lt at).1
          | inr out ↦ absurd (out (right j q lt at).0)
        ]
        | inr d ↦ exact-for c d.0 q d.2 ∙ ap (λ i. side_sector i g.blocks g.sides (record_length g.slot))
            (get-once g.sides d.0 j q once (there-for d.0 q d.1) at)
      ]
      | inr high ↦ exact-for c j q (from j q high (ap (λ xs. slice_get xs j) sides ∙ at))
    ];
  }
