-- Who owns what once a file has its next block: each place has one owner, and the map is that of the owners.
use Rattle.std.proofs.Common.{◌≡◌, ◌≢◌, ℕ, zero, suc, ◌+◌, ◌%◌, ◌⊎◌, inl, inr, List, [], ◌∷◌, ◌++◌, length, refl, sym}
use Rattle.std.proofs.Common.{◌∙◌, ap, arith, subst, append_assoc, length-append}
use Rattle.std.specs.Prelude.{Contains, Some, flat_map, slice_get}
use Rattle.std.proofs.lemmas.Grind.{flat_map-append}
use Rattle.d64_image.specs.Images.{Sector}
use Rattle.d64_image.specs.declared.place.Place.{Place}
use Rattle.disk_layout.proofs.lemmas.growth.Commit.{grown, once-grown, owners-grown}
use Rattle.disk_layout.proofs.lemmas.growth.NewSide.{longer_side, once-grown_side}
use Rattle.disk_layout.proofs.lemmas.growth.SideWrites.{IsLonger, get-append}
use Rattle.disk_layout.proofs.lemmas.lists.Once.{Contains-cases, Contains-here, Contains-there, insert-in, insert-out}
use Rattle.std.proofs.lemmas.List.Elements.{Contains-append_cases, Contains-append_left, Contains-append_right}
use Rattle.disk_layout.specs.Chain.{EachOnce}
use Rattle.disk_layout.specs.Directory.{map_place}
use Rattle.disk_layout.specs.Layout.{File, Layout, exchanged, file_owns, owners, sides_for}
use Rattle.disk_layout.specs.Map.{IsMapOf}

-- a map is that of its owners in whatever order they are listed
pub map-members : (bytes : Sector) (ps qs : List Place) → ((x : Place) → Contains qs x → Contains ps x)
    → ((x : Place) → Contains ps x → Contains qs x) → IsMapOf bytes ps → IsMapOf bytes qs
map-members bytes ps qs out into map = record {
  marked = λ x. (λ free c. (map.marked x).0 free (out x c), λ none. (map.marked x).1 (λ c. none (into x c)));
  counts = map.counts;
}

-- with strays in front
out-of_strays : (strays taken old new : List Place) → ((x : Place) → Contains new x → Contains (taken ++ old) x)
    → (x : Place) → Contains (strays ++ new) x → Contains (taken ++ (strays ++ old)) x
out-of_strays strays taken old new out x c = elim (Contains-append_cases strays new x c) [
  | inl s ↦ Contains-append_right taken (strays ++ old) x (Contains-append_left strays old x s)
  | inr d ↦ elim (Contains-append_cases taken old x (out x d)) [
    | inl t ↦ Contains-append_left taken (strays ++ old) x t
    | inr o ↦ Contains-append_right taken (strays ++ old) x (Contains-append_right strays old x o)
  ]
]

into-strays : (strays taken old new : List Place) → ((x : Place) → Contains (taken ++ old) x → Contains new x)
    → (x : Place) → Contains (taken ++ (strays ++ old)) x → Contains (strays ++ new) x
into-strays strays taken old new into x c = elim (Contains-append_cases taken (strays ++ old) x c) [
  | inl t ↦ Contains-append_right strays new x (into x (Contains-append_left taken old x t))
  | inr d ↦ elim (Contains-append_cases strays old x d) [
    | inl s ↦ Contains-append_left strays new x s
    | inr o ↦ Contains-append_right strays new x (into x (Contains-append_right taken old x o))
  ]
]

-- one more, in front or in the middle
pub front-out : (xs ys : List Place) (m z x : Place) → Contains (m ∷ (xs ++ z ∷ ys)) x → Contains (z ∷ m ∷ (xs ++ ys)) x
front-out xs ys m z x c = elim (insert-out (m ∷ xs) ys z x c) [
  | inl e ↦ (let P : Place → Type 0 = Contains (z ∷ m ∷ (xs ++ ys)) in subst P e (Contains-here z (m ∷ (xs ++ ys))))
  | inr d ↦ Contains-there x z (m ∷ (xs ++ ys)) d
]

pub front-in : (xs ys : List Place) (m z x : Place) → Contains (z ∷ m ∷ (xs ++ ys)) x → Contains (m ∷ (xs ++ z ∷ ys)) x
front-in xs ys m z x c = elim (Contains-cases x z (m ∷ (xs ++ ys)) c) [
  | inl e ↦ (let P : Place → Type 0 = Contains (m ∷ (xs ++ z ∷ ys)) in subst P e (middle xs))
  | inr d ↦ insert-in (m ∷ xs) ys z x d
]
  where
    middle : (ps : List Place) → Contains (m ∷ (ps ++ z ∷ ys)) z
    middle ps = Contains-there z m (ps ++ z ∷ ys) (there ps)
      where
        there : (qs : List Place) → Contains (qs ++ z ∷ ys) z
        there [] = Contains-here z ys
        there (y ∷ qs) = Contains-there z y (qs ++ z ∷ ys) (there qs)

front-shape : (dir B blocks sides A : List Place)
    → dir ++ (B ++ ((blocks ++ sides) ++ A)) ≡ (dir ++ (B ++ (blocks ++ sides))) ++ A
front-shape dir B blocks sides A = simp append_assoc

side-shape : (dir B blocks sides A : List Place) (y : Place) → dir ++ (B ++ ((blocks ++ (sides ++ y ∷ [])) ++ A))
    ≡ (dir ++ (B ++ (blocks ++ sides))) ++ (y ∷ A)
side-shape dir B blocks sides A y = simp append_assoc

-- the owners of a layout in which a file has one more side sector
pub owners-side : (l : Layout) (before after : List File) (f : File) (fresh side : Place) (u : ℕ) → (xs : List Place)
    × (ys : List Place) × (owners (exchanged l before (grown f fresh u f.sides) after) ≡ xs ++ ys)
    × (owners (exchanged l before (grown f fresh u (f.sides ++ side ∷ [])) after) ≡ xs ++ side ∷ ys)
unfolding owners
owners-side l before after f fresh side u = (
  l.directory ++ (flat_map file_owns before ++ ((f.blocks ++ fresh ∷ []) ++ f.sides)),
  flat_map file_owns after,
  ap (λ t. l.directory ++ t) (flat_map-append file_owns before (grown f fresh u f.sides ∷ after))
      ∙ front-shape l.directory (flat_map file_owns before) (f.blocks ++ fresh ∷ []) f.sides (flat_map file_owns after),
  ap (λ t. l.directory ++ t) (flat_map-append file_owns before (grown f fresh u (f.sides ++ side ∷ []) ∷ after))
      ∙ side-shape l.directory (flat_map file_owns before) (f.blocks ++ fresh ∷ []) f.sides (flat_map file_owns after)
      side,
)

-- what is owned once the file has its next block, with these side sectors, and these bytes of the map in place of the old
-- ones
pub record IsNextOf (l : Layout) (before after : List File) (f : File) (fresh : Place) (u : ℕ) (old bytes : Sector)
    (ss : List Place) : Type 0 where
  pub once : EachOnce (map_place ∷ owners (exchanged l before (grown f fresh u ss) after))
  pub long : IsLonger f (grown f fresh u ss)
  pub count : length ss ≡ sides_for (length f.blocks + 1)
  pub sided : (j : ℕ) (x : Place) → slice_get ss j ≡ Some x → (slice_get f.sides j ≡ Some x)
      ⊎ (¬ (Contains (map_place ∷ owners l) x))
  pub map : (strays : List Place) → IsMapOf old (strays ++ map_place ∷ owners l)
      → IsMapOf bytes (strays ++ map_place ∷ owners (exchanged l before (grown f fresh u ss) after))

get-last : (xs : List Place) (y x : Place) (j : ℕ) → slice_get (xs ++ y ∷ []) j ≡ Some x → (slice_get xs j ≡ Some x)
    ⊎ (y ≡ x)
get-last [] y x zero e = inr cc
get-last [] y x (suc j) e = cc
get-last (z ∷ xs) y x zero e = inl e
get-last (z ∷ xs) y x (suc j) e = get-last xs y x j e

module _ (l : Layout) (before after : List File) (f : File) (fresh : Place) (u : ℕ) (old bytes : Sector)
    (once : EachOnce (map_place ∷ owners l)) (split : l.files ≡ before ++ f ∷ after)
    (free : ¬ (Contains (map_place ∷ owners l) fresh)) (counted : length f.sides ≡ sides_for (length f.blocks)) where
  abbrev G : List Place
  G = owners (exchanged l before (grown f fresh u f.sides) after)

  abbrev sided : Place → List Place
  sided side = owners (exchanged l before (grown f fresh u (f.sides ++ side ∷ [])) after)

  -- the owners with the fresh block are those of before, and it
  block-out : (x : Place) → Contains (map_place ∷ G) x → Contains (fresh ∷ map_place ∷ owners l) x
  block-out x c =
      let (xs, ys, was, now) = owners-grown l before after f fresh u split in
      let A : List Place → Type 0 = λ ps. Contains (map_place ∷ ps) x in
      let B : List Place → Type 0 = λ ps. Contains (fresh ∷ map_place ∷ ps) x in
      subst B (sym was) (front-out xs ys map_place fresh x (subst A now c))

  block-in : (x : Place) → Contains (fresh ∷ map_place ∷ owners l) x → Contains (map_place ∷ G) x
  block-in x c =
      let (xs, ys, was, now) = owners-grown l before after f fresh u split in
      let A : List Place → Type 0 = λ ps. Contains (map_place ∷ ps) x in
      let B : List Place → Type 0 = λ ps. Contains (fresh ∷ map_place ∷ ps) x in
      subst A (sym now) (front-in xs ys map_place fresh x (subst B was c))

  -- the map with what was taken is that of the new owners
  map-taken : (taken new : List Place) → ((ps : List Place) → IsMapOf old ps → IsMapOf bytes (taken ++ ps))
      → ((x : Place) → Contains new x → Contains (taken ++ map_place ∷ owners l) x)
      → ((x : Place) → Contains (taken ++ map_place ∷ owners l) x → Contains new x) → (strays : List Place)
      → IsMapOf old (strays ++ map_place ∷ owners l) → IsMapOf bytes (strays ++ new)
  map-taken taken new owned out into strays was =
      map-members bytes (taken ++ (strays ++ map_place ∷ owners l)) (strays ++ new)
      (out-of_strays strays taken (map_place ∷ owners l) new out)
      (into-strays strays taken (map_place ∷ owners l) new into) (owned (strays ++ map_place ∷ owners l) was)

  pub next-block : length f.blocks % 120 ≢ 0 → ((ps : List Place) → IsMapOf old ps → IsMapOf bytes (fresh ∷ ps))
      → IsNextOf l before after f fresh u old bytes f.sides
  next-block within owned = record {
    once = once-grown l before after f fresh u once split free;
    long = record { slot = refl; blocks = λ k q e. get-append f.blocks (fresh ∷ []) k q e; sides = λ k q e. e };
    count = omega (arith, counted, within);
    sided = λ j x e. inl e;
    map = map-taken (fresh ∷ []) (map_place ∷ G) owned block-out block-in;
  }

  pub next-side : (side : Place) → length f.blocks % 120 ≡ 0 → ¬ (Contains (fresh ∷ map_place ∷ owners l) side)
      → ((ps : List Place) → IsMapOf old ps → IsMapOf bytes (side ∷ fresh ∷ ps))
      → IsNextOf l before after f fresh u old bytes (f.sides ++ side ∷ [])
  next-side side at_end out owned = record {
    once = once-grown_side l before after f fresh side u once split free none (λ e. out (let P : Place
        → Type 0 = Contains (fresh ∷ map_place ∷ owners l) in subst P e (Contains-here fresh (map_place ∷ owners l))));
    long = longer_side f fresh side u;
    count = length-append f.sides (side ∷ []) ∙ omega (arith, counted, at_end);
    sided = λ j x e. elim (get-last f.sides side x j e) [
      | inl d ↦ inl d
      | inr s ↦ inr (λ c. none (let P : Place → Type 0 = Contains (map_place ∷ owners l) in subst P (sym s) c))
    ];
    map = map-taken (side ∷ fresh ∷ []) (map_place ∷ sided side) owned side-out side-in;
  }
    where
      none : ¬ (Contains (map_place ∷ owners l) side)
      none c = out (Contains-there side fresh (map_place ∷ owners l) c)

      more : (ps qs : List Place) → ((x : Place) → Contains ps x → Contains qs x) → (x : Place)
          → Contains (side ∷ ps) x → Contains (side ∷ qs) x
      more ps qs h x c = elim (Contains-cases x side ps c) [
        | inl e ↦ (let A : Place → Type 0 = Contains (side ∷ qs) in subst A e (Contains-here side qs))
        | inr d ↦ Contains-there x side qs (h x d)
      ]

      side-out : (x : Place) → Contains (map_place ∷ sided side) x → Contains (side ∷ fresh ∷ map_place ∷ owners l) x
      side-out x c =
          let (xs, ys, was, now) = owners-side l before after f fresh side u in
          let A : List Place → Type 0 = λ ps. Contains (map_place ∷ ps) x in
          let B : List Place → Type 0 = λ ps. Contains (side ∷ map_place ∷ ps) x in
          more (map_place ∷ G) (fresh ∷ map_place ∷ owners l) block-out x
          (subst B (sym was) (front-out xs ys map_place side x (subst A now c)))

      side-in : (x : Place) → Contains (side ∷ fresh ∷ map_place ∷ owners l) x → Contains (map_place ∷ sided side) x
      side-in x c =
          let (xs, ys, was, now) = owners-side l before after f fresh side u in
          let A : List Place → Type 0 = λ ps. Contains (map_place ∷ ps) x in
          let B : List Place → Type 0 = λ ps. Contains (side ∷ map_place ∷ ps) x in
          subst A (sym now) (front-in xs ys map_place side x
          (subst B was (more (fresh ∷ map_place ∷ owners l) (map_place ∷ G) block-in x c)))
