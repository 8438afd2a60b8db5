-- The side sectors of a relative file, as the first of them lists them.
use Rattle.std.proofs.Common.{◌≡◌, ◌+◌, ◌-◌, ◌*◌, ◌/◌, ◌%◌, ◌≤◌, Bool, List, [], ◌∷◌, ap, arith, false, length, refl, subst, sym, true, ◌∙◌, ℕ}
use Rattle.std.proofs.Common.{IsTrue}
use Rattle.std.specs.Prelude.{None, Option, Some, ◌↔◌, not, slice_get}
use Rattle.d64_image.specs.Images.{Image, Sector, sector}
use Rattle.d64_image.specs.declared.place.Place.{Place}
use Rattle.disk_layout.proofs.lemmas.chains.Names.{named-is}
use Rattle.disk_layout.proofs.lemmas.lists.Lists.{get-some}
use Rattle.disk_layout.specs.Chain.{named_at}
use Rattle.disk_layout.specs.Layout.{File, IsRelFile}
use Rattle.damaged_files.specs.cut.Cut.{IsListedPast}
use Rattle.disk_layout.specs.Listed.{ListsOne, ListsWell, used_of}

-- the last side sector that points to a block of the chain
pub last-side : (img : Image) (f : File) → IsRelFile img f → 1 ≤ length f.blocks
    → (q : Place) × (slice_get f.sides ((length f.blocks - 1) / 120) ≡ Some q)
last-side img f r some = get-some f.sides ((length f.blocks - 1) / 120) (omega (arith, some, r.count))

-- a list that has an element has a first one
get-head : (xs : List Place) (k : ℕ) (x : Place) → slice_get xs k ≡ Some x → (y : Place) × (slice_get xs 0 ≡ Some y)
get-head [] k x e = cc
get-head (y ∷ ys) k x e = (y, refl)

module _ (img : Image) (f : File) (r : IsRelFile img f) (k : ℕ) (q : Place) (at : slice_get f.sides k ≡ Some q) where
  -- the slot names the first, which lists this one
  first-lists : (p : Place) × (named_at f.slot.bytes 21 ≡ Some p) × (named_at (sector img p) (4 + 2 * k) ≡ Some q)
  first-lists =
      let (p, there) = get-head f.sides k q at in (
        p,
        named-is f.slot.bytes 21 p (r.first_side p there),
        named-is (sector img p) (4 + 2 * k) q ((r.sides 0 p there).sides k q at),
      )

  pub first-named : None ≡ named_at f.slot.bytes 21 → ⊥
  first-named none = let (p, named, lists) = first-lists in let both : None ≡ Some p = none ∙ named in cc

  pub listed-is : (first : Place) (bytes : Sector) (o : Option Place) → Some first ≡ named_at f.slot.bytes 21
      → bytes ≡ sector img first → o ≡ named_at bytes (4 + 2 * k) → o ≡ Some q
  listed-is first bytes o named read is =
      let (p, there, lists) = first-lists in
      let both : Some first ≡ Some p = named ∙ there in
      let same : first ≡ p = cc in
      is ∙ ap (λ (bs : Sector). named_at bs (4 + 2 * k)) (read ∙ ap (λ (x : Place). sector img x) same) ∙ lists

-- what is listed past the chain, as the last side sector was judged
pub past-judged : (img : Image) (never_grows : Type 0) (f : File) (blocks used : ℕ) (q : Place) (bytes : Sector) (w : Bool)
    → length f.blocks ≡ blocks → used ≡ (blocks - 1) % 120 + 1 → slice_get f.sides ((blocks - 1) / 120) ≡ Some q
    → bytes ≡ sector img q → (IsTrue w ↔ ListsWell img never_grows bytes used)
    → (IsTrue (not w) ↔ IsListedPast img never_grows f)
past-judged img never_grows f blocks used q bytes w count is at read told = (to w told, from w told)
  where
    n : used ≡ used_of (length f.blocks)
    n = is ∙ ap (λ m. (m - 1) % 120 + 1) (sym count)

    there : slice_get f.sides ((length f.blocks - 1) / 120) ≡ Some q
    there = ap (λ m. slice_get f.sides ((m - 1) / 120)) count ∙ at

    P : Sector → ℕ → Type 0
    P bs m = ListsWell img never_grows bs m

    to : (v : Bool) → (IsTrue v ↔ ListsWell img never_grows bytes used) → IsTrue (not v)
        → IsListedPast img never_grows f
    to true t h = cc
    to false t h = record {
      side = q;
      there = there;
      past = λ well.
          let here = subst (λ (bs : Sector). P bs used) (sym read) (subst (P (sector img q)) (sym n) well) in
          let no : false ≡ true = t.1 here in cc;
    }

    from : (v : Bool) → (IsTrue v ↔ ListsWell img never_grows bytes used) → IsListedPast img never_grows f
        → IsTrue (not v)
    from false t h = refl
    from true t h =
        let both : Some h.side ≡ Some q = sym h.there ∙ there in
        let same : q ≡ h.side = cc in
        let well = subst (P (sector img q)) n (subst (λ (bs : Sector). P bs used) read (t.0 refl)) in
        absurd (h.past (subst (λ (x : Place). P (sector img x) (used_of (length f.blocks))) same well))

pub none-listed : (q : Place) → Some q ≡ None → ⊥
none-listed q e = cc

pub same-place : (q p : Place) → Some q ≡ Some p → q ≡ p
same-place q p e = cc

-- the side sector behind one, as it was judged
pub behind-judged : (img : Image) (bytes read : Sector) (next : Place) (w : Bool) → Some next ≡ named_at bytes 0
    → read ≡ sector img next → (IsTrue w ↔ ListsOne read)
    → (IsTrue w ↔ ((q : Place) × (named_at bytes 0 ≡ Some q) × ListsOne (sector img q)))
behind-judged img bytes read next w is same told = (
  λ h. (next, sym is, subst ListsOne same (told.0 h)),
  λ (q, at, one).
      let e : next ≡ q = same-place next q (is ∙ at) in
      told.1 (subst ListsOne (ap (λ (p : Place). sector img p) (sym e) ∙ sym same) one),
)

pub same-bytes : (xs ys : Sector) → Some xs ≡ Some ys → xs ≡ ys
same-bytes xs ys e = cc
