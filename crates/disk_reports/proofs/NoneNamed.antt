-- If no side sector is named, all are exact, and there are as many as the blocks need.
use Rattle.std.proofs.Common.{◌≡◌, ◌≢◌, ◌+◌, ◌≤◌, ◌⊎◌, ◌++◌, ◌∷◌, [], ℕ, List, Some, ap, arith, inl, inr, length, length-append}
use Rattle.std.proofs.Common.{refl, subst, sym, ◌∙◌}
use Rattle.std.proofs.lemmas.Bool.{cases_eq, false≢true}
use Rattle.std.proofs.lemmas.List.{append-nil, nil_from_length}
use Rattle.std.proofs.lemmas.Slice.Eq.{bytes_eq-Decides}
use Rattle.std.specs.Prelude.{Bool, false, slice_get, true}
use Rattle.std.specs.Str.{bytes_eq}
use Rattle.d64_image.specs.Images.{Image, sector}
use Rattle.d64_image.specs.declared.place.Place.{Place}
use Rattle.disk_layout.proofs.lemmas.layouts.Exact.{exact-side}
use Rattle.disk_layout.proofs.lemmas.lists.Count.{places-few}
use Rattle.disk_layout.proofs.lemmas.lists.Lists.{get-some}
use Rattle.disk_layout.specs.Layout.{record_length, sides_for}
use Rattle.disk_layout.specs.Side.{side_sector}
use Rattle.disk_layout.specs.declared.slot.Slot.{Slot}
use Rattle.layout_check.specs.Exact.{AreExactSides, IsExactSide}
use Rattle.disk_reports.proofs.ToldSides.{rel-closed, whole-chain}
use Rattle.disk_reports.specs.SideLaws.{AreExactUnlessTold}
use Rattle.disk_reports.specs.Trails.{AreLinked, AreSides, IsIntact}

same-or-not : (xs ys : List ℕ) → (xs ≡ ys) ⊎ (xs ≢ ys)
same-or-not xs ys = by (bytes_eq xs ys) refl
  where
    by : (b : Bool) → bytes_eq xs ys ≡ b → (xs ≡ ys) ⊎ (xs ≢ ys)
    by true e = inl ((bytes_eq-Decides xs ys).0 e)
    by false e = inr (λ same. false≢true (sym e ∙ (bytes_eq-Decides xs ys).1 same))

at-seam : (xs : List Place) (y : Place) → slice_get (xs ++ y ∷ []) (length xs) ≡ Some y
at-seam [] y = refl
at-seam (x ∷ xs) y = at-seam xs y

-- the last of too few side sectors isn't intact
short-wrong : (img : Image) (s : Slot) (blocks sides : List Place) (first : Place) → length blocks ≤ 720
    → (are : AreLinked img first (sides_for (length blocks)) sides) → length sides ≢ sides_for (length blocks)
    → ¬ (IsIntact img s blocks sides (length are.front) are.last)
short-wrong img s blocks sides first few are short h = elim are.stops [
  | inl full ↦ short full
  | inr stops ↦
      let all : List Place = sides ++ h.more in
      let long : length sides ≡ length are.front + 1 = ap length are.places ∙ length-append are.front (are.last ∷ []) in
      let next = get-some all (length are.front + 1) (omega (arith, long, h.all, are.few, short)) in
      let side = exact-side img (record { slot = s; blocks = blocks; last = 0; sides = all }) (length are.front) are.last
      (omega (arith, h.all, few)) h.exact in
      stops next.0 (side.link next.0 next.1, side.sides (length are.front + 1) next.0 next.1)
]

-- one of enough side sectors is exact if it is intact
full-exact : (img : Image) (s : Slot) (blocks sides : List Place) (j : ℕ) (p : Place)
    → length sides ≡ sides_for (length blocks) → IsIntact img s blocks sides j p → IsExactSide img s blocks sides j p
full-exact img s blocks sides j p full h =
    let none : h.more ≡ [] = nil_from_length h.more (omega (arith, full, h.all, length-append sides h.more)) in
    let same : sides ++ h.more ≡ sides = ap (λ (xs : List Place). sides ++ xs) none ∙ append-nil sides in
    subst (λ (xs : List Place). IsExactSide img s blocks xs j p) same h.exact

pub exact-unless-told : AreExactUnlessTold
exact-unless-told img t trail whole none = by trail.sides
  where
    s : Slot
    s = t.slot

    blocks : List Place
    blocks = t.blocks.items

    sides : List Place
    sides = t.sides.items

    few : length blocks ≤ 720
    few =
        let chain = whole-chain img s blocks t.end (trail.closed (rel-closed s whole.0)) whole in
        omega (arith, places-few blocks chain.2.1.once)

    right : (j : ℕ) (p : Place) → slice_get sides j ≡ Some p → ¬ (¬ (IsIntact img s blocks sides j p))
    right j p at wrong = none p (inl ((trail.wrong p).1 (j, at, wrong)))

    complete : (first : Place) → AreLinked img first (sides_for (length blocks)) sides
        → length sides ≡ sides_for (length blocks)
    complete first are = elim (cases_eq (length sides) (sides_for (length blocks))) [
      | inl full ↦ full
      | inr short ↦ absurd (right (length are.front) are.last
          (ap (λ (xs : List Place). slice_get xs (length are.front)) are.places ∙ at-seam are.front are.last)
          (short-wrong img s blocks sides first few are short))
    ]

    exact : length sides ≡ sides_for (length blocks) → AreExactSides img s blocks sides
    exact full j p at = elim (same-or-not (sector img p) (side_sector j blocks sides (record_length s))) [
      | inl same ↦ same
      | inr other ↦ absurd (right j p at (λ h. other (full-exact img s blocks sides j p full h)))
    ]

    by : AreSides img s blocks t.end sides
        → (length sides ≡ sides_for (length blocks)) × AreExactSides img s blocks sides
    by (inl (z, first)) = let full = complete first.0 first.2 in (full, exact full)
    by (inr (inl (not-whole, e))) = absurd (not-whole whole)
    by (inr (inr (names, e))) = absurd (none s.sector (inr (refl, whole.0, names)))
