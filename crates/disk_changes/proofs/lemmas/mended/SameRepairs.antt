-- Two repairs of one image leave the same, and print the same.
use Rattle.std.proofs.Common.{ℕ, ◌≡◌, ◌≢◌, ◌↔◌, ◌≤◌, ◌⊎◌, Bool, true, false, List, [], ◌∷◌, ◌++◌}
use Rattle.std.proofs.Common.{length, length-append, inl, inr, refl, sym, ◌∙◌, ap, ap₂, subst, arith}
use Rattle.std.specs.Prelude.{Contains, ◌&&◌, not, if◌then◌else◌, bytes_eq, codes, flat_map, nat_eq}
use Rattle.std.proofs.lemmas.Bool.{cases_eq, false≢true, ne_eqb}
use Rattle.std.proofs.lemmas.List.Elements.{Contains-append_cases, Contains-append_left, Contains-append_right}
use Rattle.std.proofs.lemmas.Slice.Eq.{bytes_eq-Decides}
use Rattle.d64_image.specs.Images.{Image, Sector, sector}
use Rattle.d64_image.specs.Places.{places}
use Rattle.d64_image.specs.declared.place.Place.{Place}
use Rattle.disk_layout.proofs.lemmas.layouts.Layouts.{IsLayout-one}
use Rattle.disk_layout.proofs.lemmas.lists.Once.{Contains-cases, Contains-here, Contains-nil, Contains-there, insert-out}
use Rattle.disk_layout.specs.Chain.{EachOnce}
use Rattle.disk_layout.specs.Directory.{map_place}
use Rattle.disk_layout.specs.InOrder.{AreMade}
use Rattle.disk_layout.specs.Layout.{IsLayout, Layout, owners}
use Rattle.disk_layout.specs.Map.{map_bit}
use Rattle.disk_layout.specs.Texts.{place_text}
use Rattle.layout_check.specs.Keeping.{AreStray}
use Rattle.layout_check.specs.RepairOrder.{IsRightBut, repair_order, sides_of}
use Rattle.disk_changes.specs.mended.Repairs.{AreLeft, IsMendedAs, kept_text, mended_at}
use Rattle.disk_changes.specs.mended.Repairs.{changed_text, mended_text}

-- of distinct places that are among others there are no more
split : (ys : List Place) (x : Place) → Contains ys x → (before after : List Place) × (ys ≡ before ++ x ∷ after)
split [] x c = absurd (Contains-nil x c)
split (y ∷ ys) x c = elim (Contains-cases x y ys c) [
  | inl e ↦ ([], ys, ap (λ (z : Place). z ∷ ys) e)
  | inr d ↦
      let (before, after, is) = split ys x d in
      (y ∷ before, after, ap (λ (zs : List Place). y ∷ zs) is)
]

fewer : (xs ys : List Place) → EachOnce xs → ((p : Place) → Contains xs p → Contains ys p) → length xs ≤ length ys
fewer [] ys once among = omega arith
fewer (x ∷ xs) ys once among =
    let (before, after, is) = split ys x (among x (Contains-here x xs)) in
    let rest : length xs ≤ length (before ++ after) = fewer xs (before ++ after) once.1
    (λ p c. elim (insert-out before after x p (let P : List Place → Type 0 = λ zs. Contains zs p in
    subst P is (among p (Contains-there p x xs c)))) [
      | inl e ↦ absurd (once.0 (let P : Place → Type 0 = Contains xs in subst P (sym e) c))
      | inr d ↦ d
    ]) in
    omega (
      arith,
      rest,
      ap (λ (zs : List Place). length zs) is,
      length-append before (x ∷ after),
      length-append before after,
    )

-- the same sectors are left
left-same : (free : Bool) (img : Image) (l m : Layout) (xs ys : List Place) → IsLayout img l → IsLayout img m
    → AreLeft free img l xs → AreLeft free img m ys → ((p : Place) → Contains xs p ↔ Contains ys p)
    × (length xs ≡ length ys)
left-same true img l m xs ys is also x y = rw (x, y) (λ p. (λ c. c, λ c. c), refl)
left-same false img l m xs ys is also x y =
    let P : Layout → Type 0 = λ k. AreStray img k ys in
    let z : AreStray img l ys = subst P (sym (IsLayout-one img l m is also)) y in
    let to : (p : Place) → Contains xs p → Contains ys p = λ p c. (z.those p).1 ((x.those p).0 c) in
    let back : (p : Place) → Contains ys p → Contains xs p = λ p c. (x.those p).1 ((z.those p).0 c) in
    (λ p. (to p, back p), omega (arith, fewer xs ys x.once to, fewer ys xs z.once back))

module _ (l : Layout) (xs ys : List Place) (same : (p : Place) → Contains xs p ↔ Contains ys p) where
  taken-to : (p : Place) → Contains (xs ++ map_place ∷ owners l) p → Contains (ys ++ map_place ∷ owners l) p
  taken-to p c = elim (Contains-append_cases xs (map_place ∷ owners l) p c) [
    | inl x ↦ Contains-append_left ys (map_place ∷ owners l) p ((same p).0 x)
    | inr own ↦ Contains-append_right ys (map_place ∷ owners l) p own
  ]

  taken-back : (p : Place) → Contains (ys ++ map_place ∷ owners l) p → Contains (xs ++ map_place ∷ owners l) p
  taken-back p c = elim (Contains-append_cases ys (map_place ∷ owners l) p c) [
    | inl y ↦ Contains-append_left xs (map_place ∷ owners l) p ((same p).1 y)
    | inr own ↦ Contains-append_right xs (map_place ∷ owners l) p own
  ]

  right-same : (p : Place) (bytes : Sector) → IsRightBut xs l p bytes → IsRightBut ys l p bytes
  right-same p bytes h = record {
    map = λ e. record {
      marked = λ q. (
        λ free c. ((h.map e).marked q).0 free (taken-back q c),
        λ none. ((h.map e).marked q).1 (λ c. none (taken-to q c)),
      );
      counts = (h.map e).counts;
    };
    side = h.side;
    counts = h.counts;
  }

by-bytes : (x y : List ℕ) → (x ≡ y) ⊎ (x ≢ y)
by-bytes x y = go (bytes_eq x y) refl
  where
    go : (b : Bool) → bytes_eq x y ≡ b → (x ≡ y) ⊎ (x ≢ y)
    go true e = inl ((bytes_eq-Decides x y).0 e)
    go false e = inr (λ s. false≢true (sym e ∙ (bytes_eq-Decides x y).1 s))

other-bytes : (x y : List ℕ) → x ≢ y → bytes_eq x y ≡ false
other-bytes x y ne = go (bytes_eq x y) refl
  where
    go : (b : Bool) → bytes_eq x y ≡ b → bytes_eq x y ≡ false
    go true e = absurd (ne ((bytes_eq-Decides x y).0 e))
    go false e = e

-- what one of two leaves as it was, the other does too
stays : (Right Other : Place → Sector → Type 0) (ps : List Place) (a b c : Image)
    → ((p : Place) (bytes : Sector) → Right p bytes → Other p bytes) → AreMade Right ps a b → AreMade Other ps a c
    → (p : Place) → sector b p ≡ sector a p → sector c p ≡ sector a p
stays Right Other ps a b c to first second p e = elim (by-bytes (sector c p) (sector a p)) [
  | inl is ↦ is
  | inr ne ↦ absurd (ne (second.rest p (λ own. ne (second.kept p (to p (sector a p)
      (let P : Sector → Type 0 = Right p in subst P e (first.right p own)))))))
]

eq-same : (x y z : List ℕ) → (y ≡ x → z ≡ x) → (z ≡ x → y ≡ x) → bytes_eq x y ≡ bytes_eq x z
eq-same x y z to back = elim (by-bytes x y) [
  | inl e ↦ (bytes_eq-Decides x y).1 e ∙ sym ((bytes_eq-Decides x z).1 (sym (to (sym e))))
  | inr ne ↦ other-bytes x y ne ∙ sym (other-bytes x z (λ e. ne (sym (back (sym e)))))
]

one-same : (x y : ℕ) → (x ≡ 1 → y ≡ 1) → (y ≡ 1 → x ≡ 1) → nat_eq x 1 ≡ nat_eq y 1
one-same x y to back = elim (cases_eq x 1) [
  | inl e ↦ ap (λ (k : ℕ). nat_eq k 1) (e ∙ sym (to e))
  | inr ne ↦ ne_eqb x 1 ne ∙ sym (ne_eqb y 1 (λ e. ne (back e)))
]

lines-same : (f g : Place → List ℕ) (ps : List Place) → ((p : Place) → f p ≡ g p) → flat_map f ps ≡ flat_map g ps
lines-same f g [] same = refl
lines-same f g (p ∷ ps) same = ap₂ (λ (x y : List ℕ). x ++ y) (same p) (lines-same f g ps same)

module _ (free : Bool) (img one other : Image) (m n : ℕ) (h : IsMendedAs free img one m)
    (k : IsMendedAs free img other n) where
  left : ((p : Place) → Contains h.strays p ↔ Contains k.strays p) × (length h.strays ≡ length k.strays)
  left = left-same free img h.before k.before h.strays k.strays h.sound k.sound h.are k.are

  pub count-same : m ≡ n
  count-same = h.count ∙ left.1 ∙ sym k.count

  other-made : AreMade (IsRightBut k.strays h.before) (repair_order h.before) img other
  other-made = let P : Layout → Type 0 = λ x. AreMade (IsRightBut k.strays x) (repair_order x) img other in
      subst P (IsLayout-one img k.before h.before k.sound h.sound) k.made

  to : (p : Place) (bytes : Sector) → IsRightBut h.strays h.before p bytes → IsRightBut k.strays h.before p bytes
  to = right-same h.before h.strays k.strays left.0

  back : (p : Place) (bytes : Sector) → IsRightBut k.strays h.before p bytes → IsRightBut h.strays h.before p bytes
  back = right-same h.before k.strays h.strays (λ p. ((left.0 p).1, (left.0 p).0))

  changed-same : (p : Place) → bytes_eq (sector img p) (sector one p) ≡ bytes_eq (sector img p) (sector other p)
  changed-same p = eq-same (sector img p) (sector one p) (sector other p)
      (stays (IsRightBut h.strays h.before) (IsRightBut k.strays h.before) (repair_order h.before) img one other to
      h.made other-made p)
      (stays (IsRightBut k.strays h.before) (IsRightBut h.strays h.before) (repair_order h.before) img other one back
      other-made h.made p)

  here : Contains (repair_order h.before) map_place
  here = Contains-here map_place (sides_of h.before.files ++ h.before.directory)

  first-right : IsRightBut k.strays h.before map_place (sector one map_place)
  first-right = to map_place (sector one map_place) (h.made.right map_place here)

  second-right : IsRightBut k.strays h.before map_place (sector other map_place)
  second-right = other-made.right map_place here

  free-same : (p : Place) → nat_eq (map_bit (sector one map_place) p.track p.sector) 1
      ≡ nat_eq (map_bit (sector other map_place) p.track p.sector) 1
  free-same p = one-same (map_bit (sector one map_place) p.track p.sector)
      (map_bit (sector other map_place) p.track p.sector)
      (λ e. ((second-right.map refl).marked p).1 (((first-right.map refl).marked p).0 e))
      (λ e. ((first-right.map refl).marked p).1 (((second-right.map refl).marked p).0 e))

  line-same : (p : Place) → mended_at img one (sector img map_place) (sector one map_place) p
      ≡ mended_at img other (sector img map_place) (sector other map_place) p
  line-same p = ap₂ (λ (same freed : Bool). if same
      then (if not (nat_eq (map_bit (sector img map_place) p.track p.sector) 1) && freed
      then codes "FREED " ++ place_text p ++ codes "\n" else [])
      else codes "MENDED " ++ place_text p ++ codes "\n") (changed-same p) (free-same p)

  pub text-same : mended_text img one m ≡ mended_text img other n
  unfolding mended_text changed_text
  text-same = ap₂ (λ (x y : List ℕ). x ++ y) (lines-same _ _ places line-same) (ap kept_text count-same)
