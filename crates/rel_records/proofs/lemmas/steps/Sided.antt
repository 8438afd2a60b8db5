-- Side sectors written one after another.
use Rattle.std.proofs.Common.{◌≡◌, ◌≢◌, ℕ, zero, suc, ◌+◌, ◌<◌, ◌≤◌, ◌-◌, inl, inr, List, [], ◌∷◌, length, Result, Ok}
use Rattle.std.proofs.Common.{Err, OnOk, refl, sym, ◌∙◌, ap, arith, subst}
use Rattle.std.specs.Prelude.{Contains, OnErr, Some, slice_get}
use Rattle.std.proofs.lemmas.Bool.{cases_lt}
use Rattle.d64_image.proofs.Images.{sector-put_other, sector-put_same}
use Rattle.d64_image.proofs.Moments.{at_end, changes_then, changes_weaker, write_change}
use Rattle.d64_image.proofs.Places.{same_or_other}
use Rattle.d64_image.specs.History.{Changes, HeldOnly, History, OldOr}
use Rattle.d64_image.specs.Images.{Image, Sector, put, sector}
use Rattle.d64_image.specs.declared.place.Place.{Place}
use Rattle.disk_layout.proofs.lemmas.layouts.Exact.{get-lt}
use Rattle.disk_layout.proofs.lemmas.layouts.Layouts.{get-contains}
use Rattle.disk_layout.specs.Chain.{EachOnce}
use Rattle.disk_layout.specs.Side.{side_sector}
use Rattle.disk_layout.specs.Directory.{map_place}
use Rattle.rel_records.specs.declared.growth.step_parts.Growing.{Growing}
use Rattle.rel_records.specs.growth.Steps.{AreSidedFrom, IsBefore, IsSideOr, IsSided, IsSidedInOrder}

-- one write is counted at most, whatever is answered
pub counted_once : {D T E : Type 0} (S : History D) (a b : D) (r : Result T E) → OnOk r (S.writes b ≤ S.writes a + 1)
    → OnErr r (S.writes b ≡ S.writes a) → S.writes b ≤ S.writes a + 1
counted_once S a b (Ok x) h k = h
counted_once S a b (Err e) h k = omega (arith, k)

pub get-once : (xs : List Place) (i j : ℕ) (x : Place) → EachOnce xs → slice_get xs i ≡ Some x → slice_get xs j ≡ Some x
    → i ≡ j
get-once [] i j x once a b = cc
get-once (y ∷ xs) zero zero x once a b = refl
get-once (y ∷ xs) zero (suc j) x once a b = let s : y ≡ x = cc in
    absurd (once.0 (let P : Place → Type 0 = Contains xs in subst P (sym s) (get-contains xs j x b)))
get-once (y ∷ xs) (suc i) zero x once a b = let s : y ≡ x = cc in
    absurd (once.0 (let P : Place → Type 0 = Contains xs in subst P (sym s) (get-contains xs i x a)))
get-once (y ∷ xs) (suc i) (suc j) x once a b = ap suc (get-once xs i j x once.1 a b)

pub get-there : (xs : List Place) (n : ℕ) → n < length xs → (x : Place) × (slice_get xs n ≡ Some x)
get-there [] n lt = absurd (omega arith)
get-there (x ∷ xs) zero lt = (x, refl)
get-there (x ∷ xs) (suc n) lt = get-there xs n (omega arith)

pub sided-none : (old : Image) (blocks sides : List Place) (L : ℕ) → IsSided old blocks sides L old
sided-none old blocks sides L q = inl refl

pub sided-put : (old c : Image) (blocks sides : List Place) (L j : ℕ) (p : Place) → length c ≡ 683
    → slice_get sides j ≡ Some p → IsSided old blocks sides L c
    → IsSided old blocks sides L (put c p (side_sector j blocks sides L))
sided-put old c blocks sides L j p full at h q = elim (same_or_other p q) [
  | inl e ↦ inr (
    j,
    at ∙ ap Some e,
    (let P : Place → Type 0 = λ x. sector (put c p (side_sector j blocks sides L)) x
        ≡ side_sector j blocks sides L in subst P e (sector-put_same c p (side_sector j blocks sides L) full)),
  )
  | inr ne ↦
      let same : sector (put c p (side_sector j blocks sides L)) q ≡ sector c q =
      sector-put_other c p q (side_sector j blocks sides L) ne in
      elim (h q) [
        | inl d ↦ inl (same ∙ d)
        | inr d ↦ inr (d.0, d.1, same ∙ d.2)
      ]
]

-- a run and then a run
pub sided-then : (old b c : Image) (blocks sides : List Place) (L : ℕ) → IsSided old blocks sides L b
    → IsSided b blocks sides L c → IsSided old blocks sides L c
sided-then old b c blocks sides L first second q = elim (second q) [
  | inl e ↦ elim (first q) [
    | inl d ↦ inl (e ∙ d)
    | inr d ↦ inr (d.0, d.1, e ∙ d.2)
  ]
  | inr e ↦ inr e
]

module _ {D : Type 0} (S : History D) where
  pub sides_then : (a b c : D) (blocks sides : List Place) (L k m n : ℕ) → k + m ≤ n
      → Changes S a b k (IsSided (S.image a) blocks sides L) → IsSided (S.image a) blocks sides L (S.image b)
      → Changes S b c m (IsSided (S.image b) blocks sides L) → Changes S a c n (IsSided (S.image a) blocks sides L)
  sides_then a b c blocks sides L k m n le first now second =
      changes_then S a b c k m n _ le first (changes_weaker S b c m m _ _ (omega arith)
      (λ x h. sided-then (S.image a) (S.image b) x blocks sides L now h) second)

-- the first k of the side sectors are written
pub record AreWrittenBelow (old now : Image) (blocks sides : List Place) (L k : ℕ) : Type 0 where
  pub done : (j : ℕ) (q : Place) → j < k → slice_get sides j ≡ Some q → sector now q ≡ side_sector j blocks sides L
  pub rest : (q : Place) → ((j : ℕ) → j < k → ¬ (slice_get sides j ≡ Some q)) → sector now q ≡ sector old q

pub below-none : (old : Image) (blocks sides : List Place) (L : ℕ) → AreWrittenBelow old old blocks sides L 0
below-none old blocks sides L = record { done = λ j q lt at. absurd (omega arith); rest = λ q out. refl }

pub below-more : (old now : Image) (blocks sides : List Place) (L k : ℕ) (p : Place) → length now ≡ 683 → EachOnce sides
    → slice_get sides k ≡ Some p → AreWrittenBelow old now blocks sides L k
    → AreWrittenBelow old (put now p (side_sector k blocks sides L)) blocks sides L (k + 1)
below-more old now blocks sides L k p full once at h = record {
  done = λ j q lt there. elim (same_or_other p q) [
    | inl e ↦
        let one : j ≡ k = get-once sides j k p once (there ∙ ap Some (sym e)) at in
        let P : Place → Type 0 = λ x. sector (put now p (side_sector k blocks sides L)) x ≡ side_sector k blocks sides
        L in
        subst P e (sector-put_same now p (side_sector k blocks sides L) full)
        ∙ ap (λ i. side_sector i blocks sides L) (sym one)
    | inr ne ↦
        let other : j ≢ k = λ one. ne (let both : Some p ≡ Some q = sym at ∙ ap (slice_get sides) (sym one)
        ∙ there in cc) in
        sector-put_other now p q (side_sector k blocks sides L) ne ∙ h.done j q (omega (arith, lt, other)) there
  ];
  rest = λ q out. sector-put_other now p q (side_sector k blocks sides L) (λ e. out k (omega arith) (at ∙ ap Some e))
      ∙ h.rest q (λ j lt. out j (omega (arith, lt)));
}

-- with those from k on that were right, all are
pub below-all : (old now : Image) (blocks sides : List Place) (L k : ℕ) → EachOnce sides
    → AreWrittenBelow old now blocks sides L k → AreSidedFrom k old blocks sides L → AreSidedFrom 0 now blocks sides L
below-all old now blocks sides L k once h from j q le at = elim (cases_lt j k) [
  | inl lt ↦ h.done j q lt at
  | inr high ↦ h.rest q (λ i lt there. let one : i ≡ j = get-once sides i j q once there at in
      omega (arith, lt, high, one)) ∙ from j q (omega (arith, high)) at
]

-- the last side sector is written
pub sided-last : (old now : Image) (blocks sides : List Place) (L k : ℕ) → k + 1 ≡ length sides → length old ≡ 683
    → ((q : Place) → slice_get sides k ≡ Some q → now ≡ put old q (side_sector k blocks sides L))
    → AreSidedFrom k now blocks sides L
sided-last old now blocks sides L k last full wrote j q le at =
    let one : j ≡ k = omega (arith, le, last, get-lt sides j q at) in
    let here : slice_get sides k ≡ Some q = ap (slice_get sides) (sym one) ∙ at in
    ap (λ i. sector i q) (wrote q here) ∙ sector-put_same old q (side_sector k blocks sides L) full
    ∙ ap (λ i. side_sector i blocks sides L) (sym one)

pub in-order-none : (old : Image) (blocks sides : List Place) (L : ℕ) → IsSidedInOrder old blocks sides L old
in-order-none old blocks sides L = record { each = sided-none old blocks sides L; first = inl refl }

-- one side sector
pub side-sided : (old c : Image) (number : ℕ) (blocks sides : List Place) (L : ℕ) → length old ≡ 683
    → number < length sides → IsSideOr old number blocks sides L c → IsSided old blocks sides L c
side-sided old c number blocks sides L full lt (inl e) q = inl (ap (λ i. sector i q) e)
side-sided old c number blocks sides L full lt (inr wrote) q =
    let (p, at) = get-there sides number lt in
    let P : Image → Type 0 = IsSided old blocks sides L in
    subst P (sym (wrote p at)) (sided-put old old blocks sides L number p full at (sided-none old blocks sides L)) q

-- the last one
pub last-in-order : (old c : Image) (number : ℕ) (blocks sides : List Place) (L : ℕ) → length old ≡ 683
    → number + 1 ≡ length sides → IsSideOr old number blocks sides L c → IsSidedInOrder old blocks sides L c
last-in-order old c number blocks sides L full last is = record {
  each = side-sided old c number blocks sides L full (omega (arith, last)) is;
  first = elim is [
    | inl e ↦ inl e
    | inr wrote ↦
        let n : number ≡ length sides - 1 = omega (arith, last) in
        let P : ℕ → Type 0 = λ k. AreSidedFrom k c blocks sides L in
        inr (subst P n (sided-last old c blocks sides L number last full wrote))
  ];
}

-- those that have their exact bytes keep them
pub sided-keeps : (b c : Image) (blocks sides : List Place) (L k : ℕ) → EachOnce sides
    → AreSidedFrom k b blocks sides L → IsSided b blocks sides L c → AreSidedFrom k c blocks sides L
sided-keeps b c blocks sides L k once from is j q le at = elim (is q) [
  | inl e ↦ e ∙ from j q le at
  | inr d ↦ d.2 ∙ ap (λ i. side_sector i blocks sides L) (get-once sides d.0 j q once d.1 at)
]

module _ {D : Type 0} (S : History D) (blocks sides : List Place) (L : ℕ) where
  pub side_change : (a b : D) (number : ℕ) → number < length sides
      → Changes S a b 1 (IsSideOr (S.image a) number blocks sides L)
      → Changes S a b 1 (IsSided (S.image a) blocks sides L)
  side_change a b number lt h = changes_weaker S a b 1 1 _ _ (omega arith)
      (λ c is. side-sided (S.image a) c number blocks sides L (S.whole a).size lt is) h

  pub last_change : (a b : D) (number : ℕ) → number + 1 ≡ length sides
      → Changes S a b 1 (IsSideOr (S.image a) number blocks sides L)
      → Changes S a b 1 (IsSidedInOrder (S.image a) blocks sides L)
  last_change a b number last h = changes_weaker S a b 1 1 _ _ (omega arith)
      (λ c is. last-in-order (S.image a) c number blocks sides L (S.whole a).size last is) h

  -- the last one, and then others
  pub order_then : (a b c : D) (k n : ℕ) → 1 + k ≤ n → EachOnce sides
      → Changes S a b 1 (IsSidedInOrder (S.image a) blocks sides L)
      → AreSidedFrom (length sides - 1) (S.image b) blocks sides L
      → Changes S b c k (IsSided (S.image b) blocks sides L)
      → Changes S a c n (IsSidedInOrder (S.image a) blocks sides L)
  order_then a b c k n le once first from second =
      let now : IsSidedInOrder (S.image a) blocks sides L (S.image b) = at_end S a b _ first.held in
      changes_then S a b c 1 k n _ le first (changes_weaker S b c k k _ _ (omega arith)
      (λ x h. record {
        each = sided-then (S.image a) (S.image b) x blocks sides L now.each h;
        first = inr (sided-keeps (S.image b) x blocks sides L (length sides - 1) once from h);
      }) second)

module _ {D : Type 0} (S : History D) (p : Growing) (fresh : Place) (block : Sector) where
  -- the map is written, and the fresh block
  pub before_two : (a b c : D) (m : Place) → m ≡ map_place → S.image b ≡ put (S.image a) m p.map.bytes
      → HeldOnly S a b (OldOr (S.image a) (put (S.image a) m p.map.bytes)) → S.writes b ≤ S.writes a + 1
      → HeldOnly S b c (OldOr (S.image b) (put (S.image b) fresh block)) → S.writes c ≤ S.writes b + 1
      → Changes S a c 2 (IsBefore (S.image a) p fresh block)
  before_two a b c m is done first one second two =
      let mapped : S.image b ≡ put (S.image a) map_place p.map.bytes = done
      ∙ ap (λ x. put (S.image a) x p.map.bytes) is in
      changes_then S a b c 1 1 2 _ (omega arith)
      (write_change S a b (S.image a) (put (S.image a) m p.map.bytes) _ first one (inl refl)
      (inr (inl (ap (λ x. put (S.image a) x p.map.bytes) is))))
      (write_change S b c (S.image b) (put (S.image b) fresh block) _ second two (inr (inl mapped))
      (inr (inr (let P : Image → Type 0 = λ i. IsSidedInOrder (put i fresh block) p.blocks.items p.sides.items
      p.size (put (S.image b) fresh block) in
      subst P mapped (in-order-none (put (S.image b) fresh block) p.blocks.items p.sides.items p.size)))))

  -- and side sectors
  pub before_sides : (a b c d : D) (m : Place) (k n : ℕ) → 2 + k ≤ n → m ≡ map_place
      → S.image b ≡ put (S.image a) m p.map.bytes → S.image c ≡ put (S.image b) fresh block
      → Changes S a c 2 (IsBefore (S.image a) p fresh block)
      → Changes S c d k (IsSidedInOrder (S.image c) p.blocks.items p.sides.items p.size)
      → Changes S a d n (IsBefore (S.image a) p fresh block)
  before_sides a b c d m k n le is done then first sides =
      changes_then S a c d 2 k n _ le first (changes_weaker S c d k k _ _ (omega arith)
      (λ x h. inr (inr (let P : Image → Type 0 = λ i. IsSidedInOrder i p.blocks.items p.sides.items p.size x in
      subst P (then ∙ ap (λ i. put i fresh block) (done ∙ ap (λ x. put (S.image a) x p.map.bytes) is)) h))) sides)
