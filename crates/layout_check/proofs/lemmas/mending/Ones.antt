-- The bits of a track: how many are ones, and which are right.
use Rattle.std.proofs.Common.{
  ℕ,
  Bool,
  IsTrue,
  true,
  false,
  inl,
  inr,
  ◌↔◌,
  ◌≡◌,
  ◌≢◌,
  ◌<◌,
  ◌≤◌,
  ◌+◌,
  min,
  Some,
  None,
  List,
  sym,
  ◌∙◌,
  ap,
  refl,
  arith,
  subst,
  ◌*◌,
  ◌/◌,
  ◌%◌,
  slice_index,
}
use mathlib.Core.Bool.{beq, not, ◌&&◌}
use mir.Val.{bool_byte}
use Rattle.std.specs.Prelude.{nat_eq, sum_by}
use Rattle.std.proofs.Math.Decide.{dec_lt}
use Rattle.std.proofs.lemmas.Bool.{cases_eq, eqb-true, false≢true}
use Rattle.std.proofs.lemmas.Nat.Bits.{bit_at-lt}
use Rattle.d64_image.proofs.Places.{place_at-some, same_place, sector_small, few_sectors}
use Rattle.d64_image.specs.Geometry.{sectors_on}
use Rattle.d64_image.specs.Places.{place_at}
use Rattle.d64_image.specs.declared.place.Place.{Place}
use Rattle.disk_layout.proofs.lemmas.lists.Sums.{sum-same, sum_more}
use Rattle.disk_layout.proofs.lemmas.chains.Names.{past-track}
use Rattle.disk_layout.specs.Map.{IsFree, map_bit, numbers_below}
use Rattle.layout_check.specs.Marked.{IsMarked, ones_on}
use Rattle.layout_check.specs.Owners.{owner_of}
use Rattle.layout_check.specs.declared.owners.Owners.{Owners}

-- how many of the sectors of a track below n the bits call free
unfoldable pub ones_to : List ℕ → ℕ → ℕ → ℕ
ones_to bytes track n = sum_by (map_bit bytes track) (numbers_below (min n (sectors_on track)))

pub ones-none : (bytes : List ℕ) (track : ℕ) → ones_to bytes track 0 ≡ 0
unfolding ones_to
ones-none bytes track = let e : min 0 (sectors_on track) ≡ 0 = omega arith in rw e refl

pub ones-all : (bytes : List ℕ) (track n : ℕ) → 24 ≤ n → ones_to bytes track n ≡ ones_on bytes track
unfolding ones_to
ones-all bytes track n h = let e : min n (sectors_on track) ≡ sectors_on track = omega (arith, few_sectors track) in
    rw e refl

-- with no further sector on the track all of it was counted
pub ones-ended : (bytes : List ℕ) (track n : ℕ) → None ≡ place_at track n → ones_to bytes track n ≡ ones_on bytes track
unfolding ones_to
ones-ended bytes track n h = let e : min n (sectors_on track) ≡ sectors_on track =
    omega (arith, past-track track n h) in rw e refl

pub ones-past : (bytes : List ℕ) (track n : ℕ) → None ≡ place_at track n
    → ones_to bytes track (n + 1) ≡ ones_to bytes track n
unfolding ones_to
ones-past bytes track n h =
    let e : min (n + 1) (sectors_on track) ≡ min n (sectors_on track) = omega (arith, past-track track n h) in
    rw e refl

ones-next : (bytes : List ℕ) (track n k : ℕ) (p : Place) → Some p ≡ place_at track n → k ≡ map_bit bytes track n
    → ones_to bytes track (n + 1) ≡ ones_to bytes track n + k
unfolding ones_to
ones-next bytes track n k p h e =
    let both = place_at-some track n p (sym h) in
    let low : n < sectors_on track = rw (← both.0, ← both.1) p.on_disk in
    let a : min (n + 1) (sectors_on track) ≡ n + 1 = omega arith in
    let b : min n (sectors_on track) ≡ n = omega arith in
    rw (a, b) (sym (sum_more (map_bit bytes track) n _ k refl e))

pub ones-free : (bytes : List ℕ) (track n : ℕ) (p : Place) → Some p ≡ place_at track n → IsFree bytes p
    → ones_to bytes track (n + 1) ≡ ones_to bytes track n + 1
ones-free bytes track n p h free =
    let both = place_at-some track n p (sym h) in
    ones-next bytes track n 1 p h (sym free ∙ ap (λ (t : ℕ). map_bit bytes t p.sector) both.0
    ∙ ap (map_bit bytes track) both.1)

pub ones-taken : (bytes : List ℕ) (track n : ℕ) (p : Place) → Some p ≡ place_at track n → ¬ (IsFree bytes p)
    → ones_to bytes track (n + 1) ≡ ones_to bytes track n
ones-taken bytes track n p h taken =
    let both = place_at-some track n p (sym h) in
    let none : 0 ≡ map_bit bytes p.track p.sector =
    omega (arith, bit_at-lt (slice_index bytes (4 * p.track + 1 + p.sector / 8)) (p.sector % 8), taken) in
    omega (
      arith,
      ones-next bytes track n 0 p h (none ∙ ap (λ (t : ℕ). map_bit bytes t p.sector) both.0
          ∙ ap (map_bit bytes track) both.1),
    )

-- a bit that was asked, counted
pub ones-judged : (bytes : List ℕ) (track n : ℕ) (p : Place) → Some p ≡ place_at track n → (free : Bool)
    → (IsTrue free ↔ IsFree bytes p) → ones_to bytes track (n + 1) ≡ ones_to bytes track n + bool_byte free
ones-judged bytes track n p h true tells = ones-free bytes track n p h (tells.0 refl)
ones-judged bytes track n p h false tells = omega (arith, ones-taken bytes track n p h (λ f. false≢true (tells.1 f)))

pub bit-small : (b : Bool) → bool_byte b ≤ 1
bit-small true = omega arith
bit-small false = omega arith

pub free-owner : (t : Owners) (p : Place) → ¬ (owner_of t p ≢ 255) → owner_of t p ≡ 255
free-owner t p h = elim (cases_eq (owner_of t p) 255) [ inl e ↦ e | inr ne ↦ absurd (h ne) ]

-- a bit and an owner that were asked: the map is right where one of both is there, and not both
pub told-marked : (bytes : List ℕ) (t : Owners) (p : Place) (free owned : Bool) → (IsTrue free ↔ IsFree bytes p)
    → (IsTrue owned ↔ (owner_of t p ≢ 255)) → beq free owned ≡ false → IsMarked bytes t p
told-marked bytes t p true true is has same = absurd (false≢true (sym same))
told-marked bytes t p true false is has same = (
  (λ _. free-owner t p (λ other. false≢true (has.1 other))),
  (λ _. is.0 refl),
)
told-marked bytes t p false true is has same = ((λ f. absurd (false≢true (is.1 f))), (λ e. absurd (has.0 refl e)))
told-marked bytes t p false false is has same = absurd (false≢true (sym same))

pub told-unmarked : (bytes : List ℕ) (t : Owners) (p : Place) (free owned : Bool) → (IsTrue free ↔ IsFree bytes p)
    → (IsTrue owned ↔ (owner_of t p ≢ 255)) → beq free owned ≡ true → ¬ (IsMarked bytes t p)
told-unmarked bytes t p true true is has same m = has.0 refl (m.0 (is.0 refl))
told-unmarked bytes t p true false is has same m = false≢true same
told-unmarked bytes t p false true is has same m = false≢true same
told-unmarked bytes t p false false is has same m =
    false≢true (is.1 (m.1 (free-owner t p (λ other. false≢true (has.1 other)))))

-- one more sector of the track that is right, or that isn't there
pub marked-next : (bytes : List ℕ) (t : Owners) (track n : ℕ) (q : Place) → Some q ≡ place_at track n
    → ((p : Place) → p.track ≡ track → p.sector < n → IsMarked bytes t p) → IsMarked bytes t q → (p : Place)
    → p.track ≡ track → p.sector < n + 1 → IsMarked bytes t p
marked-next bytes t track n q h so_far here p on below = elim (dec_lt p.sector n) [
  | yes lt ↦ so_far p on lt
  | no le ↦
      let both = place_at-some track n q (sym h) in
      let s : q.sector ≡ p.sector = omega (arith, both.1, le, below) in
      let one : q ≡ p = same_place q p (both.0 ∙ sym on) s in
      let P : Place → Type 0 = IsMarked bytes t in
      subst P one here
]

pub marked-past : (bytes : List ℕ) (t : Owners) (track n : ℕ) → None ≡ place_at track n
    → ((p : Place) → p.track ≡ track → p.sector < n → IsMarked bytes t p) → (p : Place) → p.track ≡ track
    → p.sector < n + 1 → IsMarked bytes t p
marked-past bytes t track n h so_far p on below =
    let past = past-track track n h in
    let low : p.sector < sectors_on track = rw (← on) p.on_disk in
    so_far p on (omega arith)

pub marked-all : (bytes : List ℕ) (t : Owners) (track n : ℕ) → 24 ≤ n → ((p : Place) → p.track ≡ track → p.sector < n
    → IsMarked bytes t p) → (p : Place) → p.track ≡ track → IsMarked bytes t p
marked-all bytes t track n all so_far p on =
    let low : p.sector < sectors_on track = rw (← on) p.on_disk in
    so_far p on (omega (arith, few_sectors track))

pub marked-ended : (bytes : List ℕ) (t : Owners) (track n : ℕ) → None ≡ place_at track n
    → ((p : Place) → p.track ≡ track → p.sector < n → IsMarked bytes t p) → (p : Place) → p.track ≡ track
    → IsMarked bytes t p
marked-ended bytes t track n h so_far p on =
    let past = past-track track n h in
    let low : p.sector < sectors_on track = rw (← on) p.on_disk in
    so_far p on (omega arith)

-- the sector is one of 21
pub there-low : (track n : ℕ) (p : Place) → Some p ≡ place_at track n → n < 21
there-low track n p h = let both = place_at-some track n p (sym h) in omega (arith, both.1, sector_small p)

-- right so far, and here
pub right-here : (right free owned : Bool) → IsTrue (right && not (beq free owned)) → IsTrue right
    × (beq free owned ≡ false)
right-here true true false h = (refl, refl)
right-here true false true h = (refl, refl)
right-here true true true h = absurd (false≢true h)
right-here true false false h = absurd (false≢true h)
right-here false free owned h = absurd (false≢true h)

pub right-count : (right : Bool) (a b : ℕ) → IsTrue (right && nat_eq a b) → IsTrue right × (a ≡ b)
right-count true a b h = (refl, eqb-true a b h)
right-count false a b h = absurd (false≢true h)

pub ones-same : (a b : List ℕ) (track n : ℕ) → ((s : ℕ) → s < n → map_bit a track s ≡ map_bit b track s)
    → ones_to a track n ≡ ones_to b track n
unfolding ones_to
ones-same a b track n same = sum-same (map_bit a track) (map_bit b track) (min n (sectors_on track))
    (λ s below. same s (omega arith))
