-- How many places of a list stand below one.
use Rattle.std.proofs.Common.{ℕ, ◌≡◌, ◌≢◌, ◌<◌, ◌≤◌, ◌+◌, cond, List, [], ◌∷◌}
use Rattle.std.proofs.Common.{length, sym, ◌∙◌, ap, refl, arith, inl, inr}
use Rattle.std.specs.Prelude.{Contains, nat_lt}
use Rattle.std.proofs.lemmas.Bool.Decides.{nat_tests}
use Rattle.std.proofs.Math.Decide.{dec_lt}
use Rattle.d64_image.proofs.Places.{index_below, same_index}
use Rattle.d64_image.specs.Places.{index_of}
use Rattle.d64_image.specs.declared.place.Place.{Place}
use Rattle.disk_layout.proofs.lemmas.lists.Once.{Contains-cases, Contains-here, Contains-nil, Contains-there}
use Rattle.disk_layout.specs.Chain.{EachOnce}

-- 1 for a place that stands below n in an image
abbrev pub mark : Place → ℕ → ℕ
mark p n = cond (nat_lt (index_of p) n) 1 0

-- how many of the places stand below n in an image
abbrev pub rank : List Place → ℕ → ℕ
rank [] n = 0
rank (p ∷ ps) n = mark p n + rank ps n

one-below : (p : Place) (n : ℕ) → index_of p < n → mark p n ≡ 1
one-below p n h = grind (arith, nat_tests)

none-below : (p : Place) (n : ℕ) → n ≤ index_of p → mark p n ≡ 0
none-below p n h = grind (arith, nat_tests)

same-below : (p : Place) (n : ℕ) → index_of p ≢ n → mark p (n + 1) ≡ mark p n
same-below p n ne = elim (dec_lt (index_of p) n) [
  | yes lt ↦ one-below p (n + 1) (omega arith) ∙ sym (one-below p n lt)
  | no le ↦ none-below p (n + 1) (omega (arith, le, ne)) ∙ sym (none-below p n (omega (arith, le)))
]

pub rank-none : (ps : List Place) → rank ps 0 ≡ 0
rank-none [] = refl
rank-none (p ∷ ps) = omega (arith, none-below p 0 (omega arith), rank-none ps)

pub rank-all : (ps : List Place) → rank ps 683 ≡ length ps
rank-all [] = refl
rank-all (p ∷ ps) = omega (arith, one-below p 683 (index_below p), rank-all ps)

pub rank-out : (ps : List Place) (q : Place) → ¬ (Contains ps q) → rank ps (index_of q + 1) ≡ rank ps (index_of q)
rank-out [] q n = refl
rank-out (p ∷ ps) q n = omega (
  arith,
  same-below p (index_of q) (λ e. n (rw (same_index p q e) (Contains-here q ps))),
  rank-out ps q (λ c. n (Contains-there q p ps c)),
)

pub rank-in : (ps : List Place) (q : Place) → EachOnce ps → Contains ps q
    → rank ps (index_of q + 1) ≡ rank ps (index_of q) + 1
rank-in [] q once c = absurd (Contains-nil q c)
rank-in (p ∷ ps) q once c = elim (Contains-cases q p ps c) [
  | inl e ↦ omega (
    arith,
    one-below p (index_of q + 1) (omega (arith, ap index_of e)),
    none-below p (index_of q) (omega (arith, ap index_of e)),
    rank-out ps q (λ d. once.0 (rw e d)),
  )
  | inr d ↦ omega (arith, same-below p (index_of q) (λ e. once.0 (rw (same_index p q e) d)), rank-in ps q once.1 d)
]
