-- How far STOCK can grow on the blank image.
use Rattle.std.proofs.Common.{
  ℕ,
  ◌≡◌,
  ◌≢◌,
  ◌≤◌,
  ◌+◌,
  ◌-◌,
  ◌*◌,
  ◌/◌,
  inl,
  inr,
  true,
  List,
  [],
  ◌∷◌,
  ◌++◌,
  length,
  refl,
  sym,
  ◌∙◌,
  ap,
  arith,
  append-nil,
  length-append,
}
use Rattle.std.specs.Prelude.{Contains, filter, nat_eq, not}
use Rattle.std.proofs.lemmas.Bool.Decides.{nat_tests}
use Rattle.std.proofs.lemmas.List.Elements.{Contains-append_cases}
use Rattle.d64_image.specs.declared.place.Place.{Place}
use Rattle.disk_layout.proofs.lemmas.blank.BlankClean.{blank-clean}
use Rattle.disk_layout.proofs.lemmas.lists.Lists.{contains-get}
use Rattle.disk_layout.proofs.lemmas.lists.Once.{Contains-cases, Contains-here, Contains-nil, Contains-there}
use Rattle.disk_layout.proofs.lemmas.blank.Tops.{IsTop-last}
use Rattle.disk_layout.specs.Blank.{AreRequestPlaces, request_blocks, request_track, requests_side}
use Rattle.disk_layout.specs.BlankLayout.{BlankHasTop, blank_layout, stock_file}
use Rattle.disk_layout.specs.Room.{IsTop}
use Rattle.disk_layout.specs.Rest.{taken_by_others}

-- where all are outside track 18, none is left out
all-outside : (ps : List Place) → ((p : Place) → Contains ps p → p.track ≢ 18)
    → filter (λ p. not (nat_eq p.track 18)) ps ≡ ps
all-outside [] off = refl
all-outside (p ∷ ps) off =
    let here : not (nat_eq p.track 18) ≡ true = let ne = off p (Contains-here p ps) in grind (arith, nat_tests) in
    rw here (ap (λ qs. p ∷ qs) (all-outside ps (λ q c. off q (Contains-there q p ps c))))

-- the request blocks and their side sector stand on the tracks 17 and 19
requests-taken : (blocks : List Place) (n : ℕ) → AreRequestPlaces blocks n
    → taken_by_others (blank_layout n blocks) 0 ≡ n + 1
unfolding taken_by_others
requests-taken blocks n are =
    ap (λ (ps : List Place). length (filter (λ p. not (nat_eq p.track 18)) ps))
    (append-nil (blocks ++ requests_side ∷ []))
    ∙ ap (λ (ps : List Place). length ps) (all-outside (blocks ++ requests_side ∷ []) off)
    ∙ length-append blocks (requests_side ∷ [])
    ∙ ap (λ k. k + 1) are.count
  where
    request-off : (k : ℕ) → request_track k ≢ 18
    request-off k = grind (arith, nat_tests)

    off : (p : Place) → Contains (blocks ++ requests_side ∷ []) p → p.track ≢ 18
    off p c = elim (Contains-append_cases blocks (requests_side ∷ []) p c) [
      | inl d ↦ let (k, at) = contains-get blocks p d in λ e. request-off k (sym (are.each k p at).0 ∙ e)
      | inr d ↦ elim (Contains-cases p requests_side [] d) [
        | inl e ↦ λ on. let at : 17 ≡ p.track = ap (λ (q : Place). q.track) e in omega (arith, at, on)
        | inr none ↦ absurd (Contains-nil p none)
      ]
    ]

blank-top : (blocks : List Place) (n : ℕ) → 1 ≤ n → n ≤ 32 → AreRequestPlaces blocks n
    → IsTop (blank_layout n blocks) 0 (254 * (664 - (n + 1) - 6) / 18)
blank-top blocks n some few are =
    let taken = requests-taken blocks n are in
    IsTop-last (blank_layout n blocks) 0 (254 * (664 - (n + 1) - 6) / 18)
    (record { number = omega arith; blocks = omega arith; room = omega (arith, taken) })
    (λ more. omega (arith, taken, more.room))

pub blank-has_top : BlankHasTop
blank-has_top old new name id tills some few image blank =
    let clean = blank-clean old new name id tills some few image blank in
    record {
      layout = blank_layout (request_blocks tills) blank.blocks;
      is_layout = clean.clean.layout;
      place = 0;
      file = stock_file (request_blocks tills);
      first = clean.stock;
      top = blank-top blank.blocks (request_blocks tills) (omega arith) (omega arith) blank.places;
    }
