-- Sectors that the map calls taken and that nobody owns, given an owner one by one.
use Rattle.std.proofs.Common.{ℕ, ◌≡◌, ◌≢◌, ◌<◌, ◌≤◌, ◌+◌, ◌↔◌, ◌⊎◌, List, [], ◌∷◌, ◌++◌, length}
use Rattle.std.proofs.Common.{inl, inr, sym, ◌∙◌, ap, refl, subst, arith}
use Rattle.std.specs.Prelude.{Contains, ⊤}
use Rattle.std.proofs.Math.Decide.{dec_lt}
use Rattle.std.proofs.lemmas.Bool.{cases_eq}
use Rattle.std.proofs.lemmas.List.Elements.{Contains-append_cases, Contains-append_left, Contains-append_right}
use Rattle.d64_image.proofs.Places.{index_below, same_index}
use Rattle.d64_image.specs.Images.{Image, Sector, sector}
use Rattle.d64_image.specs.Places.{index_of}
use Rattle.d64_image.specs.declared.place.Place.{Place}
use Rattle.disk_layout.proofs.lemmas.lists.Once.{Contains-cases, Contains-here, Contains-nil, EachOnce-join}
use Rattle.disk_layout.specs.Directory.{map_place}
use Rattle.disk_layout.specs.Layout.{owners}
use Rattle.disk_layout.specs.Map.{IsFree, map_bit}
use Rattle.layout_check.proofs.lemmas.judging.Verdict.{marks-of}
use Rattle.layout_check.proofs.lemmas.owners.Claims.{claim-push}
use Rattle.layout_check.proofs.lemmas.owners.Numbers.{numbers-claimed}
use Rattle.layout_check.specs.Keeping.{AreMarked, IsTakenTable, MarksTaken}
use Rattle.layout_check.specs.Owners.{owner_of}
use Rattle.layout_check.specs.Survey.{IsToldBy}
use Rattle.layout_check.specs.declared.survey_outcome.Survey.{Survey}
use Rattle.layout_check.specs.declared.owners.Owners.{Owners}

unowned : (t : Owners) (p : Place) → ¬ (owner_of t p ≢ 255) → owner_of t p ≡ 255
unowned t p h = elim (cases_eq (owner_of t p) 255) [ inl e ↦ e | inr ne ↦ absurd (h ne) ]

module _ (map : Sector) where
  -- nothing that was looked at had to be marked
  pub marked-none : (t : Owners) (Looked : Place → Type 0)
      → ((p : Place) → Looked p → IsFree map p ⊎ (owner_of t p ≢ 255)) → AreMarked map t t Looked []
  marked-none t Looked other = record {
    once = tt;
    those = λ p. (
      λ c. absurd (Contains-nil p c),
      λ h. absurd (elim (other p h.0) [ inl free ↦ h.1 free | inr owned ↦ owned h.2 ]),
    );
    table = λ p. (λ c. absurd (Contains-nil p c), λ out. refl);
  }

  -- one sector got an owner
  pub marked-one : (a b : Owners) (q : Place) → ¬ (IsFree map q) → ¬ (owner_of a q ≢ 255) → owner_of b q ≡ 253
      → ((p : Place) → q ≢ p → owner_of b p ≡ owner_of a p) → AreMarked map a b (λ p. p ≡ q) (q ∷ [])
  marked-one a b q taken free here there = record {
    once = (Contains-nil q, tt);
    those = λ p. (
      λ c. elim (Contains-cases p q [] c) [
        | inl e ↦
            let P : Place → Type 0 = λ x. (x ≡ q) × ¬ (IsFree map x) × (owner_of a x ≡ 255) in
            subst P e (refl, taken, unowned a q free)
        | inr none ↦ absurd (Contains-nil p none)
      ],
      λ h. let P : Place → Type 0 = λ x. Contains (q ∷ []) x in subst P (sym h.0) (Contains-here q []),
    );
    table = claim-push a a b 253 [] q (λ p. (λ c. absurd (Contains-nil p c), λ out. refl)) (Contains-nil q)
        (unowned a q free) here there;
  }

  -- so many were looked at as well
  marked-as : (a b : Owners) (A B : Place → Type 0) (ps : List Place) → ((p : Place) → A p ↔ B p)
      → AreMarked map a b A ps → AreMarked map a b B ps
  marked-as a b A B ps same h = record {
    once = h.once;
    those = λ p. (
      λ c. let x = (h.those p).0 c in ((same p).0 x.0, x.1, x.2),
      λ x. (h.those p).1 ((same p).1 x.0, x.1, x.2),
    );
    table = h.table;
  }

  -- these, and then others
  marked-then : (a b c : Owners) (A B C : Place → Type 0) (ps qs : List Place) → ((p : Place) → C p ↔ (A p ⊎ B p))
      → ((p : Place) → A p → ¬ (B p)) → AreMarked map a b A ps → AreMarked map b c B qs
      → AreMarked map a c C (ps ++ qs)
  marked-then a b c A B C ps qs cover apart h k = record {
    once = EachOnce-join ps qs h.once k.once out;
    those = λ p. (
      λ d. elim (Contains-append_cases ps qs p d) [
        | inl x ↦ let g = (h.those p).0 x in ((cover p).1 (inl g.0), g.1, g.2)
        | inr y ↦ let g = (k.those p).0 y in (
          (cover p).1 (inr g.0),
          g.1,
          sym ((h.table p).1 (λ x. out p x y)) ∙ g.2,
        )
      ],
      λ g. elim ((cover p).0 g.0) [
        | inl x ↦ Contains-append_left ps qs p ((h.those p).1 (x, g.1, g.2))
        | inr y ↦ Contains-append_right ps qs p ((k.those p).1 (
          y,
          g.1,
          (h.table p).1 (λ mine. apart p ((h.those p).0 mine).0 y) ∙ g.2,
        ))
      ],
    );
    table = λ p. (
      λ d. elim (Contains-append_cases ps qs p d) [
        | inl x ↦ (((h.table p).0 x).0, (k.table p).1 (out p x) ∙ ((h.table p).0 x).1)
        | inr y ↦ (sym ((h.table p).1 (λ x. out p x y)) ∙ ((k.table p).0 y).0, ((k.table p).0 y).1)
      ],
      λ none. (k.table p).1 (λ y. none (Contains-append_right ps qs p y))
          ∙ (h.table p).1 (λ x. none (Contains-append_left ps qs p x)),
    );
  }
    where
      out : (p : Place) → Contains ps p → ¬ (Contains qs p)
      out p x y = apart p ((h.those p).0 x).0 ((k.those p).0 y).0

  -- the sectors so far: none, one more, and all
  pub places-start : (t : Owners) → AreMarked map t t (λ p. index_of p < 0) []
  places-start t = marked-none t (λ p. index_of p < 0) (λ p below. absurd (omega (arith, below)))

  pub places-more : (a b c : Owners) (n : ℕ) (q : Place) (ps qs : List Place) → index_of q ≡ n
      → AreMarked map a b (λ p. index_of p < n) ps → AreMarked map b c (λ p. p ≡ q) qs
      → AreMarked map a c (λ p. index_of p < n + 1) (ps ++ qs)
  places-more a b c n q ps qs at =
      marked-then a b c (λ p. index_of p < n) (λ p. p ≡ q) (λ p. index_of p < n + 1) ps qs
      (λ p. (
        λ below. elim (dec_lt (index_of p) n) [
          | yes low ↦ inl low
          | no high ↦ inr (same_index p q (omega (arith, at, high, below)))
        ],
        λ h. elim h [ inl low ↦ omega (arith, low) | inr e ↦ omega (arith, at, ap index_of e) ],
      ))
      (λ p low e. omega (arith, low, at, ap index_of e))

  pub places-end : (a b : Owners) (n : ℕ) (ps : List Place) → 683 ≤ n → AreMarked map a b (λ p. index_of p < n) ps
      → AreMarked map a b (λ p. ⊤) ps
  places-end a b n ps all = marked-as a b (λ p. index_of p < n) (λ p. ⊤) ps
      (λ p. (λ low. tt, λ any. omega (arith, index_below p, all)))

-- the table of a survey, with an owner for each stray sector
pub taken-of : (img : Image) (s : Survey) (map : Sector) (t : Owners) (ps : List Place) (n : ℕ) → IsToldBy img s
    → map ≡ sector img map_place → AreMarked map s.owners t (λ p. ⊤) ps → n ≡ length ps
    → IsTakenTable img t n
taken-of img s map t ps n (l, is, of) read h long =
    let marks : MarksTaken s.owners l [] = marks-of l s of in
    record {
      layout = l;
      sound = is;
      strays = ps;
      are = record {
        once = h.once;
        those = λ p. (
          λ c. let x = (h.those p).0 c in record {
            taken = (let P : Sector → Type 0 = λ b. ¬ (IsFree b p) in subst P read x.1);
            unowned = λ own. (marks p).1 own x.2;
          },
          λ stray. (h.those p).1 (
            tt,
            (let P : Sector → Type 0 = λ b. ¬ (IsFree b p) in subst P (sym read) stray.taken),
            unowned s.owners p (λ ne. stray.unowned ((marks p).0 ne)),
          ),
        );
      };
      marks = λ p. (
        λ ne. elim (cases_eq (owner_of s.owners p) 255) [
          | inl none ↦ elim (cases_eq (map_bit map p.track p.sector) 1) [
            | inl free ↦ absurd (ne ((h.table p).1 (λ c. ((h.those p).0 c).1 free) ∙ none))
            | inr taken ↦ Contains-append_left ps (map_place ∷ owners l) p ((h.those p).1 (tt, taken, none))
          ]
          | inr old ↦ Contains-append_right ps (map_place ∷ owners l) p ((marks p).0 old)
        ],
        λ c e. elim (Contains-append_cases ps (map_place ∷ owners l) p c) [
          | inl mine ↦ omega (arith, e, ((h.table p).0 mine).1)
          | inr own ↦ (marks p).1 own (sym ((h.table p).1 (λ mine. (marks p).1 own ((h.table p).0 mine).0)) ∙ e)
        ],
      );
      numbers = numbers-claimed l s t ps of h.table;
      count = long;
    }
