-- Free sectors of the map are taken, one after another.
use Rattle.std.proofs.Common.{◌≡◌, ◌<◌, inl, inr, List, [], ◌∷◌, ◌++◌, ap, append_assoc, arith, length, refl}
use Rattle.std.proofs.Common.{length-append, subst, sym, ◌∙◌}
use Rattle.std.proofs.lemmas.List.Elements.{Contains-append_cases, Contains-append_left, Contains-append_right}
use Rattle.std.specs.Prelude.{Contains, ◌↔◌}
use Rattle.d64_image.specs.Images.{Sector}
use Rattle.d64_image.specs.declared.place.Place.{Place}
use Rattle.disk_layout.proofs.lemmas.lists.Count.{places-few}
use Rattle.disk_layout.proofs.lemmas.lists.Once.{Contains-cases, Contains-here, Contains-nil, Contains-there, EachOnce-push}
use Rattle.disk_layout.proofs.lemmas.lists.Once.{insert-in, insert-out}
use Rattle.disk_layout.specs.Map.{IsMapOf}
use Rattle.rel_records.specs.creation.Site.{TakesSectors}
use Rattle.rel_records.proofs.lemmas.creation.Unowned.{map-same}
use Rattle.rel_records.specs.growth.Steps.{TakesNext}

pub takes-none : (old : Sector) → TakesSectors old old []
takes-none old = record {
  once = tt;
  off = λ p c. absurd (Contains-nil p c);
  unowned = λ owned is p c. absurd (Contains-nil p c);
  owned = λ owned is. is;
  header = (refl, refl);
}

-- a place among the others, or before them
moved : (ps owned : List Place) (p q : Place)
    → Contains (p ∷ (ps ++ owned)) q ↔ Contains ((ps ++ p ∷ []) ++ owned) q
moved ps owned p q =
    let shape : ps ++ p ∷ owned ≡ (ps ++ p ∷ []) ++ owned = simp append_assoc in
    let P : List Place → Type 0 = λ xs. Contains xs q in (
      λ c. subst P shape (elim (Contains-cases q p (ps ++ owned) c) [
        | inl e ↦ (let Q : Place → Type 0 = Contains (ps ++ p ∷ owned) in
            subst Q e (Contains-append_right ps (p ∷ owned) p (Contains-here p owned)))
        | inr d ↦ insert-in ps owned p q d
      ]),
      λ c. elim (insert-out ps owned p q (subst P (sym shape) c)) [
        | inl e ↦ (let Q : Place → Type 0 = Contains (p ∷ (ps ++ owned)) in
            subst Q e (Contains-here p (ps ++ owned)))
        | inr d ↦ Contains-there q p (ps ++ owned) d
      ],
    )

module _ (old mid new : Sector) (ps : List Place) (p : Place) (all : List Place) (map : IsMapOf old all)
    (so_far : TakesSectors old mid ps) (next : TakesNext mid new p) where
  out : ¬ (Contains ps p)
  out c = next.unowned (ps ++ all) (so_far.owned all map) (Contains-append_left ps all p c)

  pub takes-more : TakesSectors old new (ps ++ p ∷ [])
  takes-more = record {
    once = EachOnce-push ps p so_far.once out;
    off = λ q c. elim (Contains-append_cases ps (p ∷ []) q c) [
      | inl d ↦ so_far.off q d
      | inr d ↦ elim (Contains-cases q p [] d) [
        | inl e ↦ λ on. next.off (ap (λ (x : Place). x.track) e ∙ on)
        | inr n ↦ absurd (Contains-nil q n)
      ]
    ];
    unowned = λ owned is q c own. elim (Contains-append_cases ps (p ∷ []) q c) [
      | inl d ↦ so_far.unowned owned is q d own
      | inr d ↦ elim (Contains-cases q p [] d) [
        | inl e ↦ next.unowned (ps ++ owned) (so_far.owned owned is) (Contains-append_right ps owned p
            (let P : Place → Type 0 = Contains owned in subst P (sym e) own))
        | inr n ↦ Contains-nil q n
      ]
    ];
    owned = λ owned is. map-same new (p ∷ (ps ++ owned)) ((ps ++ p ∷ []) ++ owned) (moved ps owned p)
        (next.owned (ps ++ owned) (so_far.owned owned is));
    header = (next.taken.rest.header.0 ∙ so_far.header.0, next.taken.rest.header.1 ∙ so_far.header.1);
  }

  -- they are places of one disk
  pub still-few : length ps < 683
  still-few = omega (arith, places-few (ps ++ p ∷ []) takes-more.once, length-append ps (p ∷ []))
