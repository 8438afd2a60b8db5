-- Runs over side sectors and the directory, told beside strays in the map: these say nothing of such sectors.
use Rattle.std.proofs.Common.{ℕ, ◌≡◌, ◌≢◌, ◌≤◌, ◌+◌, List, [], ◌∷◌, ◌++◌, sym, inl, inr, subst, refl, arith}
use Rattle.std.specs.Prelude.{Contains, Result}
use Rattle.std.proofs.lemmas.Bool.{cases_eq}
use Rattle.std.proofs.lemmas.Result.{on_ok_weaker}
use Rattle.std.proofs.lemmas.List.Elements.{Contains-append_cases, Contains-append_left, Contains-append_right}
use Rattle.d64_image.proofs.Moments.{changes_weaker, reads_change, weaker}
use Rattle.d64_image.proofs.Places.{same_or_other}
use Rattle.d64_image.specs.History.{Changes, History, OnlyReads}
use Rattle.d64_image.specs.Images.{Image, Sector, sector}
use Rattle.d64_image.specs.declared.place.Place.{Place}
use Rattle.disk_layout.proofs.lemmas.layouts.Layouts.{IsLayout-one}
use Rattle.disk_layout.proofs.lemmas.lists.Once.{Contains-here, Contains-nil}
use Rattle.disk_layout.specs.Directory.{map_place}
use Rattle.disk_layout.specs.InOrder.{AreMade, GoesOver, IsUnderWay}
use Rattle.disk_layout.specs.Layout.{IsLayout, Layout, owners}
use Rattle.disk_layout.specs.Map.{IsFree, map_bit}
use Rattle.disk_layout.specs.declared.faults.Fault.{Fault}
use Rattle.layout_check.specs.Keeping.{AreStray, FreesNothing, MarksTaken}
use Rattle.layout_check.specs.Mending.{PutsRight, PutsRightBut}
use Rattle.layout_check.specs.RepairOrder.{IsRightBut, repair_order}
use Rattle.layout_check.specs.declared.owners.Owners.{Owners}

module _ (xs ys : List Place) (l : Layout) where
  right-but : (p : Place) (bytes : Sector) → p ≢ map_place → IsRightBut xs l p bytes → IsRightBut ys l p bytes
  right-but p bytes other h = record { map = λ e. absurd (other e); side = h.side; counts = h.counts }

module _ (strays : List Place) (l : Layout) (ps : List Place) (out : ¬ (Contains ps map_place)) where
  made-but : (done : List Place) (a b : Image) → ¬ (Contains done map_place) → AreMade (IsRightBut [] l) done a b
      → AreMade (IsRightBut strays l) done a b
  made-but done a b not_map made = record {
    right = λ p c. right-but [] strays l p (sector b p) (λ e. not_map (let P : Place → Type 0 = Contains done in
        subst P e c)) (made.right p c);
    kept = λ p r. elim (same_or_other p map_place) [
      | inl e ↦ made.rest p (λ c. not_map (let P : Place → Type 0 = Contains done in subst P e c))
      | inr ne ↦ made.kept p (right-but strays [] l p (sector a p) ne r)
    ];
    rest = made.rest;
  }

  under-way-but : (a b : Image) → IsUnderWay (IsRightBut [] l) ps a b → IsUnderWay (IsRightBut strays l) ps a b
  under-way-but a b way = record {
    done = way.done;
    left = way.left;
    split = way.split;
    made = made-but way.done a b (λ c. out (let P : List Place → Type 0 = λ xs. Contains xs map_place in
        subst P (sym way.split) (Contains-append_left way.done way.left map_place c))) way.made;
  }

  pub puts_right_but : {D T : Type 0} (S : History D) (a b : D) (result : Result T Fault)
      → PutsRight S a b l ps result → PutsRightBut strays S a b l ps result
  puts_right_but S a b result h = record {
    over = record {
      held = weaker S a b _ _ (λ c way. under-way-but (S.image a) c way) h.over.held;
      once = h.over.once;
    };
    made = on_ok_weaker result (λ made. made-but ps (S.image a) (S.image b) out made) h.made;
  }

-- a repair that leaves the strays taken frees nothing
module _ (img : Image) (l : Layout) (strays : List Place) (are : AreStray img l strays) where
  frees-right : (bytes : Sector) → IsRightBut strays l map_place bytes → (p : Place) → IsFree bytes p
      → IsFree (sector img map_place) p
  frees-right bytes right p free = elim (cases_eq (map_bit (sector img map_place) p.track p.sector) 1) [
    | inl e ↦ e
    | inr taken ↦ absurd (((right.map refl).marked p).0 free (Contains-append_left strays (map_place ∷ owners l) p
        ((are.those p).1 (record {
          taken = taken;
          unowned = λ own. ((right.map refl).marked p).0 free
              (Contains-append_right strays (map_place ∷ owners l) p own);
        }))))
  ]

  frees-way : (c : Image) → IsUnderWay (IsRightBut strays l) (repair_order l) img c → FreesNothing img c
  frees-way c way p = first way.done way.split refl
    where
      first : (ds : List Place) → repair_order l ≡ ds ++ way.left → way.done ≡ ds → IsFree (sector c map_place) p
          → IsFree (sector img map_place) p
      first [] split same free = let P : Sector → Type 0 = λ b. IsFree b p in
          subst P (way.made.rest map_place (λ d. Contains-nil map_place (let Q : List Place
          → Type 0 = λ xs. Contains xs map_place in subst Q same d))) free
      first (d ∷ ds) split same free =
          let one : d ≡ map_place = cc split in
          let P : Place → Type 0 = λ x. Contains way.done x in
          let Q : List Place → Type 0 = λ xs. Contains xs d in
          frees-right (sector c map_place) (way.made.right map_place
          (subst P one (subst Q (sym same) (Contains-here d ds)))) p free

  pub frees_over : {D : Type 0} (S : History D) (a b : D) → S.image a ≡ img → S.writes b ≤ S.writes a + 883
      → GoesOver S a b (IsRightBut strays l) (repair_order l) → Changes S a b 883 (FreesNothing img)
  frees_over S a b same writes over = record {
    held = weaker S a b _ _ (λ c way. frees-way c (let P : Image
        → Type 0 = λ i. IsUnderWay (IsRightBut strays l) (repair_order l) i c in subst P same way)) over.held;
    writes = writes;
  }

-- reads alone
pub frees_none : {D : Type 0} (S : History D) (a b : D) (n : ℕ) → OnlyReads S a b n
    → Changes S a b 883 (FreesNothing (S.image a))
frees_none S a b n reads = changes_weaker S a b 0 883 (FreesNothing (S.image a)) (FreesNothing (S.image a))
    (omega arith) (λ c h. h) (reads_change S a b n (FreesNothing (S.image a)) reads (λ p free. free))

-- what two tables call taken beside what is owned
pub marks-stray : (img : Image) (l : Layout) (xs ys : List Place) (t : Owners) → AreStray img l xs → AreStray img l ys
    → MarksTaken t l xs → MarksTaken t l ys
marks-stray img l xs ys t one other marks p = (
  λ ne. elim (Contains-append_cases xs (map_place ∷ owners l) p ((marks p).0 ne)) [
    | inl x ↦ Contains-append_left ys (map_place ∷ owners l) p ((other.those p).1 ((one.those p).0 x))
    | inr own ↦ Contains-append_right ys (map_place ∷ owners l) p own
  ],
  λ c. (marks p).1 (elim (Contains-append_cases ys (map_place ∷ owners l) p c) [
    | inl y ↦ Contains-append_left xs (map_place ∷ owners l) p ((one.those p).1 ((other.those p).0 y))
    | inr own ↦ Contains-append_right xs (map_place ∷ owners l) p own
  ]),
)

-- so it is of any layout of the image, and of any list of its strays
pub marks-any : (img : Image) (l m : Layout) (xs ys : List Place) (t : Owners) → IsLayout img l → IsLayout img m
    → AreStray img l xs → AreStray img m ys → MarksTaken t l xs → MarksTaken t m ys
marks-any img l m xs ys t is also one other marks =
    let P : Layout → Type 0 = λ x. AreStray img x ys → MarksTaken t x ys in
    subst P (IsLayout-one img l m is also) (λ h. marks-stray img l xs ys t one h marks) other
