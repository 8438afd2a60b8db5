-- Lines judged one after another.
use Rattle.std.proofs.Common.{◌≡◌, ◌≢◌, inl, inr, ℕ, suc, ◌+◌, List, [], ◌∷◌, ◌++◌, length, refl, subst, sym, ap}
use Rattle.std.proofs.Common.{◌∙◌, arith}
use Rattle.std.specs.Prelude.{max, slice_index}
use Rattle.std.proofs.lemmas.Bool.{cases_eq}
use Rattle.std.proofs.lemmas.List.{append_assoc, append-nil, length-append}
use Rattle.line_text.specs.bytes.Lines.{IsLineOf}
use Rattle.disk_changes.proofs.lemmas.lines.Folds.{greatest-push}
use Rattle.disk_changes.proofs.lemmas.lines.LastOnes.{place-other, place-push}
use Rattle.disk_changes.specs.lines.Stores.{AreLinesOf, CanStore, IsFirstBad, NewRecord, TellsLast, greatest}

lines-push : (L had : ℕ) (front : List (List ℕ)) (xs : List NewRecord) (line : List ℕ) (x : NewRecord)
    → AreLinesOf L had front xs
    → IsLineOf line x.number x.bytes → CanStore L had x → AreLinesOf L had (front ++ line ∷ []) (xs ++ x ∷ [])
lines-push L had [] [] line x are is can = (is, can, tt)
lines-push L had [] (y ∷ xs) line x are is can = absurd are
lines-push L had (l ∷ front) [] line x are is can = absurd are
lines-push L had (l ∷ front) (y ∷ xs) line x are is can = (are.0, are.1, lines-push L had front xs line x are.2 is can)

lines-long : (L had : ℕ) (front : List (List ℕ)) (xs : List NewRecord) → AreLinesOf L had front xs
    → length front ≡ length xs
lines-long L had [] [] are = refl
lines-long L had [] (x ∷ xs) are = absurd are
lines-long L had (l ∷ front) [] are = absurd are
lines-long L had (l ∷ front) (x ∷ xs) are = ap suc (lines-long L had front xs are.2)

-- one more is the last of its record
last-told : (table told : List ℕ) (xs : List NewRecord) (x : NewRecord) (place : ℕ)
    → slice_index told x.number ≡ place
    → ((n : ℕ) → n ≢ x.number → slice_index told n ≡ slice_index table n)
    → place ≡ length xs + 1 → TellsLast table xs → TellsLast told (xs ++ x ∷ [])
last-told table told xs x place put others here tells n le = elim (cases_eq x.number n) [
  | inl same ↦ ap (slice_index told) (sym same) ∙ put ∙ here ∙ sym (place-push n xs x same)
  | inr other ↦ others n (λ e. other (sym e)) ∙ tells n le ∙ sym (place-other n xs x other)
]

-- so many lines of all were judged, and these are left; the greatest number is the one, and the table tells which is
-- the last one of each record
pub record JudgedTo (L had : ℕ) (all left : List (List ℕ)) (count most : ℕ) (table : List ℕ) : Type 0 where
  pub front : List (List ℕ)
  pub new : List NewRecord
  pub split : all ≡ front ++ left
  pub counted : count ≡ length front
  pub good : AreLinesOf L had front new
  pub greatest_is : most ≡ greatest new
  pub tells : TellsLast table new

pub judged-none : (L had : ℕ) (all : List (List ℕ)) (table : List ℕ) → TellsLast table []
    → JudgedTo L had all all 0 0 table
judged-none L had all table none =
    record { front = []; new = []; split = refl; counted = refl; good = tt; greatest_is = refl; tells = none }

module _ (L had : ℕ) (all left : List (List ℕ)) (count most : ℕ) (table : List ℕ)
    (to : JudgedTo L had all left count most table) where
  pub judged-more : (line : List ℕ) (rest : List (List ℕ)) (n : ℕ) (told : List ℕ) → left ≡ line ∷ rest
      → slice_index told n ≡ count + 1 → ((m : ℕ) → m ≢ n → slice_index told m ≡ slice_index table m)
      → (bytes : List ℕ) × IsLineOf line n bytes × CanStore L had (record { number = n; bytes = bytes })
      → JudgedTo L had all rest (count + 1) (max most n) told
  judged-more line rest n told next put others (bytes, is, can) =
      let x : NewRecord = record { number = n; bytes = bytes } in record {
        front = to.front ++ line ∷ [];
        new = to.new ++ x ∷ [];
        split = to.split ∙ ap (λ (ls : List (List ℕ)). to.front ++ ls) next
            ∙ sym (append_assoc to.front (line ∷ []) rest);
        counted = omega (arith, to.counted, length-append to.front (line ∷ []));
        good = lines-push L had to.front to.new line x to.good is can;
        greatest_is = ap (λ (m : ℕ). max m n) to.greatest_is ∙ sym (greatest-push to.new x);
        tells = last-told table told to.new x (count + 1) put others
            (omega (arith, to.counted, lines-long L had to.front to.new to.good)) to.tells;
      }

  pub judged-bad : (line : List ℕ) (rest : List (List ℕ)) → left ≡ line ∷ rest
      → ((x : NewRecord) → CanStore L had x → ¬ (IsLineOf line x.number x.bytes)) → IsFirstBad L had all (count + 1)
  judged-bad line rest next bad = record {
    front = to.front;
    line = line;
    back = rest;
    split = to.split ∙ ap (λ (ls : List (List ℕ)). to.front ++ ls) next;
    count = ap (λ (m : ℕ). m + 1) to.counted;
    good = (to.new, to.good);
    bad = bad;
  }

  pub judged-all : left ≡ []
      → (xs : List NewRecord) × AreLinesOf L had all xs × (most ≡ greatest xs) × TellsLast table xs
  judged-all none = (
    to.new,
    subst (λ (ls : List (List ℕ)). AreLinesOf L had ls to.new)
        (sym (to.split ∙ ap (λ (ls : List (List ℕ)). to.front ++ ls) none ∙ append-nil to.front)) to.good,
    to.greatest_is,
    to.tells,
  )
