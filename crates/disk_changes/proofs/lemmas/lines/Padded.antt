-- Records with zeros behind the bytes that were given: what is stored of them, and what is the same already.
use Rattle.std.proofs.Common.{◌≡◌, ◌≢◌, ◌≤◌, inl, inr, ℕ, zero, suc, ◌-◌, List, [], ◌∷◌, ◌++◌, Some, Bool, true, false}
use Rattle.std.proofs.Common.{length, take, replicate, set, get_or, refl, sym, ap, ◌∙◌, arith}
use Rattle.std.specs.Prelude.{not, slice_get}
use Rattle.std.proofs.lemmas.Bool.{cases_Bool}
use Rattle.std.proofs.lemmas.List.{length-append, length-replicate, length-take-le}
use Rattle.std.proofs.lemmas.Option.{get_or_from_slice_get, same_Some}
use Rattle.std.proofs.lemmas.Slice.Eq.{bytes_eq-Decides}
use Rattle.line_text.proofs.lemmas.bytes.Stored.{stored-back}
use Rattle.line_text.specs.bytes.Lines.{padded}
use Rattle.line_text.specs.bytes.Texts.{kept_before, trimmed}
use Rattle.disk_changes.specs.lines.Stores.{IsSo, NewRecord, is_changed, with_stored}

-- zeros behind them are no part of what is trimmed
zeros-trimmed : (L m : ℕ) → trimmed (take L (replicate m 0)) ≡ []
unfolding trimmed
zeros-trimmed zero m = refl
zeros-trimmed (suc L) zero = refl
zeros-trimmed (suc L) (suc m) = ap (kept_before 0) (zeros-trimmed L m)

taken-trimmed : (bs : List ℕ) (L m : ℕ) → length bs ≤ L → trimmed (take L (bs ++ replicate m 0)) ≡ trimmed bs
unfolding trimmed
taken-trimmed [] L m le = zeros-trimmed L m
taken-trimmed (b ∷ bs) zero m le = absurd (omega (arith, le))
taken-trimmed (b ∷ bs) (suc L) m le = ap (kept_before b) (taken-trimmed bs L m (omega (arith, le)))

long-padded : (L : ℕ) (bs : List ℕ) → length (padded L bs) ≡ L
long-padded L bs =
    let zeros : length (replicate L 0) ≡ L = length-replicate {A = ℕ} L 0 in
    length-take-le L (bs ++ replicate L 0) (omega (arith, length-append bs (replicate L 0), zeros))

module _ (L : ℕ) (bs old : List ℕ) (short : length bs ≤ L) where
  -- bytes that are trimmed alike are those of one record
  same-padded : length old ≡ L → trimmed old ≡ trimmed bs → padded L bs ≡ old
  same-padded long same =
      let alike : trimmed (padded L bs) ≡ trimmed old = taken-trimmed bs L L short ∙ sym same in
      sym (stored-back (padded L bs))
      ∙ ap (λ (n : ℕ). padded n (trimmed (padded L bs))) (long-padded L bs ∙ sym long)
      ∙ ap (padded (length old)) alike
      ∙ stored-back old

  other-padded : trimmed old ≢ trimmed bs → old ≢ padded L bs
  other-padded other e = other (ap trimmed e ∙ taken-trimmed bs L L short)

-- what is there already, stored
pub set-there : {X : Type 0} (rs : List X) (i : ℕ) (x : X) → slice_get rs i ≡ Some x → set rs i x ≡ rs
set-there [] i x e = refl
set-there (r ∷ rs) zero x e = ap (λ y. y ∷ rs) (sym (same_Some r x e))
set-there (r ∷ rs) (suc i) x e = ap (λ ys. r ∷ ys) (set-there rs i x e)

not-bool : (b : Bool) → b ≢ true → b ≡ false
not-bool b ne = elim (cases_Bool b) [
  | inl e ↦ absurd (ne e)
  | inr e ↦ e
]

module _ (L : ℕ) (rs : List (List ℕ)) (x : NewRecord) (old : List ℕ) (there : slice_get rs (x.number - 1) ≡ Some old)
    (long : length old ≡ L) (short : length x.bytes ≤ L) where
  is-old : get_or rs (x.number - 1) [] ≡ old
  is-old = get_or_from_slice_get rs (x.number - 1) old [] there

  -- the record that is trimmed as what is there is so already
  pub so-there : trimmed old ≡ trimmed x.bytes → IsSo L rs x
  so-there same = there ∙ ap Some (sym (same-padded L x.bytes old short long same))

  pub so-unchanged : trimmed old ≡ trimmed x.bytes → is_changed L x rs ≡ false
  so-unchanged same =
      ap not ((bytes_eq-Decides (get_or rs (x.number - 1) []) (padded L x.bytes)).1
      (is-old ∙ sym (same-padded L x.bytes old short long same)))

  pub other-changed : trimmed old ≢ trimmed x.bytes → is_changed L x rs ≡ true
  other-changed other =
      ap not (not-bool _ (λ e. other-padded L x.bytes old short other
      (sym is-old ∙ (bytes_eq-Decides (get_or rs (x.number - 1) []) (padded L x.bytes)).0 e)))

  -- one that is otherwise isn't so
  pub other-not_so : trimmed old ≢ trimmed x.bytes → ¬ (IsSo L rs x)
  other-not_so other so = other-padded L x.bytes old short other (same_Some _ _ (sym there ∙ so))

pub so-stored_one : (L : ℕ) (rs : List (List ℕ)) (x : NewRecord) → IsSo L rs x → with_stored L x rs ≡ rs
so-stored_one L rs x so = set-there rs (x.number - 1) _ so
