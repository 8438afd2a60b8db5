-- Records stored one after another: a beginning of them, and the rest.
use Rattle.std.proofs.Common.{◌≡◌, ◌≤◌, inl, inr, ℕ, ◌-◌, List, [], ◌∷◌, ◌++◌, length, refl, subst, sym, ap, ◌∙◌, arith}
use Rattle.std.specs.Prelude.{max}
use Rattle.std.proofs.lemmas.List.{append_assoc, length-set}
use Rattle.disk_changes.proofs.lemmas.lines.Padded.{so-stored_one}
use Rattle.disk_changes.specs.lines.Stores.{AreSo, IsPartStored, NewRecord, changed_line, changed_text, greatest, stored}
use Rattle.disk_changes.specs.lines.Stores.{with_stored}

pub stored-append : (L : ℕ) (xs ys : List NewRecord) (rs : List (List ℕ))
    → stored L (xs ++ ys) rs ≡ stored L ys (stored L xs rs)
stored-append L [] ys rs = refl
stored-append L (x ∷ xs) ys rs = stored-append L xs ys (with_stored L x rs)

pub changed-append : (L : ℕ) (xs ys : List NewRecord) (rs : List (List ℕ))
    → changed_text L (xs ++ ys) rs ≡ changed_text L xs rs ++ changed_text L ys (stored L xs rs)
changed-append L [] ys rs = refl
changed-append L (x ∷ xs) ys rs =
    ap (λ (t : List ℕ). changed_line L x rs ++ t) (changed-append L xs ys (with_stored L x rs))
    ∙ sym (append_assoc (changed_line L x rs) (changed_text L xs (with_stored L x rs))
    (changed_text L ys (stored L xs (with_stored L x rs))))

pub long-stored : (L : ℕ) (xs : List NewRecord) (rs : List (List ℕ)) → length (stored L xs rs) ≡ length rs
long-stored L [] rs = refl
long-stored L (x ∷ xs) rs = long-stored L xs (with_stored L x rs) ∙ length-set rs (x.number - 1) _

-- nothing of them, all of them, a beginning of a beginning, and one behind it
pub part-none : (L : ℕ) (xs : List NewRecord) (rs : List (List ℕ)) → IsPartStored L xs rs rs
part-none L [] rs = refl
part-none L (x ∷ xs) rs = inl refl

pub part-front : (L : ℕ) (xs ys : List NewRecord) (rs ts : List (List ℕ)) → IsPartStored L xs rs ts
    → IsPartStored L (xs ++ ys) rs ts
part-front L [] ys rs ts same = subst (IsPartStored L ys rs) (sym same) (part-none L ys rs)
part-front L (x ∷ xs) ys rs ts (inl same) = inl same
part-front L (x ∷ xs) ys rs ts (inr (inl half)) = inr (inl half)
part-front L (x ∷ xs) ys rs ts (inr (inr part)) = inr (inr (part-front L xs ys (with_stored L x rs) ts part))

pub part-behind : (L : ℕ) (xs ys : List NewRecord) (rs ts : List (List ℕ)) → IsPartStored L ys (stored L xs rs) ts
    → IsPartStored L (xs ++ ys) rs ts
part-behind L [] ys rs ts part = part
part-behind L (x ∷ xs) ys rs ts part = inr (inr (part-behind L xs ys (with_stored L x rs) ts part))

-- where all are so already
pub so-front : (L : ℕ) (rs : List (List ℕ)) (xs ys : List NewRecord) → AreSo L rs (xs ++ ys) → AreSo L rs xs
so-front L rs [] ys so = tt
so-front L rs (x ∷ xs) ys so = (so.0, so-front L rs xs ys so.1)

pub so-behind : (L : ℕ) (rs : List (List ℕ)) (xs ys : List NewRecord) → AreSo L rs (xs ++ ys) → AreSo L rs ys
so-behind L rs [] ys so = so
so-behind L rs (x ∷ xs) ys so = so-behind L rs xs ys so.1

pub so-stored : (L : ℕ) (rs : List (List ℕ)) (xs : List NewRecord) → AreSo L rs xs → stored L xs rs ≡ rs
so-stored L rs [] so = refl
so-stored L rs (x ∷ xs) so = ap (stored L xs) (so-stored_one L rs x so.0) ∙ so-stored L rs xs so.1

pub greatest-push : (xs : List NewRecord) (x : NewRecord) → greatest (xs ++ x ∷ []) ≡ max (greatest xs) x.number
greatest-push [] x = omega arith
greatest-push (y ∷ xs) x = omega (arith, greatest-push xs x)

pub greatest-front : (xs ys : List NewRecord) (x : NewRecord) → x.number ≤ greatest (xs ++ x ∷ ys)
greatest-front [] ys x = omega arith
greatest-front (y ∷ xs) ys x = omega (arith, greatest-front xs ys x)
