-- Those of a list that have something.
use Rattle.std.proofs.Common.{◌≡◌, ◌<◌, ◌+◌, ◌++◌, ◌∷◌, [], ℕ, List, ap, append-nil, get_or, inl, inr, length, refl, subst, sym, take, ◌∙◌}
use Rattle.std.proofs.lemmas.List.{take_more}
use Rattle.disk_reports.specs.AllFaults.{AreThose}

-- those of one list, and those of the next
pub those-append : {X Y : Type 0} (P : X → Type 0) (pick : X → Y) (xs zs : List X) (ys ws : List Y)
    → AreThose P pick xs ys → AreThose P pick zs ws → AreThose P pick (xs ++ zs) (ys ++ ws)
those-append P pick [] zs [] ws first second = second
those-append P pick [] zs (y ∷ ys) ws first second = absurd first
those-append P pick (x ∷ xs) zs [] [] (none, more) second = (none, those-append P pick xs zs [] [] more second)
those-append P pick (x ∷ xs) zs [] (w ∷ ws) (none, more) second =
    inr (none, those-append P pick xs zs [] (w ∷ ws) more second)
those-append P pick (x ∷ xs) zs (y ∷ ys) ws (inl (has, is, more)) second =
    inl (has, is, those-append P pick xs zs ys ws more second)
those-append P pick (x ∷ xs) zs (y ∷ ys) ws (inr (none, more)) second =
    inr (none, those-append P pick xs zs (y ∷ ys) ws more second)

taken : {X : Type 0} (xs : List X) (i : ℕ) (x : X) → i < length xs → x ≡ get_or xs i x → take (i + 1) xs ≡ take i xs ++ x ∷ []
taken xs i x inside here = take_more xs i x inside ∙ ap (λ y. take i xs ++ y ∷ []) (sym here)

-- one more, which has it, and one that hasn't
pub those-kept : {X Y : Type 0} (P : X → Type 0) (pick : X → Y) (xs : List X) (ys new : List Y) (i : ℕ) (x : X)
    → i < length xs → x ≡ get_or xs i x → P x → new ≡ ys ++ pick x ∷ [] → AreThose P pick (take i xs) ys
    → AreThose P pick (take (i + 1) xs) new
those-kept P pick xs ys new i x inside here has more so_far =
    subst (λ zs. AreThose P pick zs new) (sym (taken xs i x inside here))
    (subst (AreThose P pick (take i xs ++ x ∷ [])) (sym more)
    (those-append P pick (take i xs) (x ∷ []) ys (pick x ∷ []) so_far (inl (has, refl, tt))))

pub those-left : {X Y : Type 0} (P : X → Type 0) (pick : X → Y) (xs : List X) (ys : List Y) (i : ℕ) (x : X)
    → i < length xs → x ≡ get_or xs i x → ¬ (P x) → AreThose P pick (take i xs) ys
    → AreThose P pick (take (i + 1) xs) ys
those-left P pick xs ys i x inside here hasnt so_far =
    subst (λ zs. AreThose P pick zs ys) (sym (taken xs i x inside here))
    (subst (AreThose P pick (take i xs ++ x ∷ [])) (append-nil ys)
    (those-append P pick (take i xs) (x ∷ []) ys [] so_far (hasnt, tt)))
