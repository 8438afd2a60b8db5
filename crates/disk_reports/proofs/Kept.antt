-- The entries that a fault concerns, one after another.
use Rattle.std.proofs.Common.{◌≡◌, ◌+◌, ◌<◌, ◌++◌, ◌∷◌, [], ℕ, List, ap, get_or, inl, inr, length, refl, subst, sym, take, ◌∙◌}
use Rattle.std.proofs.Math.Seq.{take-length}
use Rattle.std.proofs.lemmas.List.{take_more}
use Rattle.d64_image.specs.Images.{Image}
use Rattle.disk_layout.specs.declared.faults.Fault.{Fault}
use Rattle.disk_layout.specs.declared.slot.Slot.{Slot}
use Rattle.disk_reports.specs.Outcomes.{AreConcerned, IsConcerned, IsUnconcerned}

push-kept : (img : Image) (f : Fault) (ss fs : List Slot) (s : Slot) → IsConcerned img f s → AreConcerned img f ss fs
    → AreConcerned img f (ss ++ s ∷ []) (fs ++ s ∷ [])
push-kept img f [] fs s is none = rw none (inl (is, ([], refl, refl)))
push-kept img f (x ∷ ss) fs s is (inl (here, (rest, all, more))) =
    inl (here, (rest ++ s ∷ [], ap (λ (ys : List Slot). ys ++ s ∷ []) all, push-kept img f ss rest s is more))
push-kept img f (x ∷ ss) fs s is (inr (other, more)) = inr (other, push-kept img f ss fs s is more)

push-left : (img : Image) (f : Fault) (ss fs : List Slot) (s : Slot) → IsUnconcerned img f s → AreConcerned img f ss fs
    → AreConcerned img f (ss ++ s ∷ []) fs
push-left img f [] fs s other none = inr (other, none)
push-left img f (x ∷ ss) fs s other (inl (here, (rest, all, more))) =
    inl (here, (rest, all, push-left img f ss rest s other more))
push-left img f (x ∷ ss) fs s other (inr (before, more)) = inr (before, push-left img f ss fs s other more)

taken : (ss : List Slot) (i : ℕ) (s : Slot) → i < length ss → s ≡ get_or ss i s → take (i + 1) ss ≡ take i ss ++ s ∷ []
taken ss i s inside here = take_more ss i s inside ∙ ap (λ (x : Slot). take i ss ++ x ∷ []) (sym here)

-- an entry more, which is kept, and one that isn't
pub kept-more : (img : Image) (f : Fault) (ss fs new : List Slot) (i : ℕ) (s : Slot) → i < length ss → s ≡ get_or ss i s
    → IsConcerned img f s → new ≡ fs ++ s ∷ [] → AreConcerned img f (take i ss) fs → AreConcerned img f (take (i + 1) ss) new
kept-more img f ss fs new i s inside here is more so =
    subst (λ (xs : List Slot). AreConcerned img f (take (i + 1) ss) xs) (sym more)
    (subst (λ (xs : List Slot). AreConcerned img f xs (fs ++ s ∷ [])) (sym (taken ss i s inside here))
    (push-kept img f (take i ss) fs s is so))

pub left-more : (img : Image) (f : Fault) (ss fs : List Slot) (i : ℕ) (s : Slot) → i < length ss → s ≡ get_or ss i s
    → IsUnconcerned img f s → AreConcerned img f (take i ss) fs → AreConcerned img f (take (i + 1) ss) fs
left-more img f ss fs i s inside here other so =
    subst (λ (xs : List Slot). AreConcerned img f xs fs) (sym (taken ss i s inside here))
    (push-left img f (take i ss) fs s other so)

pub all-kept : (img : Image) (f : Fault) (ss fs : List Slot) (i : ℕ) → i ≡ length ss → AreConcerned img f (take i ss) fs
    → AreConcerned img f ss fs
all-kept img f ss fs i end = subst (λ (xs : List Slot). AreConcerned img f xs fs)
    (ap (λ (n : ℕ). take n ss) end ∙ take-length ss)
