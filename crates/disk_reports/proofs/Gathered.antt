-- Faults gathered one after another.
use Rattle.std.proofs.Common.{◌≡◌, ◌<◌, ◌+◌, ◌++◌, ◌∷◌, ◌≤◌, [], ℕ, List, ap, append-nil, append_assoc, get_or, inl, length, refl, subst, sym, take, ◌∙◌}
use Rattle.std.proofs.lemmas.List.{take_more}
use Rattle.std.specs.Prelude.{flat_map}
use Rattle.d64_image.proofs.Order.{all-taken, text-more}
use Rattle.d64_image.specs.Places.{index_of, places}
use Rattle.d64_image.specs.declared.place.Place.{Place}
use Rattle.disk_layout.specs.declared.faults.Fault.{Fault}
use Rattle.disk_reports.proofs.Those.{those-append}
use Rattle.disk_reports.specs.AllFaults.{AreOthers, HoldsToo, IsGathered, faults_at}
use Rattle.disk_reports.specs.declared.links.Links.{Links}

pub gathered-none : (l : Links) (first : Fault) (now old : List Fault) → now ≡ old → IsGathered l first [] old now
gathered-none l first now old same = ([], tt, same ∙ sym (append-nil old))

pub gathered-append : (l : Links) (first : Fault) (cs ds : List Fault) (a b c : List Fault) → IsGathered l first cs a b
    → IsGathered l first ds b c → IsGathered l first (cs ++ ds) a c
gathered-append l first cs ds a b c (xs, those, more) (ys, these, after) = (
  xs ++ ys,
  those-append (HoldsToo l first) (λ (f : Fault). f) cs ds xs ys those these,
  after ∙ ap (λ (t : List Fault). t ++ ys) more ∙ append_assoc a xs ys,
)

pub one-kept : (l : Links) (first f : Fault) (old new : List Fault) → HoldsToo l first f → new ≡ old ++ f ∷ []
    → IsGathered l first (f ∷ []) old new
one-kept l first f old new has more = (f ∷ [], inl (has, refl, tt), more)

pub one-left : (l : Links) (first f : Fault) (old : List Fault) → ¬ (HoldsToo l first f) → IsGathered l first (f ∷ []) old old
one-left l first f old hasnt = ([], (hasnt, tt), sym (append-nil old))

-- a fault more
pub next-candidate : (l : Links) (first : Fault) (cs : List Fault) (i : ℕ) (f : Fault) (a b c : List Fault) → i < length cs
    → f ≡ get_or cs i f → IsGathered l first (take i cs) a b → IsGathered l first (f ∷ []) b c
    → IsGathered l first (take (i + 1) cs) a c
next-candidate l first cs i f a b c inside here so_far more =
    subst (λ (ds : List Fault). IsGathered l first ds a c)
    (sym (take_more cs i f inside ∙ ap (λ (x : Fault). take i cs ++ x ∷ []) (sym here)))
    (gathered-append l first (take i cs) (f ∷ []) a b c so_far more)

-- a sector more
pub next-place : (l : Links) (first : Fault) (i : ℕ) (p : Place) (a b c : List Fault) → index_of p ≡ i
    → IsGathered l first (flat_map faults_at (take i places)) a b → IsGathered l first (faults_at p) b c
    → IsGathered l first (flat_map faults_at (take (i + 1) places)) a c
next-place l first i p a b c at so_far more =
    subst (λ (fs : List Fault). IsGathered l first fs a c) (text-more faults_at i p at)
    (gathered-append l first (flat_map faults_at (take i places)) (faults_at p) a b c so_far more)

others : (l : Links) (first : Fault) (now : List Fault) → IsGathered l first (flat_map faults_at places) [] now
    → AreOthers l first now
others l first now (more, those, same) = subst (AreOthers l first) (sym same) those

pub all-places : (l : Links) (first : Fault) (i : ℕ) (now : List Fault) → 683 ≤ i
    → IsGathered l first (flat_map faults_at (take i places)) [] now → AreOthers l first now
all-places l first i now end all =
    others l first now (subst (λ (ps : List Place). IsGathered l first (flat_map faults_at ps) [] now)
    (all-taken i end) all)
