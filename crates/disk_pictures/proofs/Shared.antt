-- The first two owners of a sector, as they are found.
use Rattle.std.proofs.Common.{◌≡◌, ◌+◌, ◌↔◌, ℕ, suc, Bool, true, false, List, [], ◌∷◌, ◌++◌, append_assoc, get_or, length, map}
use Rattle.std.proofs.Common.{take, ap, refl, subst, sym, ◌<◌, ◌≤◌, ◌∙◌, arith}
use Rattle.std.specs.Prelude.{Contains, IsTrue}
use Rattle.std.proofs.lemmas.Bool.{false≢true}
use Rattle.std.proofs.lemmas.List.{append-nil, length-map, length-take-le, map_more, take_all}
use Rattle.d64_image.specs.declared.place.Place.{Place}
use Rattle.disk_layout.specs.Layout.{File}
use Rattle.disk_pictures.proofs.DrawnOnce.{has-there, there-has}
use Rattle.disk_pictures.specs.Drawings.{file_in, has}
use Rattle.disk_pictures.specs.Sentences.{entry_owners, own_if, owners_among}
use Rattle.disk_pictures.specs.Sharing.{IsTwoOf}
use Rattle.disk_pictures.specs.declared.drawn_file.DrawnFile.{DrawnFile}
use Rattle.disk_pictures.specs.declared.owners.Owner.{Owner}
use Rattle.disk_pictures.specs.declared.pages.sharing.Two.{Two}

-- a place is one of these exactly if it is found there
pub found-has : (found : Bool) (ps : List Place) (p : Place) → (IsTrue found ↔ Contains ps p) → found ≡ has ps p
found-has found ps p so = by found (has ps p) refl so
  where
    by : (f h : Bool) → has ps p ≡ h → (IsTrue f ↔ Contains ps p) → f ≡ h
    by true true e s = refl
    by false false e s = refl
    by true false e s = absurd (false≢true (sym e ∙ there-has ps p (s.0 refl)))
    by false true e s = s.1 (has-there ps p e)

among-push : (k : ℕ) (fs : List File) (f : File) (p : Place)
    → owners_among k (fs ++ f ∷ []) p ≡ owners_among k fs p ++ entry_owners (k + length fs) f p
unfolding owners_among
among-push k [] f p =
    let here : k ≡ k + 0 = omega arith in
    append-nil (entry_owners k f p) ∙ ap (λ (m : ℕ). entry_owners m f p) here
among-push k (g ∷ fs) f p =
    let next : k + 1 + length fs ≡ k + suc (length fs) = omega arith in
    ap (λ (t : List Owner). entry_owners k g p ++ t) (among-push (k + 1) fs f p)
    ∙ sym (append_assoc (entry_owners k g p) (owners_among (k + 1) fs p) (entry_owners (k + 1 + length fs) f p))
    ∙ ap (λ (m : ℕ). (entry_owners k g p ++ owners_among (k + 1) fs p) ++ entry_owners m f p) next

-- one entry more
pub entry-more : (two more : Two) (os : List Owner) (fs : List DrawnFile) (i : ℕ) (f : DrawnFile) (p : Place)
    → i < length fs → get_or fs i f ≡ f
    → IsTwoOf two (os ++ owners_among 0 (map file_in (take i fs)) p)
    → ((all : List Owner) → IsTwoOf two all → IsTwoOf more (all ++ entry_owners i (file_in f) p))
    → IsTwoOf more (os ++ owners_among 0 (map file_in (take (i + 1) fs)) p)
entry-more two more os fs i f p inside here before step =
    let taken : map file_in (take (i + 1) fs) ≡ map file_in (take i fs) ++ file_in f ∷ [] =
    map_more file_in fs i f inside ∙ ap (λ g. map file_in (take i fs) ++ file_in g ∷ []) here in
    let long : length (map file_in (take i fs)) ≡ i = length-map (take i fs) file_in
    ∙ length-take-le i fs (omega (arith, inside)) in
    let here' : 0 + length (map file_in (take i fs)) ≡ i = omega (arith, long) in
    let joined : (os ++ owners_among 0 (map file_in (take i fs)) p) ++ entry_owners i (file_in f) p
    ≡ os ++ owners_among 0 (map file_in (take (i + 1) fs)) p =
    append_assoc os _ _
    ∙ ap (λ (t : List Owner). os ++ t)
    (ap (λ (m : ℕ). owners_among 0 (map file_in (take i fs)) p ++ entry_owners m (file_in f) p) (sym here')
    ∙ sym (among-push 0 (map file_in (take i fs)) (file_in f) p)
    ∙ ap (λ (gs : List File). owners_among 0 gs p) (sym taken)) in
    subst (IsTwoOf more) joined (step _ before)

pub no-entries : (two : Two) (os : List Owner) (fs : List File) (p : Place) → fs ≡ [] → IsTwoOf two os
    → IsTwoOf two (os ++ owners_among 0 fs p)
unfolding owners_among
no-entries two os fs p none before =
    subst (λ (gs : List File). IsTwoOf two (os ++ owners_among 0 gs p)) (sym none)
    (subst (IsTwoOf two) (sym (append-nil os)) before)

-- two owners more, each if it has the sector
pub two-added : (two : Two) (os : List Owner) (a b c d : Bool) (x y : Owner) → a ≡ c → b ≡ d
    → IsTwoOf two ((os ++ own_if a x) ++ own_if b y) → IsTwoOf two (os ++ (own_if c x ++ own_if d y))
two-added two os a b c d x y e f both = rw (← e, ← f) (subst (IsTwoOf two) (append_assoc os (own_if a x) (own_if b y)) both)

-- all entries
pub all-entries : (two : Two) (os : List Owner) (fs items : List DrawnFile) (n : ℕ) (p : Place) → length fs ≤ n
    → fs ≡ items → IsTwoOf two (os ++ owners_among 0 (map file_in (take n fs)) p)
    → IsTwoOf two (os ++ owners_among 0 (map file_in items) p)
all-entries two os fs items n p long is so =
    subst (λ (gs : List DrawnFile). IsTwoOf two (os ++ owners_among 0 (map file_in gs) p)) (take_all n fs long ∙ is) so
