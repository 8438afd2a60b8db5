-- The side sectors that are drawn of a sound relative file are its own.
use Rattle.std.proofs.Common.{◌≡◌, ◌+◌, ◌++◌, ◌∷◌, ◌≤◌, inl, inr, ℕ, suc, List, [], Some, length, take, refl, subst}
use Rattle.std.proofs.Common.{sym, ap, ◌∙◌, arith}
use Rattle.std.specs.Prelude.{Contains, slice_get, slice_index}
use Rattle.std.proofs.Math.Seq.{take-append_seam}
use Rattle.std.proofs.lemmas.List.{append_assoc, length-append}
use Rattle.d64_image.specs.Images.{Image, Sector, sector}
use Rattle.d64_image.specs.declared.place.Place.{Place}
use Rattle.disk_layout.proofs.lemmas.chains.Chains.{Names-one, cons_both, ends-no_link}
use Rattle.disk_layout.proofs.lemmas.lists.Once.{Contains-here, EachOnce-apart}
use Rattle.disk_pictures.specs.Walks.{IsWalk, StopsAt}
use Rattle.disk_layout.specs.Chain.{EachOnce, Leads, LinksTo}
use Rattle.disk_layout.specs.Layout.{File, HasChain, IsRelFile, sides_for}
use Rattle.disk_pictures.specs.Drawings.{AreDrawnSides}

-- links lead from p through these, one after another
abbrev LeadsThrough : Image → Place → List Place → Type 0
LeadsThrough img p [] = Unit {0}
LeadsThrough img p (q ∷ rest) = LinksTo img p q × LeadsThrough img q rest

-- a walk doesn't stop at a sector that links to one which it hasn't come to
goes-on : (img : Image) (before : List Place) (p q : Place) (u : ℕ) → LinksTo img p q
    → ¬ (Contains (before ++ p ∷ []) q)
    → ¬ (StopsAt img (before ++ p ∷ []) p u)
goes-on img before p q u link new stops = elim stops [
  | inl ends ↦ ends-no_link img p q u ends link
  | inr (none, inl nowhere) ↦ nowhere.1 q link
  | inr (none, inr (r, back, there)) ↦ new (subst (λ (x : Place). Contains (before ++ p ∷ []) x)
      (Names-one (sector img p) 0 r q back link) there)
]

-- so it goes through all that links lead through, if none comes twice
goes-through : (img : Image) (before front : List Place) (p last : Place) (rest : List Place) (u : ℕ)
    → Leads img p front last
    → StopsAt img (before ++ (front ++ last ∷ [])) last u → LeadsThrough img p rest → EachOnce (before ++ p ∷ rest)
    → (more : List Place) × (front ++ last ∷ [] ≡ p ∷ (rest ++ more))
goes-through img before [] p last [] u leads stops along once = ([], ap (λ (x : Place). x ∷ []) (sym leads))
goes-through img before (v ∷ vs) p last [] u leads stops along once =
    (vs ++ last ∷ [], ap (λ (x : Place). x ∷ (vs ++ last ∷ [])) leads.1)
goes-through img before [] p last (q ∷ rest) u leads stops along once =
    absurd (goes-on img before p q u along.0
    (λ c. EachOnce-apart (before ++ p ∷ []) (q ∷ rest)
    (subst (λ (xs : List Place). EachOnce xs) (sym (append_assoc before (p ∷ []) (q ∷ rest))) once)
    q c (Contains-here q rest))
    (subst (λ (x : Place). StopsAt img (before ++ x ∷ []) x u) (sym leads) stops))
goes-through img before (v ∷ vs) p last (q ∷ rest) u (n, same, link, leads) stops along once =
    let one : n ≡ q = Names-one (sector img p) 0 n q (subst (λ (x : Place). LinksTo img x n) same link) along.0 in
    let walked : (before ++ p ∷ []) ++ (vs ++ last ∷ []) ≡ before ++ (v ∷ vs ++ last ∷ []) =
    append_assoc before (p ∷ []) (vs ++ last ∷ []) ∙ ap (λ (x : Place). before ++ x ∷ (vs ++ last ∷ [])) (sym same) in
    let (more, e) = goes-through img (before ++ p ∷ []) vs q last rest u
    (subst (λ (x : Place). Leads img x vs last) one leads)
    (subst (λ (xs : List Place). StopsAt img xs last u) (sym walked) stops) along.1
    (subst (λ (xs : List Place). EachOnce xs) (sym (append_assoc before (p ∷ []) (q ∷ rest))) once) in
    (more, cons_both same e)

-- the beginning of a walk
begins : (img : Image) (p : Place) (ps rest : List Place) (u : ℕ) → IsWalk img p ps u → LeadsThrough img p rest
    → EachOnce (p ∷ rest)
    → take (length (p ∷ rest)) ps ≡ p ∷ rest
begins img p ps rest u walk along once =
    let (more, e) = goes-through img [] walk.front p walk.last rest u walk.leads
    (subst (λ (xs : List Place). StopsAt img xs walk.last u) walk.places walk.stops) along once in
    ap (take (length (p ∷ rest))) (walk.places ∙ e) ∙ take-append_seam (p ∷ rest) more

-- each links to the next
through : (img : Image) (p : Place) (rest : List Place)
    → ((j : ℕ) (x y : Place) → slice_get (p ∷ rest) j ≡ Some x → slice_get (p ∷ rest) (suc j) ≡ Some y
    → LinksTo img x y)
    → LeadsThrough img p rest
through img p [] h = tt
through img p (q ∷ rest) h = (h 0 p q refl refl, through img q rest (λ j. h (suc j)))

add-one : (n : ℕ) → n + 1 ≡ suc n
add-one n = omega arith

some-needed : (n : ℕ) → 1 ≤ n → 1 ≤ sides_for n
some-needed n some = omega (arith, some)

has-blocks : (img : Image) (f : File) → HasChain img f → 1 ≤ length f.blocks
has-blocks img f (p, named, chain) =
    omega (arith, ap length chain.places, length-append chain.front (chain.last ∷ []))

-- what is drawn from the first side sector on
from-first : (img : Image) (bytes : Sector) (n : ℕ) (s : Place) (rest drawn : List Place)
    → slice_index bytes 21 ≡ s.track
    → slice_index bytes 22 ≡ s.sector → LeadsThrough img s rest → EachOnce (s ∷ rest)
    → length (s ∷ rest) ≡ sides_for n
    → AreDrawnSides img bytes n drawn → drawn ≡ s ∷ rest
from-first img bytes n s rest drawn track sec along once count (ps, u, goes, part) = elim goes [
  | inl (p, names, walk) ↦
      let one : p ≡ s = Names-one bytes 21 p s names (track, sec) in
      part ∙ ap (λ (k : ℕ). take k ps) (sym count)
      ∙ begins img s ps rest u (subst (λ (x : Place). IsWalk img x ps u) one walk) along once
  | inr (none, empty, zero) ↦ absurd (none s (track, sec))
]

-- the side sectors drawn of a relative file with these side sectors
of-sides : (img : Image) (f : File) (sides drawn : List Place) → f.sides ≡ sides → IsRelFile img f → EachOnce sides
    → AreDrawnSides img f.slot.bytes (length f.blocks) drawn → drawn ≡ sides
of-sides img f [] drawn same rel once d =
    absurd (omega (arith, some-needed (length f.blocks) (has-blocks img f rel.chain), rel.count, ap length same))
of-sides img f (s ∷ rest) drawn same rel once d =
    let first = rel.first_side s (ap (λ (xs : List Place). slice_get xs 0) same) in
    from-first img f.slot.bytes (length f.blocks) s rest drawn first.0 first.1
    (through img s rest (λ j x y at next. (rel.sides j x (ap (λ (xs : List Place). slice_get xs j) same ∙ at)).link y
    (ap (slice_get f.sides) (add-one j) ∙ ap (λ (xs : List Place). slice_get xs (suc j)) same ∙ next)))
    once (sym (ap length same) ∙ rel.count) d

pub sides-own : (img : Image) (f : File) (drawn : List Place) → IsRelFile img f → EachOnce f.sides
    → AreDrawnSides img f.slot.bytes (length f.blocks) drawn → drawn ≡ f.sides
sides-own img f drawn rel once d = of-sides img f f.sides drawn refl rel once d
