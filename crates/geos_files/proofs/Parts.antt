-- Parts of a file: the first blocks of a chain, after others.
use Rattle.std.proofs.Common.{◌≡◌, ◌<◌, ◌≤◌, ◌+◌, ◌-◌, ◌++◌, ◌∷◌, ◌⊎◌, ℕ, List, [], Option, Some, ap, append_assoc, append-nil, arith, drop, get_or, inl, inr, length, length-append, refl, subst, sym, take, ◌∙◌}
use Rattle.std.specs.Prelude.{Contains}
use Rattle.std.proofs.lemmas.List.{drop_more, get_or_push, length-take-le, take_all, take-append-drop, take_more}
use Rattle.d64_image.specs.Images.{Image}
use Rattle.d64_image.specs.declared.place.Place.{Place}
use Rattle.damaged_files.specs.reached.Reached.{IsReach}
use Rattle.disk_layout.specs.Chain.{EachOnce}
use Rattle.disk_layout.specs.declared.faults.Fault.{Fault}
use Rattle.disk_layout.specs.declared.faults.Fault.TheVariants.{BadLink}
use Rattle.geos_files.specs.Reached.{IsPart}

-- the last of these blocks, or this one
abbrev pub last_or : Place → List Place → Place
last_or from own = get_or own (length own - 1) from

-- none so far, and one more
pub none-so-far : (had chain : List Place) → had ≡ had ++ take 0 chain
none-so-far had chain = sym (append-nil had)

pub one-more : (had now more chain : List Place) (i : ℕ) (p : Place) → i < length chain → p ≡ get_or chain i p
    → now ≡ had ++ take i chain → more ≡ now ++ p ∷ [] → more ≡ had ++ take (i + 1) chain
one-more had now more chain i p inside is so pushed =
    pushed ∙ ap (λ (l : List Place). l ++ p ∷ []) so ∙ append_assoc had (take i chain) (p ∷ [])
    ∙ ap (λ (l : List Place). had ++ l)
    (ap (λ (x : Place). take i chain ++ x ∷ []) is ∙ sym (take_more chain i p inside))

last-pushed : (xs : List Place) (x from : Place) → last_or from (xs ++ x ∷ []) ≡ x
last-pushed xs x from = get_or_push xs x from (length (xs ++ x ∷ []) - 1) (omega (arith, length-append xs (x ∷ [])))

pub last-more : (chain : List Place) (i : ℕ) (p from : Place) → i < length chain → p ≡ get_or chain i p
    → p ≡ last_or from (take (i + 1) chain)
last-more chain i p from inside is =
    is ∙ sym (ap (last_or from) (take_more chain i p inside) ∙ last-pushed (take i chain) (get_or chain i p) from)

-- the part ends before block i of the chain
pub cut-part : (img : Image) (most : ℕ) (from first : Place) (had blocks chain : List Place) (broken : Option Fault)
    (end i : ℕ) (p before : Place) → IsReach img first chain broken end → i < length chain → p ≡ get_or chain i p
    → i ≤ most → blocks ≡ had ++ take i chain → EachOnce blocks → (i ≡ most) ⊎ Contains blocks p
    → before ≡ last_or from (take i chain) → IsPart img most from first had blocks (Some (BadLink before)) 255
cut-part img most from first had blocks chain broken end i p before reach inside is few are once why last =
    let long : length (take i chain) ≡ i = length-take-le i chain (omega (arith, inside)) in
    record {
      chain = chain;
      broken = broken;
      end = end;
      reach = reach;
      own = take i chain;
      rest = p ∷ drop (i + 1) chain;
      split = sym (take-append-drop i chain) ∙ ap (λ (l : List Place). take i chain ++ l)
          (drop_more chain i p inside ∙ ap (λ (x : Place). x ∷ drop (i + 1) chain) (sym is));
      few = omega (arith, long, few);
      are = are;
      once = subst EachOnce are once;
      ends = (
        elim why [ inl full ↦ inl (long ∙ full) | inr has ↦ inr (subst (λ (l : List Place). Contains l p) are has) ],
        ap (λ (b : Place). Some (BadLink b)) last,
        refl,
      );
    }

-- the part has the whole chain
pub whole-part : (img : Image) (most : ℕ) (from first : Place) (had blocks chain : List Place) (fault : Option Fault)
    (last i : ℕ) → IsReach img first chain fault last → length chain ≤ i → i ≤ most → blocks ≡ had ++ take i chain
    → EachOnce blocks → IsPart img most from first had blocks fault last
whole-part img most from first had blocks chain fault last i reach end few are once =
    let all : blocks ≡ had ++ chain = are ∙ ap (λ (l : List Place). had ++ l) (take_all i chain end) in
    record {
      chain = chain;
      broken = fault;
      end = last;
      reach = reach;
      own = chain;
      rest = [];
      split = sym (append-nil chain);
      few = omega (arith, end, few);
      are = all;
      once = subst EachOnce all once;
      ends = (refl, refl);
    }

-- how many blocks came to the file
pub part-long : (img : Image) (most : ℕ) (from first : Place) (had blocks : List Place) (fault : Option Fault) (last : ℕ)
    → IsPart img most from first had blocks fault last
    → (length had ≤ length blocks) × (length blocks ≤ length had + most)
part-long img most from first had blocks fault last part =
    let both = ap length part.are in
    let sum = length-append had part.own in
    (omega (arith, both, sum), omega (arith, both, sum, part.few))
