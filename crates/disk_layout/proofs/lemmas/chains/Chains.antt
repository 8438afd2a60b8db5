-- Chains: what the image determines, and what writes leave of them.
use Rattle.std.proofs.Common.{◌≡◌, ◌≢◌, ℕ, List, [], ◌∷◌, ◌++◌, slice_index, refl, sym, ◌∙◌, ap, arith}
use Rattle.std.specs.Prelude.{Contains}
use Rattle.std.proofs.lemmas.List.Elements.{Contains-append_left, Contains-append_right}
use Rattle.d64_image.proofs.Places.{same_place, track_from_1}
use Rattle.d64_image.specs.Images.{Image, sector}
use Rattle.d64_image.specs.declared.place.Place.{Place}
use Rattle.disk_layout.proofs.lemmas.lists.Once.{Contains-here, Contains-there, EachOnce-apart, EachOnce-push}
use Rattle.disk_layout.specs.Chain.{EndsAt, IsChain, Leads, LinksNowhere, LinksTo, Names, byte}

pub Names-one : (bytes : List ℕ) (i : ℕ) (p q : Place) → Names bytes i p → Names bytes i q → p ≡ q
Names-one bytes i p q a b = same_place p q (sym a.0 ∙ b.0) (sym a.1 ∙ b.1)

-- a sector that links to a place does not end
pub ends-no_link : (img : Image) (p q : Place) (u : ℕ) → EndsAt img p u → ¬ (LinksTo img p q)
ends-no_link img p q u e h = omega (arith, track_from_1 q, e.0, h.0)

-- one more link
pub Leads-push : (img : Image) (p : Place) (vs : List Place) (q n : Place) → Leads img p vs q → LinksTo img q n
    → Leads img p (vs ++ q ∷ []) n
Leads-push img p [] q n a h = (n, sym a, h, refl)
Leads-push img p (v ∷ vs) q n a h = (a.0, a.1, a.2, Leads-push img a.0 vs q n a.3 h)

-- from p along the rest of a chain, which ends with u
abbrev pub Follows : Image → Place → List Place → ℕ → Type 0
Follows img p [] u = EndsAt img p u
Follows img p (q ∷ rest) u = LinksTo img p q × Follows img q rest u

pub cons_both : {X : Type 0} {x y : X} {xs ys : List X} → x ≡ y → xs ≡ ys → x ∷ xs ≡ y ∷ ys
cons_both e f = cc

pub Follows-chain : (img : Image) (p : Place) (front : List Place) (last : Place) (u : ℕ) → Leads img p front last
    → EndsAt img last u → (rest : List Place) × (front ++ last ∷ [] ≡ p ∷ rest) × Follows img p rest u
Follows-chain img p [] last u a e = ([], ap (λ x. x ∷ []) (sym a), rw a e)
Follows-chain img p (v ∷ vs) last u (n, same, link, more) e =
    let (rest, eq, f) = Follows-chain img n vs last u more e in
    (n ∷ rest, cons_both same eq, (rw (← same) link, f))

-- what leads somewhere leads along the chain
pub Leads-along : (img : Image) (p q : Place) (vs rest : List Place) (u : ℕ) → Leads img p vs q → Follows img p rest u
    → (more : List Place) × (p ∷ rest ≡ vs ++ q ∷ more) × Follows img q more u
Leads-along img p q [] rest u a f = (rest, ap (λ x. x ∷ rest) a, rw (← a) f)
Leads-along img p q (v ∷ vs) [] u (n, same, link, more) f = absurd (ends-no_link img p n u f (rw (← same) link))
Leads-along img p q (v ∷ vs) (r ∷ rest) u (n, same, link, more) f =
    let one : n ≡ r = Names-one (sector img p) 0 n r (rw (← same) link) f.0 in
    let (tail, eq, g) = Leads-along img r q vs rest u (rw (← one) more) f.1 in
    (tail, cons_both (sym same) eq, g)

Follows-one : (img : Image) (p : Place) (xs ys : List Place) (u w : ℕ) → Follows img p xs u → Follows img p ys w
    → (xs ≡ ys) × (u ≡ w)
Follows-one img p [] [] u w f g = (refl, sym f.1 ∙ g.1)
Follows-one img p [] (y ∷ ys) u w f g = absurd (ends-no_link img p y u f g.0)
Follows-one img p (x ∷ xs) [] u w f g = absurd (ends-no_link img p x w g f.0)
Follows-one img p (x ∷ xs) (y ∷ ys) u w f g =
    let one : x ≡ y = Names-one (sector img p) 0 x y f.0 g.0 in
    let both = Follows-one img y xs ys u w (rw (← one) f.1) g.1 in
    (cons_both one both.0, both.1)

pub IsChain-follows : (img : Image) (p : Place) (ps : List Place) (u : ℕ) → IsChain img p ps u → (rest : List Place)
    × (ps ≡ p ∷ rest) × Follows img p rest u
IsChain-follows img p ps u c =
    let (rest, eq, f) = Follows-chain img p c.front c.last u c.leads c.ends in
    (rest, c.places ∙ eq, f)

-- a chain is determined by the image and its first place
pub IsChain-one : (img : Image) (p : Place) (ps qs : List Place) (u w : ℕ) → IsChain img p ps u → IsChain img p qs w
    → (ps ≡ qs) × (u ≡ w)
IsChain-one img p ps qs u w a b =
    let (xs, e, f) = IsChain-follows img p ps u a in
    let (ys, g, h) = IsChain-follows img p qs w b in
    let both = Follows-one img p xs ys u w f h in
    (e ∙ ap (λ x. p ∷ x) both.0 ∙ sym g, both.1)

-- where a chain is, no link leads back
pub loop-no_chain : (img : Image) (p q : Place) (vs ps : List Place) (u : ℕ) → Leads img p vs q → Contains vs q
    → ¬ (IsChain img p ps u)
loop-no_chain img p q vs ps u a c chain =
    let (rest, eq, f) = IsChain-follows img p ps u chain in
    let (more, same, g) = Leads-along img p q vs rest u a f in
    EachOnce-apart vs (q ∷ more) (rw (eq ∙ same) at chain.once) q c (Contains-here q more)

pub bad_link-no_chain : (img : Image) (p q : Place) (vs ps : List Place) (u : ℕ) → Leads img p vs q → LinksNowhere img q
    → ¬ (IsChain img p ps u)
bad_link-no_chain img p q vs ps u a bad chain =
    let (rest, eq, f) = IsChain-follows img p ps u chain in
    let (more, same, g) = Leads-along img p q vs rest u a f in
    stuck more g
  where
    stuck : (more : List Place) → Follows img q more u → ⊥
    stuck [] g = bad.0 g.0
    stuck (n ∷ more) g = bad.1 n g.0

-- the images agree at each of the places
abbrev pub AgreeAt : Image → Image → List Place → Type 0
AgreeAt a b ps = (p : Place) → Contains ps p → sector a p ≡ sector b p

-- they agree there in bytes 0-1
abbrev pub SameLink : Image → Image → Place → Type 0
SameLink a b p = (byte a p 0 ≡ byte b p 0) × (byte a p 1 ≡ byte b p 1)

abbrev pub SameLinks : Image → Image → List Place → Type 0
SameLinks a b ps = (p : Place) → Contains ps p → SameLink a b p

pub links-agree : (a b : Image) (ps : List Place) → AgreeAt a b ps → SameLinks a b ps
links-agree a b ps same p c = (ap (λ s. slice_index s 0) (same p c), ap (λ s. slice_index s 1) (same p c))

pub Leads-frame : (a b : Image) (p q : Place) (vs : List Place) → SameLinks a b vs → Leads a p vs q → Leads b p vs q
Leads-frame a b p q [] same h = h
Leads-frame a b p q (v ∷ vs) same (n, e, link, more) =
    let here = same v (Contains-here v vs) in (
      n,
      e,
      (sym here.0 ∙ link.0, sym here.1 ∙ link.1),
      Leads-frame a b n q vs (λ x c. same x (Contains-there x v vs c))
          more,
    )

pub EndsAt-frame : (a b : Image) (p : Place) (u : ℕ) → SameLink a b p → EndsAt a p u → EndsAt b p u
EndsAt-frame a b p u same h = (sym same.0 ∙ h.0, sym same.1 ∙ h.1)

-- a chain stays where its links stay
pub IsChain-frame : (a b : Image) (p : Place) (ps : List Place) (u : ℕ) → SameLinks a b ps → IsChain a p ps u
    → IsChain b p ps u
IsChain-frame a b p ps u same c = record {
  front = c.front;
  last = c.last;
  places = c.places;
  leads = Leads-frame a b p c.last c.front
      (λ x h. same x (rw c.places (Contains-append_left c.front (c.last ∷ []) x h))) c.leads;
  ends = EndsAt-frame a b c.last u
      (same c.last (rw c.places (Contains-append_right c.front (c.last ∷ []) c.last (Contains-here c.last [])))) c.ends;
  once = c.once;
}

pub chain-last : (a : Image) (p : Place) (ps : List Place) (u : ℕ) → (c : IsChain a p ps u) → Contains ps c.last
chain-last a p ps u c = rw c.places (Contains-append_right c.front (c.last ∷ []) c.last (Contains-here c.last []))

pub chain-front : (a : Image) (p : Place) (ps : List Place) (u : ℕ) → (c : IsChain a p ps u) → (q : Place)
    → Contains c.front q → Contains ps q × (q ≢ c.last)
chain-front a p ps u c q h = (
  rw c.places (Contains-append_left c.front (c.last ∷ []) q h),
  λ e. EachOnce-apart c.front (c.last ∷ []) (rw c.places at c.once) q h (rw e (Contains-here c.last [])),
)

-- a write that links the last block to a fresh one, which ends, makes the chain longer by one
pub IsChain-grow : (a b : Image) (p fresh : Place) (ps : List Place) (u w : ℕ) → (c : IsChain a p ps u)
    → SameLinks a b c.front → LinksTo b c.last fresh → EndsAt b fresh w → ¬ (Contains ps fresh)
    → IsChain b p (ps ++ fresh ∷ []) w
IsChain-grow a b p fresh ps u w c same link end new = record {
  front = c.front ++ c.last ∷ [];
  last = fresh;
  places = ap (λ xs. xs ++ fresh ∷ []) c.places;
  leads = Leads-push b p c.front c.last fresh (Leads-frame a b p c.last c.front same c.leads) link;
  ends = end;
  once = EachOnce-push ps fresh c.once new;
}
