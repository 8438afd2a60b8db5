-- Sectors that are looked at one after another for those that look like a directory's.
use Rattle.std.proofs.Common.{◌≡◌, inl, inr, ◌<◌, ◌≤◌, ◌+◌, ◌++◌, ◌∷◌, ℕ, suc, List, [], Bool, true, false, Option, Some, None, ap, arith, drop, get_or, length, length-append, refl, subst, sym, ◌∙◌}
use Rattle.std.specs.Prelude.{◌&&◌, ◌||◌, Contains, if◌then◌else◌, nat_eq}
use Rattle.std.specs.List.{AllByRecursion, list_all, list_any}
use Rattle.std.proofs.lemmas.Bool.{false≢true}
use Rattle.std.proofs.lemmas.Bool.Decides.{Decides-eqb}
use Rattle.std.proofs.lemmas.List.{drop_more}
use Rattle.d64_image.proofs.Places.{place_at-some}
use Rattle.d64_image.specs.Images.{Image, sector}
use Rattle.d64_image.specs.Places.{index_of, place_at}
use Rattle.d64_image.specs.declared.place.Place.{Place}
use Rattle.disk_layout.proofs.lemmas.chains.Directories.{directory-few}
use Rattle.disk_layout.proofs.lemmas.lists.Lists.{all-push}
use Rattle.disk_layout.proofs.lemmas.lists.Once.{Contains-cases, Contains-nil, EachOnce-push}
use Rattle.disk_layout.specs.Chain.{EachOnce}
use Rattle.disk_layout.specs.Directory.{IsDirectoryPlace}
use Rattle.file_rescues.specs.rescue.Scanned.{is_among, is_directory_like, with_next, with_scanned}

both-true : (b c : Bool) → b ≡ true → (b && c) ≡ c
both-true true c e = refl
both-true false c e = absurd (false≢true e)

both-false : (b c : Bool) → b ≡ false → (b && c) ≡ false
both-false false c e = refl
both-false true c e = absurd (false≢true (sym e))

either-true : (b c : Bool) → b ≡ true → (b || c) ≡ true
either-true true c e = refl
either-true false c e = absurd (false≢true e)

either-false : (b c : Bool) → b ≡ false → (b || c) ≡ c
either-false false c e = refl
either-false true c e = absurd (false≢true (sym e))

none-either : (b c : Bool) → (b || c) ≡ false → (b ≡ false) × (c ≡ false)
none-either false c e = (refl, e)
none-either true c e = absurd (false≢true (sym e))

-- one item of a list more passes a test, or doesn't
module _ {X : Type 0} (p : X → Bool) (xs : List X) (n : ℕ) (x : X) (inside : n < length xs) (here : get_or xs n x ≡ x) where
  rest : drop n xs ≡ x ∷ drop (n + 1) xs
  rest = drop_more xs n x inside ∙ ap (λ (y : X). y ∷ drop (n + 1) xs) here

  pub all-later : p x ≡ true → list_all p (drop n xs) ≡ list_all p (drop (n + 1) xs)
  all-later is = ap (list_all p) rest ∙ both-true (p x) (list_all p (drop (n + 1) xs)) is

  pub all-here : p x ≡ false → list_all p (drop n xs) ≡ false
  all-here is = ap (list_all p) rest ∙ both-false (p x) (list_all p (drop (n + 1) xs)) is

  pub any-later : p x ≡ false → list_any p (drop n xs) ≡ list_any p (drop (n + 1) xs)
  any-later is = ap (list_any p) rest ∙ either-false (p x) (list_any p (drop (n + 1) xs)) is

  pub any-here : p x ≡ true → list_any p (drop n xs) ≡ true
  any-here is = ap (list_any p) rest ∙ either-true (p x) (list_any p (drop (n + 1) xs)) is

same-number : (n : ℕ) → nat_eq n n ≡ true
same-number n = (Decides-eqb n n).1 refl

not-among : (p : Place) (ps : List Place) → is_among p ps ≡ false → ¬ (Contains ps p)
not-among p [] none has = Contains-nil p has
not-among p (q ∷ ps) none has =
    let both = none-either (nat_eq (index_of q) (index_of p)) (is_among p ps) none in
    elim (Contains-cases p q ps has) [
      | inl same ↦ false≢true (sym both.0 ∙ ap (λ (r : Place). nat_eq (index_of r) (index_of p)) same ∙ same-number (index_of p))
      | inr there ↦ not-among p ps both.1 there
    ]

-- a sector of track 18 that isn't 18/0
on-track : (n : ℕ) (p : Place) → 1 ≤ n → place_at 18 n ≡ Some p → IsDirectoryPlace p
on-track n p low at =
    let there = place_at-some 18 n p at in
    (there.0, λ e. let zero' : p.sector ≡ 0 = ap (λ (q : Place). q.sector) e in omega (arith, low, there.1, zero'))

-- sectors that a directory may have, each once
abbrev pub IsSound : List Place → Type 0
IsSound ps = EachOnce ps × AllByRecursion IsDirectoryPlace ps

one-more : (ps : List Place) (n : ℕ) (p : Place) → 1 ≤ n → place_at 18 n ≡ Some p → IsSound ps → is_among p ps ≡ false
    → IsSound (ps ++ p ∷ [])
one-more ps n p low at sound none = (
  EachOnce-push ps p sound.0 (not-among p ps none),
  all-push IsDirectoryPlace ps p sound.1 (on-track n p low at),
)

-- there is room for one more
pub few-next : (ps : List Place) (n : ℕ) (p : Place) → 1 ≤ n → place_at 18 n ≡ Some p → EachOnce ps
    → AllByRecursion IsDirectoryPlace ps → is_among p ps ≡ false → length ps < 18
few-next ps n p low at once all none =
    let more = one-more ps n p low at (once, all) none in
    omega (arith, directory-few (ps ++ p ∷ []) more.0 more.1, length-append ps (p ∷ []))

pub next-none : (img : Image) (ps : List Place) (o : Option Place) → o ≡ None → ps ≡ with_next img ps o
next-none img ps o is = rw is refl

pub next-among : (img : Image) (ps : List Place) (o : Option Place) (p : Place) → o ≡ Some p → is_among p ps ≡ true
    → ps ≡ with_next img ps o
next-among img ps o p is among = rw (is, among) refl

pub next-left : (img : Image) (ps : List Place) (o : Option Place) (p : Place) → o ≡ Some p → is_among p ps ≡ false
    → is_directory_like p (sector img p) ≡ false → ps ≡ with_next img ps o
next-left img ps o p is among like = rw (is, among, like) refl

pub next-added : (img : Image) (ps : List Place) (o : Option Place) (p : Place) → o ≡ Some p → is_among p ps ≡ false
    → is_directory_like p (sector img p) ≡ true → ps ++ p ∷ [] ≡ with_next img ps o
next-added img ps o p is among like = rw (is, among, like) refl

by-next : (ps : List Place) (p : Place) (among like : Bool) → IsSound ps → (among ≡ false → IsSound (ps ++ p ∷ []))
    → IsSound (if among then ps else (if like then ps ++ p ∷ [] else ps))
by-next ps p true like sound more = sound
by-next ps p false true sound more = more refl
by-next ps p false false sound more = sound

next-by : (img : Image) (ps : List Place) (n : ℕ) (o : Option Place) → 1 ≤ n → o ≡ place_at 18 n → IsSound ps
    → IsSound (with_next img ps o)
next-by img ps n None low is sound = sound
next-by img ps n (Some p) low is sound =
    by-next ps p (is_among p ps) (is_directory_like p (sector img p)) sound (one-more ps n p low (sym is) sound)

pub next-sound : (img : Image) (ps new : List Place) (n : ℕ) → 1 ≤ n → new ≡ with_next img ps (place_at 18 n) → IsSound ps
    → IsSound new
next-sound img ps new n low is sound =
    subst IsSound (sym is) (next-by img ps n (place_at 18 n) low refl sound)

-- one sector of the track more
pub scanned-more : (img now : Image) (ps before new : List Place) (n : ℕ) → now ≡ img → before ≡ with_scanned img ps n
    → new ≡ with_next now before (place_at 18 (n + 1)) → new ≡ with_scanned img ps (n + 1)
scanned-more img now ps before new n same so_far more =
    let e : suc n ≡ n + 1 = omega arith in
    more ∙ ap (λ (i : Image). with_next i before (place_at 18 (n + 1))) same
    ∙ ap (λ (qs : List Place). with_next img qs (place_at 18 (n + 1))) so_far ∙ ap (with_scanned img ps) e
