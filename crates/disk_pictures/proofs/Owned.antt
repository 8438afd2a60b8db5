-- In a layout each sector has one owner, and is drawn as that owner's.
use Rattle.std.proofs.Common.{◌≡◌, ◌≢◌, ◌+◌, ℕ, zero, suc, Bool, true, false, List, [], ◌∷◌, refl, subst, sym, ap, ◌∙◌}
use Rattle.std.proofs.Common.{arith}
use Rattle.std.specs.Prelude.{Contains, Some, flat_map, slice_get}
use Rattle.std.proofs.lemmas.List.Elements.{Contains-append_left, Contains-append_right}
use Rattle.d64_image.specs.Images.{Image}
use Rattle.d64_image.specs.declared.place.Place.{Place}
use Rattle.disk_layout.proofs.lemmas.layouts.Layouts.{get-contains}
use Rattle.disk_layout.proofs.lemmas.lists.Once.{Contains-here, Contains-there, EachOnce-apart, EachOnce-left}
use Rattle.disk_layout.proofs.lemmas.lists.Once.{EachOnce-right, flat_map-in}
use Rattle.disk_layout.specs.Chain.{EachOnce}
use Rattle.disk_layout.specs.Directory.{map_place}
use Rattle.disk_layout.specs.Layout.{File, IsLayout, Layout, file_owns, owners}
use Rattle.disk_pictures.proofs.DrawnOnce.{has-there, there-has}
use Rattle.disk_pictures.proofs.Sound.{drawn-own}
use Rattle.disk_pictures.specs.Drawings.{IsDrawn, IsOwnedBy, has, owner_among, owner_of}
use Rattle.disk_pictures.specs.declared.owners.Owner.{Owner}
use Rattle.disk_pictures.specs.declared.owners.Owner.TheVariants as owner

none-has : (ps : List Place) (p : Place) → ¬ (Contains ps p) → has ps p ≡ false
none-has ps p out = by (has ps p) refl
  where
    by : (b : Bool) → has ps p ≡ b → has ps p ≡ false
    by false e = e
    by true e = absurd (out (has-there ps p e))

-- among the entries
skips : (k : ℕ) (f : File) (fs : List File) (p : Place) → ¬ (Contains (file_owns f) p)
    → owner_among k (f ∷ fs) p ≡ owner_among (k + 1) fs p
unfolding owner_among
skips k f fs p out =
    let blocks = none-has f.blocks p (λ c. out (Contains-append_left f.blocks f.sides p c)) in
    let sides = none-has f.sides p (λ c. out (Contains-append_right f.blocks f.sides p c)) in
    rw (blocks, sides) refl

at-blocks : (k : ℕ) (f : File) (fs : List File) (p : Place) → Contains f.blocks p
    → owner_among k (f ∷ fs) p ≡ owner.Blocks k
unfolding owner_among
at-blocks k f fs p c = let found = there-has f.blocks p c in rw found refl

at-sides : (k : ℕ) (f : File) (fs : List File) (p : Place) → ¬ (Contains f.blocks p) → Contains f.sides p
    → owner_among k (f ∷ fs) p ≡ owner.Sides k
unfolding owner_among
at-sides k f fs p out c =
    let blocks = none-has f.blocks p out in
    let found = there-has f.sides p c in
    rw (blocks, found) refl

owned-later : (fs : List File) (i : ℕ) (f : File) (p : Place) → slice_get fs i ≡ Some f → Contains (file_owns f) p
    → Contains (flat_map file_owns fs) p
owned-later fs i f p at c = flat_map-in file_owns fs f p (get-contains fs i f at) c

entry-blocks : (k : ℕ) (fs : List File) (i : ℕ) (f : File) (p : Place) → EachOnce (flat_map file_owns fs)
    → slice_get fs i ≡ Some f
    → Contains f.blocks p → owner_among k fs p ≡ owner.Blocks (k + i)
entry-blocks k [] i f p once at c = cc
entry-blocks k (g ∷ gs) zero f p once at c =
    let same : g ≡ f = cc in
    at-blocks k g gs p (subst (λ (x : File). Contains x.blocks p) (sym same) c) ∙ ap owner.Blocks (omega arith)
entry-blocks k (g ∷ gs) (suc i) f p once at c =
    let rest = owned-later gs i f p at (Contains-append_left f.blocks f.sides p c) in
    skips k g gs p (λ d. EachOnce-apart (file_owns g) (flat_map file_owns gs) once p d rest)
    ∙ entry-blocks (k + 1) gs i f p (EachOnce-right (file_owns g) (flat_map file_owns gs) once) at c
    ∙ ap owner.Blocks (omega arith)

entry-sides : (k : ℕ) (fs : List File) (i : ℕ) (f : File) (p : Place) → EachOnce (flat_map file_owns fs)
    → slice_get fs i ≡ Some f
    → Contains f.sides p → owner_among k fs p ≡ owner.Sides (k + i)
entry-sides k [] i f p once at c = cc
entry-sides k (g ∷ gs) zero f p once at c =
    let same : g ≡ f = cc in
    let here = subst (λ (x : File). Contains x.sides p) (sym same) c in
    at-sides k g gs p (λ d. EachOnce-apart g.blocks g.sides
    (EachOnce-left (file_owns g) (flat_map file_owns gs) once) p d here) here
    ∙ ap owner.Sides (omega arith)
entry-sides k (g ∷ gs) (suc i) f p once at c =
    let rest = owned-later gs i f p at (Contains-append_right f.blocks f.sides p c) in
    skips k g gs p (λ d. EachOnce-apart (file_owns g) (flat_map file_owns gs) once p d rest)
    ∙ entry-sides (k + 1) gs i f p (EachOnce-right (file_owns g) (flat_map file_owns gs) once) at c
    ∙ ap owner.Sides (omega arith)

entry-none : (k : ℕ) (fs : List File) (p : Place) → ¬ (Contains (flat_map file_owns fs) p)
    → owner_among k fs p ≡ owner.Nobody
unfolding owner_among
entry-none k [] p out = refl
entry-none k (f ∷ fs) p out =
    skips k f fs p (λ c. out (Contains-append_left (file_owns f) (flat_map file_owns fs) p c))
    ∙ entry-none (k + 1) fs p (λ c. out (Contains-append_right (file_owns f) (flat_map file_owns fs) p c))

-- the map, then the directory, then the entries
module _ (l : Layout) (p : Place) (not_map : ¬ (Contains (map_place ∷ []) p)) where
  in-directory : Contains l.directory p → owner_of l p ≡ owner.Directory
  unfolding owner_of
  in-directory c =
      let none = none-has (map_place ∷ []) p not_map in
      let found = there-has l.directory p c in
      rw (none, found) refl

  in-entries : ¬ (Contains l.directory p) → owner_of l p ≡ owner_among 0 l.files p
  unfolding owner_of
  in-entries out =
      let none = none-has (map_place ∷ []) p not_map in
      let none' = none-has l.directory p out in
      rw (none, none') refl

is-map : (p : Place) → Contains (map_place ∷ []) p → map_place ≡ p
is-map p (zero, lt, e) = e
is-map p (suc k, lt, e) = absurd (omega (arith, lt))

module _ (l : Layout) (p : Place) (once : EachOnce (map_place ∷ owners l)) where
  not-map : Contains (owners l) p → ¬ (Contains (map_place ∷ []) p)
  not-map c d = once.0 (subst (λ (x : Place). Contains (owners l) x) (sym (is-map p d)) c)

  of-entries : Contains (flat_map file_owns l.files) p → owner_of l p ≡ owner_among 0 l.files p
  unfolding owners
  of-entries c = in-entries l p (not-map (Contains-append_right l.directory (flat_map file_owns l.files) p c))
      (λ d. EachOnce-apart l.directory (flat_map file_owns l.files) once.1 p d c)

  among : EachOnce (flat_map file_owns l.files)
  unfolding owners
  among = EachOnce-right l.directory (flat_map file_owns l.files) once.1

  drawn-as : (o : Owner) → IsOwnedBy l p o → owner_of l p ≡ o
  unfolding owners owner_of
  drawn-as owner.Map same = let found = there-has (map_place ∷ []) p (0, omega arith, sym same) in rw found refl
  drawn-as owner.Directory c = in-directory l p (not-map
      (Contains-append_left l.directory (flat_map file_owns l.files) p c)) c
  drawn-as (owner.Blocks k) (f, at, c) =
      of-entries (owned-later l.files k f p at (Contains-append_left f.blocks f.sides p c))
      ∙ entry-blocks 0 l.files k f p among at c ∙ ap owner.Blocks (omega arith)
  drawn-as (owner.Sides k) (f, at, c) =
      of-entries (owned-later l.files k f p at (Contains-append_right f.blocks f.sides p c))
      ∙ entry-sides 0 l.files k f p among at c ∙ ap owner.Sides (omega arith)
  drawn-as owner.Nobody out =
      in-entries l p (λ d. out (subst (λ (x : Place). Contains (map_place ∷ owners l) x) (is-map p d)
      (Contains-here map_place (owners l))))
      (λ d. out (Contains-there p map_place (owners l)
      (Contains-append_left l.directory (flat_map file_owns l.files) p d)))
      ∙ entry-none 0 l.files p (λ d. out (Contains-there p map_place (owners l)
      (Contains-append_right l.directory (flat_map file_owns l.files) p d)))

pub as-map : (l : Layout) (p : Place) → p ≡ map_place → owner_of l p ≡ owner.Map
unfolding owner_of
as-map l p e = let found = there-has (map_place ∷ []) p (0, omega arith, sym e) in rw found refl

pub as-directory : (l : Layout) (p : Place) → p ≢ map_place → Contains l.directory p → owner_of l p ≡ owner.Directory
as-directory l p not_map c = in-directory l p (λ d. not_map (sym (is-map p d))) c

-- so is what is drawn
pub owner-own : (img : Image) (l d : Layout) → IsLayout img l → IsDrawn img d → (p : Place) (o : Owner)
    → IsOwnedBy l p o → owner_of d p ≡ o
owner-own img l d is drawn p o owned = ap (λ (m : Layout). owner_of m p) (drawn-own img l d is drawn)
    ∙ drawn-as l p is.once o owned
