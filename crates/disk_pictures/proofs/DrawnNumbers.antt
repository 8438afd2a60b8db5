-- The number of each sector stands in a drawing by number once.
use Rattle.std.proofs.Common.{◌≡◌, ◌≢◌, ◌≤◌, ◌+◌, ℕ, zero, suc, true, false, List, [], ◌∷◌}
use Rattle.std.proofs.Common.{◌++◌, eq-eqb, ne_eqb, refl, subst, sym, ap, ◌∙◌, arith}
use Rattle.std.specs.Prelude.{Contains, Option, Some, if◌then◌else◌, flat_map, slice_get}
use Rattle.d64_image.specs.Images.{Image, Sector}
use Rattle.d64_image.specs.Places.{index_of}
use Rattle.d64_image.specs.declared.place.Place.{Place}
use Rattle.disk_layout.specs.Chain.{EachOnce}
use Rattle.disk_layout.specs.Directory.{map_place}
use Rattle.disk_layout.specs.Layout.{File, Layout}
use Rattle.disk_layout.specs.declared.faults.Fault.{Fault}
use Rattle.disk_pictures.proofs.Counted.{times-append, times-nil}
use Rattle.disk_pictures.proofs.CountedDrawing.{all-of, no-place, none-of, number, once, one-place, other, out, same}
use Rattle.disk_pictures.proofs.DrawnOnce.{drawn-once}
use Rattle.disk_pictures.proofs.Owned.{as-directory, as-map}
use Rattle.disk_pictures.specs.Html.{Show}
use Rattle.disk_pictures.specs.Drawings.{IsDrawn, IsDrawnOnce, owner_of}
use Rattle.disk_pictures.specs.Pictures.{drawing_text, each_place, file_group, is_blocks, is_nobody, is_sides}
use Rattle.disk_pictures.specs.Pictures.{others_group, system_group}
use Rattle.disk_pictures.specs.Sectors.{as_printed, by_number, drawing_by, file_by, others_by, system_by, times}
use Rattle.disk_pictures.specs.Texts.{numbered}
use Rattle.disk_pictures.specs.declared.owners.Owner.{Owner}
use Rattle.disk_pictures.specs.declared.owners.Owner.TheVariants as owner

pub drawing-same : (show : Show) (v : Option Fault) (map : Sector) (l : Layout)
    → drawing_by as_printed show v map l ≡ drawing_text show v map l
unfolding drawing_by drawing_text system_by system_group file_by file_group others_by others_group
drawing-same show v map l = refl

-- which owner it is
abbrev kind : Owner → ℕ
kind owner.Map = 0
kind owner.Directory = 1
kind (owner.Blocks k) = 2
kind (owner.Sides k) = 3
kind owner.Nobody = 4

module _ (show : Show) (l : Layout) (p : Place) where
  abbrev n : ℕ
  n = index_of p

  -- an entry's group
  parts : (k : ℕ) (f : File) → times n (file_by by_number show l k f)
      ≡ times n (numbered (λ j q. if is_blocks k (owner_of l q) then number q else []) 0 f.blocks)
      + times n (numbered (λ j q. if is_sides k (owner_of l q) then number q else []) 0 f.sides)
  unfolding file_by
  parts k f =
      let blocks = numbered (λ j q. if is_blocks k (owner_of l q) then number q else []) 0 f.blocks in
      let sides = numbered (λ j q. if is_sides k (owner_of l q) then number q else []) 0 f.sides in
      omega (arith, times-append n blocks (sides ++ []), times-append n sides [], times-nil n)

  no-entry : (k : ℕ) (f : File) → is_blocks k (owner_of l p) ≡ false → is_sides k (owner_of l p) ≡ false
      → times n (file_by by_number show l k f) ≡ 0
  no-entry k f a b =
      omega (
        arith,
        parts k f,
        none-of p (λ q. is_blocks k (owner_of l q)) a 0 f.blocks,
        none-of p (λ q. is_sides k (owner_of l q)) b 0 f.sides,
      )

  by-blocks : (k : ℕ) (f : File) → is_blocks k (owner_of l p) ≡ true → is_sides k (owner_of l p) ≡ false
      → EachOnce f.blocks → Contains f.blocks p → times n (file_by by_number show l k f) ≡ 1
  by-blocks k f a b each c =
      omega (
        arith,
        parts k f,
        all-of p (λ q. is_blocks k (owner_of l q)) a 0 f.blocks,
        none-of p (λ q. is_sides k (owner_of l q)) b 0 f.sides,
        once p f.blocks each c,
      )

  by-sides : (k : ℕ) (f : File) → is_blocks k (owner_of l p) ≡ false → is_sides k (owner_of l p) ≡ true
      → EachOnce f.sides → Contains f.sides p → times n (file_by by_number show l k f) ≡ 1
  by-sides k f a b each c =
      omega (
        arith,
        parts k f,
        none-of p (λ q. is_blocks k (owner_of l q)) a 0 f.blocks,
        all-of p (λ q. is_sides k (owner_of l q)) b 0 f.sides,
        once p f.sides each c,
      )

  -- number k is not the owner's
  abbrev IsOther : ℕ → Type 0
  IsOther k = (is_blocks k (owner_of l p) ≡ false) × (is_sides k (owner_of l p) ≡ false)

  no-entries : (k : ℕ) (fs : List File) → ((j : ℕ) → k ≤ j → IsOther j)
      → times n (numbered (file_by by_number show l) k fs) ≡ 0
  unfolding numbered
  no-entries k [] others = times-nil n
  no-entries k (f ∷ fs) others =
      let here = others k (omega arith) in
      omega (
        arith,
        times-append n (file_by by_number show l k f) (numbered (file_by by_number show l) (k + 1) fs),
        no-entry k f here.0 here.1,
        no-entries (k + 1) fs (λ j past. others j (omega (arith, past))),
      )

  an-entry : (k : ℕ) (fs : List File) (i : ℕ) (f : File) → slice_get fs i ≡ Some f
      → times n (file_by by_number show l (k + i) f) ≡ 1 → ((j : ℕ) → j ≢ k + i → IsOther j)
      → times n (numbered (file_by by_number show l) k fs) ≡ 1
  unfolding numbered
  an-entry k [] i f at one others = cc
  an-entry k (g ∷ gs) zero f at one others =
      let is : f ≡ g = cc in
      let here : k + 0 ≡ k = omega arith in
      let first : times n (file_by by_number show l k g) ≡ 1 =
      subst (λ (x : File). times n (file_by by_number show l k x) ≡ 1) is
      (subst (λ (m : ℕ). times n (file_by by_number show l m f) ≡ 1) here one) in
      omega (
        arith,
        times-append n (file_by by_number show l k g) (numbered (file_by by_number show l) (k + 1) gs),
        first,
        no-entries (k + 1) gs (λ j past. others j (λ h. omega (arith, h, past))),
      )
  an-entry k (g ∷ gs) (suc i) f at one others =
      let off = others k (λ h. omega (arith, h)) in
      let next : k + suc i ≡ k + 1 + i = omega arith in
      omega (
        arith,
        times-append n (file_by by_number show l k g) (numbered (file_by by_number show l) (k + 1) gs),
        no-entry k g off.0 off.1,
        an-entry (k + 1) gs i f at
            (subst (λ (m : ℕ). times n (file_by by_number show l m f) ≡ 1) next one)
            (λ j ne. others j (λ h. ne (omega (arith, h)))),
      )

  -- the map and the directory
  system : times n (system_by by_number l) ≡ times n (number map_place) + times n (flat_map number l.directory)
  unfolding system_by
  system = omega (
    arith,
    times-append n (number map_place) (flat_map number l.directory ++ []),
    times-append n (flat_map number l.directory) [],
    times-nil n,
  )

  others : (map : Sector) → times n (others_by by_number map l)
      ≡ times n (each_place (λ q. if is_nobody (owner_of l q) then number q else []))
  unfolding others_by
  others map = omega (
    arith,
    times-append n (each_place (λ q. if is_nobody (owner_of l q) then number q else [])) [],
    times-nil n,
  )

  whole : (v : Option Fault) (map : Sector) → times n (drawing_by by_number show v map l)
      ≡ times n (system_by by_number l) + (times n (numbered (file_by by_number show l) 0 l.files)
      + times n (others_by by_number map l))
  unfolding drawing_by
  whole v map =
      let files = numbered (file_by by_number show l) 0 l.files in
      omega (
        arith,
        times-append n (system_by by_number l) (files ++ (others_by by_number map l ++ [])),
        times-append n files (others_by by_number map l ++ []),
        times-append n (others_by by_number map l) [],
        times-nil n,
      )

  from-0 : (fs : List File) (i : ℕ) (f : File) → slice_get fs i ≡ Some f → times n (file_by by_number show l i f) ≡ 1
      → ((j : ℕ) → j ≢ i → IsOther j) → times n (numbered (file_by by_number show l) 0 fs) ≡ 1
  from-0 fs i f at one others =
      let e : i ≡ 0 + i = omega arith in
      an-entry 0 fs i f at (subst (λ (m : ℕ). times n (file_by by_number show l m f) ≡ 1) e one)
      (λ j ne. others j (λ h. ne (h ∙ e)))

  -- each case of an owner
  module _ (img : Image) (drawn : IsDrawn img l) where
    no-directory : kind (owner_of l p) ≢ 1 → p ≢ map_place → times n (flat_map number l.directory) ≡ 0
    no-directory k not-map = out p l.directory (λ c. k (ap kind (as-directory l p not-map c)))

    no-map : kind (owner_of l p) ≢ 0 → p ≢ map_place
    no-map k e = k (ap kind (as-map l p e))

    no-system : kind (owner_of l p) ≢ 0 → kind (owner_of l p) ≢ 1 → times n (system_by by_number l) ≡ 0
    no-system a b = omega (arith, system, other p map_place (no-map a), no-directory b (no-map a))

    each : (map : Sector) (v : Option Fault) (o : Owner) → owner_of l p ≡ o → IsDrawnOnce l p o
        → times n (drawing_by by_number show v map l) ≡ 1
    each map v owner.Map e once' =
        let absent = out p l.directory (λ c. drawn.directory.not_map
        (subst (λ (x : Place). Contains l.directory x) once' c)) in
        let none = no-entries 0 l.files (λ j past. (ap (is_blocks j) e, ap (is_sides j) e)) in
        let nobody = no-place p (λ q. is_nobody (owner_of l q)) (ap is_nobody e) in
        omega (arith, whole v map, system, same p map_place once', absent, none, others map, nobody)
    each map v owner.Directory e (c, each-once) =
        let not-map = no-map (λ h. omega (arith, h, ap kind e)) in
        let none = no-entries 0 l.files (λ j past. (ap (is_blocks j) e, ap (is_sides j) e)) in
        let nobody = no-place p (λ q. is_nobody (owner_of l q)) (ap is_nobody e) in
        omega (
          arith,
          whole v map,
          system,
          other p map_place not-map,
          once p l.directory each-once c,
          none,
          others map,
          nobody,
        )
    each map v (owner.Blocks k) e (f, at, c, each-once) =
        let none = no-system (λ h. omega (arith, h, ap kind e)) (λ h. omega (arith, h, ap kind e)) in
        let first = from-0 l.files k f at
        (by-blocks k f (ap (is_blocks k) e ∙ eq-eqb k k refl) (ap (is_sides k) e) each-once c)
        (λ j ne. (ap (is_blocks j) e ∙ ne_eqb k j (λ h. ne (sym h)), ap (is_sides j) e)) in
        let nobody = no-place p (λ q. is_nobody (owner_of l q)) (ap is_nobody e) in
        omega (arith, whole v map, none, first, others map, nobody)
    each map v (owner.Sides k) e (f, at, c, each-once) =
        let none = no-system (λ h. omega (arith, h, ap kind e)) (λ h. omega (arith, h, ap kind e)) in
        let first = from-0 l.files k f at
        (by-sides k f (ap (is_blocks k) e) (ap (is_sides k) e ∙ eq-eqb k k refl) each-once c)
        (λ j ne. (ap (is_blocks j) e, ap (is_sides j) e ∙ ne_eqb k j (λ h. ne (sym h)))) in
        let nobody = no-place p (λ q. is_nobody (owner_of l q)) (ap is_nobody e) in
        omega (arith, whole v map, none, first, others map, nobody)
    each map v owner.Nobody e gone =
        let none = no-system (λ h. omega (arith, h, ap kind e)) (λ h. omega (arith, h, ap kind e)) in
        let files = no-entries 0 l.files (λ j past. (ap (is_blocks j) e, ap (is_sides j) e)) in
        let here = one-place p (λ q. is_nobody (owner_of l q)) (ap is_nobody e) in
        omega (arith, whole v map, none, files, others map, here)

pub numbers-once : (img : Image) (l : Layout) → IsDrawn img l → (show : Show) (v : Option Fault) (map : Sector)
    (p : Place) → times (index_of p) (drawing_by by_number show v map l) ≡ 1
numbers-once img l drawn show v map p = each show l p img drawn map v (owner_of l p) refl (drawn-once img l drawn p)
