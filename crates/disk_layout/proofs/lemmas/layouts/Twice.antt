-- Two owners of one sector, and side sectors that disagree, are never in a sound image.
use Rattle.std.proofs.Common.{◌≡◌, ℕ, ◌+◌, ◌<◌, inl, inr, List, [], ◌∷◌, ◌++◌, length, refl, sym, ◌∙◌, ap}
use Rattle.std.proofs.Common.{subst, arith, length-append}
use Rattle.std.specs.Prelude.{Contains, flat_map}
use Rattle.std.proofs.lemmas.List.Elements.{Contains-append_left, Contains-append_right}
use Rattle.d64_image.specs.Images.{Image}
use Rattle.d64_image.specs.declared.place.Place.{Place}
use Rattle.disk_layout.proofs.lemmas.layouts.Layouts.{get-contains}
use Rattle.disk_layout.proofs.lemmas.layouts.Unsound.{closed-file, has-chain, in-directory, no_bad_length}
use Rattle.disk_layout.proofs.lemmas.layouts.Unsound.{no_bad_link}
use Rattle.disk_layout.proofs.lemmas.layouts.Unsound.{no_bad_type, no_loop, no_unclosed, visited-in}
use Rattle.disk_layout.proofs.lemmas.lists.Lists.{get-some, get-once}
use Rattle.disk_layout.proofs.lemmas.lists.Once.{Contains-cases, Contains-nil, EachOnce-apart, EachOnce-left}
use Rattle.disk_layout.proofs.lemmas.lists.Once.{EachOnce-right, flat_map-in}
use Rattle.disk_layout.specs.Chain.{EachOnce, Names}
use Rattle.disk_layout.specs.Directory.{map_place}
use Rattle.disk_layout.specs.Fault.{Holds, IsBadSide, IsSideSector, Owner, Owns, blocks_of, length_byte, link}
use Rattle.disk_layout.specs.Fault.{listed}
use Rattle.disk_layout.specs.Fault.{map_itself, nowhere, number, pointer, sides_of, the_directory}
use Rattle.disk_layout.specs.Layout.{File, IsLayout, IsRelFile, IsSide, IsSound, Layout, file_owns, owners}
use Rattle.disk_layout.specs.Layout.{record_length}
use Rattle.disk_layout.specs.declared.faults.Fault.{Fault}
use Rattle.disk_layout.specs.declared.faults.Fault.TheVariants.{BadLength, BadLink, BadSide, BadType}
use Rattle.disk_layout.specs.declared.faults.Fault.TheVariants.{CountWrong}
use Rattle.disk_layout.specs.declared.faults.Fault.TheVariants.{Device, Loop, MapWrong, OwnedTwice, Unclosed}
use Rattle.disk_layout.specs.declared.slot.Slot.{Slot}
use Rattle.disk_layout.proofs.lemmas.layouts.SidesAt.{side-at}

-- what an owner has in a layout
abbrev pub Claims : Layout → Owner → Place → Type 0
Claims l map_itself p = p ≡ map_place
Claims l the_directory p = Contains l.directory p
Claims l (blocks_of s) p = (f : File) × Contains l.files f × (f.slot ≡ s) × Contains f.blocks p
Claims l (sides_of s) p = (f : File) × Contains l.files f × (f.slot ≡ s) × Contains f.sides p

claim : (img : Image) (l : Layout) (o : Owner) (p : Place) → IsLayout img l → Owns img o p → Claims l o p
claim img l map_itself p h own = own
claim img l the_directory p h own = in-directory img l p h own
claim img l (blocks_of s) p h (q, closed, block) =
    let (f, c, e, file) = closed-file img l q s h closed in (
      f,
      c,
      e,
      visited-in img block.first p block.before f.blocks f.last block.visits.0
          (has-chain img f block.first file (rw e block.named)),
    )
claim img l (sides_of s) p h (q, closed, rel, blocks, j, side) =
    let (f, c, e, file) = closed-file img l q s h closed in
    let (same, at) = side-at img f blocks j p (file.rel (rw e rel)) (let P : Slot
    → Type 0 = λ t. IsSideSector img t blocks j p in subst P (sym e) side) in
    (f, c, e, get-contains f.sides j p at)

-- two files that share a place are one
pub files-apart : (fs : List File) (f g : File) (p : Place) → EachOnce (flat_map file_owns fs) → Contains fs f
    → Contains fs g → Contains (file_owns f) p → Contains (file_owns g) p → f ≡ g
files-apart [] f g p once cf cg a b = absurd (Contains-nil f cf)
files-apart (h ∷ fs) f g p once cf cg a b =
    elim (Contains-cases f h fs cf) [
      | inl e ↦ elim (Contains-cases g h fs cg) [
        | inl d ↦ sym e ∙ d
        | inr d ↦ absurd (EachOnce-apart (file_owns h) (flat_map file_owns fs) once p (rw e a)
            (flat_map-in file_owns fs g p d b))
      ]
      | inr e ↦ elim (Contains-cases g h fs cg) [
        | inl d ↦ absurd (EachOnce-apart (file_owns h) (flat_map file_owns fs) once p (rw d b)
            (flat_map-in file_owns fs f p e a))
        | inr d ↦ files-apart fs f g p (EachOnce-right (file_owns h) (flat_map file_owns fs) once) e d a b
      ]
    ]

-- a file owns no sector twice
pub file-once : (fs : List File) (f : File) → EachOnce (flat_map file_owns fs) → Contains fs f → EachOnce (file_owns f)
file-once [] f once c = absurd (Contains-nil f c)
file-once (h ∷ fs) f once c = elim (Contains-cases f h fs c) [
  | inl e ↦ rw (← e) (EachOnce-left (file_owns h) (flat_map file_owns fs) once)
  | inr d ↦ file-once fs f (EachOnce-right (file_owns h) (flat_map file_owns fs) once) d
]

-- a place has one owner
claims-one : (img : Image) (l : Layout) (a b : Owner) (p : Place) → IsLayout img l → Claims l a p → Claims l b p → a ≡ b
unfolding owners
claims-one img l a b p h = go a b
  where
    own : List Place
    own = flat_map file_owns l.files

    no_map : ¬ (Contains (l.directory ++ own) map_place)
    no_map = h.once.0

    files_once : EachOnce own
    files_once = EachOnce-right l.directory own h.once.1

    blocks_in : (s : Slot) → Claims l (blocks_of s) p → Contains own p
    blocks_in s (f, c, e, d) = flat_map-in file_owns l.files f p c (Contains-append_left f.blocks f.sides p d)

    sides_in : (s : Slot) → Claims l (sides_of s) p → Contains own p
    sides_in s (f, c, e, d) = flat_map-in file_owns l.files f p c (Contains-append_right f.blocks f.sides p d)

    map_file : p ≡ map_place → Contains own p → ⊥
    map_file e c = no_map (rw (← e) (Contains-append_right l.directory own p c))

    dir_file : Contains l.directory p → Contains own p → ⊥
    dir_file c d = EachOnce-apart l.directory own h.once.1 p c d

    map_dir : p ≡ map_place → Contains l.directory p → ⊥
    map_dir e c = no_map (rw (← e) (Contains-append_left l.directory own p c))

    same_slot : (s t : Slot) (f g : File) → Contains l.files f → Contains l.files g → f.slot ≡ s → g.slot ≡ t
        → Contains (file_owns f) p → Contains (file_owns g) p → s ≡ t
    same_slot s t f g cf cg ef eg a b = sym ef ∙ ap (λ x. x.slot) (files-apart l.files f g p files_once cf cg a b) ∙ eg

    block_side : (s t : Slot) → Claims l (blocks_of s) p → Claims l (sides_of t) p → ⊥
    block_side s t (f, cf, ef, df) (g, cg, eg, dg) =
        let one : f ≡ g = files-apart l.files f g p files_once cf cg (Contains-append_left f.blocks f.sides p df)
        (Contains-append_right g.blocks g.sides p dg) in
        EachOnce-apart f.blocks f.sides (file-once l.files f files_once cf) p df (rw one dg)

    go : (a b : Owner) → Claims l a p → Claims l b p → a ≡ b
    go map_itself map_itself x y = refl
    go map_itself the_directory x y = absurd (map_dir x y)
    go map_itself (blocks_of t) x y = absurd (map_file x (blocks_in t y))
    go map_itself (sides_of t) x y = absurd (map_file x (sides_in t y))
    go the_directory map_itself x y = absurd (map_dir y x)
    go the_directory the_directory x y = refl
    go the_directory (blocks_of t) x y = absurd (dir_file x (blocks_in t y))
    go the_directory (sides_of t) x y = absurd (dir_file x (sides_in t y))
    go (blocks_of s) map_itself x y = absurd (map_file y (blocks_in s x))
    go (blocks_of s) the_directory x y = absurd (dir_file y (blocks_in s x))
    go (blocks_of s) (blocks_of t) (f, cf, ef, df) (g, cg, eg, dg) =
        ap blocks_of (same_slot s t f g cf cg ef eg (Contains-append_left f.blocks f.sides p df)
        (Contains-append_left g.blocks g.sides p dg))
    go (blocks_of s) (sides_of t) x y = absurd (block_side s t x y)
    go (sides_of s) map_itself x y = absurd (map_file y (sides_in s x))
    go (sides_of s) the_directory x y = absurd (dir_file y (sides_in s x))
    go (sides_of s) (blocks_of t) x y = absurd (block_side t s y x)
    go (sides_of s) (sides_of t) (f, cf, ef, df) (g, cg, eg, dg) =
        ap sides_of (same_slot s t f g cf cg ef eg (Contains-append_right f.blocks f.sides p df)
        (Contains-append_right g.blocks g.sides p dg))

at-slot : (img : Image) (s t : Slot) (blocks : List Place) (j : ℕ) (p : Place) → s ≡ t → IsSideSector img t blocks j p
    → IsSideSector img s blocks j p
at-slot img s t blocks j p e h = let P : Slot → Type 0 = λ t. IsSideSector img t blocks j p in subst P (sym e) h

pub no_owned_twice : (img : Image) (p : Place) → Holds nowhere img (OwnedTwice p) → ¬ (IsSound img)
unfolding owners
no_owned_twice img p (inl (a, b, ne, x, y)) (l, h) =
    ne (claims-one img l a b p h (claim img l a p h x) (claim img l b p h y))
no_owned_twice img p (inr (q, s, closed, rel, blocks, j, k, ne, x, y)) (l, h) =
    let (f, c, e, file) = closed-file img l q s h closed in
    let r = file.rel (rw e rel) in
    let (same, at) = side-at img f blocks j p r (at-slot img f.slot s blocks j p e x) in
    let (also, there) = side-at img f blocks k p r (at-slot img f.slot s blocks k p e y) in
    ne (get-once f.sides j k p (EachOnce-right f.blocks f.sides (file-once l.files f (files_once l h) c)) at there)
  where
    files_once : (l : Layout) → IsLayout img l → EachOnce (flat_map file_owns l.files)
    files_once l h = EachOnce-right l.directory (flat_map file_owns l.files) h.once.1

moved : (s t : Slot) (q : Place) → s ≡ t → Names s.bytes 21 q → Names t.bytes 21 q
moved s t q e h = rw e at h

some-side : (img : Image) (f : File) → IsRelFile img f → 0 < length f.sides
some-side img f r =
    let n = ap length r.chain.2.places ∙ length-append r.chain.2.front (r.chain.2.last ∷ []) in
    omega (arith, r.count)

pub no_bad_side : (img : Image) (p : Place) → Holds nowhere img (BadSide p) → ¬ (IsSound img)
no_bad_side img p (inl (s, closed, rel, none)) (l, h) =
    let (f, c, e, file) = closed-file img l p s h closed in
    let r = file.rel (rw e rel) in
    missing f e r
  where
    missing : (f : File) → f.slot ≡ s → IsRelFile img f → ⊥
    missing f e r =
        let (q, eq) = get-some f.sides 0 (some-side img f r) in
        none q (moved f.slot s q e (r.first_side q eq))
no_bad_side img p (inr (q, s, closed, rel, blocks, j, side, bad)) (l, h) =
    let (f, c, e, file) = closed-file img l q s h closed in
    let r = file.rel (rw e rel) in
    let (same, at) = side-at img f blocks j p r (at-slot img f.slot s blocks j p e side) in
    let good = r.sides j p at in
    wrong f e r same good bad
  where
    wrong : (f : File) → f.slot ≡ s → IsRelFile img f → blocks ≡ f.blocks → IsSide img f j p
        → IsBadSide img s blocks j p → ⊥
    wrong f e r same good (number n) = n good.number
    wrong f e r same good (length_byte n) = n (good.length_byte ∙ ap record_length e)
    wrong f e r same good (link more none) =
        let (y, ey) = get-some f.sides (j + 1) (rw (r.count, ← same) more) in
        none y (good.link y ey, good.sides (j + 1) y ey)
    wrong f e r same good (listed k y side' n) =
        n (good.sides k y (side-at img f blocks k y r (at-slot img f.slot s blocks k y e side')).1)
    wrong f e r same good (pointer k y lt at n) = n (good.pointers k y lt (rw (← same) at))

-- whatever survey tells and holds, the image is not sound
pub told-unsound : (img : Image) (f : Fault) → Holds nowhere img f → ¬ (IsSound img)
told-unsound img (BadLink p) h = no_bad_link img p h
told-unsound img (Loop p) h = no_loop img p h
told-unsound img (OwnedTwice p) h = no_owned_twice img p h
told-unsound img (BadType p) h = no_bad_type img p h
told-unsound img (Unclosed p) h = no_unclosed img p h
told-unsound img (BadSide p) h = no_bad_side img p h
told-unsound img (BadLength p) h = no_bad_length img p h
told-unsound img (CountWrong p) h = absurd h
told-unsound img (MapWrong p) h = absurd h
told-unsound img (Device p) h = absurd h

-- so on a sound image nothing is told but a failure of the device, at a place where it failed
pub told-sound : (failed_at : Place → Type 0) (img : Image) (f : Fault) → Holds failed_at img f → IsSound img
    → (p : Place) × (f ≡ Device p) × failed_at p
told-sound failed_at img (BadLink p) h sound = absurd (told-unsound img (BadLink p) h sound)
told-sound failed_at img (Loop p) h sound = absurd (told-unsound img (Loop p) h sound)
told-sound failed_at img (OwnedTwice p) h sound = absurd (told-unsound img (OwnedTwice p) h sound)
told-sound failed_at img (BadType p) h sound = absurd (told-unsound img (BadType p) h sound)
told-sound failed_at img (Unclosed p) h sound = absurd (told-unsound img (Unclosed p) h sound)
told-sound failed_at img (BadSide p) h sound = absurd (told-unsound img (BadSide p) h sound)
told-sound failed_at img (BadLength p) h sound = absurd (told-unsound img (BadLength p) h sound)
told-sound failed_at img (CountWrong p) h sound = absurd h
told-sound failed_at img (MapWrong p) h sound = absurd h
told-sound failed_at img (Device p) h sound = (p, refl, h)
