-- The sectors that a repair goes over: none comes twice.
use Rattle.std.proofs.Common.{List, [], ◌∷◌, ◌++◌, inl, inr}
use Rattle.std.specs.Prelude.{Contains, flat_map}
use Rattle.std.proofs.lemmas.List.Elements.{Contains-append_cases, Contains-append_left, Contains-append_right}
use Rattle.d64_image.specs.Images.{Image}
use Rattle.d64_image.specs.declared.place.Place.{Place}
use Rattle.disk_layout.proofs.lemmas.lists.Once.{EachOnce-apart, EachOnce-join, EachOnce-left, EachOnce-right}
use Rattle.disk_layout.specs.Chain.{EachOnce}
use Rattle.disk_layout.specs.Directory.{map_place}
use Rattle.disk_layout.specs.Layout.{File, IsLayout, Layout, file_owns, owners}
use Rattle.layout_check.specs.RepairOrder.{repair_order, sides_of}

-- a side sector is owned
pub sides-owned : (fs : List File) (p : Place) → Contains (sides_of fs) p → Contains (flat_map file_owns fs) p
sides-owned [] p c = c
sides-owned (f ∷ fs) p c = elim (Contains-append_cases f.sides (sides_of fs) p c) [
  | inl d ↦ Contains-append_left (file_owns f) (flat_map file_owns fs) p (Contains-append_right f.blocks f.sides p d)
  | inr d ↦ Contains-append_right (file_owns f) (flat_map file_owns fs) p (sides-owned fs p d)
]

-- and by one file, once
pub sides-once : (fs : List File) → EachOnce (flat_map file_owns fs) → EachOnce (sides_of fs)
sides-once [] h = tt
sides-once (f ∷ fs) h =
    let mine = EachOnce-left (file_owns f) (flat_map file_owns fs) h in
    let rest = EachOnce-right (file_owns f) (flat_map file_owns fs) h in
    EachOnce-join f.sides (sides_of fs) (EachOnce-right f.blocks f.sides mine) (sides-once fs rest)
    (λ p c d. EachOnce-apart (file_owns f) (flat_map file_owns fs) h p (Contains-append_right f.blocks f.sides p c)
    (sides-owned fs p d))

module _ (img : Image) (l : Layout) (is : IsLayout img l) where
  once : EachOnce (l.directory ++ flat_map file_owns l.files)
  unfolding owners
  once = is.once.1

  fresh : ¬ (Contains (l.directory ++ flat_map file_owns l.files) map_place)
  unfolding owners
  fresh = is.once.0

  pub files-once : EachOnce (flat_map file_owns l.files)
  files-once = EachOnce-right l.directory (flat_map file_owns l.files) once

  pub directory-once : EachOnce l.directory
  directory-once = EachOnce-left l.directory (flat_map file_owns l.files) once

  -- the map, the side sectors and the directory's sectors are apart
  pub side-not_map : ¬ (Contains (sides_of l.files) map_place)
  side-not_map c = fresh (Contains-append_right l.directory (flat_map file_owns l.files) map_place
      (sides-owned l.files map_place c))

  pub directory-not_map : ¬ (Contains l.directory map_place)
  directory-not_map c = fresh (Contains-append_left l.directory (flat_map file_owns l.files) map_place c)

  pub side-not_directory : (p : Place) → Contains (sides_of l.files) p → ¬ (Contains l.directory p)
  side-not_directory p c d = EachOnce-apart l.directory (flat_map file_owns l.files) once p d (sides-owned l.files p c)

  pub order-once : EachOnce (repair_order l)
  order-once = (
    λ c. elim (Contains-append_cases (sides_of l.files) l.directory map_place c) [
      | inl d ↦ side-not_map d
      | inr d ↦ directory-not_map d
    ],
    EachOnce-join (sides_of l.files) l.directory (sides-once l.files files-once) directory-once side-not_directory,
  )
