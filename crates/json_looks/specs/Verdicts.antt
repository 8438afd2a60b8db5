-- What a check finds, for objects of JSON. Our own.
use Rattle.std.specs.Prelude.{◌≡◌, ℕ, List, [], None, Option, Some, codes, option_map}
use Rattle.d64_image.specs.declared.place.Place.{Place}
use Rattle.disk_layout.specs.Layout.{Layout}
use Rattle.disk_layout.specs.Number.{place_of}
use Rattle.disk_layout.specs.Texts.{fault_text}
use Rattle.disk_layout.specs.declared.faults.Fault.{Fault}
use Rattle.disk_pictures.specs.Trims.{IsAllThere}
use Rattle.long_chains.specs.Sectors.{misread_past}

-- what a check finds: OK, or a fault and its place
abbrev pub found_text : Option Fault → List ℕ
found_text None = codes "OK"
found_text (Some fault) = fault_text fault

abbrev pub found_place : Option Fault → Option Place
found_place found = option_map place_of found

-- all is there that the image says of itself: each sector was read, past track 35 too, and no file that is drawn goes on there
abbrev pub IsImageThere : (image : List ℕ) → Layout → Type 0
IsImageThere image l = IsAllThere image l × (misread_past image ≡ [])
