-- What is printed of a disk beside its sectors. All of it is our own but the types (1541 User's Guide, directory
-- format).
use Rattle.std.specs.Prelude.{ℕ, zero, suc, ◌+◌, ◌*◌, ◌-◌, ◌/◌, ◌&&◌, ◌||◌, Bool, false, not, List, [], ◌∷◌, ◌++◌}
use Rattle.std.specs.Prelude.{Option, Some, None, codes, length, max, nat_eq}
use Rattle.d64_image.specs.Images.{Sector}
use Rattle.d64_image.specs.declared.place.Place.{Place}
use Rattle.disk_layout.specs.Layout.{File, is_rel, record_length}
use Rattle.disk_layout.specs.Map.{map_bit}
use Rattle.disk_layout.specs.Number.{place_of}
use Rattle.disk_layout.specs.Texts.{fault_text, place_text}
use Rattle.disk_layout.specs.declared.faults.Fault.{Fault}
use Rattle.disk_pictures.specs.Drawings.{is_place}
use Rattle.disk_pictures.specs.declared.verdicts.Verdict.{Verdict}

-- the lines of 0, 1 and so on below n
unfoldable pub each_below : ℕ → (ℕ → List ℕ) → List ℕ
each_below zero line = []
each_below (suc n) line = each_below n line ++ line n

-- one of 0, 1 and so on below n passes the test
unfoldable pub any_below : ℕ → (ℕ → Bool) → Bool
any_below zero test = false
any_below (suc n) test = any_below n test || test n

-- the lines of these, the first of them with the number k
unfoldable pub numbered : {X : Type 0} → (ℕ → X → List ℕ) → ℕ → List X → List ℕ
numbered line k [] = []
numbered line k (x ∷ xs) = line k x ++ numbered line (k + 1) xs

-- the line of a place, if there is one
abbrev pub at_place : (Place → List ℕ) → Option Place → List ℕ
at_place line None = []
at_place line (Some p) = line p

-- the place is so, if there is one
abbrev pub is_at_place : (Place → Bool) → Option Place → Bool
is_at_place test None = false
is_at_place test (Some p) = test p

-- the map calls the sector free
abbrev pub is_free : Sector → Place → Bool
is_free map p = nat_eq (map_bit map p.track p.sector) 1

-- the fault that was found is at this place
abbrev pub is_fault_at : Option Fault → Place → Bool
is_fault_at None p = false
is_fault_at (Some f) p = is_place (place_of f) p

-- the fault, and on a line of its own where the first file ends that is cut short; OK if there is neither
abbrev pub verdict_by : Option Fault → Option Place → List ℕ
verdict_by None None = codes "OK"
verdict_by None (Some p) = codes "SHORT " ++ place_text p
verdict_by (Some f) None = fault_text f
verdict_by (Some f) (Some p) = fault_text f ++ (codes "\n" ++ (codes "SHORT " ++ place_text p))

-- the same of a verdict
abbrev pub verdict_text : Verdict → List ℕ
verdict_text v = verdict_by v.found v.cut

-- record length and records are printed: the entry is relative and has both a length and a block
abbrev pub has_records : File → Bool
has_records f = is_rel f.slot && (not (nat_eq (length f.blocks) 0) && not (nat_eq (record_length f.slot) 0))

-- how many whole records the blocks have: 254 bytes each, the last one up to its last index
abbrev pub records_in : File → ℕ
records_in f = (254 * (length f.blocks - 1) + (max f.last 1 - 1)) / record_length f.slot
