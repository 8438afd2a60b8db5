-- What the links of an entry come to, of a disk that is damaged too, and what that shows. Our own.
use Rattle.std.specs.Prelude.{◌≡◌, ◌≢◌, ◌⊎◌, ◌↔◌, ℕ, ◌+◌, ◌<◌, ◌≤◌, List, [], ◌∷◌, ◌++◌, Contains, IsTrue, None, Option, Some}
use Rattle.std.specs.Prelude.{length, slice_get}
use Rattle.d64_image.specs.Images.{Image, sector}
use Rattle.d64_image.specs.declared.place.Place.{Place}
use Rattle.disk_layout.specs.Chain.{Names, NamesNone}
use Rattle.disk_layout.specs.Directory.{type_byte}
use Rattle.disk_layout.specs.Fault.{SidesLead}
use Rattle.disk_layout.specs.Side.{NamesNext}
use Rattle.disk_layout.specs.Layout.{count_field, is_rel, sides_for}
use Rattle.disk_layout.specs.declared.faults.Fault.{Fault}
use Rattle.disk_layout.specs.declared.faults.Fault.TheVariants as faults
use Rattle.disk_layout.specs.declared.slot.Slot.{Slot}
use Rattle.damaged_files.specs.reached.Reached.{IsReached}
use Rattle.layout_check.specs.Entry.{IsShown}
use Rattle.layout_check.specs.Exact.{IsExactSide}
use Rattle.disk_reports.specs.declared.trail.Trail.{Trail}

-- these blocks are reached of the entry's file, and this ends them
abbrev pub IsReachedBy : Image → Slot → List Place → Option Fault → Type 0
IsReachedBy img s blocks end = (u : ℕ) × IsReached img s blocks end u

-- the sectors to which side sectors lead from the first one on: n of them, or fewer if the last one doesn't link to the
-- one that it lists as the next
pub record AreLinked (img : Image) (first : Place) (n : ℕ) (ps : List Place) : Type 0 where
  pub front : List Place
  pub last : Place
  pub places : ps ≡ front ++ last ∷ []
  pub leads : SidesLead img 0 first front last
  pub few : length ps ≤ n
  pub stops : (length ps ≡ n) ⊎ ((q : Place) → ¬ (NamesNext (sector img last) (length front) q))

-- the entry is relative, and no fault ends its chain
abbrev pub HasWholeChain : Slot → Option Fault → Type 0
HasWholeChain s end = IsTrue (is_rel s) × (end ≡ None)

-- the side sectors of an entry with these blocks: those to which they lead from the first one on, no more than the
-- blocks need. There are none if the entry isn't relative, its chain isn't whole, or it names no first side sector
abbrev pub AreSides : Image → Slot → List Place → Option Fault → List Place → Type 0
AreSides img s blocks end sides =
    (HasWholeChain s end × ((q : Place) × Names s.bytes 21 q × AreLinked img q (sides_for (length blocks)) sides))
    ⊎ ((¬ (HasWholeChain s end) × (sides ≡ [])) ⊎ (NamesNone s.bytes 21 × (sides ≡ [])))

-- side sector j of these, at p, is as it is to be by itself: its bytes are exact if more side sectors follow, as many as
-- the blocks need
pub record IsIntact (img : Image) (s : Slot) (blocks sides : List Place) (j : ℕ) (p : Place) : Type 0 where
  pub more : List Place
  pub all : length (sides ++ more) ≡ sides_for (length blocks)
  pub exact : IsExactSide img s blocks (sides ++ more) j p

-- these of the side sectors are wrong by themselves
abbrev pub AreWrong : Image → Slot → List Place → List Place → List Place → Type 0
AreWrong img s blocks sides wrong =
    (p : Place) → Contains wrong p ↔ ((j : ℕ) × (slice_get sides j ≡ Some p) × ¬ (IsIntact img s blocks sides j p))

-- this is what the links of the entry come to; nothing of one that isn't closed
pub record IsTrail (img : Image) (t : Trail) : Type 0 where
  pub unclosed : type_byte t.slot < 128 → (t.blocks.items ≡ []) × (t.end ≡ None)
  pub closed : 128 ≤ type_byte t.slot → IsReachedBy img t.slot t.blocks.items t.end
  pub sides : AreSides img t.slot t.blocks.items t.end t.sides.items
  pub wrong : AreWrong img t.slot t.blocks.items t.sides.items t.wrong.items

-- what the blocks and the side sectors of a relative entry with a whole chain come to isn't its block count
abbrev pub IsMiscounted : Trail → Type 0
IsMiscounted t =
    HasWholeChain t.slot t.end × (count_field t.slot ≢ length t.blocks.items + sides_for (length t.blocks.items))

-- the entry, in the directory sector p, is to name a first side sector and doesn't
abbrev pub LacksSide : Slot → Place → Type 0
LacksSide s p = (p ≡ s.sector) × IsTrue (is_rel s) × NamesNone s.bytes 21

-- the sector is a side sector of the entry that is wrong, or the entry lacks one
abbrev pub HasWrongSide : Trail → Place → Type 0
HasWrongSide t p = Contains t.wrong.items p ⊎ LacksSide t.slot p

-- the entry shows the fault, or has the sector at which it is. BADLINK and LOOP end its chain. BADTYPE, UNCLOSED and
-- BADLENGTH are in its slot. BADSIDE is at a side sector of it, or at its directory sector if it is to name one and
-- doesn't. COUNTWRONG is at its directory sector. The sector of OWNEDTWICE or MAPWRONG is a block or a side sector
abbrev pub Shows : Trail → Fault → Type 0
Shows t (faults.BadLink p) = t.end ≡ Some (faults.BadLink p)
Shows t (faults.Loop p) = t.end ≡ Some (faults.Loop p)
Shows t (faults.OwnedTwice p) = Contains t.blocks.items p ⊎ Contains t.sides.items p
Shows t (faults.MapWrong p) = Contains t.blocks.items p ⊎ Contains t.sides.items p
Shows t (faults.BadSide p) = HasWrongSide t p
Shows t (faults.CountWrong p) = (p ≡ t.slot.sector) × IsMiscounted t
Shows t fault = IsShown t.slot fault
