-- The side sectors of an entry that were surveyed. Our own.
use Rattle.std.specs.Prelude.{◌≤◌, ◌+◌, ◌*◌, IfErr, IfOk, List, OnOk, Option, Result, length}
use Rattle.d64_image.specs.History.{History}
use Rattle.d64_image.specs.declared.place.Place.{Place}
use Rattle.disk_layout.specs.declared.faults.Fault.{Fault}
use Rattle.disk_layout.specs.declared.slot.Slot.{Slot}
use Rattle.layout_check.specs.Calls.{Passes, TellsUnsound}
use Rattle.layout_check.specs.Exact.{ToldOfSides}
use Rattle.layout_check.specs.Sides.{HasParts, IsWalkOfSides, ListsEach}

-- the call found the side sectors of an entry with these blocks, read each at most twice, and checked whether they are
-- exact
pub record SurveysSides {D : Type 0} (S : History D) (old new : D) (s : Slot) (bs ss : List Place)
    (result : Result (Option Place) Fault) : Type 0 where
  pub sides : OnOk result (IsWalkOfSides (S.image old) s bs ss)
  pub lists : OnOk result (ListsEach (S.image old) ss)
  pub exact : IfOk result (ToldOfSides (S.image old) s bs ss)
  pub ok : OnOk result (Passes S old new (2 * length ss))
  pub err : IfErr result (TellsUnsound S old new 12)

-- and its data blocks
pub record FindsParts {D : Type 0} (S : History D) (old new : D) (s : Slot) (bs ss : List Place)
    (result : Result (Option Place) Fault) : Type 0 where
  pub parts : OnOk result (HasParts (S.image old) s bs ss)
  pub exact : IfOk result (ToldOfSides (S.image old) s bs ss)
  pub ok : OnOk result (Passes S old new (length bs + 2 * length ss))
  pub few : OnOk result (length bs + 2 * length ss ≤ 732)
  pub err : IfErr result (TellsUnsound S old new 732)
