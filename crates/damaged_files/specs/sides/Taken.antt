-- A device that takes sectors from another disk. Our own.
use Rattle.std.specs.Prelude.{◌≡◌, ◌⊎◌, OnOk, Result}
use Rattle.d64_image.specs.History.{HeldOnly, History}
use Rattle.d64_image.specs.Images.{Image, sector}
use Rattle.d64_image.specs.declared.place.Place.{Place}
use Rattle.disk_layout.specs.declared.faults.Fault.{Fault}
use Rattle.layout_check.specs.Mended.{TellsDevice}

-- each sector of c is as in a or as in b
abbrev pub IsMix : Image → Image → Image → Type 0
IsMix a b c = (p : Place) → (sector c p ≡ sector a p) ⊎ (sector c p ≡ sector b p)

-- A device on which each sector is as in a or as in b got sectors of b; those that it had already stay.
pub record Nears {D : Type 0} (S : History D) (a b : Image) (old new : D) : Type 0 where
  pub moments : HeldOnly S old new (IsMix a b)
  pub stays : (p : Place) → sector (S.image old) p ≡ sector b p → sector (S.image new) p ≡ sector b p

-- it has those of b at these places
abbrev pub HasThese : Image → (Place → Type 0) → Image → Type 0
HasThese b These c = (p : Place) → These p → sector c p ≡ sector b p

-- a call that gives a device, on which each sector is as in a or as in b, the sectors of b at these places
pub record Takes {D : Type 0} (S : History D) (a b : Image) (These : Place → Type 0) (old new : D)
    (result : Result (Unit {0}) Fault) : Type 0 where
  pub nears : IsMix a b (S.image old) → Nears S a b old new
  pub taken : OnOk result (IsMix a b (S.image old) → HasThese b These (S.image new))
  pub failures : TellsDevice S old new result

-- calls did so, and none failed
pub record TakesSoFar {D : Type 0} (S : History D) (a b : Image) (These : Place → Type 0) (old new : D) : Type 0 where
  pub nears : IsMix a b (S.image old) → Nears S a b old new
  pub taken : IsMix a b (S.image old) → HasThese b These (S.image new)
  pub failures : S.failures new ≡ S.failures old
