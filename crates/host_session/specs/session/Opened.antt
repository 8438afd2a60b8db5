-- The result of an opening. All of it is our own.
use Rattle.std.specs.Prelude.{◌≡◌, ◌↔◌, false, IfErr, IfOk, IsOk, Result}
use Rattle.d64_image.specs.History.{Failed, History, NeverFailed}
use Rattle.host_session.specs.Held.{Changes}
use Rattle.host_session.specs.declared.faults.OpenFault.{OpenFault}
use Rattle.host_session.specs.session.Opening as opening
use Rattle.host_session.specs.session.Opening.{IsAShop, Refuses, TellsOpening, Untouched}
use Rattle.host_session.specs.session.Standing.{View}
use Rattle.host_session.specs.shop.Shop.{IsSettled, IsShop, Shop}

-- what an opening returns: a session, or a fault with the disk
abbrev pub Opened : Type 0 → Type 0
Opened D = Result (View D) (OpenFault × D)

-- the disk that either outcome hands out
abbrev pub disk_of : {D : Type 0} → Opened D → D
disk_of {D} r = opening.disk_of {S = View D} {D = D} {F = OpenFault} (λ x. x.disk) r

-- A disk was opened, with this result.
pub record IsOpened {D : Type 0} (h : History D) (disk : D) (result : Opened D) : Type 0 where
  -- the disk was a shop's, and is the same shop's now, at rest
  pub ok : IfOk result (λ x.
      (s : Shop) × IsShop (h.image disk) s × IsSettled (h.image x.disk) s × (x.dead ≡ false))
  -- the fault holds, and none that comes before it in the order
  pub err : IfErr result (λ e. Refuses (Failed h disk e.1) (h.image disk) e.0)
  -- if the device doesn't fail, the result is Ok exactly on a shop
  pub opens : NeverFailed h disk (disk_of result) → (IsOk result ↔ IsAShop (h.image disk))
  -- each image held is the same shop's; at most 883 sectors are written by the repair, 5 for the intent, 64 for old cards
  pub moments : (s : Shop) → IsShop (h.image disk) s → Changes h disk (disk_of result) 952 (λ c. IsShop c s)
  -- a disk that is no shop's isn't written, and neither is a disk at rest
  pub unfit : (IsAShop (h.image disk) → ⊥) → Untouched h disk (disk_of result)
  pub quiet : (s : Shop) → IsSettled (h.image disk) s → Untouched h disk (disk_of result)
  pub failures : TellsOpening {S = View D} (λ x. x.disk) h disk result
