-- What messages leave of a session on a shop's disk. Our own.
use Rattle.std.specs.Prelude.{◌≡◌, ◌≤◌, false}
use Rattle.d64_image.specs.History.{History, NeverFailed}
use Rattle.host_session.specs.session.Opening.{IsAShop}
use Rattle.host_session.specs.session.Standing.{View}

-- the disk is still a shop's, and the session dies only if the device failed
pub record StaysOpen {D : Type 0} (S : History D) (old new : View D) : Type 0 where
  pub shop : IsAShop (S.image new.disk)
  pub later : S.failures old.disk ≤ S.failures new.disk
  pub alive : NeverFailed S old.disk new.disk → old.dead ≡ false → new.dead ≡ false
