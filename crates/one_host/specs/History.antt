-- What a type of system promises of each of its values: what its world is and was, and which calls failed. Our own.
use Rattle.std.specs.Prelude.{ℕ, ◌≡◌, ◌≤◌, ◌⊎◌, Bool, true, Option, Some, Result, Ok, Err}
use Rattle.one_host.specs.Worlds.{World}
use Rattle.one_host.specs.declared.parts.Failure.{Failure}
use Rattle.one_host.specs.declared.parts.Lock.{Lock}

-- the history of the hosts of a type
pub record HostHistory (H : Type 0) : Type 1 where
  -- whether anything is known; of the real system nothing is
  pub known : Bool
  -- the world now
  pub world : H → World
  -- the moment, as a number that doesn't fall
  pub moment : H → ℕ
  -- what the world may have been at a moment from that one on
  pub held : H → ℕ → World → Type 0
  -- the last call that failed; None if none did
  pub failed : H → Option Failure
  -- which locks others had on a file when this program last asked for one
  pub others : H → ℕ → Lock
  -- the world now is held since each earlier moment
  pub now : (h : H) (t : ℕ) → t ≤ moment h → held h t (world h)
  -- since now nothing else is held
  pub only_now : (h : H) (w : World) → held h (moment h) w → w ≡ world h

-- something is known of hosts of this type
abbrev pub Known : {H : Type 0} → HostHistory H → Type 0
Known S = S.known ≡ true

-- At each moment from old to new the world had P.
pub record HeldOnly {H : Type 0} (S : HostHistory H) (old new : H) (P : World → Type 0) : Type 0 where
  pub later : S.moment old ≤ S.moment new
  pub each : (w : World) → S.held new (S.moment old) w → P w
  -- for a run that began earlier
  pub before : (t : ℕ) (w : World) → t ≤ S.moment old → S.held new t w → S.held old t w ⊎ P w

-- An error is that of the call that failed, which the host keeps; at Ok none failed.
abbrev pub Tells : {H T : Type 0} → HostHistory H → H → H → Result T Failure → Type 0
Tells S old new (Ok _) = S.failed new ≡ S.failed old
Tells S old new (Err e) = S.failed new ≡ Some e

-- the history of a part that passes each call on to a host
abbrev pub through : {E H : Type 0} → (E → H) → HostHistory H → HostHistory E
through f S = record {
  known = S.known;
  world = λ e. S.world (f e);
  moment = λ e. S.moment (f e);
  held = λ e. S.held (f e);
  failed = λ e. S.failed (f e);
  others = λ e. S.others (f e);
  now = λ e. S.now (f e);
  only_now = λ e. S.only_now (f e);
}

-- Since others had changed something n times, they have done so again, or this holds of the world.
abbrev pub Until : ℕ → (World → Type 0) → World → Type 0
Until n P w = w.hands ≡ n → P w

-- the same, and it was so often at least
pub record Since (n : ℕ) (P : World → Type 0) (w : World) : Type 0 where
  pub count : n ≤ w.hands
  pub is : Until n P w
