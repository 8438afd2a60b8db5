-- The worlds that a system in memory had, one after another. Our own.
use Rattle.std.specs.Prelude.{◌≡◌, ◌≤◌, ◌⊎◌, ◌==◌, ℕ, List, length, take, refl, true, Option, Some, None, Result, IsOkAnd, OnErr, OnOk, if◌then◌else◌}
use Rattle.std.proofs.Common.{arith, ◌∙◌, ap, le_refl, sym}
use Rattle.std.proofs.lemmas.List.{take_all}
use Rattle.one_host.specs.History.{HeldOnly, HostHistory, Tells}
use Rattle.one_host.specs.Worlds.{OthersDid, World}
use Rattle.one_host.specs.declared.parts.Failure.{Failure}
use Rattle.one_host.specs.declared.parts.Lock.{Lock}
use Rattle.one_host.specs.declared.parts.Lock.TheVariants.{Free}
use Rattle.mem_host.specs.Moves.{acted, world_of}
use Rattle.mem_host.specs.declared.mem_host.MemHost.{MemHost}
use Rattle.mem_host.specs.declared.mem_host.Taken.{Taken}
use Rattle.mem_host.specs.declared.moves.Move.{Move}

-- The world that there was after the first s of these moves; at least t had been made.
pub record HadBeen (moves : List Move) (t : ℕ) (w : World) : Type 0 where
  pub s : ℕ
  pub later : t ≤ s
  pub within : s ≤ length moves
  pub is : w ≡ world_of (take s moves)

-- the lock that others have on a file
abbrev pub theirs : Option Taken → ℕ → Lock
theirs None n = Free
theirs (Some t) n = if n == t.number then t.how else Free

pub all_taken : (moves : List Move) (s : ℕ) → length moves ≤ s → world_of (take s moves) ≡ world_of moves
all_taken moves s le = ap world_of (take_all s moves le)

-- the history of systems in memory
abbrev pub film : HostHistory MemHost
film = record {
  known = true;
  world = λ h. world_of h.moves.items;
  moment = λ h. length h.moves.items;
  held = λ h t w. HadBeen h.moves.items t w;
  failed = λ h. h.failed;
  others = λ h n. theirs h.taken n;
  now = λ h t le. record { s = length h.moves.items; later = le; within = le_refl (length h.moves.items); is = sym (all_taken h.moves.items (length h.moves.items) (le_refl (length h.moves.items))) };
  only_now = λ h w had. had.is ∙ all_taken h.moves.items had.s had.later;
}

-- a call hasn't begun, and others may have done something
pub record Passes {T : Type 0} (old new : MemHost) (result : Result T Failure) : Type 0 where
  pub others : OthersDid (film.world old) (film.world new)
  pub held : HeldOnly film old new (λ w. OthersDid (film.world old) w)
  pub told : Tells film old new result

-- A change was made, if there was one to be made and memory for it.
pub record Attempts {K T : Type 0} (old new : MemHost) (what : Result Move K) (result : Result T Failure) : Type 0 where
  pub ok : OnOk result (IsOkAnd what (λ m. film.world new ≡ acted (film.world old) m))
  pub err : OnErr result (film.world new ≡ film.world old)
  pub held : HeldOnly film old new (λ w. (w ≡ film.world old) ⊎ (w ≡ film.world new))
  pub told : Tells film old new result
  pub taken : new.taken ≡ old.taken
