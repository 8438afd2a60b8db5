-- The world that a system in memory has after what it has done. Our own.
use Rattle.std.specs.Prelude.{ℕ, suc, List, [], fold, false}
use Rattle.one_host.specs.Worlds.{World, set_at}
use Rattle.one_host.specs.Calls.{changed, entered, folder_synced, heard, locked, made, printed, synced}
use Rattle.one_host.specs.declared.parts.Entry.TheVariants.{Leads, Nothing}
use Rattle.one_host.specs.declared.parts.Kind.TheVariants.{Regular}
use Rattle.one_host.specs.declared.parts.Lock.TheVariants.{Free}
use Rattle.mem_host.specs.declared.moves.Move.{Move}
use Rattle.mem_host.specs.declared.moves.Move.TheVariants as move

-- no file, no name, nothing read, nothing printed
abbrev pub empty : World
empty = record {
  files = λ _. record { kind = Regular; mode = 0; bytes = record { now = []; before = []; in_doubt = false } };
  used = 0;
  names = λ _. record { now = Nothing; before = []; in_doubt = false };
  locks = λ _. Free;
  heard = [];
  ended = false;
  said = [];
  warned = [];
  hands = 0;
}

-- the world after one thing more was done
abbrev pub acted : World → Move → World
acted w (move.Made n path kind mode) = record (entered w path.items (Leads n)) {
  files = set_at w.files n (record { kind = kind; mode = mode; bytes = record { now = []; before = []; in_doubt = false } });
  used = suc n;
}
acted w (move.Entered path e) = entered w path.items e
acted w (move.Moved from to e) = entered (entered w to.items e) from.items Nothing
acted w (move.FolderSynced path) = folder_synced w path.items
acted w (move.Changed n bytes) = changed w n bytes.items
acted w (move.Synced n) = synced w n
acted w (move.Guarded n mode) = record w { files = set_at w.files n (record (w.files n) { mode = mode }) }
acted w (move.Locked n how) = locked w n how
acted w (move.Heard count bytes) = heard w count bytes.items
acted w (move.Printed stream text) = printed w stream text.items
acted w move.Stayed = w
acted w (move.Meddled path e) = record (entered w path.items e) { hands = suc w.hands }

-- the world after all of this was done
abbrev pub world_of : List Move → World
world_of moves = fold acted empty moves
