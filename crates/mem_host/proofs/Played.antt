-- One move more.
use Rattle.std.proofs.Common.{◌≡◌, ◌∙◌, ◌<◌, ℕ, suc, zero, List, [], ◌∷◌, ◌++◌, length, take, get_or, fold, ap, arith, refl}
use Rattle.std.proofs.lemmas.List.Sums.{fold-append}
use Rattle.std.proofs.Math.Seq.{take-suc}
use Rattle.one_host.specs.Worlds.{World}
use Rattle.mem_host.specs.Moves.{acted, empty, world_of}
use Rattle.mem_host.specs.declared.moves.Move.{Move}

pub played : (moves : List Move) (what : Move) → world_of (moves ++ what ∷ []) ≡ acted (world_of moves) what
played moves what = fold-append acted empty moves (what ∷ [])

pub next : (moves : List Move) (i : ℕ) (d : Move) → i < length moves → world_of (take (suc i) moves) ≡ acted (world_of (take i moves)) (get_or moves i d)
next moves i d lt = ap world_of (take-suc moves i d lt) ∙ played (take i moves) (get_or moves i d)
