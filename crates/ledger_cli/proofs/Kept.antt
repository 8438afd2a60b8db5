-- What was written stays written once a writer hands on what it holds back.
use Rattle.std.proofs.Common.{List, None, Option, Some, ◌∙◌, ℕ}
use Rattle.std.specs.Io.KnownBytes.{Appends, Keeps}
use Rattle.host_session.specs.events.Telling.{TellsNone}
use Rattle.host_session.specs.runs.Outputs.{written}

-- bytes that were appended and then kept
appends_kept : (a b c : Option (List ℕ)) (bs : List ℕ) → Appends a b bs → Keeps b c → Appends a c bs
appends_kept None b c bs x y = tt
appends_kept (Some xs) None c bs x y = absurd x
appends_kept (Some xs) (Some ys) None bs x y = absurd y
appends_kept (Some xs) (Some ys) (Some zs) bs x y = y ∙ x

pub still_written : {W : Type 0} (contents : W → Option (List ℕ)) (old new : W) → Keeps (contents old) (contents new)
    → TellsNone (written contents) old new
still_written contents old new kept = (
  λ first turns told. appends_kept (contents first) (contents old) (contents new) _ told kept,
  λ first turns last told. (told.0, appends_kept (contents first) (contents old) (contents new) _ told.1 kept),
)
