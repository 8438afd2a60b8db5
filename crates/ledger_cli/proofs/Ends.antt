-- What is told of a job's end.
use Rattle.std.proofs.Common.{Err, List, Ok, Option, Result, refl, subst, sym, ℕ}
use Rattle.std.proofs.Math.Seq.{take-length}
use Rattle.std.specs.Prelude.{◌≡◌, IfErr, IsOk, OnErr, OnOk, length}
use Rattle.std.specs.Io.KnownBytes.{Appends}
use Rattle.line_text.specs.declared.handing.NotTaken.{NotTaken}
use Rattle.line_text.specs.Handed.{AppendsPart}
use Rattle.opened_files.specs.Ends.{JobEnd, refusal_line}
use Rattle.ledger_cli.specs.Runs.{IsEndTold}

-- bytes that were told whole, or in part
told : (r : Result Unit NotTaken) (old new : Option (List ℕ)) (bytes : List ℕ) → OnOk r (Appends old new bytes)
    → OnErr r (AppendsPart old new bytes) → AppendsPart old new bytes
told (Ok _) old new bytes whole part = (length bytes, subst (Appends old new) (sym (take-length bytes)) whole)
told (Err _) old new bytes whole part = part

pub end_told : {E : Type 0} (contents : E → Option (List ℕ)) (old new : E) (end : JobEnd) (r : Result Unit NotTaken)
    → (IsOk end → (new ≡ old) × IsOk r)
    → IfErr end (λ refusal. OnOk r (Appends (contents old) (contents new) (refusal_line refusal)))
    → IfErr end (λ refusal. OnErr r (AppendsPart (contents old) (contents new) (refusal_line refusal)))
    → IsEndTold contents old new end
end_told contents old new (Ok printed) r quiet whole part = (quiet refl).0
end_told contents old new (Err refusal) r quiet whole part =
    told r (contents old) (contents new) (refusal_line refusal) whole part
