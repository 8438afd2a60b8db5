-- Entries that are looked at one after another for one that is asked for.
use Rattle.std.proofs.Common.{◌≡◌, ◌∙◌, Bool, IsTrue, List, ℕ, false, subst, sym}
use Rattle.std.proofs.lemmas.Bool.{false≢true}
use Rattle.disk_layout.specs.declared.slot.Slot.{Slot}
use Rattle.file_rescues.specs.Found.{IsAsked}
use Rattle.file_rescues.specs.declared.finding.Kind.{Kind}

-- an entry that was judged not to be asked for
pub not-asked : (kind : Kind) (name : List ℕ) (s t : Slot) (judged : Bool) → judged ≡ false → (IsAsked kind name s → IsTrue judged)
    → s ≡ t
    → ¬ (IsAsked kind name t)
not-asked kind name s t judged off tells same named =
    let P : Slot → Type 0 = IsAsked kind name in
    false≢true (sym off ∙ tells (subst P (sym same) named))
