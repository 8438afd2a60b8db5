-- How a run without a disk ended, from what its command says of what it printed.
use Rattle.std.proofs.Common.{◌≡◌, List, None, Result, Ok, Err, ap, refl, subst, sym, ℕ}
use Rattle.std.specs.Prelude.{IfErr, IsSome, OnOk, is_some}
use Rattle.opened_files.specs.Ends.{JobEnd, IsQuietPrint}
use Rattle.shop_jobs.specs.Runs.{dry_end, IsDryRefusal}
use Rattle.line_text.specs.scripts.Lines.{first_reset, lines}
use Rattle.shop_commands.specs.Faults.{IsDryFault}
use Rattle.shop_commands.specs.declared.dry_run.DryFault.{DryFault}
use Rattle.shop_commands.specs.declared.dry_run.DryFault.TheVariants as dry

module _ {W : Type 0} (old new : W) where
  -- of a run without a disk
  pub dry-printed : (Printed : W → W → Type 0) (script : List ℕ) (ended : Result Unit DryFault) (end : JobEnd)
      → end ≡ dry_end ended → OnOk ended (first_reset (lines script) ≡ None) → OnOk ended (Printed old new)
      → IfErr ended (IsDryFault (first_reset (lines script))) → (IsSome (first_reset (lines script)) → new ≡ old)
      → IsQuietPrint (λ (before after : W). (first_reset (lines script) ≡ None) × Printed before after)
      (IsDryRefusal script) old new end
  dry-printed Printed script (Ok _) end is good ok err untouched =
      let P : W → W → Type 0 = λ before after. (first_reset (lines script) ≡ None) × Printed before after in
      subst (IsQuietPrint P (IsDryRefusal script) old new) (sym is) (refl, (good, ok))
  dry-printed Printed script (Err (dry.BadLine line)) end is good ok bad untouched =
      let P : W → W → Type 0 = λ before after. (first_reset (lines script) ≡ None) × Printed before after in
      subst (IsQuietPrint P (IsDryRefusal script) old new) (sym is) (bad, λ _. untouched (ap is_some bad))
  dry-printed Printed script (Err dry.Output) end is good ok none untouched =
      let P : W → W → Type 0 = λ before after. (first_reset (lines script) ≡ None) × Printed before after in
      subst (IsQuietPrint P (IsDryRefusal script) old new) (sym is) (none, λ other. absurd (other refl))
