-- An image that is made of a log, by how its steps ended.
use Rattle.std.proofs.Common.{◌≡◌, ◌∙◌, ℕ, List, Option, ap, subst, sym}
use Rattle.d64_image.specs.Images.{Image}
use Rattle.d64_image.specs.Memory.{bytes_of}
use Rattle.image_file.specs.Remains.{Remains}
use Rattle.image_file.specs.paths.Traces.{Traces}
use Rattle.image_log.specs.Recovered.{base_end}
use Rattle.image_log.specs.declared.life.landing.LogFault.{LogFault}
use Rattle.image_log.specs.declared.life.landing.LogFault.TheVariants.{File, Unfit}
use Rattle.image_log.specs.life.Faults.{IsMisfit}
use Rattle.opened_files.specs.Ends.{JobEnd, log_refusal}
use Rattle.opened_files.specs.Makings.{IsMadeAt, IsNewEnd}
use Rattle.image_edits.specs.Salvages.{IsOfLog, IsUnsalvaged, log_bytes, salvage_text}
use Rattle.command_faults.specs.declared.faults.CommandFault.{CommandFault}

-- why a log without a base isn't taken
pub unsalvaged : (all : List ℕ) (fault : LogFault) (refusal : CommandFault) → refusal ≡ log_refusal fault → IsMisfit fault
    → base_end (log_bytes all) ≡ 0 → IsUnsalvaged all refusal
unsalvaged all (Unfit why) refusal is misfit none = subst (IsUnsalvaged all) (sym is) none
unsalvaged all (File why) refusal is misfit none = absurd misfit

-- what was taken of it was made at a path, and that was said
pub salvage-end : {H F W : Type 0} (traces : Traces H F) (remains : Remains F) (contents : W → Option (List ℕ)) (host : H)
    (path all : List ℕ) (old new : W) (end : JobEnd) (shop : Image) (items flat said : List ℕ)
    → IsOfLog all (λ image text. (image ≡ shop) × (items ≡ text)) → flat ≡ bytes_of shop → said ≡ items
    → IsNewEnd contents (IsMadeAt remains traces host path flat) said old new end
    → IsOfLog all (λ image text. IsNewEnd contents (IsMadeAt remains traces host path (bytes_of image)) text old new end)
salvage-end traces remains contents host path all old new end shop items flat said (image, salvaged, is, (same, as-text)) by-shop
    by-items told = (
      image,
      salvaged,
      is,
      subst (λ (bytes : List ℕ). IsNewEnd contents (IsMadeAt remains traces host path bytes) (salvage_text salvaged) old new end)
          (by-shop ∙ ap bytes_of (sym same))
          (subst (λ (text : List ℕ). IsNewEnd contents (IsMadeAt remains traces host path flat) text old new end)
          (by-items ∙ as-text) told),
    )
