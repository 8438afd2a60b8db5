-- What holds of any fault by which a disk is of another kind.
use Rattle.d64_image.specs.Images.{Sector}
use Rattle.disk_changes.specs.mended.Kinds.{HasFormatByte, HasGeosSign, IsKindFault}
use Rattle.command_faults.specs.declared.faults.CommandFault.{CommandFault}
use Rattle.command_faults.specs.declared.faults.CommandFault.TheVariants as faults

-- it is one of GEOS, or has another format byte
pub by-kind : (bytes : Sector) (P : CommandFault → Type 0) → (HasGeosSign bytes → P faults.Geos)
    → (¬ (HasFormatByte bytes) → P faults.Format) → (fault : CommandFault) → IsKindFault bytes fault → P fault
by-kind bytes P geos format faults.Geos told = geos told
by-kind bytes P geos format faults.Format told = format told
by-kind bytes P geos format _ told = absurd told
