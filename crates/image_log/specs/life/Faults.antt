-- Faults of a log. Our own.
use Rattle.image_log.specs.declared.life.landing.LogFault.{LogFault}
use Rattle.image_log.specs.declared.life.landing.LogFault.TheVariants.{File, Unfit}

-- the log gives no image
abbrev pub IsMisfit : LogFault → Type 0
IsMisfit (Unfit why) = Unit
IsMisfit (File why) = ⊥
