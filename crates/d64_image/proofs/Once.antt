-- What a run over a disk with one fault says of the disk beneath it.
use Rattle.std.proofs.Common.{◌≡◌, ◌<◌, ⊎_elim, Some, sym, ◌∙◌, arith}
use Rattle.std.proofs.lemmas.Option.{none-some}
use Rattle.d64_image.specs.declared.place.Place.{Place}
use Rattle.d64_image.specs.Images.{Image}
use Rattle.d64_image.specs.History.{History, HeldOnly, Failed}
use Rattle.d64_image.specs.declared.one_fault.OneFault.{OneFault}
use Rattle.d64_image.specs.OneFaults.{one_fault, faulty_disk, faulty_failures, fault_place}

module _ {D : Type 0} (h : History D) (a b : OneFault D) (P : Image → Type 0) (x : HeldOnly (one_fault h) a b P) where
  pub held_beneath : HeldOnly h (faulty_disk a) (faulty_disk b) P
  held_beneath = record { reached = x.reached.beneath; later = x.later; each = x.each; before = x.before }

  -- once its fault is past, it fails only where the disk beneath failed
  pub no_second_fault : (p : Place) → fault_place a ≡ Some p → faulty_failures b < (one_fault h).last
      → Failed (one_fault h) a b
      → Failed h (faulty_disk a) (faulty_disk b)
  no_second_fault p past fresh failed = ⊎_elim
      (λ (same : faulty_failures b ≡ faulty_failures a). absurd (omega (arith, same, failed.rose fresh)))
      (λ w. ⊎_elim (λ came. absurd (none-some p (sym came.0 ∙ past))) (λ f. f) w)
      x.reached.cause
