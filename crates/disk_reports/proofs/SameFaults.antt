-- Faults of one number and one sector are the same.
use Rattle.std.proofs.Common.{◌≡◌, ◌∙◌, ℕ, ap₂, refl, sym}
use Rattle.std.specs.Prelude.{if◌then◌else◌, nat_eq}
use Rattle.d64_image.specs.declared.place.Place.{Place}
use Rattle.disk_layout.specs.Number.{number_of}
use Rattle.disk_layout.specs.declared.faults.Fault.{Fault}
use Rattle.disk_layout.specs.declared.faults.Fault.TheVariants as faults
use Rattle.disk_layout.specs.Number.{place_of}

-- the fault of this number at this sector
abbrev fault_with : ℕ → Place → Fault
fault_with n p =
    if nat_eq n 1 then faults.BadLink p
    else (if nat_eq n 2 then faults.Loop p
    else (if nat_eq n 3 then faults.OwnedTwice p
    else (if nat_eq n 4 then faults.BadType p
    else (if nat_eq n 5 then faults.Unclosed p
    else (if nat_eq n 6 then faults.BadSide p
    else (if nat_eq n 7 then faults.BadLength p
    else (if nat_eq n 8 then faults.CountWrong p
    else (if nat_eq n 9 then faults.MapWrong p else faults.Device p))))))))

made-again : (f : Fault) → fault_with (number_of f) (place_of f) ≡ f
made-again (faults.BadLink p) = refl
made-again (faults.Loop p) = refl
made-again (faults.OwnedTwice p) = refl
made-again (faults.BadType p) = refl
made-again (faults.Unclosed p) = refl
made-again (faults.BadSide p) = refl
made-again (faults.BadLength p) = refl
made-again (faults.CountWrong p) = refl
made-again (faults.MapWrong p) = refl
made-again (faults.Device p) = refl

pub same-fault : (f g : Fault) → number_of f ≡ number_of g → place_of f ≡ place_of g → f ≡ g
same-fault f g number place = sym (made-again f) ∙ ap₂ fault_with number place ∙ made-again g
