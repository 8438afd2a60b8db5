-- A file that isn't relative, found by its name.
use Rattle.std.proofs.Common.{◌≡◌, ◌<◌, ◌∙◌, ◌∷◌, ◌↔◌, [], ℕ, Bool, List, ap, false, get_or, inl, inr, length, subst, sym}
use Rattle.std.specs.Prelude.{Contains, IsTrue, Option}
use Rattle.std.proofs.lemmas.Bool.{cases_Bool, false≢true}
use Rattle.d64_image.specs.Images.{Image}
use Rattle.d64_image.specs.declared.place.Place.{Place}
use Rattle.damaged_files.specs.reached.Directories.{IsReadSoFar}
use Rattle.disk_changes.proofs.Slots.{slot-low}
use Rattle.disk_changes.specs.Rewrites.{IsPlainNamed}
use Rattle.disk_changes.specs.Sorts.{all_slots}
use Rattle.disk_layout.proofs.lemmas.counts.Recount.{filter-out}
use Rattle.disk_layout.proofs.lemmas.layouts.Layouts.{get-contains}
use Rattle.disk_layout.specs.Directory.{is_used, used_slots}
use Rattle.disk_layout.specs.Layout.{IsLayout, Layout, is_rel}
use Rattle.disk_layout.specs.Rest.{slot_name}
use Rattle.disk_layout.specs.declared.faults.Fault.{Fault}
use Rattle.disk_layout.specs.declared.slot.Slot.{Slot}
use Rattle.file_changes.specs.Entries.{IsFirstNamed, entries_of}
use Rattle.file_rescues.proofs.SoundDirectory.{read-whole}
use Rattle.rel_records.proofs.lemmas.reading.Found.{slots-listed}

-- a test that says no
pub says-no : (b t : Bool) → IsTrue b ↔ IsTrue t → b ≡ false → t ≡ false
says-no b t same says = elim (cases_Bool t) [
  | inl e ↦ absurd (false≢true (sym says ∙ same.1 e))
  | inr e ↦ e
]

-- the first entry of a name, among those that were read of a sound disk
module _ (img : Image) (name padded : List ℕ) (is : padded ≡ slot_name name) (ps : List Place) (entries : List Slot)
    (ended : Option Fault) (read : IsReadSoFar img ps entries ended) (s : Slot) (n : ℕ) (first : IsFirstNamed entries padded n s) where
  listed : (l : Layout) → IsLayout img l → entries ≡ entries_of l
  listed l layout = slots-listed img l ps entries layout (read-whole img l layout ps entries ended read)

  pub named-is : is_rel s ≡ false → (l : Layout) → IsLayout img l → IsPlainNamed l name s
  named-is plain l layout = record {
    number = n;
    first = subst (λ (xs : List Slot). IsFirstNamed xs (slot_name name) n s) (listed l layout)
        (subst (λ (p : List ℕ). IsFirstNamed entries p n s) is first);
    plain = plain;
  }

  pub named-low : (l : Layout) → IsLayout img l → s.number < 8
  unfolding used_slots
  named-low l layout = slot-low img l.directory s (filter-out is_used (all_slots img l.directory) s
      (subst (λ (xs : List Slot). Contains xs s) (listed l layout ∙ layout.directory.slots)
      (get-contains entries n s first.there))).0

-- a list of one
pub only-one : (ps : List Place) (p : Place) → length ps ≡ 1 → p ≡ get_or ps 0 p → ps ≡ p ∷ []
only-one [] p long at = absurd (cc long)
only-one (q ∷ []) p long at = ap (λ (x : Place). x ∷ []) (sym at)
only-one (q ∷ (r ∷ rest)) p long at = absurd (cc long)
