-- A deleted entry that is found on a sound disk.
use Rattle.std.proofs.Common.{◌≡◌, ◌<◌, ◌∙◌, ℕ, List, ap, inr, subst, sym}
use Rattle.std.specs.Prelude.{Contains, Option, Some, slice_get}
use Rattle.command_faults.specs.declared.faults.CommandFault.TheVariants as faults
use Rattle.command_faults.specs.declared.faults.CommandFault.{CommandFault}
use Rattle.d64_image.specs.Images.{Image}
use Rattle.d64_image.specs.Memory.{sectors_in}
use Rattle.d64_image.specs.declared.place.Place.{Place}
use Rattle.damaged_files.specs.declared.sides.planning.Loss.{Loss}
use Rattle.disk_changes.specs.Judged.{IsSoundDisk}
use Rattle.disk_changes.specs.Undeletes.{IsNoUndeletion, IsRetyped, IsUndeletable, IsUnfound, with_type}
use Rattle.disk_changes.proofs.Slots.{deleted-low}
use Rattle.disk_changes.specs.declared.entry_types.EntryType.{EntryType}
use Rattle.disk_layout.proofs.lemmas.layouts.Layouts.{get-contains}
use Rattle.disk_layout.specs.Layout.{IsLayout, Layout}
use Rattle.disk_layout.specs.Rest.{slot_name}
use Rattle.disk_layout.specs.declared.faults.Fault.{Fault}
use Rattle.disk_layout.specs.declared.slot.Slot.{Slot}
use Rattle.file_changes.specs.Entries.{HasName, IsFirstNamed, IsFreeName, entries_of}
use Rattle.file_rescues.proofs.SoundDirectory.{read-sectors, read-whole}
use Rattle.file_rescues.specs.rescue.Deleted.{deleted_slots}
use Rattle.damaged_files.specs.reached.Directories.{IsReadSoFar}
use Rattle.rel_records.proofs.lemmas.reading.Found.{slots-listed}

module _ (img : Image) (name padded : List ℕ) (is : padded ≡ slot_name name) (ps : List Place) (entries deleted : List Slot)
    (ended : Option Fault) (read : IsReadSoFar img ps entries ended) (found : deleted ≡ deleted_slots img ps) where
  entries-of : (l : Layout) → IsLayout img l → entries ≡ entries_of l
  entries-of l layout = slots-listed img l ps entries layout (read-whole img l layout ps entries ended read)

  deleted-of : (l : Layout) → IsLayout img l → deleted ≡ deleted_slots img l.directory
  deleted-of l layout = found ∙ ap (deleted_slots img) (read-sectors img l layout ps entries ended read)

  free : IsFreeName entries padded → (l : Layout) → IsLayout img l → IsFreeName (entries_of l) (slot_name name)
  free none l layout = subst (λ (xs : List Slot). IsFreeName xs (slot_name name)) (entries-of l layout)
      (subst (IsFreeName entries) is none)

  pub undeletable : IsFreeName entries padded → (s : Slot) → (n : ℕ) × IsFirstNamed deleted padded n s → (l : Layout)
      → IsLayout img l → IsUndeletable img l name s
  undeletable none s (n, first) l layout = record {
    free = free none l layout;
    number = n;
    first = subst (λ (xs : List Slot). IsFirstNamed xs (slot_name name) n s) (deleted-of l layout)
        (subst (λ (p : List ℕ). IsFirstNamed deleted p n s) is first);
  }

  pub exists : (s : Slot) → (n : ℕ) × IsFirstNamed entries padded n s → (l : Layout) → IsLayout img l
      → IsUnfound img l name faults.FileExists
  exists s (n, first) l layout none =
      none n s (subst (λ (xs : List Slot). slice_get xs n ≡ Some s) (entries-of l layout) first.there)
      (subst (λ (p : List ℕ). HasName p s) is first.named)

  pub not-found : IsFreeName entries padded → (e : CommandFault) → (e ≡ faults.NoFile) × IsFreeName deleted padded → (l : Layout)
      → IsLayout img l → IsUnfound img l name e
  not-found none e (same, missing) l layout = subst (IsUnfound img l name) (sym same) (
    free none l layout,
    subst (λ (xs : List Slot). IsFreeName xs (slot_name name)) (deleted-of l layout) (subst (IsFreeName deleted) is missing),
  )

  pub low : (s : Slot) → (n : ℕ) × IsFirstNamed deleted padded n s → s.number < 8
  low s (n, first) = deleted-low img ps s (subst (λ (xs : List Slot). Contains xs s) found (get-contains deleted n s first.there))

module _ (image name : List ℕ) (cut : Loss) (img : Image) (whole : IsSoundDisk image) (is : img ≡ sectors_in image) where
  sound : IsLayout img whole.layout
  sound = subst (λ (i : Image). IsLayout i whole.layout) (sym is) whole.sound

  pub none-found : (e : CommandFault) → ((l : Layout) → IsLayout img l → IsUnfound img l name e) → IsNoUndeletion image name cut e
  none-found faults.FileExists un = record {
    disk = whole;
    but = subst (λ (i : Image). IsUnfound i whole.layout name faults.FileExists) is (un whole.layout sound);
  }
  none-found faults.NoFile un = record {
    disk = whole;
    but = inr (subst (λ (i : Image). IsUnfound i whole.layout name faults.NoFile) is (un whole.layout sound));
  }
  none-found _ un = absurd (un whole.layout sound)

  pub retyped : (kind : EntryType) (s : Slot) (new : Image) (bytes : List ℕ) → ((l : Layout) → IsLayout img l → IsUndeletable img l name s)
      → new ≡ with_type img s kind → sectors_in bytes ≡ new → IsRetyped image name kind bytes
  retyped kind s new bytes un put same = record {
    before = whole;
    entry = s;
    of = subst (λ (i : Image). IsUndeletable i whole.layout name s) is (un whole.layout sound);
    is = same ∙ put ∙ ap (λ (i : Image). with_type i s kind) is;
  }
