-- The entry to be renamed is found, and then one write renames it.
use Rattle.std.proofs.Common.{◌≡◌, ◌⊎◌, ℕ, ◌≤◌, ◌<◌, ◌+◌, ◌*◌, List, Err, Ok, Result, ap, ap₂, arith, inl, inr, length, refl}
use Rattle.std.proofs.Common.{subst, sym, ◌∙◌}
use Rattle.std.specs.Prelude.{IfErr, IfOk}
use Rattle.d64_image.proofs.Moments.{failed_later, reading, then, writing}
use Rattle.d64_image.specs.History.{Changes, History, OnlyReads}
use Rattle.d64_image.specs.Images.{Image}
use Rattle.d64_image.specs.declared.faults.DeviceFault.{DeviceFault}
use Rattle.disk_layout.specs.Layout.{File, IsLayout, Layout}
use Rattle.disk_layout.specs.Rest.{slot_name}
use Rattle.disk_layout.specs.declared.slot.Slot.{Slot}
use Rattle.rel_records.proofs.lemmas.reading.Found.{slot-file}
use Rattle.file_changes.proofs.RenamedWhole.{is-renamed}
use Rattle.file_changes.proofs.Reslotted.{place}
use Rattle.file_changes.proofs.Refused.{not-device, told-more}
use Rattle.file_changes.specs.Entries.{IsFirstNamed, IsFreeName, entries_of}
use Rattle.file_changes.specs.Patches.{PatchesSector, patched}
use Rattle.file_changes.specs.Renames.{FindsRenamable, HasNewName, IsRenamable, IsRenamed, Renames}
use Rattle.command_faults.specs.declared.faults.CommandFault.{CommandFault}
use Rattle.command_faults.specs.declared.faults.CommandFault.TheVariants.{Device, FileExists, NoFile}

module _ {D : Type 0} (S : History D) (a b : D) (from to : List ℕ) (slots : List Slot) (padded other : List ℕ)
    (old : padded ≡ slot_name from) (new : other ≡ slot_name to)
    (listed : (l : Layout) → IsLayout (S.image a) l → slots ≡ entries_of l) (reads : OnlyReads S a b 18)
    (fine : S.failures b ≡ S.failures a) where
  there : (P : List Slot → List ℕ → List ℕ → Type 0) → P slots padded other → (l : Layout) → IsLayout (S.image a) l
      → P (entries_of l) (slot_name from) (slot_name to)
  there P h l is = subst (P (entries_of l) (slot_name from)) new (subst (λ xs. P (entries_of l) xs other) old
      (subst (λ es. P es padded other) (listed l is) h))

  pub found : (r : Result Slot CommandFault)
      → IfOk r (λ s. (n : ℕ) × IsFirstNamed slots padded n s × IsFreeName slots other)
      → IfErr r (λ e. e ≡ NoFile → IsFreeName slots padded)
      → IfErr r (λ e. e ≡ FileExists → ¬ (IsFreeName slots padded) × ¬ (IsFreeName slots other))
      → IfErr r (λ e. (e ≡ NoFile) ⊎ (e ≡ FileExists)) → FindsRenamable S a b from to r
  found r first missing exists told = record {
    ok = there (λ es f t. IfOk r (λ s. (n : ℕ) × IsFirstNamed es f n s × IsFreeName es t)) first;
    not_found = there (λ es f t. IfErr r (λ e. e ≡ NoFile → IsFreeName es f)) missing;
    exists = there (λ es f t. IfErr r (λ e. e ≡ FileExists → ¬ (IsFreeName es f) × ¬ (IsFreeName es t))) exists;
    told = told-more r FileExists told;
    reads = reads;
    failures = not-device S a b r FileExists refl fine told;
  }

-- the file of the entry
renamable : (l : Layout) (s : Slot) (from to : List ℕ)
    → (n : ℕ) × IsFirstNamed (entries_of l) (slot_name from) n s × IsFreeName (entries_of l) (slot_name to)
    → (n : ℕ) × (f : File) × IsRenamable l from to n f × (f.slot ≡ s)
renamable l s from to (n, first, free) =
    let (f, at, same) = slot-file l (entries_of l) n s refl first.there in
    (n, f, record { file = at; first = subst (IsFirstNamed (entries_of l) (slot_name from) n) (sym same) first; free = free }, same)

-- the entry's number
pub entry-low : (img : Image) (l : Layout) (s : Slot) (from to : List ℕ) → IsLayout img l
    → (n : ℕ) × IsFirstNamed (entries_of l) (slot_name from) n s × IsFreeName (entries_of l) (slot_name to) → s.number < 8
entry-low img l s from to h named =
    let (n, f, of, same) = renamable l s from to named in
    subst (λ x. x.number < 8) same (place img l n f h of.file).1

module _ {D : Type 0} (S : History D) (a b c : D) (from to : List ℕ) (few : length to ≤ 16) (s : Slot) (padded : List ℕ)
    (new : padded ≡ slot_name to) (finds : FindsRenamable S a b from to (Ok s)) where
  named : (l : Layout) → IsLayout (S.image a) l → (img : Image)
      → img ≡ patched (S.image b) s.sector (32 * s.number + 5) padded → HasNewName (S.image a) l from to img
  named l h img e =
      let (n, f, of, same) = renamable l s from to (finds.ok l h) in
      let P : Image → Type 0 = IsRenamed (S.image a) l n f to in
      record {
        number = n;
        file = f;
        of = of;
        done = subst P (sym (e
            ∙ ap (λ (i : Image). patched i s.sector (32 * s.number + 5) padded) finds.reads.image
            ∙ ap₂ (λ (x : Slot) (xs : List ℕ). patched (S.image a) x.sector (32 * x.number + 5) xs) (sym same) new))
            (is-renamed (S.image a) l n f to h of.file (S.whole a) few);
      }

  moments : (r : Result (Unit {0}) DeviceFault) → PatchesSector S b c s.sector (32 * s.number + 5) padded r → (l : Layout)
      → IsLayout (S.image a) l → Changes S a c 1 (λ i. (i ≡ S.image a) ⊎ HasNewName (S.image a) l from to i)
  moments r patch l h = record {
    held = then S a b c _ (reading S a b 18 _ finds.reads (inl refl))
        (writing S b c _ _ _ patch.held (inl finds.reads.image) (inr (named l h _ refl)));
    writes = omega (arith, patch.writes, finds.reads.writes);
  }

  pub renames-done : PatchesSector {T = Unit {0}} {E = DeviceFault} S b c s.sector (32 * s.number + 5) padded (Ok (tt {0}))
      → Renames S a c from to (Ok (tt {0}))
  renames-done patch = record {
    layout = λ l h. record {
      ok = named l h (S.image c) patch.ok;
      not_found = tt;
      exists = tt;
      moments = moments (Ok (tt {0})) patch l h;
    };
    told = tt;
    refused = tt;
    reads = omega (arith, patch.reads, finds.reads.reads);
    failures = patch.failures ∙ finds.failures;
  }

  pub renames-failed : (e : DeviceFault) → PatchesSector {T = Unit {0}} S b c s.sector (32 * s.number + 5) padded (Err e)
      → Renames S a c from to (Err Device)
  renames-failed e patch = record {
    layout = λ l h. record {
      ok = tt;
      not_found = λ is. absurd (device-not-found is);
      exists = λ is. absurd (device-not-exists is);
      moments = moments (Err e) patch l h;
    };
    told = inr (inr refl);
    refused = λ ne. absurd (ne refl);
    reads = omega (arith, patch.reads, finds.reads.reads);
    failures = failed_later S a b c finds.failures patch.failures;
  }
    where
      device-not-found : Device ≡ NoFile → ⊥
      device-not-found e = cc

      device-not-exists : Device ≡ FileExists → ⊥
      device-not-exists e = cc
