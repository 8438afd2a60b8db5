-- The entries are listed, and one of them is chosen.
use Rattle.std.proofs.Common.{List, Result, Ok, Err, inl, subst, sym, ◌∙◌, ◌≡◌, ℕ}
use Rattle.std.specs.Prelude.{IfErr, IfOk}
use Rattle.d64_image.specs.History.{History, OnlyReads}
use Rattle.disk_layout.specs.Layout.{IsLayout, Layout}
use Rattle.disk_layout.specs.Rest.{slot_name}
use Rattle.disk_layout.specs.declared.slot.Slot.{Slot}
use Rattle.file_changes.specs.Entries.{FindsEntry, IsFirstNamed, IsFreeName, entries_of}
use Rattle.file_changes.specs.Faults.{TellsChange}
use Rattle.command_faults.specs.declared.faults.CommandFault.{CommandFault}
use Rattle.command_faults.specs.declared.faults.CommandFault.TheVariants.{NoFile}
use Rattle.file_changes.proofs.entries.find_entry.Goals as goal

module _ {D : Type 0} (S : History D) (a b : D) (name : List ℕ) (slots : List Slot) (padded : List ℕ)
    (old : padded ≡ slot_name name) (listed : (l : Layout) → IsLayout (S.image a) l → slots ≡ entries_of l)
    (reads : OnlyReads S a b 18) (fine : S.failures b ≡ S.failures a) where
  there : (P : List Slot → List ℕ → Type 0) → P slots padded → (l : Layout) → IsLayout (S.image a) l
      → P (entries_of l) (slot_name name)
  there P h l is = subst (P (entries_of l)) old (subst (λ es. P es padded) (listed l is) h)

  found : (r : Result Slot CommandFault) → IfOk r (λ s. (n : ℕ) × IsFirstNamed slots padded n s)
      → IfErr r (λ e. (e ≡ NoFile) × IsFreeName slots padded) → FindsEntry S a b name r
  found (Ok s) first none = record {
    ok = there (λ es f. (n : ℕ) × IsFirstNamed es f n s) first;
    not_found = λ l is. tt;
    told = tt;
    reads = reads;
    failures = fine;
  }
  found (Err e) first (is, free) = record {
    ok = λ l layout. tt;
    not_found = there (λ es f. e ≡ NoFile → IsFreeName es f) (λ _. free);
    told = inl is;
    reads = reads;
    failures = subst (λ x. TellsChange {T = Slot} S a b (Err x)) (sym is) fine;
  }

pub returns : goal.returns
returns g c = found g.D.Sectors.history c.args.disk.now c.list_entries.new.disk c.args.name.now c.as_slice.result.now
    c.padded_name.result c.padded_name.ensures
    (λ l h. c.as_slice.ensures.value ∙ c.in_ok-list_entries.ensures.ok l h) c.list_entries.ensures.reads
    c.in_ok-list_entries.ensures.failures c.choose_named.result c.choose_named.ensures.ok c.choose_named.ensures.err
