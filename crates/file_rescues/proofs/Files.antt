-- What is known of the file of a name when its bytes are printed.
use Rattle.std.proofs.Common.{◌≡◌, ◌∙◌, ◌⊎◌, ◌*◌, ◌^◌, ◌<◌, ◌≤◌, Bool, Err, List, None, Ok, Option, Result, Some, ap, arith, get_or, inl, inr, length, refl, subst, sym, ℕ}
use Rattle.std.proofs.lemmas.Bool.{false≢true}
use Rattle.std.proofs.lemmas.Option.{none-some, slice_get_read, slice_get_within}
use Rattle.std.specs.Option.{option_or}
use Rattle.std.specs.Prelude.{◌↔◌, IfErr, IfOk, IsTrue, false, true}
use Rattle.damaged_files.specs.cut.Told.{IsToldOfDisk, IsToldOfImage}
use Rattle.d64_image.specs.Images.{Image}
use Rattle.d64_image.specs.Memory.{sectors_in}
use Rattle.d64_image.specs.declared.place.Place.{Place}
use Rattle.damaged_files.specs.reached.Directories.{IsReadSoFar}
use Rattle.disk_layout.specs.declared.faults.Fault.{Fault}
use Rattle.disk_layout.specs.declared.slot.Slot.{Slot}
use Rattle.damaged_files.specs.reached.Reached.{IsReached}
use Rattle.damaged_files.specs.reached.Sharing.{IsOwned, first_shared, shared_fault}
use Rattle.file_rescues.specs.Bytes.{HasFile, HasNoFile, file_bytes}
use Rattle.command_faults.specs.Faults.{IsLoadFault}
use Rattle.file_rescues.specs.Faults.{IsEnded, end_or_past, keep_none}
use Rattle.file_rescues.specs.Found.{HasNone, IsFirstAsked, IsHad, unclosed}
use Rattle.file_rescues.specs.Printed.{IsDiskBytesPart, IsFileFault, IsUnclosedPart}
use Rattle.file_rescues.specs.Forms.{file_as, records_as}
use Rattle.file_rescues.specs.Records.{records_of}
use Rattle.command_faults.specs.Outputs.{HandsPart}
use Rattle.disk_layout.specs.Layout.{record_length}
use Rattle.command_faults.specs.declared.faults.CommandFault.{CommandFault}
use Rattle.command_faults.specs.declared.faults.CommandFault.TheVariants as faults
use Rattle.file_rescues.specs.declared.finding.Candidates.{Candidates}
use Rattle.file_rescues.specs.declared.finding.Candidates.TheVariants.{All}
use Rattle.file_rescues.specs.declared.finding.Kind.{Kind}
use Rattle.file_rescues.specs.declared.finding.Kind.TheVariants.{Any, Records}
use Rattle.file_rescues.specs.declared.forms.FileForm.{FileForm}
use Rattle.file_rescues.specs.declared.forms.RecordForm.{RecordForm}
use Rattle.rel_records.proofs.lemmas.reading.Found.{same-slot}
use Rattle.command_faults.proofs.Loads.{by-load}

-- the slot that is read is the entry's
pub slot-is : (slots : List Slot) (kind : Kind) (name : List ℕ) (n : ℕ) (s : Slot) (first : IsFirstAsked slots kind name n)
    → get_or slots n s ≡ s → s ≡ first.slot
slot-is slots kind name n s first is = same-slot slots n s first.slot
    (slice_get_read slots (length slots) n s refl (slice_get_within slots n first.slot first.there) (sym is)) first.there

-- the file as far as it can be reached, in lists that are equal to those that were filled
abbrev pub find-had : (img : Image) (kind : Kind) (name : List ℕ) (directory : List Place) (entries : List Slot)
    (ended : Option Fault) → IsReadSoFar img directory entries ended → (slots : List Slot) → slots ≡ entries → (n : ℕ)
    → IsFirstAsked slots kind name n → (s : Slot) → get_or slots n s ≡ s → (blocks : List Place) (broken : Option Fault)
    (last : ℕ) → IsReached img s blocks broken last → (sectors : List Place) → sectors ≡ directory → (all : List Place)
    → IsOwned img sectors slots all → (shared : Option Place) → shared ≡ first_shared all blocks → (fault : Option Fault)
    → fault ≡ option_or (option_or (option_or ended broken) (shared_fault shared)) (unclosed s)
    → IsHad img kind name n s blocks last fault
find-had img kind name directory entries ended read slots listed n first s is blocks broken last reached sectors are all
    owned shared several fault found = record {
      directory = directory;
      entries = slots;
      ended = ended;
      read = subst (λ (ss : List Slot). IsReadSoFar img directory ss ended) (sym listed) read;
      first = first;
      entry = slot-is slots kind name n s first is;
      broken = broken;
      reached = reached;
      all = all;
      owned = subst (λ (ps : List Place). IsOwned img ps slots all) are owned;
      fault_is = found
          ∙ ap (λ (o : Option Place). option_or (option_or (option_or ended broken) (shared_fault o)) (unclosed s)) several;
    }

-- where an entry stands among the others in memory
pub slot-offset : (n count : ℕ) → n < count → count ≤ 144 → n * 35 < 2 ^ 64
slot-offset n count within few = omega (arith, within, few)

-- the file, or that there is none, is the image's
abbrev pub file-there : (image : List ℕ) (kind : Kind) (name : List ℕ) (img : Image) (n : ℕ) (s : Slot)
    (blocks : List Place) (last : ℕ) (fault : Option Fault) → length image ≡ 174848 → img ≡ sectors_in image
    → IsHad img kind name n s blocks last fault → HasFile image kind name fault
file-there image kind name img n s blocks last fault size same had = record {
  size = size;
  number = n;
  slot = s;
  blocks = blocks;
  last = last;
  had = subst (λ (i : Image). IsHad i kind name n s blocks last fault) same had;
}

none-there : (image : List ℕ) (kind : Kind) (name : List ℕ) (img : Image) (ended : Option Fault) → length image ≡ 174848
    → img ≡ sectors_in image → HasNone img kind name ended → HasNoFile image kind name ended
none-there image kind name img ended size same none = record {
  size = size;
  none = subst (λ (i : Image). HasNone i kind name ended) same none;
}

module _ {W : Type 0} (image : List ℕ) (kind : Kind) (name : List ℕ) (Printed : Option Fault → Type 0) (old : W) where
  pub none-found : (img : Image) (ended : Option Fault) → length image ≡ 174848 → img ≡ sectors_in image
      → HasNone img kind name ended → IsFileFault image kind name Printed old old (keep_none ended)
  none-found img None size same none = (none-there image kind name img None size same none, refl)
  none-found img (Some fault) size same none =
      inl (none-there image kind name img (Some fault) size same none, refl)

  -- what an image has wrong that isn't loaded, a file of it has too
  pub load-refused : (fault : CommandFault) → IsLoadFault image fault → IsFileFault image kind name Printed old old fault
  load-refused = by-load image (IsFileFault image kind name Printed old old) (λ told. (told, refl)) (λ told. (told, refl))

  -- what was asked for was printed, as far as it can be reached
  pub printed-end : (new : W) (number_of : (f : Option Fault) → Printed f → ℕ) (img : Image) → img ≡ sectors_in image
      → (n : ℕ) (fault : Option Fault) (r : Result (Option Place) CommandFault) → IsEnded img n fault r
      → (p : Printed fault) → number_of fault p ≡ n
      → IfOk r (λ cut. (p : Printed None) × IsToldOfImage image (Some (number_of None p)) cut)
      × IfErr r (IsFileFault image kind name Printed old new)
  printed-end new number_of img same n None (Ok cut) is p of = (
    (
      p,
      subst (λ (m : ℕ). IsToldOfImage image (Some m) cut) (sym of)
          (subst (λ (i : Image). IsToldOfDisk i (Some n) cut) same is),
    ),
    tt,
  )
  printed-end new number_of img same n None (Err why) is p of = absurd is
  printed-end new number_of img same n (Some fault) r is p of =
      subst (λ (e : Result (Option Place) CommandFault). IfOk e (λ cut. (p : Printed None)
      × IsToldOfImage image (Some (number_of None p)) cut) × IfErr e (IsFileFault image kind name Printed old new))
      (sym is) (tt, inr p)

  -- the output failed, or there was no memory
  pub put-stopped : (new : W) (fault : Option Fault) → HasFile image kind name fault → (why : CommandFault)
      → (why ≡ faults.File) ⊎ ((why ≡ faults.NoMemory) × (new ≡ old)) → IsFileFault image kind name Printed old new why
  put-stopped new fault file why (inl is) =
      subst (λ (w : CommandFault). IsFileFault image kind name Printed old new w) (sym is) (fault, file)
  put-stopped new fault file why (inr (is, same)) =
      subst (λ (w : CommandFault). IsFileFault image kind name Printed old new w) (sym is) (file.size, same)

-- The printing ends at the place that was found, or otherwise at the one past which the program goes on, if the file has the
-- form in which it was printed.
pub ended-past : {A : Type 0} (Told : A → Option Place → Type 0) (past_of : A → Option Place) (Has : A → Type 0)
    (past : Option Place) (has_form : Bool) (r r' : Result (Option Place) CommandFault) → r' ≡ end_or_past r past has_form
    → IfOk r (λ cut. (p : (a : A) × (past ≡ past_of a) × (IsTrue has_form ↔ Has a)) × Told p.0 cut)
    → IfOk r' (λ cut. (a : A) × (found : Option Place) × Told a found × (cut ≡ option_or found (past_of a))
    × (found ≡ None → Has a))
ended-past {A} Told past_of Has past true (Ok None) r' is ((a, at, has), told) =
    subst (λ (e : Result (Option Place) CommandFault). IfOk e (λ cut. (a : A) × (found : Option Place) × Told a found
    × (cut ≡ option_or found (past_of a)) × (found ≡ None → Has a))) (sym is) (a, None, told, at, λ none. has.0 refl)
ended-past {A} Told past_of Has past false (Ok None) r' is told = subst (λ (e : Result (Option Place) CommandFault).
    IfOk e (λ cut. (a : A) × (found : Option Place) × Told a found × (cut ≡ option_or found (past_of a))
    × (found ≡ None → Has a))) (sym is) tt
ended-past {A} Told past_of Has past has_form (Ok (Some place)) r' is ((a, at, has), told) =
    subst (λ (e : Result (Option Place) CommandFault). IfOk e (λ cut. (a : A) × (found : Option Place) × Told a found
    × (cut ≡ option_or found (past_of a)) × (found ≡ None → Has a))) (sym is)
    (a, Some place, told, refl, λ none. absurd (none-some place (sym none)))
ended-past {A} Told past_of Has past has_form (Err why) r' is told = subst (λ (e : Result (Option Place) CommandFault).
    IfOk e (λ cut. (a : A) × (found : Option Place) × Told a found × (cut ≡ option_or found (past_of a))
    × (found ≡ None → Has a))) (sym is) tt

-- or it ends with a fault, or because the file hasn't that form
pub stopped-past : {A : Type 0} (Told : A → Option Place → Type 0) (past_of : A → Option Place) (Has : A → Type 0)
    (past : Option Place) (has_form : Bool) (Why : CommandFault → Type 0) (r r' : Result (Option Place) CommandFault)
    → r' ≡ end_or_past r past has_form
    → IfOk r (λ cut. (p : (a : A) × (past ≡ past_of a) × (IsTrue has_form ↔ Has a)) × Told p.0 cut) → IfErr r Why
    → IfErr r' (λ why. ((why ≡ faults.NoProgram) × (a : A) × Told a None × ¬ (Has a)) ⊎ Why why)
stopped-past {A} Told past_of Has past true Why (Ok None) r' is told why = subst (λ (e : Result (Option Place) CommandFault).
    IfErr e (λ why. ((why ≡ faults.NoProgram) × (a : A) × Told a None × ¬ (Has a)) ⊎ Why why)) (sym is) tt
stopped-past {A} Told past_of Has past false Why (Ok None) r' is ((a, at, has), told) why =
    subst (λ (e : Result (Option Place) CommandFault). IfErr e (λ why. ((why ≡ faults.NoProgram) × (a : A) × Told a None
    × ¬ (Has a)) ⊎ Why why)) (sym is) (inl (refl, a, told, λ holds. false≢true (has.1 holds)))
stopped-past {A} Told past_of Has past has_form Why (Ok (Some place)) r' is told why =
    subst (λ (e : Result (Option Place) CommandFault). IfErr e (λ why. ((why ≡ faults.NoProgram) × (a : A) × Told a None
    × ¬ (Has a)) ⊎ Why why)) (sym is) tt
stopped-past {A} Told past_of Has past has_form Why (Err fault) r' is told why =
    subst (λ (e : Result (Option Place) CommandFault). IfErr e (λ why. ((why ≡ faults.NoProgram) × (a : A) × Told a None
    × ¬ (Has a)) ⊎ Why why)) (sym is) (inr why)

-- what was printed of the bytes of a file
pub bytes-part : {W : Type 0} (contents : W → Option (List ℕ)) (form : FileForm) (candidates : Candidates)
    (image name : List ℕ) (old new : W) (fault : Option Fault) (file : HasFile image (Any candidates) name fault)
    (now : Image) → now ≡ sectors_in image → (ps : List Place) → ps ≡ file.blocks
    → HandsPart (contents old) (contents new) (file_as form (file_bytes now ps file.last))
    → IsDiskBytesPart contents form candidates image name old new
bytes-part contents form candidates image name old new fault file now same ps are part = inr (
  fault,
  file,
  subst (λ (i : Image). HandsPart (contents old) (contents new) (file_as form (file_bytes i file.blocks file.last)))
      same
      (subst (λ (xs : List Place). HandsPart (contents old) (contents new)
      (file_as form (file_bytes now xs file.last))) are part),
)

-- what was printed of the records among the bytes of a file
pub unclosed-part : {W : Type 0} (contents : W → Option (List ℕ)) (form : RecordForm) (image name : List ℕ) (old new : W)
    (fault : Option Fault) (file : HasFile image (Records All) name fault) (now : Image) → now ≡ sectors_in image
    → (ps : List Place) → ps ≡ file.blocks
    → HandsPart (contents old) (contents new)
    (records_as form (records_of (record_length file.slot) (file_bytes now ps file.last)))
    → IsUnclosedPart contents form image name old new
unclosed-part contents form image name old new fault file now same ps are part = inr (
  fault,
  file,
  subst (λ (i : Image). HandsPart (contents old) (contents new)
      (records_as form (records_of (record_length file.slot) (file_bytes i file.blocks file.last)))) same
      (subst (λ (xs : List Place). HandsPart (contents old) (contents new)
      (records_as form (records_of (record_length file.slot) (file_bytes now xs file.last)))) are part),
)
