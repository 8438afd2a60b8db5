-- On a sound disk the file with records that is found first is the first closed relative file of its name, and the records
-- among its bytes are all that it has.
use Rattle.std.proofs.Common.{◌≡◌, ◌*◌, ◌+◌, ◌-◌, ◌/◌, ◌∷◌, ◌∙◌, ℕ, [], List, ap, arith, inl, inr, length, length-append, map, max, subst, sym, take}
use Rattle.std.specs.Prelude.{IsTrue, Option, Some, false, slice_get, slice_index}
use Rattle.std.proofs.Math.Nat.{div-mul-le_self}
use Rattle.std.proofs.lemmas.Bool.Decides.{nat_tests}
use Rattle.std.proofs.lemmas.List.{get_or-take, length-take}
use Rattle.d64_image.proofs.Images.{is_sector}
use Rattle.d64_image.proofs.Places.{track_from_1}
use Rattle.d64_image.specs.Images.{Image, IsImage}
use Rattle.d64_image.specs.declared.place.Place.{Place}
use Rattle.disk_layout.proofs.lemmas.chains.Chains.{Names-one}
use Rattle.disk_layout.proofs.lemmas.layouts.Layouts.{get-contains}
use Rattle.disk_layout.proofs.lemmas.lists.Once.{all-in}
use Rattle.disk_layout.proofs.lemmas.records.Joined.{length-joined}
use Rattle.disk_layout.proofs.lemmas.records.Pieces.{pieces-same}
use Rattle.disk_layout.specs.Chain.{Names}
use Rattle.disk_layout.specs.Layout.{File, IsFile, IsLayout, IsRelFile, Layout, is_rel, record_length}
use Rattle.disk_layout.specs.Records.{joined, pieces, record_count, records}
use Rattle.disk_layout.specs.Rest.{IsFirst, IsNamed}
use Rattle.disk_layout.specs.declared.faults.Fault.{Fault}
use Rattle.disk_layout.specs.declared.slot.Slot.{Slot}
use Rattle.damaged_files.proofs.lemmas.reached.Walked.{reach-chain}
use Rattle.damaged_files.specs.reached.Directories.{IsReadSoFar}
use Rattle.damaged_files.specs.reached.Reached.{IsReach, IsReached}
use Rattle.rel_records.proofs.lemmas.reading.Found.{first-found, none-found, slot-file, slots-listed}
use Rattle.rel_records.specs.reading.Named.{IsFirstNamed, IsNamedSlot, IsRelOf}
use Rattle.file_rescues.proofs.SoundDirectory.{read-whole}
use Rattle.file_rescues.specs.Bytes.{file_bytes}
use Rattle.file_rescues.specs.Found.{HasNone, IsAsked, IsHad}
use Rattle.file_rescues.specs.Records.{records_of}
use Rattle.file_rescues.specs.declared.finding.Candidates.TheVariants.{Closed}
use Rattle.file_rescues.specs.declared.finding.Kind.TheVariants.{Records}

-- what can be reached of a relative file is all of it
reached-all : (img : Image) (s : Slot) (f : File) (ps : List Place) (fault : Option Fault) (u : ℕ) → IsRelOf img s f
    → IsTrue (is_rel f.slot) → IsReached img s ps fault u → (ps ≡ f.blocks) × (u ≡ f.last)
reached-all img s f ps fault u of rel reached = elim reached [
  | inl (nameless, empty, whole, zero) ↦ absurd (plain nameless)
  | inr (inl (named, none, empty, bad, zero)) ↦
      absurd (none first (subst (λ (t : Slot). Names t.bytes 3 first) of.slot names))
  | inr (inr (p, named, reach)) ↦
      let one : p ≡ first =
      Names-one s.bytes 3 p first named (subst (λ (t : Slot). Names t.bytes 3 first) of.slot names) in
      let both = reach-chain img first ps f.blocks fault u f.last
      (subst (λ (q : Place). IsReach img q ps fault u) one reach) of.file.chain.2 in
      (both.0, both.1)
]
  where
    first : Place
    first = of.file.chain.0

    names : Names f.slot.bytes 3 first
    names = of.file.chain.1

    plain : (is_rel s ≡ false) × (slice_index s.bytes 3 ≡ 0) → ⊥
    plain nameless = omega (
      arith,
      track_from_1 first,
      (subst (λ (t : Slot). Names t.bytes 3 first) of.slot names).0,
      nameless.1,
    )

-- the records among its bytes are those that it has
records-all : (img : Image) (f : File) → IsImage img → IsRelFile img f
    → records_of (record_length f.slot) (file_bytes img f.blocks f.last) ≡ records img f
unfolding file_bytes records record_count
records-all img f whole rel =
    let c = rel.chain.2 in
    let L : ℕ = record_length f.slot in
    let m : ℕ = 254 * (length f.blocks - 1) + max f.last 1 - 1 in
    let all : List ℕ = joined img f.blocks in
    let some = ap length c.places ∙ length-append c.front (c.last ∷ []) in
    let long = length-joined img f.blocks whole in
    let small = (is_sector img c.last whole).small 1 in
    let fits : length (take m all) ≡ m = omega (arith, length-take m all, some, long, c.ends.1, small) in
    let inside = div-mul-le_self m L in
    ap (λ (n : ℕ). pieces L (n / L) (take m all)) fits
    ∙ pieces-same L (m / L) (take m all) all (omega (arith, inside, fits))
    (omega (arith, inside, fits, length-take m all)) (λ i low. get_or-take m all i 0 (omega (arith, low, inside)))

records-same : (img : Image) (s : Slot) (f : File) (ps : List Place) (u : ℕ) → f.slot ≡ s → ps ≡ f.blocks → u ≡ f.last
    → records_of (record_length f.slot) (file_bytes img f.blocks f.last) ≡ records img f
    → records_of (record_length s) (file_bytes img ps u) ≡ records img f
records-same img s f ps u slot blocks last all = rw (← slot, blocks, last) all

module _ (img : Image) (l : Layout) (is : IsLayout img l) where
  -- a directory that is read as far as its links lead is all of it
  listed : (ps : List Place) (entries : List Slot) (ended : Option Fault) → IsReadSoFar img ps entries ended
      → entries ≡ map (λ (f : File). f.slot) l.files
  listed ps entries ended h = slots-listed img l ps entries is (read-whole img l is ps entries ended h)

  -- an entry of a sound disk that has records is a relative file
  asked-named : (name : List ℕ) (f : File) → IsFile img f → IsAsked (Records Closed) name f.slot
      → IsNamedSlot name f.slot
  asked-named name f file asked = (
    let closed = file.closed in let has = asked.1 in grind (arith, nat_tests),
    asked.0.1,
  )

  named-asked : (name : List ℕ) (f : File) → IsFile img f → IsNamedSlot name f.slot
      → IsAsked (Records Closed) name f.slot
  named-asked name f file named =
      let rel = named.0 in
      let low = (file.rel rel).length_low in
      let high = (file.rel rel).length_high in
      ((grind (arith, nat_tests), named.1), grind (arith, nat_tests))

  -- a slot that is listed, with its file
  listed-file : (slots : List Slot) (k : ℕ) (s : Slot) → slots ≡ map (λ (f : File). f.slot) l.files
      → slice_get slots k ≡ Some s → (f : File) × (slice_get l.files k ≡ Some f) × (f.slot ≡ s) × IsFile img f
  listed-file slots k s e at =
      let (f, there, slot) = slot-file l slots k s e at in
      (f, there, slot, all-in (IsFile img) l.files f is.files (get-contains l.files k f there))

  unasked : (slots : List Slot) (name : List ℕ) (k : ℕ) (s : Slot) → slots ≡ map (λ (f : File). f.slot) l.files
      → slice_get slots k ≡ Some s → ¬ (IsAsked (Records Closed) name s) → ¬ (IsNamedSlot name s)
  unasked slots name k s e at none named =
      let (f, there, slot, file) = listed-file slots k s e at in
      none (subst (IsAsked (Records Closed) name) slot
      (named-asked name f file (subst (IsNamedSlot name) (sym slot) named)))

  -- the file that is found
  pub had-file : (name : List ℕ) (n : ℕ) (s : Slot) (blocks : List Place) (last : ℕ) (fault : Option Fault)
      → IsImage img → IsHad img (Records Closed) name n s blocks last fault → (f : File) × IsFirst l name n f
      × (records_of (record_length s) (file_bytes img blocks last) ≡ records img f)
  had-file name n s blocks last fault whole had =
      let e = listed had.directory had.entries had.ended had.read in
      let h = had.first in
      let (g, at, slot, file) = listed-file had.entries n h.slot e h.there in
      let first : IsFirstNamed had.entries name n = record {
        slot = h.slot;
        there = h.there;
        named = subst (IsNamedSlot name) slot
            (asked-named name g file (subst (IsAsked (Records Closed) name) (sym slot) h.asked));
        first = λ k t low there. unasked had.entries name k t e there (h.first k t low there);
      } in
      let (f, is_first, of) = first-found img l had.entries name n is e first in
      let here : IsRelOf img s f = subst (λ (t : Slot). IsRelOf img t f) (sym had.entry) of in
      let all = reached-all img s f blocks had.broken last here is_first.named.0 had.reached in (
        f,
        is_first,
        records-same img s f blocks last here.slot all.0 all.1 (records-all img f whole here.file),
      )

  -- or there is none
  pub none-had : (name : List ℕ) (ended : Option Fault) → HasNone img (Records Closed) name ended → (k : ℕ) (f : File)
      → slice_get l.files k ≡ Some f → ¬ (IsNamed name f)
  none-had name ended none =
      let e = listed none.directory none.entries ended none.read in
      none-found l none.entries name e (λ k s at. unasked none.entries name k s e at (none.none k s at))
