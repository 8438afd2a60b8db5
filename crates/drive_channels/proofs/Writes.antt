-- The rows of a write, and what it leaves of the files that are remembered.
use Rattle.std.proofs.Common.{ℕ, ◌≡◌, ◌≤◌, ◌<◌, ◌+◌, ◌⊎◌, inl, inr, Bool, true, false, List, [], ◌∷◌, if◌then◌else◌}
use Rattle.std.proofs.Common.{length, nat_lt, Some, sym, ap, ap₂, subst, refl, arith, Result, OnErr, ◌==◌}
use Rattle.std.proofs.lemmas.Grind.{common_steps}
use Rattle.d64_image.proofs.Moments.{changes_weaker}
use Rattle.d64_image.specs.History.{Changes, FailsInOneStep, History}
use Rattle.d64_image.specs.Images.{Image}
use Rattle.disk_layout.proofs.lemmas.layouts.Layouts.{IsLayout-one}
use Rattle.disk_layout.specs.Clean.{IsClean}
use Rattle.disk_layout.specs.Layout.{File, Layout, record_length}
use Rattle.rel_records.proofs.lemmas.Usable.{clean-then}
use Rattle.rel_records.specs.File.{IsFileOf, Shows, entry_of, length_of, records_in}
use Rattle.rel_records.specs.Others.{HasRecords, LeavesRecords}
use Rattle.rel_records.specs.Written.{IsGrowingTo, IsInOneBlock, IsWriting, grown_to, touched, with_written}
use Rattle.rel_records.specs.declared.rel_file.RelFile.{RelFile}
use Rattle.rel_records.specs.growth.Growth.{IsFull, IsTooLarge, added, growth_writes, records_had}
use Rattle.drive_channels.proofs.Kept.{other-found, own-found}
use Rattle.drive_channels.proofs.Rows.{in-file}
use Rattle.drive_channels.specs.Inside.{IsFound, IsSpot, KeepsFound, at_spot, channel_in, next_spot}
use Rattle.drive_channels.specs.Moments.{IsWrittenAt}
use Rattle.drive_channels.specs.State.{Channel}
use Rattle.drive_channels.specs.Tables.{InFile, WritesIn}
use Rattle.drive_channels.specs.declared.open_file.NamedFile.{NamedFile}
use Rattle.drive_channels.specs.declared.open_file.Position.{Position}
use Rattle.drive_channels.specs.declared.status.Status.{Status}
use Rattle.drive_channels.specs.declared.status.Status.TheVariants as statuses

-- what a done call leaves is a file with these records
pub leaves-has : (old new : Image) (l : Layout) (n : ℕ) (rs : List (List ℕ)) (v : RelFile)
    → LeavesRecords old new l n rs v → HasRecords old new l n rs
leaves-has old new l n rs v h = record {
  layout = h.layout;
  is_layout = h.of.layout;
  others = h.others;
  file = h.file;
  there = h.of.there;
  records = h.records;
  places = h.places;
}

-- a RelFile counts the records of its file
pub had-is : (f : File) (v : RelFile) → Shows f v → records_in v ≡ records_had f
had-is f v h = cc

-- what a done call leaves of the files that are remembered
pub keeps-left : (old new : Image) (e e' : NamedFile) (rs : List (List ℕ)) → IsClean old → (h : IsFound old e)
    → e'.name ≡ e.name
    → entry_of e'.file ≡ entry_of e.file
    → LeavesRecords old new h.layout (entry_of e.file) rs e'.file → KeepsFound old new e e'
keeps-left old new e e' rs clean h name entry left = record {
  clean = clean-then old new h.layout left.layout h.of.layout clean left.clean;
  entry = entry;
  found = own-found old new e e' rs h name entry left;
  others = λ o apart is. other-found old new o (entry_of e.file) h.layout rs e'.file is
      (IsLayout-one old h.layout is.layout h.of.layout is.of.layout) apart left;
}

-- and what a refused one leaves
pub keeps-same : (old new : Image) (e e' : NamedFile) → old ≡ new → e ≡ e' → IsClean old → IsFound old e
    → KeepsFound old new e e'
keeps-same old new e e' image same clean found =
    let here : KeepsFound old old e e = record { clean = clean; entry = refl; found = found; others = λ o _ is. is } in
    subst (λ (i : Image). KeepsFound old i e e') image (subst (λ (x : NamedFile). KeepsFound old old e x) same here)

module _ (old new : Image) (e e' : NamedFile) (s : Position) (status : Status) (b : Bool) (found : IsFound old e)
    (entry : entry_of e'.file ≡ entry_of e.file) where
  -- the record can't be there
  pub refused-row : (text : List ℕ) → new ≡ old
      → ((l : Layout) (f : File) → IsFileOf old l (entry_of e.file) f e.file
      → IsTooLarge f s.record_number ⊎ IsFull old f s.record_number)
      → InFile (at_spot old e s status b)
      (WritesIn (at_spot old e s status b) text (at_spot new e' s statuses.FileTooLarge b))
  refused-row text same told = in-file old e s status b _ found (λ l f of. inl (
    told l f of,
    ap₂ (λ (i : Image) (n : ℕ). record {
      image = i;
      channel = channel_in n (Some s);
      status = statuses.FileTooLarge;
      checked = b;
    }) same entry,
  ))

  -- the file has grown
  pub grown-row : ((l : Layout) (f : File) → IsFileOf old l (entry_of e.file) f e.file
      → ¬ (IsTooLarge f s.record_number)
      × ¬ (IsFull old f s.record_number) × HasRecords old new l (entry_of e.file) (grown_to old f s.record_number))
      → InFile (at_spot old e s status b) (WritesIn (at_spot old e s status b) [] (at_spot new e' s statuses.Ok b))
  grown-row done = in-file old e s status b _ found (λ l f of. let d = done l f of in
      inr (
        (λ bad. elim bad [
          | inl x ↦ d.0 x
          | inr x ↦ d.1 x
        ]),
        inl (
          refl,
          (
            d.2,
            ap (λ (n : ℕ). record {
              image = new;
              channel = channel_in n (Some s);
              status = statuses.Ok;
              checked = b;
            }) entry,
          ),
        ),
      ))

  -- the text is written
  pub written-row : (text : List ℕ) (told : Status) → 1 ≤ length text
      → ((l : Layout) (f : File) → IsFileOf old l (entry_of e.file) f e.file
      → ¬ (IsTooLarge f s.record_number) × ¬ (IsFull old f s.record_number)
      × HasRecords old new l (entry_of e.file)
      (with_written (record_length f.slot) s.record_number s.position text (grown_to old f s.record_number))
      × (told ≡
      (if nat_lt (record_length f.slot + 1) (length text + s.position) then statuses.Overflow else statuses.Ok)))
      → InFile (at_spot old e s status b)
      (WritesIn (at_spot old e s status b) text (at_spot new e' (next_spot s) told b))
  written-row text told some done = in-file old e s status b _ found (λ l f of. let d = done l f of in
      inr (
        (λ bad. elim bad [
          | inl x ↦ d.0 x
          | inr x ↦ d.1 x
        ]),
        inr (
          (λ none. empty none),
          (
            d.2,
            ap₂ (λ (n : ℕ) (told : Status). record {
              image = new;
              channel = channel_in n (Some (next_spot s));
              status = told;
              checked = b;
            }) entry d.3,
          ),
        ),
      ))
    where
      empty : text ≡ [] → ⊥
      empty is = omega (arith, some, ap length is)

module _ {D T E : Type 0} (S : History D) (old new : D) (c : Channel) (l : Layout) (f : File) (result : Result T E)
  where
    -- the moments of a growth are those of an empty text
    pub grown-at : Changes S old new (growth_writes f c.record_number)
        (IsGrowingTo (S.image old) l c.entry f c.record_number)
        → (c.record_number ≤ records_had f → IsInOneBlock (record_length f.slot) c.record_number
        → OnErr result (FailsInOneStep S old new))
        → IsWrittenAt S old new c l f [] result
    grown-at moments one_step = record {
      moments = changes_weaker S old new (growth_writes f c.record_number) _ _ _ (omega arith) (λ i h. h) moments;
      one_step = one_step;
    }

    -- and those of a writing of any other
    pub written-at : (text : List ℕ) → 1 ≤ length text
        → Changes S old new (growth_writes f c.record_number + touched (record_length f.slot) c.record_number
        c.position)
        (IsWriting (S.image old) l c.entry f (added (record_length f.slot) (records_had f) c.record_number)
        c.record_number c.position text)
        → (c.record_number ≤ records_had f → IsInOneBlock (record_length f.slot) c.record_number
        → OnErr result (FailsInOneStep S old new))
        → IsWrittenAt S old new c l f text result
    written-at [] some moments one_step = absurd (omega (arith, some))
    written-at (t ∷ ts) some moments one_step = record { moments = moments; one_step = one_step }

-- the text fits, or reaches past the record's end
pub not-cut : (f : File) (v : RelFile) → Shows f v → (text : List ℕ) (position : ℕ)
    → length text + position ≤ length_of v + 1
    → statuses.Ok
    ≡ (if nat_lt (record_length f.slot + 1) (length text + position) then statuses.Overflow else statuses.Ok)
not-cut f v h text position le = sym
    (ap (λ (b : Bool). if b then statuses.Overflow else statuses.Ok)
    (below (length text + position) (record_length f.slot + 1) (omega (arith, h.size, le))))
  where
    below : (m n : ℕ) → m ≤ n → nat_lt n m ≡ false
    below m n le = grind arith

pub cut : (f : File) (v : RelFile) → Shows f v → (text : List ℕ) (position : ℕ)
    → length_of v + 1 < length text + position
    → statuses.Overflow
    ≡ (if nat_lt (record_length f.slot + 1) (length text + position) then statuses.Overflow else statuses.Ok)
cut f v h text position lt = sym
    (ap (λ (b : Bool). if b then statuses.Overflow else statuses.Ok)
    (below (record_length f.slot + 1) (length text + position) (omega (arith, h.size, lt))))
  where
    below : (m n : ℕ) → m < n → nat_lt m n ≡ true
    below m n lt = grind arith

-- the place behind a record that is there
pub next-spot : (e e' : NamedFile) (s : Position) → IsSpot e s → length_of e'.file ≡ length_of e.file → s.record_number ≤ 182880
    → IsSpot e' (next_spot s)
next-spot e e' s h same few = record {
  low = h.low;
  high = h.high;
  record_from = omega arith;
  up_to = omega (arith, few);
  from = omega arith;
  within = omega (arith, same, h.from, h.within);
}

-- these statuses tell no refusal
pub ok-done : statuses.Ok ≡ statuses.FileTooLarge → ⊥
ok-done h = cc

pub overflow-done : statuses.Overflow ≡ statuses.FileTooLarge → ⊥
overflow-done h = cc

-- no bytes are the empty text
pub no-bytes : (text : List ℕ) → length text ≡ 0 → [] ≡ text
no-bytes [] h = refl
no-bytes (x ∷ xs) h = absurd (omega (arith, h))

pub no-text : (text : List ℕ) (b : Bool) → b ≡ (length text == 0) → b ≡ true → [] ≡ text
no-text text b is empty = no-bytes text (grind (arith, common_steps, is, empty))

-- the place in the same file when it has grown
pub same-spot : (e e' : NamedFile) (s : Position) → IsSpot e s → length_of e'.file ≡ length_of e.file → IsSpot e' s
same-spot e e' s is same = record {
  low = is.low;
  high = is.high;
  record_from = is.record_from;
  up_to = is.up_to;
  from = is.from;
  within = omega (arith, is.within, same);
}
