-- The rows of the tables, from what the record calls ensure.
use Rattle.std.proofs.Common.{
  ℕ,
  ◌≡◌,
  ◌<◌,
  ◌≤◌,
  ◌-◌,
  inl,
  inr,
  Bool,
  List,
  [],
  drop,
  Some,
  Option,
  slice_get,
  sym,
  ◌∙◌,
  ap,
  subst,
  refl,
  arith,
}
use Rattle.std.proofs.lemmas.Option.{same_Some, slice_get_within}
use Rattle.d64_image.specs.Images.{Image}
use Rattle.disk_layout.proofs.lemmas.layouts.Layouts.{IsLayout-one}
use Rattle.disk_layout.specs.Layout.{File, Layout}
use Rattle.disk_layout.specs.Records.{records}
use Rattle.rel_records.specs.File.{IsFileOf, Shows, entry_of}
use Rattle.rel_records.specs.Written.{IsAbsent, IsRecord}
use Rattle.drive_channels.specs.Files.{IsRelAt}
use Rattle.rel_records.specs.growth.Growth.{records_had}
use Rattle.rel_records.proofs.lemmas.growth.Grows.{count-is}
use Rattle.drive_channels.specs.Given.{IsGiven}
use Rattle.drive_channels.specs.Inside.{IsFound, at_spot, channel_of, next_spot, shown}
use Rattle.drive_channels.specs.State.{Channel, View}
use Rattle.drive_channels.specs.Tables.{InFile, Reads, ReadsIn}
use Rattle.drive_channels.specs.declared.open_file.NamedFile.{NamedFile}
use Rattle.drive_channels.specs.declared.open_file.OpenFile.{OpenFile}
use Rattle.drive_channels.specs.declared.open_file.Position.{Position}
use Rattle.drive_channels.specs.declared.open_files.OpenFiles.{OpenFiles}
use Rattle.drive_channels.specs.declared.status.Status.{Status}
use Rattle.drive_channels.specs.declared.status.Status.TheVariants as statuses

-- the remembered file is the one of this entry
pub at-file : (img : Image) (e : NamedFile) (l : Layout) (f : File) → IsFound img e → IsRelAt img l (entry_of e.file) f
    → IsFileOf img l (entry_of e.file) f e.file
at-file img e l f found rel =
    let same : found.file ≡ f = same_Some _ _ (sym found.of.there
    ∙ ap (λ (x : Layout). slice_get x.files (entry_of e.file)) (IsLayout-one img found.layout l found.of.layout
    rel.layout) ∙ rel.there) in
    record {
      layout = rel.layout;
      there = rel.there;
      rel = rel.rel;
      shows = subst (λ (x : File). Shows x e.file) same found.of.shows;
    }

-- a row for the file of the open channel
pub in-file : (img : Image) (e : NamedFile) (s : Position) (status : Status) (checked : Bool) (P : Channel → Layout → File
    → Type 0) → IsFound img e
    → ((l : Layout) (f : File) → IsFileOf img l (entry_of e.file) f e.file
    → P (record { number = s.channel; entry = entry_of e.file; record_number = s.record_number; position = s.position })
    l f)
    → InFile (at_spot img e s status checked) P
in-file img e s status checked P found row = λ c l f is rel.
    subst (λ (c : Channel). IsRelAt img l c.entry f → P c l f) (same_Some _ _ is)
    (λ rel. row l f (at-file img e l f found rel)) rel

-- a record that was read
pub read-row : (img : Image) (e : NamedFile) (s : Position) (status : Status) (checked : Bool) (text given : List ℕ)
    → IsFound img e
    → ((l : Layout) (f : File) → IsFileOf img l (entry_of e.file) f e.file
    → IsRecord (records img f) s.record_number text)
    → IsGiven (drop (s.position - 1) text) given
    → InFile (at_spot img e s status checked) (ReadsIn (at_spot img e s status checked) given
    (at_spot img e (next_spot s) statuses.Ok checked))
read-row img e s status checked text given found told is = in-file img e s status checked _ found (λ l f of.
    let t = told l f of in
    inr ((λ past. absurd (past-end l f of t past)), (text, t, is, refl)))
  where
    past-end : (l : Layout) (f : File) → IsFileOf img l (entry_of e.file) f e.file
        → IsRecord (records img f) s.record_number text → records_had f < s.record_number → ⊥
    past-end l f of t past = omega (
      arith,
      slice_get_within (records img f) (s.record_number - 1) text t.there,
      count-is img f,
      past,
      t.low,
    )

-- no record was read
pub absent-row : (img : Image) (e : NamedFile) (s : Position) (status : Status) (checked : Bool) → IsFound img e
    → 1 ≤ s.record_number
    → ((l : Layout) (f : File) → IsFileOf img l (entry_of e.file) f e.file → IsAbsent (records img f) s.record_number)
    → InFile (at_spot img e s status checked) (ReadsIn (at_spot img e s status checked) []
    (at_spot img e s statuses.RecordNotPresent checked))
absent-row img e s status checked found low told =
    in-file img e s status checked _ found (λ l f of. inl (past l f of, (refl, refl)))
  where
    past : (l : Layout) (f : File) → IsFileOf img l (entry_of e.file) f e.file → records_had f < s.record_number
    past l f of = elim (told l f of) [
      | inl z ↦ absurd (omega (arith, z, low))
      | inr h ↦ rw (← count-is img f) h
    ]

-- a read of the open channel
pub read-on : (img : Image) (e : NamedFile) (s : Position) (channel : ℕ) (known : OpenFiles) (given : List ℕ) (status : Status)
    (y : View)
    → known.last ≡ Some (record { found = e; spot = Some s }) → s.channel ≡ channel
    → InFile (at_spot img e s status known.checked) (ReadsIn (at_spot img e s status known.checked) given y)
    → Reads (shown img known status) channel given y
read-on img e s channel known given status y is on row =
    subst (λ (o : Option OpenFile). Reads (record {
      image = img;
      channel = channel_of o;
      status = status;
      checked = known.checked;
    }) channel given y) (sym is)
    (inr (
      (λ no. no (
        record {
          number = s.channel;
          entry = entry_of e.file;
          record_number = s.record_number;
          position = s.position;
        },
        (refl, on),
      )),
      row,
    ))
