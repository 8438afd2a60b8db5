-- A write to the channel of a number, and what is known of the files behind it.
use Rattle.std.proofs.Common.{
  ℕ,
  ◌≡◌,
  ◌≢◌,
  inl,
  inr,
  List,
  [],
  ◌∷◌,
  append-nil,
  arith,
  Bool,
  false,
  true,
  Option,
  None,
  Some,
  IfSome,
  Result,
  OnOk,
  Ok,
  Err,
  sym,
  ◌∙◌,
  subst,
  refl,
}
use Rattle.std.proofs.lemmas.Option.{same_Some, none-some}
use Rattle.d64_image.proofs.Moments.{changes_weaker, no_change}
use Rattle.d64_image.specs.History.{Changes, History}
use Rattle.d64_image.specs.Images.{Image}
use Rattle.disk_layout.specs.Clean.{IsClean}
use Rattle.disk_layout.specs.Layout.{File, Layout}
use Rattle.disk_layout.specs.Records.{records}
use Rattle.rel_records.specs.File.{entry_of}
use Rattle.rel_records.specs.Others.{HasRecords, KeepsPlaces}
use Rattle.rel_records.specs.Written.{IsGrowingTo}
use Rattle.drive_channels.specs.Files.{IsRelAt}
use Rattle.drive_channels.specs.Inside.{
  IsFound,
  IsKnown,
  IsSpot,
  KeepsFound,
  Remembers,
  at_spot,
  channel_at,
  channel_of,
  shown,
}
use Rattle.drive_channels.specs.Moments.{IsOnTheWay, IsWrittenAt, IsWrittenOn}
use Rattle.drive_channels.specs.State.{Channel, View}
use Rattle.drive_channels.specs.Tables.{HasOn, InFile, Reads, Writes, WritesIn}
use Rattle.drive_channels.specs.declared.open_file.NamedFile.{NamedFile}
use Rattle.drive_channels.specs.declared.open_file.OpenFile.{OpenFile}
use Rattle.drive_channels.specs.declared.open_file.Position.{Position}
use Rattle.drive_channels.specs.declared.open_files.OpenFiles.{OpenFiles}
use Rattle.drive_channels.specs.declared.status.Status.{Status}
use Rattle.drive_channels.specs.declared.status.Status.TheVariants.{FileNotOpen}

-- a write to the open channel
pub write-on : (img : Image) (e : NamedFile) (s : Position) (channel : ℕ) (known : OpenFiles) (text : List ℕ) (status : Status)
    (y : View)
    → known.last ≡ Some (record { found = e; spot = Some s }) → s.channel ≡ channel
    → InFile (at_spot img e s status known.checked) (WritesIn (at_spot img e s status known.checked) text y)
    → Writes (shown img known status) channel text y
write-on img e s channel known text status y is on row =
    subst (λ (o : Option OpenFile). Writes (record {
      image = img;
      channel = channel_of o;
      status = status;
      checked = known.checked;
    }) channel text y) (sym is)
    (inr ((λ no. no (channel_at (entry_of e.file) s, (refl, on))), row))

module _ {D T E : Type 0} (S : History D) (number : ℕ) (text : List ℕ) (result : Result T E) where
  -- its moments
  pub written-on : (old new : D) (e : NamedFile) (s : Position) (last : Option OpenFile)
      → last ≡ Some (record { found = e; spot = Some s }) → s.channel ≡ number
      → ((l : Layout) (f : File) → IsRelAt (S.image old) l (entry_of e.file) f
      → IsWrittenAt S old new (channel_at (entry_of e.file) s) l f text result)
      → IsWrittenOn S old new (channel_of last) number text result
  written-on old new e s last is on at =
      subst (λ (o : Option OpenFile). IsWrittenOn S old new (channel_of o) number text result) (sym is) (record {
        silent = λ no. absurd (no (channel_at (entry_of e.file) s, (refl, on)));
        at = λ c l f h rel. subst (λ (c : Channel). IsRelAt (S.image old) l c.entry f
            → IsWrittenAt S old new c l f text result) (same_Some _ _ h.0) (at l f) rel;
      })

  -- and where the channel isn't open
  pub not-written : (d : D) (open_one : Option Channel) → ¬ (HasOn open_one number)
      → IsWrittenOn S d d open_one number text result
  not-written d open_one closed = record { silent = λ _. refl; at = λ c l f on rel. absurd (closed (c, on)) }

-- what follows of two facts of an answer that is done
pub on-both : {T E A B C : Type 0} (r : Result T E) → (A → B → C) → OnOk r A → OnOk r B → OnOk r C
on-both (Ok x) f a b = f a b
on-both (Err e) f a b = tt

-- another channel is open, or none
pub other-open : (e : NamedFile) (s : Position) (last : Option OpenFile) (number : ℕ)
    → last ≡ Some (record { found = e; spot = Some s }) → s.channel ≢ number → ¬ (HasOn (channel_of last) number)
other-open e s last number is other = subst (λ (o : Option OpenFile). ¬ (HasOn (channel_of o) number)) (sym is)
    (λ h. other (away h.0 h.1))
  where
    away : (c : Channel) → (Some (channel_at (entry_of e.file) s) ≡ Some c) × (c.number ≡ number) → s.channel ≡ number
    away c (same, on) = subst (λ (c : Channel). c.number ≡ number) (sym (same_Some _ _ same)) on

pub none-open : (e : NamedFile) (last : Option OpenFile) (number : ℕ) → last ≡ Some (record { found = e; spot = None })
    → ¬ (HasOn (channel_of last) number)
none-open e last number is = subst (λ (o : Option OpenFile). ¬ (HasOn (channel_of o) number)) (sym is)
    (λ h. none-some h.0 h.1.0)

pub no-file : (last : Option OpenFile) (number : ℕ) → last ≡ None → ¬ (HasOn (channel_of last) number)
no-file last number is = subst (λ (o : Option OpenFile). ¬ (HasOn (channel_of o) number)) (sym is)
    (λ h. none-some h.0 h.1.0)

-- a file opened last, by its parts
pub parts-of : (k : OpenFiles) (o : OpenFile) (spot : Option Position) → k.last ≡ Some o → o.spot ≡ spot
    → k.last ≡ Some (record { found = o.found; spot = spot })
parts-of k o spot is at = subst (λ (x : Option Position). k.last ≡ Some (record { found = o.found; spot = x })) at is

-- what is known of its disk, of the file and of its place
pub on-spot : (img : Image) (k : OpenFiles) (e : NamedFile) (s : Position) → IsKnown img k
    → k.last ≡ Some (record { found = e; spot = Some s }) → IsClean img × IsFound img e × IsSpot e s
on-spot img k e s known is = by k.checked refl
  where
    by : (b : Bool) → k.checked ≡ b → IsClean img × IsFound img e × IsSpot e s
    by false unchecked = absurd (none-some (record { found = e; spot = Some s }) (sym (known.fresh unchecked).0 ∙ is))
    by true checked =
        let m = known.remembered checked in (
          m.clean,
          subst (λ (last : Option OpenFile). IfSome last (λ o. IsFound img o.found)) is m.last_found,
          subst (λ (last : Option OpenFile). IfSome last (λ o. IfSome o.spot (IsSpot o.found))) is m.spot,
        )

-- a call that only looks at the file opened last leaves what is known
pub still-known : (img : Image) (k : OpenFiles) (last : Option OpenFile) → k.last ≡ last → IsKnown img k
    → IsKnown img (record { last = last; before = k.before; checked = k.checked })
still-known img k last is known =
    subst (λ (o : Option OpenFile). IsKnown img (record { last = o; before = k.before; checked = k.checked })) is known

-- a write to a channel that isn't open
pub closed-row : (img : Image) (k : OpenFiles) (last : Option OpenFile) (number : ℕ) (text : List ℕ) (s : Status)
    → k.last ≡ last → ¬ (HasOn (channel_of k.last) number)
    → Writes (shown img k s) number text (shown img (record { last = last; before = k.before; checked = k.checked })
    FileNotOpen)
closed-row img k last number text s is closed =
    subst (λ (o : Option OpenFile). Writes (shown img k s) number text
    (shown img (record { last = o; before = k.before; checked = k.checked }) FileNotOpen)) is (inl (closed, refl))

-- a read of one
pub closed-read : (img : Image) (k : OpenFiles) (last : Option OpenFile) (number : ℕ) (given : List ℕ) (s : Status)
    → k.last ≡ last → ¬ (HasOn (channel_of k.last) number) → given ≡ []
    → Reads (shown img k s) number given (shown img (record { last = last; before = k.before; checked = k.checked })
    FileNotOpen)
closed-read img k last number given s is closed none =
    subst (λ (o : Option OpenFile). Reads (shown img k s) number given
    (shown img (record { last = o; before = k.before; checked = k.checked }) FileNotOpen)) is
    (inl (closed, (refl, none)))

-- what is known after a write to the file that was opened last
pub known-written : (old new : Image) (k : OpenFiles) (o : OpenFile) (e : NamedFile) (s : Position) → k.last ≡ Some o → IsKnown old k
    → KeepsFound old new o.found e → IsSpot e s
    → IsKnown new (record { last = Some (record { found = e; spot = Some s }); before = k.before; checked = k.checked })
known-written old new k o e s is known keeps spot = record {
  fresh = λ no. absurd (none-some o (sym (known.fresh no).0 ∙ is));
  remembered = λ checked. let m = known.remembered checked in record {
    clean = keeps.clean;
    last_found = keeps.found;
    spot = spot;
    before_found = others k.before m.before_found (beside m);
    apart = still k.before (beside m);
  };
}
  where
    Apart : Option NamedFile → Type 0
    Apart before = IfSome before (λ e. entry_of e.file ≢ entry_of o.found.file)

    beside : Remembers old k.last k.before → Apart k.before
    beside m = subst (λ (last : Option OpenFile). IfSome last
        (λ o. IfSome k.before (λ e. entry_of e.file ≢ entry_of o.found.file))) is m.apart

    others : (before : Option NamedFile) → IfSome before (IsFound old) → Apart before → IfSome before (IsFound new)
    others None h apart = tt
    others (Some b) h apart = keeps.others b apart h

    still : (before : Option NamedFile) → Apart before → IfSome before (λ b. entry_of b.file ≢ entry_of e.file)
    still None apart = tt
    still (Some b) apart = λ same. apart (same ∙ keeps.entry)

-- the image that a write begins with is on its way
pub begins : (img : Image) (text : List ℕ) (c : Channel) (l : Layout) (f : File) → IsRelAt img l c.entry f
    → IsOnTheWay img text c l f img
begins img text c l f rel = by text
  where
    has : HasRecords img img l c.entry (records img f)
    has = record {
      layout = l;
      is_layout = rel.layout;
      others = record {
        directory = refl;
        entries = refl;
        files = λ k g ne h. h;
        bytes = λ k g ne h. refl;
        header = refl;
      };
      file = f;
      there = rel.there;
      records = refl;
      places = λ g h. subst (λ (x : File). KeepsPlaces img x f (records img f)) (same_Some _ _ (sym rel.there ∙ h))
          (omega arith, inl refl);
    }

    grows : IsGrowingTo img l c.entry f c.record_number img
    grows = (0, omega arith, subst (HasRecords img img l c.entry) (sym (append-nil (records img f))) has, λ never w. w)

    by : (text : List ℕ) → IsOnTheWay img text c l f img
    by [] = grows
    by (t ∷ ts) = inl grows

-- a drive that does nothing holds nothing else
pub idle : {D : Type 0} (S : History D) (d : D) (n : ℕ) (P : Image → Type 0) → P (S.image d) → Changes S d d n P
idle S d n P p = changes_weaker S d d 0 n P P (omega arith) (λ i h. h) (no_change S d P p)
