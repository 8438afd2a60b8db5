-- The rows of P.
use Rattle.std.proofs.Common.{
  ℕ,
  ◌≡◌,
  ◌≤◌,
  ◌<◌,
  ◌⊎◌,
  inl,
  inr,
  Bool,
  true,
  false,
  ap,
  None,
  if◌then◌else◌,
  List,
  length,
  nat_lt,
  Option,
  Some,
  sym,
  ◌∙◌,
  subst,
  refl,
  arith,
}
use Rattle.std.specs.Option.{is_some}
use Rattle.std.specs.Prelude.{MatchOption}
use Rattle.d64_image.specs.Images.{Image}
use Rattle.rel_records.specs.File.{entry_of, length_of, records_in}
use Rattle.rel_records.specs.growth.Growth.{blocks_for}
use Rattle.drive_channels.proofs.Rows.{in-file}
use Rattle.drive_channels.proofs.Writes.{had-is}
use Rattle.drive_channels.specs.Inside.{IsFound, at_spot, channel_at, channel_of, shown}
use Rattle.drive_channels.specs.Spelling.{wanted_channel, wanted_position, wanted_record}
use Rattle.drive_channels.specs.State.{View}
use Rattle.drive_channels.specs.Tables.{HasOn, InFile, Moves, MovesTo}
use Rattle.drive_channels.specs.declared.open_file.NamedFile.{NamedFile}
use Rattle.drive_channels.specs.declared.open_file.OpenFile.{OpenFile}
use Rattle.drive_channels.specs.declared.open_file.Position.{Position}
use Rattle.drive_channels.specs.declared.open_files.OpenFiles.{OpenFiles}
use Rattle.drive_channels.specs.declared.status.Status.{Status}
use Rattle.drive_channels.specs.declared.status.Status.TheVariants as statuses

module _ (img : Image) (e : NamedFile) (s w : Position) (status : Status) (b : Bool) (found : IsFound img e) where
  -- the position is past the record's end
  pub past-row : length_of e.file < w.position
      → InFile (at_spot img e s status b) (MovesTo (at_spot img e s status b) w.record_number w.position
      (at_spot img e s statuses.Overflow b))
  past-row past = in-file img e s status b _ found (λ l f of. inl (omega (arith, of.shows.size, past), refl))

  -- the record would need too many blocks
  pub large-row : w.position ≤ length_of e.file → 720 < blocks_for (length_of e.file) w.record_number
      → InFile (at_spot img e s status b) (MovesTo (at_spot img e s status b) w.record_number w.position
      (at_spot img e s statuses.FileTooLarge b))
  large-row within large = in-file img e s status b _ found (λ l f of. inr (
    (λ past. absurd (omega (arith, of.shows.size, within, past))),
    inl (subst (λ (L : ℕ). 720 < blocks_for L w.record_number) of.shows.size large, refl),
  ))

  -- the place is taken
  pub placed-row : w.position ≤ length_of e.file → blocks_for (length_of e.file) w.record_number ≤ 720
      → (told : Status)
      → told ≡ (if nat_lt (records_in e.file) w.record_number then statuses.RecordNotPresent else statuses.Ok)
      → InFile (at_spot img e s status b) (MovesTo (at_spot img e s status b) w.record_number w.position
      (at_spot img e (record s { record_number = w.record_number; position = w.position }) told b))
  placed-row within few told is = in-file img e s status b _ found (λ l f of. inr (
    (λ past. absurd (omega (arith, of.shows.size, within, past))),
    inr (
      (λ large. absurd (omega (arith, subst (λ (L : ℕ). blocks_for L w.record_number ≤ 720) of.shows.size few, large))),
      ap (λ (told : Status). record {
        image = img;
        channel = Some (record {
          number = s.channel;
          entry = entry_of e.file;
          record_number = w.record_number;
          position = w.position;
        });
        status = told;
        checked = b;
      })
          (subst (λ (n : ℕ). told ≡ (if nat_lt n w.record_number then statuses.RecordNotPresent else statuses.Ok))
          (had-is f e.file of.shows) is),
    ),
  ))

-- P of the open channel
pub move-on : (img : Image) (e : NamedFile) (s w : Position) (known : OpenFiles) (text : List ℕ) (status : Status) (y : View)
    → (length text ≡ 4) ⊎ (length text ≡ 5)
    → w.channel ≡ wanted_channel text → w.record_number ≡ wanted_record text → w.position ≡ wanted_position text
    → known.last ≡ Some (record { found = e; spot = Some s }) → s.channel ≡ w.channel
    → InFile (at_spot img e s status known.checked) (MovesTo (at_spot img e s status known.checked) w.record_number
    w.position y)
    → Moves (shown img known status) text y
move-on img e s w known text status y long channel number position is on row =
    subst (λ (o : Option OpenFile). Moves (record {
      image = img;
      channel = channel_of o;
      status = status;
      checked = known.checked;
    }) text y) (sym is)
    (inr (
      (λ no. no long),
      inr (
        (λ no. no (channel_at (entry_of e.file) s, (refl, on ∙ channel))),
        subst (λ (n : ℕ). InFile x (MovesTo x n (wanted_position text) y)) number
            (subst (λ (n : ℕ). InFile x (MovesTo x w.record_number n y)) position row),
      ),
    ))
  where
    x : View
    x = at_spot img e s status known.checked

-- P of a channel that isn't open
pub move-none : (img : Image) (known : OpenFiles) (last : Option OpenFile) (text : List ℕ) (status : Status)
    → known.last ≡ last → (length text ≡ 4) ⊎ (length text ≡ 5)
    → ¬ (HasOn (channel_of known.last) (wanted_channel text))
    → Moves (shown img known status) text
    (shown img (record { last = last; before = known.before; checked = known.checked }) statuses.NoChannel)
move-none img known last text status is long closed =
    subst (λ (o : Option OpenFile). Moves (shown img known status) text
    (shown img (record { last = o; before = known.before; checked = known.checked }) statuses.NoChannel)) is
    (inr ((λ no. no long), inl (closed, refl)))

-- the record is behind the last one, or among them
pub behind : (r count : ℕ) → count < r
    → statuses.RecordNotPresent ≡ (if nat_lt count r then statuses.RecordNotPresent else statuses.Ok)
behind r count lt = sym (ap (λ (b : Bool). if b then statuses.RecordNotPresent else statuses.Ok) (is count r lt))
  where
    is : (m n : ℕ) → m < n → nat_lt m n ≡ true
    is m n lt = grind arith

pub among : (r count : ℕ) → r ≤ count
    → statuses.Ok ≡ (if nat_lt count r then statuses.RecordNotPresent else statuses.Ok)
among r count le = sym (ap (λ (b : Bool). if b then statuses.RecordNotPresent else statuses.Ok) (is count r le))
  where
    is : (m n : ℕ) → n ≤ m → nat_lt m n ≡ false
    is m n le = grind arith

-- a number of blocks isn't told where more than 720 are needed
pub too-many : (o : Option ℕ) (L r : ℕ) → r ≤ 65535
    → MatchOption o ((65535 < r) ⊎ (720 < blocks_for L r)) (λ n. (n ≡ blocks_for L r) × (n ≤ 720) × (r ≤ 65535))
    → is_some o ≡ false → 720 < blocks_for L r
too-many None L r low (inl past) none = absurd (omega (arith, low, past))
too-many None L r low (inr many) none = many
too-many (Some n) L r low told none = cc

pub not-many : (o : Option ℕ) (L r : ℕ)
    → MatchOption o ((65535 < r) ⊎ (720 < blocks_for L r)) (λ n. (n ≡ blocks_for L r) × (n ≤ 720) × (r ≤ 65535))
    → is_some o ≡ true → blocks_for L r ≤ 720
not-many None L r told some = cc
not-many (Some n) L r told some = omega (arith, told.0, told.1)
