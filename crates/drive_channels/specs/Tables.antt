-- What each call does: the rows of its table, of which the first matching one applies.
-- Numbers and rules of relative files are those of the 1541 User's Guide; which case has which number is our own.
use Rattle.std.specs.Prelude.{
  ℕ,
  ◌≡◌,
  ◌<◌,
  ◌+◌,
  ◌-◌,
  ◌⊎◌,
  List,
  [],
  None,
  Option,
  Some,
  IsNone,
  IsSome,
  drop,
  false,
  true,
  if◌then◌else◌,
  nat_eq,
  nat_lt,
  length,
}
use Rattle.d64_image.specs.Images.{Image}
use Rattle.disk_layout.specs.Clean.{IsClean}
use Rattle.disk_layout.specs.Layout.{File, IsSound, Layout, record_length}
use Rattle.disk_layout.specs.Records.{records}
use Rattle.layout_check.specs.Repaired.{IsRepaired}
use Rattle.layout_check.specs.declared.survey_outcome.Survey.{Survey}
use Rattle.rel_records.specs.Others.{HasRecords}
use Rattle.rel_records.specs.Written.{IsRecord, grown_to, with_written}
use Rattle.rel_records.specs.growth.Growth.{IsFull, IsTooLarge, blocks_for, records_had}
use Rattle.drive_channels.specs.Files.{HasEntry, HasFile, HasOther, IsNamedFile, IsNoRoom, IsRelAt, Makes}
use Rattle.drive_channels.specs.Given.{IsGiven}
use Rattle.drive_channels.specs.Spelling.{
  BeginsWithP,
  IsInitialize,
  IsValidate,
  IsWish,
  Wish,
  wanted_channel,
  wanted_position,
  wanted_record,
}
use Rattle.drive_channels.specs.State.{Channel, View}
use Rattle.drive_channels.specs.declared.status.Status.{Status}
use Rattle.drive_channels.specs.declared.status.Status.TheVariants.{
  DirError,
  DiskFull,
  FileNotFound,
  FileNotOpen,
  FileTooLarge,
  NoChannel,
  Ok,
  Overflow,
  RecordNotPresent,
  SyntaxError,
  TypeMismatch,
  UnknownCommand,
}

-- if the condition holds, this; otherwise what the further rows say
infix 1 when◌then◌otherwise◌
abbrev pub when◌then◌otherwise◌ : Type 0 → Type 0 → Type 0 → Type 0
when c then does otherwise rest = (c × does) ⊎ (¬ c × rest)

-- the status is this one; nothing else changes
abbrev pub Tells : View → Status → View → Type 0
Tells x status y = y ≡ record x { status = status }

-- the channel is open at record 1, position 1 of this entry
abbrev pub OpensAt : View → ℕ → ℕ → View → Type 0
OpensAt x number entry y = y ≡ record x {
  image = y.image;
  channel = Some (record { number = number; entry = entry; record_number = 1; position = 1 });
  status = Ok;
}

-- with a length, if there is no file of the name
abbrev pub Creates : View → ℕ → List ℕ → Option ℕ → View → Type 0
Creates x number name None y = ⊥
Creates x number name (Some L) y =
    when IsNoRoom x.image then Tells x DiskFull y otherwise
    ((entry : ℕ) × Makes x.image y.image name L entry × OpensAt x number entry y)

-- open, once the channel, the text and the disk are seen to be good
abbrev pub OpensFile : View → ℕ → Wish → View → Type 0
OpensFile x number w y =
    when IsNone w.length × ¬ (HasFile x.image w.name) then Tells x FileNotFound y otherwise
    when HasOther x.image w.name w.length then Tells x RecordNotPresent y otherwise
    when ¬ (HasFile x.image w.name) × HasEntry x.image w.name then Tells x TypeMismatch y otherwise
    when ¬ (HasFile x.image w.name) then Creates x number w.name w.length y otherwise
    ((entry : ℕ) × (f : File) × IsNamedFile x.image w.name entry f × (y.image ≡ x.image) × OpensAt x number entry y)

-- open
abbrev pub Opens : View → ℕ → List ℕ → View → Type 0
Opens x number text y =
    when (number < 2) ⊎ ((14 < number) ⊎ IsSome x.channel) then Tells x NoChannel y otherwise
    when ¬ ((w : Wish) × IsWish text w) then Tells x SyntaxError y otherwise
    when (x.checked ≡ false) × ¬ (IsClean x.image) then Tells x DirError y otherwise
    ((w : Wish) → IsWish text w → OpensFile (record x { checked = true }) number w y)

-- the open channel, but None if it has this number
abbrev pub channel_without : ℕ → Option Channel → Option Channel
channel_without number None = None
channel_without number (Some c) = if nat_eq c.number number then None else Some c

-- close
abbrev pub Closes : View → ℕ → View → Type 0
Closes x number y = y ≡ record x { channel = channel_without number x.channel; status = Ok }

-- c is the open channel, and has this number
abbrev pub IsOn : Option Channel → ℕ → Channel → Type 0
IsOn open_one number c = (open_one ≡ Some c) × (c.number ≡ number)

-- the channel of this number is open
abbrev pub HasOn : Option Channel → ℕ → Type 0
HasOn open_one number = (c : Channel) × IsOn open_one number c

-- this holds of the file of the open channel
abbrev pub InFile : View → (Channel → Layout → File → Type 0) → Type 0
InFile x P = (c : Channel) (l : Layout) (f : File) → x.channel ≡ Some c → IsRelAt x.image l c.entry f → P c l f

-- P, with the record and the position that are wanted
abbrev pub MovesTo : View → ℕ → ℕ → View → Channel → Layout → File → Type 0
MovesTo x r position y c l f =
    when record_length f.slot < position then Tells x Overflow y otherwise
    when 720 < blocks_for (record_length f.slot) r then Tells x FileTooLarge y otherwise
    (y ≡ record x {
      channel = Some (record c { record_number = r; position = position });
      status = if nat_lt (records_had f) r then RecordNotPresent else Ok;
    })

-- the command P, which names a channel, a record and a position
abbrev pub Moves : View → List ℕ → View → Type 0
Moves x text y =
    when ¬ ((length text ≡ 4) ⊎ (length text ≡ 5)) then Tells x SyntaxError y otherwise
    when ¬ (HasOn x.channel (wanted_channel text)) then Tells x NoChannel y otherwise
    InFile x (MovesTo x (wanted_record text) (wanted_position text) y)

-- a repair, and its status: 00 if the disk was sound, and it is clean now; otherwise 71, and nothing is changed
abbrev pub ValidatesTo : Image → Image → Status → Type 0
ValidatesTo old new status =
    when IsSound old then ((s : Survey) × IsRepaired old new s × (status ≡ Ok)) otherwise
    ((new ≡ old) × (status ≡ DirError))

-- V
abbrev pub Validates : View → View → Type 0
Validates x y = ValidatesTo x.image y.image y.status × (y ≡ record x { image = y.image; status = y.status })

-- command
abbrev pub Commands : View → List ℕ → View → Type 0
Commands x text y =
    when text ≡ [] then Tells x SyntaxError y otherwise
    when IsValidate text then Validates x y otherwise
    when IsInitialize text then Tells x Ok y otherwise
    when BeginsWithP text then Moves x text y otherwise
    Tells x UnknownCommand y

-- the place after this one: the next record's first byte
abbrev pub next_place : Channel → Option Channel
next_place c = Some (record c { record_number = c.record_number + 1; position = 1 })

-- write, in the file of the open channel
abbrev pub WritesIn : View → List ℕ → View → Channel → Layout → File → Type 0
WritesIn x text y c l f =
    when IsTooLarge f c.record_number ⊎ IsFull x.image f c.record_number then Tells x FileTooLarge y otherwise
    when text ≡ [] then (HasRecords x.image y.image l c.entry (grown_to x.image f c.record_number)
    × (y ≡ record x { image = y.image; status = Ok })) otherwise
    (HasRecords x.image y.image l c.entry (with_written (record_length f.slot) c.record_number c.position text
    (grown_to x.image f c.record_number))
    × (y ≡ record x {
      image = y.image;
      channel = next_place c;
      status = if nat_lt (record_length f.slot + 1) (length text + c.position) then Overflow else Ok;
    }))

-- write
abbrev pub Writes : View → ℕ → List ℕ → View → Type 0
Writes x number text y =
    when ¬ (HasOn x.channel number) then Tells x FileNotOpen y otherwise
    InFile x (WritesIn x text y)

-- read, in the file of the open channel
abbrev pub ReadsIn : View → List ℕ → View → Channel → Layout → File → Type 0
ReadsIn x given y c l f =
    when records_had f < c.record_number then (Tells x RecordNotPresent y × (given ≡ [])) otherwise
    ((bytes : List ℕ) × IsRecord (records x.image f) c.record_number bytes × IsGiven (drop (c.position - 1) bytes) given
    × (y ≡ record x { channel = next_place c; status = Ok }))

-- read
abbrev pub Reads : View → ℕ → List ℕ → View → Type 0
Reads x number given y =
    when ¬ (HasOn x.channel number) then (Tells x FileNotOpen y × (given ≡ [])) otherwise
    InFile x (ReadsIn x given y)
