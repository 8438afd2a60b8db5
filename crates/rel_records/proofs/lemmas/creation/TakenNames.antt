-- A name that is taken, the directory's room as it is read, and a device that fails meanwhile.
use Rattle.std.proofs.Common.{◌≡◌, ℕ, Bool, Err, IsTrue, List, Some, ap, false, inr, map, subst, sym, ◌∙◌}
use Rattle.std.proofs.lemmas.Bool.{false≢true}
use Rattle.std.specs.Prelude.{Contains, MatchOption, slice_get, slice_range}
use Rattle.d64_image.specs.History.{History, WritesNothing}
use Rattle.d64_image.specs.Images.{Image, sector}
use Rattle.d64_image.specs.declared.place.Place.{Place}
use Rattle.disk_layout.proofs.lemmas.chains.Chains.{IsChain-one}
use Rattle.disk_layout.proofs.lemmas.layouts.Layouts.{get-contains}
use Rattle.disk_layout.specs.Chain.{IsChain}
use Rattle.disk_layout.specs.Directory.{directory_start}
use Rattle.disk_layout.specs.Layout.{File, IsLayout, Layout}
use Rattle.disk_layout.specs.Rest.{slot_name}
use Rattle.disk_layout.specs.declared.slot.Slot.{Slot}
use Rattle.rel_records.proofs.lemmas.Told.{device-not-exists, device-not-full}
use Rattle.rel_records.proofs.lemmas.directory.Rooms.{contains-get}
use Rattle.rel_records.proofs.lemmas.reading.Found.{file-slot, slot-file}
use Rattle.rel_records.specs.Calls.{Chooses}
use Rattle.rel_records.specs.Faults.{TellsRelFault}
use Rattle.rel_records.specs.creation.Made.{IsTakenName}
use Rattle.rel_records.specs.creation.Room.{IsFirstRoom, IsFullDirectory}
use Rattle.rel_records.specs.creation.Site.{IsRoomOf}
use Rattle.rel_records.specs.declared.creation.directory_room.Room.{Room}
use Rattle.rel_records.specs.declared.creation.site.Site.{Site}
use Rattle.rel_records.specs.declared.faults.RelFault.{RelFault}
use Rattle.rel_records.specs.declared.faults.RelFault.TheVariants.{Device}

-- a taken name belongs to an entry that is listed
pub taken-slot : (l : Layout) (slots : List Slot) (padded name : List ℕ) → slots ≡ map (λ (f : File). f.slot) l.files
    → padded ≡ slot_name name → (s : Slot) × Contains slots s × (slice_range s.bytes 5 21 ≡ padded) → IsTakenName l name
taken-slot l slots padded name e is (s, on, named) =
    let (k, lt, there) = contains-get slots s on in
    let (f, at, same) = slot-file l slots k s e there in
    (f, get-contains l.files k f at, ap (λ (x : Slot). slice_range x.bytes 5 21) same ∙ named ∙ is)

pub slot-taken : (l : Layout) (slots : List Slot) (padded name : List ℕ) → slots ≡ map (λ (f : File). f.slot) l.files
    → padded ≡ slot_name name → IsTakenName l name → (s : Slot) × Contains slots s × (slice_range s.bytes 5 21 ≡ padded)
slot-taken l slots padded name e is (f, on, named) =
    let (k, lt, there) = contains-get l.files f on in
    (f.slot, get-contains slots k f.slot (file-slot l slots k f e there), named ∙ sym is)

-- a name that no listed entry has isn't taken
pub not-taken : (l : Layout) (slots : List Slot) (padded name : List ℕ) (found : Bool)
    → slots ≡ map (λ (f : File). f.slot) l.files → padded ≡ slot_name name
    → ((s : Slot) × Contains slots s × (slice_range s.bytes 5 21 ≡ padded) → IsTrue found) → found ≡ false
    → ¬ (IsTakenName l name)
not-taken l slots padded name found e is tells not taken = false≢true (sym not
    ∙ tells (slot-taken l slots padded name e is taken))

-- the device fails while a site is chosen
pub no-site : {D : Type 0} (S : History D) (a b : D) (name : List ℕ) (n : ℕ) (e : RelFault) → e ≡ Device
    → WritesNothing S a b → TellsRelFault {T = Site} S a b (Err e) → Chooses S a b name n (Err e)
no-site S a b name n e is quiet failures = record {
  ok = λ l h. tt;
  refuses = record {
    layout = λ l h. record { exists = device-not-exists e is; full = device-not-full e is; fits = tt };
    told = inr (inr is);
    refused = λ ne. absurd (ne is);
    failures = failures;
  };
  quiet = quiet;
  reads = tt;
}

-- the directory as it is walked
pub walked : (img : Image) (l : Layout) (ps : List Place) (u : ℕ) → IsLayout img l → IsChain img directory_start ps u
    → ps ≡ l.directory
walked img l ps u h chain =
    (IsChain-one img directory_start ps l.directory u h.directory.last chain h.directory.chain).0

pub room-of : (img now : Image) (l : Layout) (ps : List Place) (u : ℕ) (r : Room) → IsLayout img l
    → IsChain img directory_start ps u → now ≡ img → r.bytes ≡ sector now r.place
    → MatchOption r.number (IsFullDirectory now ps r.place) (IsFirstRoom now ps r.place)
    → slice_get ps r.before ≡ Some r.place → IsRoomOf img l r
room-of img now l ps u r h chain same bytes slot place =
    let dir = walked img l ps u h chain in
    let P : Image → Type 0 = λ i. MatchOption r.number (IsFullDirectory i ps r.place) (IsFirstRoom i ps r.place) in
    let Q : List Place → Type 0 = λ qs. MatchOption r.number (IsFullDirectory img qs r.place)
    (IsFirstRoom img qs r.place) in
    record {
      bytes = bytes ∙ ap (λ i. sector i r.place) same;
      slot = subst Q dir (subst P same slot);
      place = ap (λ qs. slice_get qs r.before) (sym dir) ∙ place;
    }

-- the same room and the same map after more reads
pub room-still : (img now : Image) (l : Layout) (r : Room) → now ≡ img → IsRoomOf now l r → IsRoomOf img l r
room-still img now l r same room = let P : Image → Type 0 = λ i. IsRoomOf i l r in subst P same room
