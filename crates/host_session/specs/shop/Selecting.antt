-- A drive between the calls of a session. All of it is our own.
use Rattle.std.specs.Prelude.{ℕ, ◌≡◌, ◌/◌, ◌%◌, List, [], ◌∷◌, true, false, Some}
use Rattle.d64_image.specs.History.{History}
use Rattle.disk_layout.specs.Clean.{IsClean}
use Rattle.drive_channels.specs.State.{Channel, Seen}

-- it isn't dead, its disk is clean, and no channel but 2 is open
pub record IsReady {D : Type 0} (S : History D) (d : Seen D) : Type 0 where
  pub alive : d.dead ≡ false
  pub clean : IsClean (S.image d.disk)
  pub free : (c : Channel) → d.channel ≡ Some c → c.number ≡ 2

-- channel 2 in the file of this entry, at the first byte of record r
abbrev pub channel_at : ℕ → ℕ → Channel
channel_at n r = record { number = 2; entry = n; record_number = r; position = 1 }

-- it isn't dead, a check has passed, and channel 2 is at record r of this file
pub record IsAt {D : Type 0} (d : Seen D) (n r : ℕ) : Type 0 where
  pub alive : d.dead ≡ false
  pub checked : d.checked ≡ true
  pub on : d.channel ≡ Some (channel_at n r)

-- the drive isn't dead, a check has passed, and channel 2 is at the first byte of a record of this file
pub record IsInFile {D : Type 0} (d : Seen D) (n : ℕ) : Type 0 where
  pub alive : d.dead ≡ false
  pub checked : d.checked ≡ true
  pub record_number : ℕ
  pub on : d.channel ≡ Some (channel_at n record_number)

-- the command that places channel 2 at the start of record r
abbrev pub place_text : ℕ → List ℕ
place_text r = 80 ∷ 2 ∷ r % 256 ∷ r / 256 ∷ 1 ∷ []
