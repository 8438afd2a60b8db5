-- Which of a shop's two files the drive's channel is in. All of it is our own.
use Rattle.std.specs.Prelude.{ℕ, ◌≡◌, List, MatchOption, None, Option, Some, codes, true}
use Rattle.d64_image.specs.History.{History}
use Rattle.disk_layout.specs.Layout.{File, IsLayout, Layout}
use Rattle.disk_layout.specs.Rest.{IsFirst}
use Rattle.drive_channels.specs.State.{Seen}
use Rattle.host_session.specs.declared.shop.shop_drive.ShopFile.{ShopFile}
use Rattle.host_session.specs.declared.shop.shop_drive.ShopFile.TheVariants.{Requests, Stock}
use Rattle.host_session.specs.shop.Selecting.{channel_at}

-- the name of the file
abbrev pub name_of : ShopFile → List ℕ
name_of Stock = codes "STOCK"
name_of Requests = codes "REQUESTS"

-- how long a record of the file is, in bytes
abbrev pub length_of : ShopFile → ℕ
length_of Stock = 18
length_of Requests = 127

-- a check has passed, and channel 2 is at the first byte of a record of the first closed relative file of this name
pub record IsOn {D : Type 0} (S : History D) (d : Seen D) (file : ShopFile) : Type 0 where
  pub checked : d.checked ≡ true
  pub layout : Layout
  pub entry : ℕ
  pub first_file : File
  pub record_number : ℕ
  pub is_layout : IsLayout (S.image d.disk) layout
  pub first : IsFirst layout (name_of file) entry first_file
  pub at : d.channel ≡ Some (channel_at entry record_number)

-- the drive is on the file if one is known; if none is known, no channel is open
abbrev pub IsKnownOn : {D : Type 0} → History D → Seen D → Option ShopFile → Type 0
IsKnownOn S d known = MatchOption known (d.channel ≡ None) (IsOn S d)
