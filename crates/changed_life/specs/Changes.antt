-- What commands between two lives leave of a shop. All of it is our own.
use Rattle.std.specs.Prelude.{◌≡◌, ◌≢◌, ℕ, List, codes}
use Rattle.d64_image.specs.Images.{Image}
use Rattle.disk_changes.specs.declared.changes.ChangeKind.{ChangeKind}
use Rattle.disk_changes.specs.declared.changes.ChangeKind.TheVariants as kinds
use Rattle.disk_layout.specs.Layout.{File, Layout, record_length}
use Rattle.disk_layout.specs.Records.{records}
use Rattle.disk_layout.specs.Rest.{IsFirst, slot_name}
use Rattle.file_changes.specs.Names.{name_bytes}
use Rattle.host_session.specs.shop.Shop.{IsShop, Shop}
use Rattle.shop_life.specs.Chapters.{KeepsCards}

-- if the one image is a shop's, so is the other, with the same cards and tills
abbrev pub KeepsShops : Image → Image → Type 0
KeepsShops old new = (s : Shop) → IsShop old s → (t : Shop) × IsShop new t × KeepsCards s t

-- if the first closed relative file of this name has records of L bytes, it still has the same ones, wherever its entry stands
abbrev pub KeepsRecords : (old new : Image) → Layout → Layout → (name : List ℕ) (L : ℕ) → Type 0
KeepsRecords old new l m name L = (n : ℕ) (f : File) → IsFirst l name n f → record_length f.slot ≡ L
    → (k : ℕ) × (g : File) × IsFirst m name k g × (record_length g.slot ≡ L) × (records new g ≡ records old f)

-- the change stores no records in a file of the name of one of a shop's files
abbrev pub SparesCards : ChangeKind → Type 0
SparesCards (kinds.Store records columns name) = (slot_name (name_bytes name) ≢ slot_name (codes "STOCK"))
    × (slot_name (name_bytes name) ≢ slot_name (codes "REQUESTS"))
SparesCards _ = Unit {0}
