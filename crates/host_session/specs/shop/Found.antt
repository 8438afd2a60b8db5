-- What opening finds before it writes: the two files, and how far STOCK can grow. Our own.
use Rattle.std.specs.Prelude.{◌≡◌, ◌≢◌, ◌<◌, ℕ, List, Option, None, Some, length}
use Rattle.d64_image.specs.Images.{Image}
use Rattle.disk_layout.specs.Layout.{File, Layout, record_length}
use Rattle.disk_layout.specs.Rest.{IsFirst}
use Rattle.disk_layout.specs.Records.{empty_record}
use Rattle.host_session.specs.shop.Files.{Files, HasFiles, record_at}
use Rattle.host_session.specs.declared.shop.record_content.RecordContent.{RecordContent}
use Rattle.host_session.specs.declared.shop.record_content.RecordContent.TheVariants as held
use Rattle.host_session.specs.declared.shop.files.LedgerFiles.{LedgerFiles}
use Rattle.rel_records.specs.File.{IsFileOf, entry_of}
use Rattle.rel_records.specs.declared.rel_file.RelFile.{RelFile}

-- v is of the first closed relative file of the name, which has records of that length
pub record IsFileNamed (img : Image) (l : Layout) (name : List ℕ) (long : ℕ) (v : RelFile) : Type 0 where
  pub file : File
  pub first : IsFirst l name (entry_of v) file
  pub of : IsFileOf img l (entry_of v) file v
  pub is_long : record_length file.slot ≡ long

-- these are the two files of this image, and this is the top
pub record AreFilesOf (img : Image) (f : Files) (x : LedgerFiles) : Type 0 where
  pub has : HasFiles img f
  pub stock_of : IsFileOf img has.layout has.stock_place has.stock_file x.stock
  pub requests_of : IsFileOf img has.layout has.requests_place has.requests_file x.requests
  pub top_is : x.top ≡ f.top

-- the result holds what the record holds: nothing, a card, or other bytes
abbrev pub Tells : {C : Type 0} → (List ℕ → Option C) → ℕ → List ℕ → RecordContent C → Type 0
Tells card_of long bytes held.Empty = bytes ≡ empty_record long
Tells card_of long bytes (held.Card c) = card_of bytes ≡ Some c
Tells card_of long bytes held.Other = (bytes ≢ empty_record long) × (card_of bytes ≡ None)

-- record r of these is returned, and None if there is none
abbrev pub TellsRecord : {C : Type 0} → (List ℕ → Option C) → ℕ → List (List ℕ) → ℕ → Option (RecordContent C) → Type 0
TellsRecord card_of long rs r None = length rs < r
TellsRecord card_of long rs r (Some h) = (bytes : List ℕ) × (record_at rs r ≡ Some bytes) × Tells card_of long bytes h
