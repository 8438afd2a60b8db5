-- Folders without the tag of IMAGE. Our own.
use Rattle.std.specs.Prelude.{◌≡◌, Bool, if◌then◌else◌, option_map, true}
use Rattle.image_log.specs.Files.{FileHistory}
use Rattle.image_log.specs.life.Folders.{Folder, FolderHistory}
use Rattle.image_log.specs.life.Tags.{untagged_image}

-- a folder, without the tag of IMAGE
abbrev pub untagged_folder : Folder → Folder
untagged_folder s = record { image = untagged_image s.image; log = s.log; making = s.making }

module _ {E D : Type 0} (inner : E → D) (failed : E → Bool) where
  -- The history of what has such a folder, without the tag of IMAGE. It fails with the folder, or by itself.
  abbrev pub untagged_in : FolderHistory D → FolderHistory E
  untagged_in h = record {
    held = λ e. option_map untagged_folder (h.held (inner e));
    may_leave = λ e s. (from : Folder) × h.may_leave (inner e) from × (s ≡ untagged_folder from);
    moment = λ e. h.moment (inner e);
    left_since = λ e t s. (from : Folder) × h.left_since (inner e) t from × (s ≡ untagged_folder from);
    lent = λ e. h.lent (inner e);
    has_failed = λ e. if failed e then true else h.has_failed (inner e);
    only_now = λ e s left. (left.0, h.only_now (inner e) left.0 left.1, left.2);
    now = λ e t s le may. (may.0, h.now (inner e) t may.0 le may.1, may.2);
  }

  -- the same of a file
  abbrev pub asked_in : FileHistory D → FileHistory E
  asked_in h = record {
    held = λ e. h.held (inner e);
    may_leave = λ e. h.may_leave (inner e);
    moment = λ e. h.moment (inner e);
    left_since = λ e. h.left_since (inner e);
    has_failed = λ e. if failed e then true else h.has_failed (inner e);
    only_now = λ e. h.only_now (inner e);
  }
