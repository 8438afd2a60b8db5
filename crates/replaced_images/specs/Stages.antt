-- The steps of a change of an image. Our own.
use Rattle.std.specs.Prelude.{◌≡◌, ◌==◌, ◌⊎◌, ℕ, List, [], ◌∷◌, false, length, slice_get, take}
use Rattle.one_host.specs.Worlds.{Kept, World}
use Rattle.one_host.specs.declared.parts.Entry.{Entry}
use Rattle.one_host.specs.declared.parts.Entry.TheVariants.{Leads}
use Rattle.replaced_images.specs.Replaced.{log_of, making_of, whole}

-- The image is in the file i, the log in the file l, and the log's name is this.
pub record Has (path : List ℕ) (i l : ℕ) (image_kept log_kept : Kept (List ℕ)) (name_kept : Kept Entry) (w : World) : Type 0 where
  pub led : w.names path ≡ whole (Leads i)
  pub image : (w.files i).bytes ≡ image_kept
  pub log : (w.files l).bytes ≡ log_kept
  pub name : w.names (log_of path) ≡ name_kept
  pub apart : (i == l) ≡ false
  pub other : (l == i) ≡ false

-- the same, and the log has the name of one in the making
pub record Makes (path : List ℕ) (i l : ℕ) (image log : Kept (List ℕ)) (name : Kept Entry) (w : World) : Type 0 where
  pub has : Has path i l image log name w
  pub making : (w.names (making_of path)).now ≡ Leads l

-- bytes of which each is that of the old image or that of the new one
pub record IsWithin (old new bytes : List ℕ) : Type 0 where
  pub size : length bytes ≡ length new
  pub each : (j : ℕ) → (slice_get bytes j ≡ slice_get new j) ⊎ (slice_get bytes j ≡ slice_get old j)

-- so are all of these
abbrev pub AreWithin : (old new now : List ℕ) (before : List (List ℕ)) → Type 0
AreWithin old new now [] = IsWithin old new now
AreWithin old new now (b ∷ before) = IsWithin old new now × AreWithin old new b before

-- The log has its name, and the first bytes of the image's file are those of the new image, so many.
pub record Partly (path : List ℕ) (i l : ℕ) (old new log_bytes : List ℕ) (at : ℕ) (w : World) : Type 0 where
  pub kept : Kept (List ℕ)
  pub has : Has path i l kept (whole log_bytes) (whole (Leads l)) w
  pub sure : kept.in_doubt ≡ false
  pub within : AreWithin old new kept.now kept.before
  pub begun : take at kept.now ≡ take at new
