-- A sector in which some bytes are written over, and the images of such a write. Our own.
use Rattle.std.specs.Prelude.{◌≡◌, ℕ, ◌≤◌, ◌+◌, List, OnErr, OnOk, Result}
use Rattle.d64_image.specs.History.{HeldOnly, History, OldOr, TellsFailure}
use Rattle.d64_image.specs.Images.{Image, put, sector}
use Rattle.d64_image.specs.Offsets.{overwritten}
use Rattle.d64_image.specs.declared.place.Place.{Place}

-- the image with these bytes over those of the sector at p from byte `at` on
abbrev pub patched : Image → Place → ℕ → List ℕ → Image
patched img p at bytes = put img p (overwritten (sector img p) at bytes)

-- A sector was read, and written with these bytes over its own: at Ok it has them, at an error it has them or is as
-- before. Nothing else changes, and nothing else was ever held.
pub record PatchesSector {D T E : Type 0} (S : History D) (old new : D) (p : Place) (at : ℕ) (bytes : List ℕ)
    (result : Result T E) : Type 0 where
  pub ok : OnOk result (S.image new ≡ patched (S.image old) p at bytes)
  pub held : HeldOnly S old new (OldOr (S.image old) (patched (S.image old) p at bytes))
  pub writes : S.writes new ≤ S.writes old + 1
  pub uncounted : OnErr result (S.writes new ≡ S.writes old)
  pub reads : S.reads new ≤ S.reads old + 1
  pub failures : TellsFailure S old new result
