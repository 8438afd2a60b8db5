-- What a repair leaves. Our own.
use Rattle.d64_image.specs.History.{Changes, History, NeverFailed, OnlyReads, WritesNothing}
use Rattle.d64_image.specs.Images.{Image}
use Rattle.disk_layout.specs.Clean.{IsClean, IsCleanLayout}
use Rattle.disk_layout.specs.Fault.{Holds, TellsFault}
use Rattle.disk_layout.specs.InOrder.{AreMade, GoesOver}
use Rattle.disk_layout.specs.Layout.{IsLayout, IsSound, Layout, owners}
use Rattle.disk_layout.specs.Same.{SameFiles}
use Rattle.disk_layout.specs.Whole.{HoldsWhole}
use Rattle.disk_layout.specs.declared.faults.Fault.{Fault}
use Rattle.layout_check.specs.Mended.{IsMended}
use Rattle.layout_check.specs.RepairOrder.{ClearsSpare, IsRight, repair_order}
use Rattle.layout_check.specs.Survey.{IsSurveyOf}
use Rattle.layout_check.specs.declared.survey_outcome.Survey.{Survey}
use Rattle.std.specs.Prelude.{◌↔◌, ℕ, ◌≤◌, ◌+◌, ◌*◌, IfErr, IfOk, IsOk, OnOk, Result, length}

-- the new image is clean and has the files of the old one, and the survey is of its layout
pub record IsRepaired (old new : Image) (s : Survey) : Type 0 where
  pub before : Layout
  pub after : Layout
  pub sound : IsLayout old before
  pub clean : IsCleanLayout new after
  pub same : SameFiles old new before after
  pub told : IsSurveyOf after s

-- a call that makes at most n writes: each image held has the files of the old one, if that is sound
abbrev pub MendsFrom : {D : Type 0} → History D → D → D → ℕ → Type 0
MendsFrom S old new n = (l : Layout) → IsLayout (S.image old) l → Changes S old new n (IsMended (S.image old) l)

-- The result of a repair: a sound disk is made clean, and any other is left as it is.
pub record Repairs {D : Type 0} (S : History D) (old new : D) (result : Result Survey Fault) : Type 0 where
  pub ok : IfOk result (IsRepaired (S.image old) (S.image new))
  pub err : IfErr result (Holds (S.failed_at new) (S.image old))
  -- if the device doesn't fail, the result is Ok exactly on a sound image
  pub sound : NeverFailed S old new → (IsOk result ↔ IsSound (S.image old))
  pub moments : MendsFrom S old new 883
  -- whole files are whole in each image held
  pub whole : HoldsWhole S old new
  -- no sector that is right is written, the others once, the map first, then the side sectors, then the directory
  pub order : (l : Layout) → IsLayout (S.image old) l → GoesOver S old new (IsRight l) (repair_order l)
  -- at Ok all of these are right, and every other sector is as it was
  pub made : (l : Layout) → IsLayout (S.image old) l
      → OnOk result (AreMade (IsRight l) (repair_order l) (S.image old) (S.image new))
  pub spare : ClearsSpare (S.image old) (S.image new)
  -- a disk that isn't sound is not written
  pub unsound : (IsSound (S.image old) → ⊥) → OnlyReads S old new 2114
  -- nor is one that is clean
  pub quiet : IsClean (S.image old) → WritesNothing S old new
  pub failures : TellsFault S old new result
  -- on any disk, whatever the result
  pub reads : S.reads new ≤ S.reads old + 4179
  -- and at Ok five a sector of the directory or a file
  pub few_reads : OnOk result ((l : Layout) → IsLayout (S.image old) l
      → S.reads new ≤ S.reads old + (37 + 5 * length (owners l)))
