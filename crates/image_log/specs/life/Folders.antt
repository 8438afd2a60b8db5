-- The folder in which an image stands, with its log beside it: what it holds, and what a power loss may leave. Our own.
use Rattle.std.specs.Prelude.{ℕ, ◌+◌, ◌-◌, ◌≡◌, ◌≤◌, ◌⊎◌, Bool, IsSome, List, None, OnErr, OnOk, Option, Result, Some, [], false, slice_index_or, slice_set, true}
use Rattle.d64_image.specs.Images.{Image}
use Rattle.image_log.specs.Files.{FileHistory}
use Rattle.image_log.specs.life.Mixes.{IsTorn}

-- To which file the name of a log in the making leads.
pub data Making : Type 0 where
  -- to none
  Missing : Making
  -- to the one that was made last
  Fresh : Making
  -- to another one, of an earlier run
  Older : Making

-- What stands in the folder.
pub record Folder : Type 0 where
  -- the sectors of IMAGE
  pub image : Image
  -- the bytes of its log, if there is one
  pub log : Option (List ℕ)
  pub making : Making

-- What a folder's type says of it: what it holds, and what a power loss may leave, now and at the moments before.
pub record FolderHistory (D : Type 0) : Type 1 where
  -- what reads return; None if that isn't known
  pub held : D → Option Folder
  -- what a power loss at this moment may leave
  pub may_leave : D → Folder → Type 0
  -- the moment, as a number that doesn't fall
  pub moment : D → ℕ
  -- what a power loss at some moment from that one on might have left, during a call or between two
  pub left_since : D → ℕ → Folder → Type 0
  -- at which moment of its file the log that is open was opened or got its name
  pub lent : D → ℕ
  -- whether one of its calls may have failed
  pub has_failed : D → Bool
  -- since now there is no other moment
  pub only_now : (d : D) (s : Folder) → left_since d (moment d) s → may_leave d s
  -- this moment is one of those since an earlier one
  pub now : (d : D) (t : ℕ) (s : Folder) → t ≤ moment d → may_leave d s → left_since d t s

module _ {D : Type 0} (h : FolderHistory D) where
  -- whatever a power loss may leave now has P
  abbrev pub AllLeft : D → (Folder → Type 0) → Type 0
  AllLeft d P = (s : Folder) → h.may_leave d s → P s

  -- What the folder holds now has P of what it held.
  abbrev pub IsNow : D → D → (Folder → Folder → Type 0) → Type 0
  IsNow old new P = (s : Folder) → h.held old ≡ Some s → (t : Folder) × (h.held new ≡ Some t) × P s t

  -- Whatever a power loss leaves now has this sector, unless it may leave anything.
  abbrev pub LeavesSector : D → ℕ → List ℕ → Type 0
  LeavesSector d index bytes = AllLeft d (λ s. slice_index_or s.image index [] ≡ bytes) ⊎ ((s : Folder) → h.may_leave d s)

  -- This sector of IMAGE has P now, and so does what a power loss leaves of it, unless it may leave anything.
  abbrev pub HasSector : D → D → ℕ → (List ℕ → Type 0) → Type 0
  HasSector old new index P = (s : Folder) → h.held old ≡ Some s → (t : Folder) × (h.held new ≡ Some t)
      × P (slice_index_or t.image index []) × LeavesSector new index (slice_index_or t.image index [])

  -- Time goes on: a power loss since t might have left what it might have left before, or what it may leave now.
  pub record Passes (old new : D) : Type 0 where
    pub later : h.moment old ≤ h.moment new
    pub nothing_else : (t : ℕ) (s : Folder) → t ≤ h.moment old → h.left_since new t s
        → h.left_since old t s ⊎ h.may_leave new s

  -- A power loss at any moment from old to new leaves a folder that has P.
  pub record LeavesFolders (old new : D) (P : Folder → Type 0) : Type 0 where
    pub later : h.moment old ≤ h.moment new
    pub each : (s : Folder) → h.left_since new (h.moment old) s → P s
    -- for a run that began earlier
    pub before : (t : ℕ) (s : Folder) → t ≤ h.moment old → h.left_since new t s → h.left_since old t s ⊎ P s

  -- An error is returned only after a failure, and at Ok none is counted.
  pub record CountsFailure {T E : Type 0} (old new : D) (result : Result T E) : Type 0 where
    pub failed : OnErr result (h.has_failed new ≡ true)
    pub passed : OnOk result (h.has_failed new ≡ h.has_failed old)

  -- At Ok a call changed what the folder holds from `from` to `to`. Each folder that a power loss may leave now comes by
  -- a step from one that it might have left before.
  pub record Acts {T E : Type 0} (old new : D) (to : Folder → Folder) (step : Folder → Folder → Type 0)
      (result : Result T E) : Type 0 where
    pub ok : OnOk result ((s : Folder) → h.held old ≡ Some s → h.held new ≡ Some (to s))
    pub outcomes : (s : Folder) → h.may_leave new s → (from : Folder) × h.may_leave old from × step from s
    pub time : Passes old new
    pub failures : CountsFailure old new result

  -- A call synced something. What a power loss leaves now it might have left before, and at Ok that has P of what the
  -- folder holds.
  pub record Brings {E : Type 0} (old new : D) (P : Folder → Folder → Type 0) (result : Result Unit E) : Type 0 where
    pub held : h.held new ≡ h.held old
    pub lent : h.lent new ≡ h.lent old
    pub ok : OnOk result ((s : Folder) → h.held old ≡ Some s → AllLeft new (P s))
    pub outcomes : (s : Folder) → h.may_leave new s → h.may_leave old s
    pub time : Passes old new
    pub failures : CountsFailure old new result

  -- An open file was closed, and nothing changed, but a failure of the file is one of the folder.
  pub record IsGivenUp (old new : D) (has_failed : Bool) : Type 0 where
    pub held : h.held new ≡ h.held old
    pub outcomes : (s : Folder) → h.may_leave new s → h.may_leave old s
    pub time : Passes old new
    pub failed : has_failed ≡ true → h.has_failed new ≡ true
    pub passed : has_failed ≡ false → h.has_failed new ≡ h.has_failed old

-- nothing changed
abbrev pub Same : Folder → Folder → Type 0
Same from s = s ≡ from

-- This sector of IMAGE may be torn. The rest is as it was.
pub record IsImageWritten (index : ℕ) (bytes : List ℕ) (from s : Folder) : Type 0 where
  pub log : s.log ≡ from.log
  pub making : s.making ≡ from.making
  pub sector : List ℕ
  pub torn : IsTorn (slice_index_or from.image index []) bytes sector
  pub image : s.image ≡ slice_set from.image index sector

-- A log is being made: its name leads to it, or to what it led to before, or to nothing.
pub record IsMaking (from s : Folder) : Type 0 where
  pub image : s.image ≡ from.image
  pub log : s.log ≡ from.log

-- the folder with a log in the making
abbrev pub being_made : Folder → Folder
being_made from = record { image = from.image; log = from.log; making = Fresh }

-- the folder with the log in the making in the place of the log
abbrev pub named : List ℕ → Folder → Folder
named bytes from = record { image = from.image; log = Some bytes; making = Missing }

-- The log in the making got the name of the log, or not yet. If it isn't the one that was made last, its bytes aren't
-- known.
pub record IsNaming (bytes : List ℕ) (from s : Folder) : Type 0 where
  pub image : s.image ≡ from.image
  pub is : (s ≡ from) ⊎ ((s.making ≡ Missing) × (from.making ≡ Fresh → s.log ≡ Some bytes))

-- the folder with no log
abbrev pub unlogged : Folder → Folder
unlogged from = record { image = from.image; log = None; making = from.making }

-- the log's name was taken away, or not yet
abbrev pub IsRemoving : Folder → Folder → Type 0
IsRemoving from s = (s ≡ from) ⊎ (s ≡ unlogged from)

-- the folder with these bytes in the log, if it has one
abbrev pub with_log : List ℕ → Folder → Folder
with_log bytes from = record { image = from.image; log = Some bytes; making = from.making }

-- IMAGE is as a read returns it
abbrev pub HasImage : Folder → Folder → Type 0
HasImage held s = s.image ≡ held.image

-- the names are those that a read finds
pub record HasNames (held s : Folder) : Type 0 where
  pub none : held.log ≡ None → s.log ≡ None
  pub some : IsSome held.log → IsSome s.log
  pub making : s.making ≡ held.making

-- the folder with this sector of IMAGE
abbrev pub with_sector : ℕ → List ℕ → Folder → Folder
with_sector index bytes from = record { image = slice_set from.image index bytes; log = from.log; making = from.making }

-- the folder with this IMAGE
abbrev pub with_image : Image → Folder → Folder
with_image image from = record { image = image; log = from.log; making = from.making }

module _ {D F : Type 0} (h : FolderHistory D) (g : FileHistory F) where
  -- The file is the folder's log: it holds what the log does, and a power loss leaves of it what it may leave of the log.
  pub record LogOf (d : D) (file : F) : Type 0 where
    pub held : (s : Folder) (f : List ℕ) → h.held d ≡ Some s → s.log ≡ Some f → g.held file ≡ Some f
    pub left : (c : List ℕ) → g.may_leave file c → (s : Folder) × h.may_leave d s × (s.log ≡ Some c)

  -- What a power loss might have left while this file is the log. Either the folder might have left it since t, and t is
  -- before the file was lent; or it has as its log what the file might have left since its moment k.
  abbrev pub LeftOpen : D → F → ℕ → ℕ → Folder → Type 0
  LeftOpen d file t k s = ((t ≤ h.moment d) × h.left_since d t s)
      ⊎ ((from : Folder) × h.may_leave d from × (c : List ℕ) × g.left_since file k c × (s ≡ with_log c from))

  -- The log's file was closed: the log holds what the file does. The moments of the file while it was open count as
  -- moments of the folder, one after the folder's own.
  pub record IsReturned {E : Type 0} (old new : D) (file : F) (result : Result Unit E) : Type 0 where
    pub held : OnOk result ((s : Folder) (f : List ℕ) → h.held old ≡ Some s → g.held file ≡ Some f
        → h.held new ≡ Some (with_log f s))
    -- now
    pub outcomes : (s : Folder) → h.may_leave new s → (from : Folder) × h.may_leave old from
        × ((s ≡ from) × (from.log ≡ None) ⊎ ((c : List ℕ) × g.may_leave file c × (s ≡ with_log c from)))
    pub later : h.moment old ≤ h.moment new
    pub counted : (s : Folder) → h.held old ≡ Some s → h.moment old + 1 + (g.moment file - h.lent old) ≤ h.moment new
    pub since : (t : ℕ) (s : Folder) → t ≤ h.moment old + 1 + (g.moment file - h.lent old) → h.left_since new t s
        → LeftOpen old file t (h.lent old + (t - (h.moment old + 1))) s ⊎ h.may_leave new s
    pub failures : CountsFailure h old new result
    -- a failure of the file is one of the folder
    pub file_failures : g.has_failed file ≡ true → h.has_failed new ≡ true

  -- The log's file was closed, and nothing else was asked of the files.
  pub record IsClosedAlone (old : D) (file : F) (new : D) : Type 0 where
    -- a power loss leaves what it might have left before, of the folder, and of the file in the place of its log
    pub left : (s : Folder) → h.may_leave new s → (from : Folder) × h.may_leave old from
        × ((s ≡ from) × (from.log ≡ None) ⊎ ((c : List ℕ) × g.may_leave file c × (s ≡ with_log c from)))
    -- and reads return that, unless the folder failed
    pub held : (s : Folder) (f : List ℕ) → h.held old ≡ Some s → g.held file ≡ Some f
        → (h.has_failed new ≡ true) ⊎ (h.held new ≡ Some (with_log f s))
