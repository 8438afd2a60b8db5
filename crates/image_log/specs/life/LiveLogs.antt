-- A log that is renewed in its folder, as its user sees it. Our own.
use Rattle.std.specs.Prelude.{ℕ, ◌+◌, ◌-◌, ◌≡◌, ◌≤◌, ◌⊎◌, ◌||◌, Bool, List, None, Option, Some, false, min, true}
use Rattle.std.proofs.Common.{◌∙◌, ap, arith, inl, inr, refl, subst, sym}
use Rattle.std.proofs.lemmas.Option.{none-some, same_Some}
use Rattle.d64_image.specs.Images.{Image}
use Rattle.image_log.specs.ImageLogs.{LogHistory}
use Rattle.image_log.specs.Logs.{StandsFor, log_file, takes_none}
use Rattle.image_log.specs.declared.log.Log.{Log}
use Rattle.image_log.specs.declared.log_file.LogFile.{Ghosts}
use Rattle.image_log.specs.life.Folders.{AllLeft, Folder, FolderHistory, IsClosedAlone, LeftOpen, with_log}
use Rattle.image_log.specs.life.Shops.{Gives, LogGives, given_by}
use Rattle.image_log.specs.declared.life.live_log.LiveLog.{LiveLog}

-- an open log on this base gives its image
pub stands_gives : {F : Type 0} {G : Ghosts F} (log : Log F G) (base shop : Image) (stands : StandsFor log base shop)
    (image : Image) → image ≡ base → LogGives stands.bytes image shop
stands_gives log base shop stands image is = record {
  size = stands.size;
  based = stands.based;
  own = inl (is ∙ sym stands.base);
  is = stands.image;
  ends = stands.ends;
}

-- if the folder gives an image, it is this one
abbrev pub GivesAtMost : Folder → Image → Type 0
GivesAtMost s image = (given : Image) → Gives s given → given ≡ image

module _ {F D : Type 0} {G : Ghosts F} (h : FolderHistory D) where
  -- how far the file has come since it was lent
  abbrev pub file_moments : D → Log F G → ℕ
  file_moments d log = G.history.moment (log_file log) - h.lent d

  -- what a power loss may leave now: of a log that was used, what its file may leave; otherwise what the folder may leave
  abbrev pub left_now : D → Option (Log F G) → Bool → Folder → Type 0
  left_now d (Some log) true s = (from : Folder) × h.may_leave d from
      × (c : List ℕ) × G.history.may_leave (log_file log) c × (s ≡ with_log c from)
  left_now d (Some log) false s = h.may_leave d s
  left_now d None used s = h.may_leave d s

  -- the moment: those of the folder, and after them those of a file that was used
  abbrev pub moment_now : D → Option (Log F G) → Bool → ℕ
  moment_now d (Some log) true = h.moment d + 1 + file_moments d log
  moment_now d (Some log) false = h.moment d
  moment_now d None used = h.moment d

  -- the moment of the file that is the t-th of all
  abbrev pub file_time : D → Log F G → ℕ → ℕ
  file_time d log t = min (G.history.moment (log_file log)) (h.lent d + (t - (h.moment d + 1)))

  -- what one at some moment from that one on might have left
  abbrev pub left_from : D → Option (Log F G) → Bool → ℕ → Folder → Type 0
  left_from d (Some log) true t s = LeftOpen h G.history d (log_file log) t (file_time d log t) s
  left_from d (Some log) false t s = h.left_since d t s
  left_from d None used t s = h.left_since d t s

  pub left_last : (d : D) (log : Option (Log F G)) (used : Bool) (s : Folder)
      → left_from d log used (moment_now d log used) s → left_now d log used s
  left_last d (Some log) true s left = elim left [
    | inl before ↦ absurd (omega (arith, before.0))
    | inr open_then ↦ (
      open_then.0,
      open_then.1,
      open_then.2,
      G.history.only_now (log_file log) open_then.2
          (subst (λ (k : ℕ). G.history.left_since (log_file log) k open_then.2) (omega arith) open_then.3),
      open_then.4,
    )
  ]
  left_last d (Some log) false s left = h.only_now d s left
  left_last d None used s left = h.only_now d s left

  -- whether it takes no more commits
  abbrev pub over_now : Option (Log F G) → Bool
  over_now (Some log) = takes_none log
  over_now None = true

  -- whether it was closed, by a failure or the mark; or couldn't be renewed
  abbrev pub is_shut : Option (Log F G) → Bool
  is_shut (Some log) = log.closed
  is_shut None = true

  -- the files of a folder were left alone, except that its log was closed
  abbrev pub IsLeftAlone : D → Option (Log F G) → D → Type 0
  IsLeftAlone d (Some log) new = IsClosedAlone h G.history d (log_file log) new
  IsLeftAlone d None new = new ≡ d

  -- whether its file may have failed; one that couldn't be renewed is none, and the folder counts its failure
  abbrev pub failed_now : Option (Log F G) → Bool
  failed_now (Some log) = G.history.has_failed (log_file log)
  failed_now None = false

  -- The log is open, and a power loss leaves this image.
  pub record Stands (d : D) (open_log : Option (Log F G)) (used : Bool) (base now : Image) : Type 0 where
    pub log : Log F G
    pub is : open_log ≡ Some log
    pub stands : StandsFor log base now
    -- IMAGE is the log's base, and the names are on the disk
    pub some : Folder
    pub held : h.held d ≡ Some some
    pub image : some.image ≡ base
    pub beside : List ℕ
    pub left : AllLeft h d (λ s. (s.image ≡ base) × (s.log ≡ Some beside) × (s.making ≡ some.making))
    -- the file was lent before; an unused one is as it was lent
    pub lent : h.lent d ≤ G.history.moment (log_file log)
    pub unused : used ≡ false → (beside ≡ stands.bytes) × (h.lent d ≡ G.history.moment (log_file log))

  -- A log was renewed, or what came of it: a power loss at any moment left what it might have left before, or a folder
  -- that gives the image.
  pub record IsRenewing (d : D) (log : Option (Log F G)) (used : Bool) (new : D) (now : Image) : Type 0 where
    pub later : moment_now d log used ≤ h.moment new
    pub each : (s : Folder) → h.left_since new (moment_now d log used) s → Gives s now
    pub before : (t : ℕ) (s : Folder) → t ≤ moment_now d log used → h.left_since new t s → left_from d log used t s ⊎ Gives s now

  -- A log was begun in a folder: a power loss at any moment left what it might have left before, or a folder that has P.
  pub record IsBeginning (d : D) (l : LiveLog F D G) (P : Folder → Type 0) : Type 0 where
    pub later : h.moment d ≤ moment_now l.folder l.log l.used
    pub each : (s : Folder) → left_from l.folder l.log l.used (h.moment d) s → P s
    pub before : (t : ℕ) (s : Folder) → t ≤ h.moment d → left_from l.folder l.log l.used t s → h.left_since d t s ⊎ P s

  -- what a power loss leaves of it gives the image
  pub gives_image : (d : D) (log : Option (Log F G)) (used : Bool) (base image : Image) → Stands d log used base image
      → (s : Folder) → left_now d log used s → Gives s image
  gives_image d None used base image stands s left = absurd (none-some stands.log stands.is)
  gives_image d (Some log) true base image stands s left =
      let same : log ≡ stands.log = same_Some log stands.log stands.is in
      let c_is : left.2 ≡ stands.stands.bytes =
      stands.stands.durable left.2 (subst (λ (l : Log F G). G.history.may_leave (log_file l) left.2) same left.3) in
      let there = stands.left left.0 left.1 in
      subst (λ (x : Folder). Gives x image) (sym (left.4 ∙ ap (λ (c : List ℕ). with_log c left.0) c_is))
      (stands_gives stands.log base image stands.stands left.0.image there.0)
  gives_image d (Some log) false base image stands s left =
      let there = stands.left s left in
      let unused = stands.unused refl in
      subst (λ (o : Option (List ℕ)). given_by o s.image image) (sym (there.1 ∙ ap Some unused.0))
      (stands_gives stands.log base image stands.stands s.image there.0)

  pub only_image : (d : D) (log : Option (Log F G)) (used : Bool) (base image : Image) → Stands d log used base image
      → (s : Folder) (c : Image) → left_now d log used s → GivesAtMost s c → c ≡ image
  only_image d log used base image stands s c left most = sym (most image (gives_image d log used base image stands s left))

  abbrev pub of_live : LogHistory (LiveLog F D G)
  of_live = record {
    stands_for = λ l image. Stands l.folder l.log l.used l.base.items image × (l.shop.items ≡ image);
    may_leave = λ l image. (s : Folder) × left_now l.folder l.log l.used s × GivesAtMost s image;
    moment = λ l. moment_now l.folder l.log l.used;
    left_since = λ l t image. (s : Folder) × left_from l.folder l.log l.used t s × GivesAtMost s image;
    is_over = λ l. over_now l.log;
    has_failed = λ l. h.has_failed l.folder || failed_now l.log;
    durable = λ l image c stands left. only_image l.folder l.log l.used l.base.items image stands.0 left.0 c left.1 left.2;
    only_now = λ l c left. (left.0, left_last l.folder l.log l.used left.0 left.1, left.2);
  }

  -- A log was landed, or what came of it.
  abbrev pub IsEnding : LiveLog F D G → D → Image → Type 0
  IsEnding l folder image = IsRenewing l.folder l.log l.used folder image
