-- A log of a disk's images, as its user sees it: what a power loss leaves of it is an image. Our own.
use Rattle.std.specs.Prelude.{ℕ, ◌≡◌, ◌≤◌, ◌⊎◌, Bool, List, OnErr, OnOk, Result, true}
use Rattle.std.proofs.Common.{◌∙◌, ap}
use Rattle.d64_image.specs.Images.{Image}
use Rattle.image_log.specs.Logs.{StandsFor, takes_none}
use Rattle.image_log.specs.Marks.{Covers, NoneTouched}
use Rattle.image_log.specs.Recovered.{recovered}
use Rattle.image_log.specs.declared.log.Log.{Log}
use Rattle.image_log.specs.declared.log_file.LogFile.{Ghosts}

-- What a log's type says of it. A power loss leaves the image that the next opening finds.
pub record LogHistory (L : Type 0) : Type 1 where
  -- it is open, and a power loss now leaves this image
  pub stands_for : L → Image → Type 0
  -- what a power loss at this moment may leave
  pub may_leave : L → Image → Type 0
  -- the moment, as a number that doesn't fall
  pub moment : L → ℕ
  -- what a power loss at some moment from that one on might have left, during a call or between two
  pub left_since : L → ℕ → Image → Type 0
  -- whether it takes no more commits
  pub is_over : L → Bool
  -- whether a call on its files may have failed
  pub has_failed : L → Bool
  pub durable : (l : L) (image c : Image) → stands_for l image → may_leave l c → c ≡ image
  -- since now there is no other moment
  pub only_now : (l : L) (c : Image) → left_since l (moment l) c → may_leave l c

-- A power loss at any moment from old to new leaves an image that has P.
pub record LeavesImages {L : Type 0} (h : LogHistory L) (old new : L) (P : Image → Type 0) : Type 0 where
  pub later : h.moment old ≤ h.moment new
  pub each : (c : Image) → h.left_since new (h.moment old) c → P c
  -- for a run that began earlier
  pub before : (t : ℕ) (c : Image) → t ≤ h.moment old → h.left_since new t c → h.left_since old t c ⊎ P c

-- one of these two images
abbrev pub IsEither : Image → Image → Image → Type 0
IsEither before now c = (c ≡ before) ⊎ (c ≡ now)

-- An image was committed to a log, by the sectors that were touched since the last commit.
pub record IsCommitted {L E : Type 0} (h : LogHistory L) (old new : L) (now : Image) (touched : List Bool)
    (result : Result Unit E) : Type 0 where
  -- if every sector that changed was touched, a power loss after it leaves the image as it is now
  pub ok : OnOk result ((before : Image) → h.stands_for old before → Covers touched before now → h.stands_for new now)
  -- and one at any moment leaves the image before the commit or after it
  pub any_moment : (before : Image) → h.stands_for old before → Covers touched before now
      → LeavesImages h old new (IsEither before now)
  -- if no sector was touched, nothing is asked of its files
  pub quiet : NoneTouched touched → new ≡ old
  -- an error is returned only if it took no more commits before, or if its files failed
  pub cause : OnErr result ((h.is_over old ≡ true) ⊎ (h.has_failed new ≡ true))
  -- and then it takes no more
  pub err : OnErr result (h.is_over new ≡ true)

module _ {F : Type 0} {G : Ghosts F} where
  -- what a log says that isn't renewed: a power loss leaves the image that its file's bytes stand for
  abbrev pub of_log : LogHistory (Log F G)
  of_log = record {
    stands_for = λ l image. (start : Image) × StandsFor l start image;
    may_leave = λ l image. (c : List ℕ) × G.history.may_leave l.file c × (image ≡ recovered c);
    moment = λ l. G.history.moment l.file;
    left_since = λ l t image. (c : List ℕ) × G.history.left_since l.file t c × (image ≡ recovered c);
    is_over = takes_none;
    has_failed = λ l. G.history.has_failed l.file;
    durable = λ l image c stands left.
        left.2 ∙ ap recovered (stands.1.durable left.0 left.1) ∙ stands.1.image;
    only_now = λ l image left. (left.0, G.history.only_now l.file left.0 left.1, left.2);
  }
