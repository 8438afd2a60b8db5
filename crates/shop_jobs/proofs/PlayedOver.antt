-- A script that was played over a log, from how its lines were served and its log was landed.
use Rattle.std.proofs.Common.{◌≡◌, ◌∙◌, ◌++◌, [], ◌∷◌, ℕ, Bool, true, false, List, Option, None, Some, Result, Ok, Err, ap, append-nil}
use Rattle.std.proofs.Common.{arith, inl, inr, length, length-append, refl, subst, sym}
use Rattle.std.specs.Prelude.{IsOk, option_to_list}
use Rattle.std.specs.Io.KnownBytes.{Consumes}
use Rattle.std.proofs.lemmas.Bool.{false≢true}
use Rattle.std.proofs.lemmas.List.{length-map}
use Rattle.d64_image.specs.Images.{Image}
use Rattle.d64_image.specs.Memory.{disk_image, sectors_in}
use Rattle.host_session.specs.runs.Chains.{told_in}
use Rattle.host_session.specs.shop.Shop.{IsSettled, IsShop, Shop, start_of}
use Rattle.line_server.specs.Scripts.{crlf_text, of_script, text_left}
use Rattle.line_server.specs.declared.scripts.ScriptBatches.{ScriptBatches}
use Rattle.line_server.proofs.LinesGiven.{all_handled}
use Rattle.image_log.specs.life.Folders.{FolderHistory}
use Rattle.image_log.specs.life.LiveLogs.{of_live}
use Rattle.image_log.specs.declared.life.live_log.LiveLog.{LiveLog}
use Rattle.line_server.specs.logged.Reporting.{IsToldTo, LogOutput}
use Rattle.line_server.specs.logged.Serves.{AreFirst, shop_behind}
use Rattle.line_server.proofs.lemmas.logged.UnderWay.{as_many_replies}
use Rattle.request_cards.specs.Ledgers.{replies}
use Rattle.request_cards.specs.declared.reply.Reply.{Reply}
use Rattle.line_text.specs.scripts.Lines.{lines}
use Rattle.command_faults.specs.declared.faults.CommandFault.{CommandFault}
use Rattle.image_log.specs.ImageLogs.{LogHistory}
use Rattle.image_log.specs.declared.log_file.LogFile.{Ghosts}
use Rattle.opened_files.specs.Ends.{JobEnd, as_run}
use Rattle.shop_jobs.specs.LandedRuns.{HasLanded, IsDoneAndLanded, IsLandedEnd, watched_end}
use Rattle.shop_jobs.specs.LoggedPlays.{IsLoggedPlay, IsPlayedWhole}
use Rattle.shop_jobs.specs.LoggedRuns.{IsLoggedRun, IsLoggedTo}
use Rattle.opened_files.specs.Losses.{IsEndOfRun}

-- a list of no length has nothing
empty : (xs : List Reply) → length xs ≡ 0 → xs ≡ []
empty [] none = refl
empty (x ∷ xs) none = absurd (omega (arith, none))

-- as many replies as there are, none of them broken off, are all
pub all_told : {L : Type 0} (turns : List (Reply × L)) (last : Option (Reply × L)) (all : List Reply) → last ≡ None
    → AreFirst (told_in (turns ++ option_to_list last)) all → length turns ≡ length all → told_in turns ≡ all
all_told {L} turns last all none first many =
    let whole : turns ++ option_to_list last ≡ turns =
    ap (λ (l : Option (Reply × L)). turns ++ option_to_list l) none ∙ append-nil turns in
    let a = subst (λ (ts : List (Reply × L)). AreFirst (told_in ts) all) whole first in
    let short : length a.0 ≡ 0 =
    omega (arith, ap length a.1, length-append (told_in turns) a.0, length-map turns (λ (x : Reply × L). x.0), many) in
    sym (append-nil (told_in turns)) ∙ ap (λ (xs : List Reply). told_in turns ++ xs) (sym (empty a.0 short)) ∙ a.1

module _ {L T : Type 0} (h : LogHistory L) (o : LogOutput L T) (image script : List ℕ) (log after : L)
    (first left : ScriptBatches) (old new : T) (is : first.left.now ≡ script) where
  played_whole : (s : Shop) → IsShop (sectors_in image) s
      → IsLoggedTo h of_script o image log after first left old new (λ d. Ok d)
      → IsPlayedWhole h o s image script log after old new
  played_whole s shop x =
      let y = x.served in
      let here = subst (λ (c : Image). IsShop c s) (sym x.holds) shop in
      let over = y.all tt in
      let read = subst (λ (bs : List ℕ). Consumes (Some (crlf_text (lines bs))) (text_left left) (y.handled ++ y.rest)) is
      y.read in
      let same : lines y.handled ≡ lines script =
      all_handled script y.handled y.rest (text_left left) y.whole y.lacks read y.end in
      let rests = y.rests s here in
      record {
        turns = y.turns;
        told = subst (λ (l : Option (Reply × L)). IsToldTo o old new y.turns l) over.0 y.told;
        replies_are = all_told y.turns y.last (replies (start_of s) [] (lines y.handled)) over.0 (y.replies_are s here)
            (over.1 ∙ sym (as_many_replies s (lines y.handled)))
            ∙ ap (λ (ls : List (List ℕ)). replies (start_of s) [] ls) same;
        handed = y.handed tt;
        last = disk_image x.left;
        rests = subst (λ (ls : List (List ℕ)). IsSettled (disk_image x.left) (shop_behind s ls)) same rests.0;
        stands = λ stands. rests.1 (subst (h.stands_for log) (sym x.holds) stands);
      }

  -- its lines were served, and ended so
  pub logged_play : (ended : Result Unit CommandFault)
      → IsLoggedRun h of_script o image log after first left old new ended
      → IsLoggedPlay h o image script log after old new ended
  logged_play (Ok u) run = record {
    first = first;
    left = left;
    is_first = is;
    run = run;
    whole = λ ok s shop. played_whole s shop run;
  }
  logged_play (Err fault) run = record { first = first; left = left; is_first = is; run = run; whole = λ ok. absurd (false≢true ok) }

module _ {F D T : Type 0} {G : Ghosts F} (h : FolderHistory D) (o : LogOutput (LiveLog F D G) T) (image script : List ℕ)
    (log left : LiveLog F D G) (old new : T) where
  -- a log that was landed at the end of a play has the shop after all messages
  landed_shop : (s : Shop) (run : Result Unit CommandFault) (gone : Bool) (folder : Option D) (end : JobEnd)
      → IsShop (sectors_in image) s → (of_live h).stands_for log (sectors_in image)
      → IsLoggedPlay (of_live h) o image script log left old new run
      → IsLandedEnd h left (watched_end gone (as_run run)) folder end → IsOk end
      → HasLanded h (shop_behind s (lines script)) folder
  landed_shop s run gone folder (Err refusal) shop stands play landed ok = absurd (false≢true ok)
  landed_shop s run true folder (Ok printed) shop stands play landed ok = let bad = (landed.left refl).0 in cc
  landed_shop s (Err fault) false folder (Ok printed) shop stands play landed ok = elim landed.told [
    | inl e ↦ cc
    | inr e ↦ elim e [
      | inl d ↦ cc
      | inr m ↦ cc
    ]
  ]
  landed_shop s (Ok u) false None (Ok printed) shop stands play landed ok = false≢true (landed.tried (λ e. cc))
  landed_shop s (Ok u) false (Some folder) (Ok printed) shop stands play landed ok =
      let whole = play.whole refl s shop in
      (whole.last, whole.rests, landed.landed whole.last (whole.stands stands) (inl ok))

  -- the end with which a log was landed, in the terms of the run
  landed_as : (run : Result Unit CommandFault) (ended served : JobEnd) (gone : Bool) (folder : Option D) (end : JobEnd)
      → ended ≡ as_run run → served ≡ watched_end gone ended → IsLandedEnd h left served folder end
      → IsLandedEnd h left (watched_end gone (as_run run)) folder end
  landed_as run ended served gone folder end is told landed =
      subst (λ (j : JobEnd). IsLandedEnd h left j folder end) (told ∙ ap (λ (j : JobEnd). watched_end gone j) is) landed

  -- a play over a log that was landed then
  pub begun_play : (run : Result Unit CommandFault) (ended served : JobEnd) (gone : Bool) (folder : Option D) (end : JobEnd)
      → ended ≡ as_run run → served ≡ watched_end gone ended → IsLandedEnd h left served folder end
      → IsLoggedPlay (of_live h) o image script log left old new run
      → (x : Bool) × IsDoneAndLanded h (λ after end. IsEndOfRun (IsLoggedPlay (of_live h) o image script log after old new) end)
      x folder end
  begun_play run ended served gone folder end is told landed play = (
    gone,
    record {
      left = left;
      ended = as_run run;
      done = (run, refl, play);
      landed = landed_as run ended served gone folder end is told landed;
    },
  )

  pub landed_play : (run : Result Unit CommandFault) (ended served : JobEnd) (gone : Bool) (folder : Option D) (end : JobEnd)
      → ended ≡ as_run run → served ≡ watched_end gone ended → IsLandedEnd h left served folder end
      → IsLoggedPlay (of_live h) o image script log left old new run
      → (s : Shop) → IsShop (sectors_in image) s → (of_live h).stands_for log (sectors_in image) → IsOk end
      → HasLanded h (shop_behind s (lines script)) folder
  landed_play run ended served gone folder end is told landed play s shop stands ok =
      landed_shop s run gone folder end shop stands play (landed_as run ended served gone folder end is told landed) ok
