-- What a service left of its log and of the folder, from how its lines were served and its log was landed.
use Rattle.std.proofs.Common.{◌≡◌, ◌++◌, ◌∷◌, [], ℕ, Bool, List, None, Option, Some, Result, Ok, Err, inl, inr, refl, subst, sym}
use Rattle.std.specs.Prelude.{OnOk}
use Rattle.line_server.specs.Batches.{BatchInput}
use Rattle.image_log.specs.life.Folders.{FolderHistory}
use Rattle.image_log.specs.life.LiveLogs.{of_live}
use Rattle.image_log.specs.declared.life.live_log.LiveLog.{LiveLog}
use Rattle.image_log.specs.declared.log_file.LogFile.{Ghosts}
use Rattle.line_server.specs.logged.Reporting.{IsToldTo, LogOutput}
use Rattle.request_cards.specs.declared.reply.Reply.{Reply}
use Rattle.command_faults.specs.declared.faults.CommandFault.{CommandFault}
use Rattle.opened_files.specs.Ends.{JobEnd}
use Rattle.opened_files.specs.Losses.{IsEndOfRun}
use Rattle.shop_jobs.proofs.LandedKept.{of_run}
use Rattle.shop_jobs.proofs.LoggedTold.{passed-back, watched-back}
use Rattle.shop_jobs.proofs.ReplyTold.{lent-passed, lent-same}
use Rattle.shop_jobs.specs.JobOutputs.{ArePassed, lent_over}
use Rattle.shop_jobs.specs.KeptServices.{IsServedIn, IsServedOrNot}
use Rattle.shop_jobs.specs.LandedRuns.{IsDoneAndLanded, IsLandedEnd, watched_end}
use Rattle.shop_jobs.specs.LoggedRuns.{IsLoggedRun}
use Rattle.shop_jobs.specs.WatchedFiles.{IsBrokenOff, media_for, while_there}
use Rattle.shop_jobs.specs.declared.reply_lines.LentOutput.{LentOutput}
use Rattle.shop_jobs.specs.declared.watched_files.RepliesWhileNamed.{RepliesWhileNamed}

-- what is known of it holds of an input of which no less is known, and of what was passed on by other words
module _ {F D : Type 0} {G : Ghosts F} (h : FolderHistory D) (image : List ℕ) (given other : Option (List ℕ))
    (log : LiveLog F D G) (P Q : List (Reply × LiveLog F D G) → Option (Reply × LiveLog F D G) → Type 0) (known : (all : List ℕ) → other ≡ Some all → given ≡ Some all)
    (passed : (turns : List (Reply × LiveLog F D G)) (last : Option (Reply × LiveLog F D G)) → P turns last → Q turns last) where
  all_so : (end : JobEnd) (handled rest : List ℕ) → OnOk end ((all : List ℕ) → given ≡ Some all → all ≡ handled ++ rest)
      → OnOk end ((all : List ℕ) → other ≡ Some all → all ≡ handled ++ rest)
  all_so (Ok found) handled rest x = λ all is. x all (known all is)
  all_so (Err fault) handled rest x = tt

  pub served-so : (end : JobEnd) → IsServedIn h image given log P end → IsServedIn h image other log Q end
  served-so end x = record {
    left = x.left;
    folder = x.folder;
    handled = x.handled;
    rest = x.rest;
    whole = x.whole;
    lacks = x.lacks;
    read = λ all is. x.read all (known all is);
    turns = x.turns;
    last = x.last;
    told = passed x.turns x.last x.told;
    replies_are = x.replies_are;
    safe = x.safe;
    stays = x.stays;
    landing = x.landing;
    all = all_so end x.handled x.rest x.all;
    shop = x.shop;
    answered = x.answered;
    done = x.done;
  }

module _ {F D N R T : Type 0} {G : Ghosts F} (h : FolderHistory D) (i : BatchInput R) (o : LogOutput (LiveLog F D G) T)
    (image : List ℕ) (log : LiveLog F D G) (old_in new_in : R) (old new : RepliesWhileNamed N T) (first final : T)
    (begun : old.out.now ≡ first) (back : old.out.ghost_name ≡ new.out.ghost_name → final ≡ new.out.now) where
  abbrev Run : LiveLog F D G → Result Unit CommandFault → Type 0
  Run left ended = IsLoggedRun (of_live h) i (while_there o) image log left old_in new_in old new ended

  abbrev Kept : JobEnd → Type 0
  Kept end = IsServedOrNot h image (i.remaining old_in) log (ArePassed o first final) first final end

  off-so : (turns : List (Reply × LiveLog F D G)) (last : Reply × LiveLog F D G)
      → IsBrokenOff o new.gone old.out.now new.out.now turns last → ArePassed o old.out.now new.out.now turns (Some last)
  off-so turns last (inl x) = inl x.1
  off-so turns last (inr x) = inr x.1

  told-so : (turns : List (Reply × LiveLog F D G)) (last : Option (Reply × LiveLog F D G))
      → IsToldTo (while_there o) old new turns last → ArePassed o first final turns last
  told-so turns None x = passed-back old new first final begun back (λ a b. ArePassed o a b turns None) x.0 x.2
  told-so turns (Some last) x =
      passed-back old new first final begun back (λ a b. ArePassed o a b turns (Some last)) x.0 (off-so turns last x.1)

  -- what a service left whose log was landed
  pub served-kept : (gone : Bool) (folder : Option D) (end : JobEnd)
      → IsDoneAndLanded h (λ left ended. IsEndOfRun (Run left) ended) gone folder end → Kept end
  served-kept gone folder end x =
      let (run, is, ran) = x.done in
      of_run h i (while_there o) image log old_in new_in old new first final (ArePassed o first final)
      (watched-back old new first final begun back) told-so x.left gone folder run end ran
      (subst (λ (e : JobEnd). IsLandedEnd h x.left (watched_end gone e) folder end) is x.landed)

-- what was passed to an output that was lent was passed to the caller's
module _ {L W : Type 0} (o : LogOutput L W) (old new : LentOutput W) (first final : W) (begun : old.out.now ≡ first)
    (back : old.out.ghost_name ≡ new.out.ghost_name → final ≡ new.out.now) where
  pub lent-so : (turns : List (Reply × L)) (last : Option (Reply × L)) → ArePassed (lent_over o) old new turns last
      → ArePassed o first final turns last
  lent-so turns None x = lent-passed old new first final begun back (λ a b. o.told a b turns) x.0 x.1
  lent-so turns (Some last) (inl x) = inl (lent-passed old new first final begun back (λ a b. o.broken_off a b turns last) x.0 x.1)
  lent-so turns (Some last) (inr (inl x)) = inr (inl
      (lent-passed old new first final begun back (λ a b. o.told a b (turns ++ (media_for last.0, last.1) ∷ [])) x.0 x.1))
  lent-so turns (Some last) (inr (inr x)) = inr (inr
      (lent-passed old new first final begun back (λ a b. o.broken_off a b turns (media_for last.0, last.1)) x.0 x.1))

  pub lent-to : (turns : List (Reply × L)) (last : Option (Reply × L)) → IsToldTo (lent_over o) old new turns last
      → ArePassed o first final turns last
  lent-to turns None x = lent-so turns None x
  lent-to turns (Some last) x = lent-so turns (Some last) (inl x)

module _ {F D W : Type 0} {G : Ghosts F} (h : FolderHistory D) (o : LogOutput (LiveLog F D G) W) (image : List ℕ)
    (given : Option (List ℕ)) (log : LiveLog F D G) (old new : LentOutput W) (first final : W) (begun : old.out.now ≡ first)
    (back : old.out.ghost_name ≡ new.out.ghost_name → final ≡ new.out.now) where
  pub printed-kept : (end : JobEnd) → IsServedOrNot h image given log (ArePassed (lent_over o) old new) old new end
      → IsServedOrNot h image given log (ArePassed o first final) first final end
  printed-kept end (inl (bad, same)) = inl (bad, lent-same old new first final begun back same)
  printed-kept end (inr x) = inr (served-so h image given given log (ArePassed (lent_over o) old new) (ArePassed o first final)
      (λ all is. is) (lent-so o old new first final begun back) end x)
