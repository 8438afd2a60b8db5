-- What was left of a log and of its folder, from how lines were served over it and how it was landed.
use Rattle.std.proofs.Common.{◌≡◌, ◌∙◌, ◌++◌, [], ℕ, Bool, true, false, List, Option, None, Some, Result, Ok, Err, ap, append-nil, arith, inl, inr, length, refl, subst, sym}
use Rattle.std.specs.Prelude.{IfSome, IsOk, IsSome, OnOk, OnSome, option_to_list}
use Rattle.std.specs.Io.KnownBytes.{Consumes, IsAtEnd}
use Rattle.std.proofs.lemmas.Bool.{false≢true}
use Rattle.std.proofs.lemmas.Option.{none-some, same_Some}
use Rattle.d64_image.specs.Images.{Image}
use Rattle.d64_image.specs.Memory.{disk_image, sectors_in}
use Rattle.d64_image.specs.declared.mem_disk.MemDisk.{MemDisk}
use Rattle.host_session.specs.declared.runs.event_loop.LoopFault.{LoopFault}
use Rattle.host_session.specs.runs.Chains.{told_in}
use Rattle.host_session.specs.shop.Shop.{IsSettled, IsShop, Shop, start_of}
use Rattle.line_server.specs.Batches.{BatchInput}
use Rattle.image_log.specs.life.Folders.{FolderHistory}
use Rattle.image_log.specs.life.LiveLogs.{of_live}
use Rattle.image_log.specs.declared.life.live_log.LiveLog.{LiveLog}
use Rattle.image_log.specs.declared.log_file.LogFile.{Ghosts}
use Rattle.line_server.specs.logged.Reporting.{IsToldTo, LogOutput}
use Rattle.line_server.specs.logged.Serves.{AreFirst, IsSafe, shop_behind}
use Rattle.line_text.specs.scripts.Lines.{lines}
use Rattle.request_cards.specs.Ledgers.{replies}
use Rattle.request_cards.specs.declared.reply.Reply.{Reply}
use Rattle.command_faults.specs.declared.faults.CommandFault.{CommandFault}
use Rattle.command_faults.specs.declared.faults.CommandFault.TheVariants as faults
use Rattle.disk_layout.specs.declared.faults.Fault.{Fault}
use Rattle.opened_files.specs.Ends.{JobEnd, as_run}
use Rattle.shop_jobs.proofs.ReplyTold.{landed-ok}
use Rattle.shop_jobs.proofs.ServiceMoments.{few_told, stay_in}
use Rattle.shop_jobs.specs.KeptServices.{IsServedOrNot, StayIn}
use Rattle.shop_jobs.specs.LandedRuns.{HasLanded, IsLandedEnd, IsServedOut, StandsAtRest, watched_end}
use Rattle.shop_jobs.specs.LoggedRuns.{IsLoggedRun, IsLoggedTo}
use Rattle.shop_jobs.specs.Replies.{IsShopOf}

-- bytes that were consumed stand at the front
front_of : (old new : Option (List ℕ)) (bs : List ℕ) → Consumes old new bs → (all : List ℕ) → old ≡ Some all
    → (later : List ℕ) × (all ≡ bs ++ later)
front_of None new bs x all is = absurd (none-some all is)
front_of (Some xs) None bs x all is = absurd x
front_of (Some xs) (Some ys) bs x all is = (ys, sym (same_Some xs all is) ∙ x)

-- and if none is left, they are all
all_of : (old new : Option (List ℕ)) (bs : List ℕ) → Consumes old new bs → OnSome old (IsAtEnd new) → (all : List ℕ)
    → old ≡ Some all → all ≡ bs
all_of None new bs x end all is = absurd (none-some all is)
all_of (Some xs) None bs x end all is = absurd x
all_of (Some xs) (Some ys) bs x end all is =
    sym (same_Some xs all is) ∙ x ∙ ap (λ (rest : List ℕ). bs ++ rest) end ∙ append-nil bs

-- a device that failed is no such end
no_device : (end : JobEnd) → IsServedOut end → end ≡ Err faults.Device → ⊥
no_device end (inl ok) is = false≢true (subst (λ (e : JobEnd). IsOk e) is ok)
no_device end (inr file) is = let bad : ◌≡◌ {A = JobEnd} (Err faults.File) (Err faults.Device) = sym file ∙ is in cc

watched_device : (gone : Bool) → watched_end gone (Err faults.Device) ≡ Err faults.Device
watched_device true = refl
watched_device false = refl

-- `Told` says of replies that the caller's output was passed them, which was `first` and is `final`
module _ {F D R T W : Type 0} {G : Ghosts F} (h : FolderHistory D) (i : BatchInput R) (o : LogOutput (LiveLog F D G) T)
    (image : List ℕ) (log : LiveLog F D G) (old_in new_in : R) (old new : T) (first final : W)
    (Told : List (Reply × LiveLog F D G) → Option (Reply × LiveLog F D G) → Type 0) (back : new ≡ old → final ≡ first)
    (passed : (turns : List (Reply × LiveLog F D G)) (last : Option (Reply × LiveLog F D G)) → IsToldTo o old new turns last
    → Told turns last) where
  abbrev Served : JobEnd → Type 0
  Served end = IsServedOrNot h image (i.remaining old_in) log Told first final end

  abbrev Run : LiveLog F D G → Result Unit CommandFault → Type 0
  Run left ended = IsLoggedRun (of_live h) i o image log left old_in new_in old new ended

  abbrev To : LiveLog F D G → (MemDisk → Result MemDisk (LoopFault × MemDisk)) → Type 0
  To left end = IsLoggedTo (of_live h) i o image log left old_in new_in old new end

  -- the log stands for the shop after these lines, at rest
  abbrev Stood : LiveLog F D G → (handled : List ℕ) → Type 0
  Stood left handled = (s : Shop) → IsShopOf image s → (of_live h).stands_for log (sectors_in image)
      → StandsAtRest h (shop_behind s (lines handled)) left

  -- as the log of a run that didn't fail does
  stood_of : (left : LiveLog F D G) (end : MemDisk → Result MemDisk (LoopFault × MemDisk)) (x : To left end)
      → ((s : Shop) → IsShop (disk_image x.disk) s → IsSettled (disk_image x.left) (shop_behind s (lines x.served.handled))
      × ((of_live h).stands_for log (disk_image x.disk) → (of_live h).stands_for left (disk_image x.left)))
      → Stood left x.served.handled
  stood_of left end x rests s shop stands =
      let here : IsShop (disk_image x.disk) s = subst (λ (c : Image). IsShop c s) (sym x.holds) shop.1 in
      let y = rests s here in
      (disk_image x.left, y.0, y.1 (subst (λ (c : Image). (of_live h).stands_for log c) (sym x.holds) stands))

  -- a log was landed that stood for the shop at rest
  rests_in : (left : LiveLog F D G) (served end : JobEnd) (folder : Option D) → IsLandedEnd h left served folder end
      → IsServedOut end → (s : Shop) (c : Image) → IsSettled c s → (of_live h).stands_for left c → HasLanded h s folder
  rests_in left served end None landed out s c settled stands =
      false≢true (landed.tried (λ e. no_device end out ((landed.left e).0 ∙ e)))
  rests_in left served end (Some folder) landed out s c settled stands = (c, settled, landed.landed c stands out)

  module _ (left : LiveLog F D G) (folder : Option D) (end : MemDisk → Result MemDisk (LoopFault × MemDisk)) (x : To left end)
      (served ended : JobEnd) (landed : IsLandedEnd h left served folder ended)
      (stood : IsSome folder → Stood left x.served.handled) where
    -- one that is so reported was landed
    some_of : IsServedOut ended → IsSome folder
    some_of out = landed.tried (λ e. no_device ended out ((landed.left e).0 ∙ e))

    few : (s : Shop) → IsShopOf image s → AreFirst (told_in (x.served.turns ++ option_to_list x.served.last))
        (replies (start_of s) [] (lines x.served.handled))
    few s of = x.served.replies_are s (subst (λ (c : Image). IsShop c s) (sym x.holds) of.1)

    safe_of : (s : Shop) → IsShopOf image s → (of_live h).stands_for log (sectors_in image)
        → IsSafe (of_live h) s (sectors_in image) (lines x.served.handled)
        (x.served.turns ++ option_to_list x.served.last) log left
    safe_of s shop stands =
        subst (λ (c : Image). IsSafe (of_live h) s c (lines x.served.handled)
        (x.served.turns ++ option_to_list x.served.last) log left) x.holds
        (x.served.safe s (subst (λ (c : Image). IsShop c s) (sym x.holds) shop.1)
        (subst (λ (c : Image). (of_live h).stands_for log c) (sym x.holds) stands))

    stays_in : (f : Option D) → IsLandedEnd h left served f ended → (IsSome f → Stood left x.served.handled) → (s : Shop)
        → IsShopOf image s → (of_live h).stands_for log (sectors_in image)
        → IfSome f (λ d. StayIn h d s (lines x.served.handled) 0 (x.served.turns ++ option_to_list x.served.last))
    stays_in None ending stood_so s of stands = tt
    stays_in (Some d) ending stood_so s of stands =
        let y = stood_so refl s of stands in
        let turns = x.served.turns ++ option_to_list x.served.last in
        stay_in h left d s y.0 (lines x.served.handled) (ending.moments y.0 y.2) y.1 0 turns
        (omega (arith, few_told s (lines x.served.handled) turns (few s of))) (safe_of s of stands).told_stays

    -- of a job that ended so
    kept_as : OnOk ended ((all : List ℕ) → i.remaining old_in ≡ Some all → all ≡ x.served.handled ++ x.served.rest)
        → OnOk ended ((s : Shop) × IsShopOf image s)
        → OnOk ended ((x.served.last ≡ None) × (length x.served.turns ≡ length (lines x.served.handled))) → Served ended
    kept_as all shop answered = inr (record {
      left = left;
      folder = folder;
      handled = x.served.handled;
      rest = x.served.rest;
      whole = x.served.whole;
      lacks = x.served.lacks;
      read = front_of _ _ _ x.served.read;
      turns = x.served.turns;
      last = x.served.last;
      told = passed x.served.turns x.served.last x.served.told;
      replies_are = few;
      safe = safe_of;
      stays = λ s of stands. stays_in folder landed stood s of stands;
      landing = landed.moments;
      all = all;
      shop = shop;
      answered = answered;
      done = λ out s shop stands.
          let y = stood (some_of out) s shop stands in
          (rests_in left served ended folder landed out (shop_behind s (lines x.served.handled)) y.0 y.1 y.2, y);
    })

  module _ (left : LiveLog F D G) (gone : Bool) (folder : Option D) (found : Option Fault) (x : To left (λ d. Ok d))
      (landed : IsLandedEnd h left (watched_end gone (Ok None)) folder (Ok found)) where
    shop_of : (s : Shop) × IsShopOf image s
    shop_of = let (s, is) = x.served.shop in (s, (x.size, subst (λ (c : Image). IsShop c s) x.holds is))

    whole_of : Served (Ok found)
    whole_of = kept_as left folder (λ d. Ok d) x (watched_end gone (Ok None)) (Ok found) landed
        (λ out. stood_of left (λ d. Ok d) x x.served.rests) (all_of _ _ _ x.served.read x.served.end)
        shop_of (x.served.all tt)

  untold : (fault : CommandFault) → new ≡ old → Served (Err fault)
  untold fault same = inl (refl, back same)

  -- of a job that isn't done
  part_of : (left : LiveLog F D G) (gone : Bool) (folder : Option D) (ran fault : CommandFault)
      → IsLandedEnd h left (watched_end gone (Err ran)) folder (Err fault) → Run left (Err ran) → Served (Err fault)
  part_of left gone folder faults.File fault landed (inl x) = kept_as left folder _ x _ (Err fault) landed
      (λ out. stood_of left _ x (λ s here. x.served.rests s here (inl refl))) tt tt tt
  part_of left gone folder faults.File fault landed (inr x) = kept_as left folder _ x _ (Err fault) landed
      (λ out. stood_of left _ x (λ s here. x.served.rests s here (inr refl))) tt tt tt
  part_of left gone folder faults.Device fault landed x = kept_as left folder _ x _ (Err fault) landed
      (λ some. absurd (false≢true (subst (λ (f : Option D). IsSome f) (landed.left (watched_device gone)).1 some))) tt tt tt
  part_of left gone folder (faults.ScriptLine line) fault landed x = absurd x
  part_of left gone folder _ fault landed x = untold fault x.1.2

  pub of_run : (left : LiveLog F D G) (gone : Bool) (folder : Option D) (run : Result Unit CommandFault) (end : JobEnd)
      → Run left run → IsLandedEnd h left (watched_end gone (as_run run)) folder end → Served end
  of_run left gone folder (Ok u) (Ok found) x landed = whole_of left gone folder found x landed
  of_run left gone folder (Ok u) (Err fault) x landed = kept_as left folder (λ d. Ok d) x _ (Err fault) landed
      (λ out. stood_of left (λ d. Ok d) x x.served.rests) tt tt tt
  of_run left gone folder (Err ran) (Ok found) x landed =
      absurd (false≢true (landed-ok h left gone (Err ran) folder (Ok found) landed refl))
  of_run left gone folder (Err ran) (Err fault) x landed = part_of left gone folder ran fault landed x
