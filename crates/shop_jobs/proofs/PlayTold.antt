-- What was printed of a play over a file, by how it ended, and of whose shop.
use Rattle.std.proofs.Common.{◌≡◌, ◌≢◌, ◌∙◌, ℕ, List, None, Option, Ok, Err, ap, refl, subst, sym, take, ⊎_elim}
use Rattle.std.proofs.lemmas.Bool.{false≢true}
use Rattle.std.proofs.lemmas.Option.{none-some}
use Rattle.std.specs.Prelude.{IfErr, IsOk, OnOk}
use Rattle.std.specs.Io.KnownBytes.{Appends}
use Rattle.command_faults.specs.declared.faults.CommandFault.TheVariants as faults
use Rattle.d64_image.specs.Images.{Image}
use Rattle.host_session.specs.events.Events.{HasNoReset}
use Rattle.host_session.specs.runs.Chains.{told_in}
use Rattle.host_session.specs.shop.Shop.{IsShop, Shop}
use Rattle.request_cards.specs.Ledgers.{report}
use Rattle.request_cards.specs.declared.reply.Reply.{Reply}
use Rattle.line_text.specs.scripts.Lines.{first_reset, lines}
use Rattle.image_file.specs.ImageFile.{placed}
use Rattle.image_file.specs.paths.Standing.{Stands}
use Rattle.host_session.specs.declared.faults.OpenFault.{OpenFault}
use Rattle.host_session.specs.declared.faults.OpenFault.TheVariants as openings
use Rattle.shop_commands.specs.Faults.{opening_fault}
use Rattle.shop_commands.specs.Plays.{IsFileFault, IsUntouched}
use Rattle.image_file.specs.declared.durability.WritesAt.{Ghosts}
use Rattle.image_file.specs.declared.sectors.ImageFile.{ImageFile}
use Rattle.shop_jobs.proofs.ServiceTold.{given-back, lent-lines, some-lines}
use Rattle.shop_jobs.proofs.ToldSome.{run-some}
use Rattle.shop_jobs.specs.ServiceEnds.{IsQuietEnd}
use Rattle.shop_jobs.specs.DurableRuns.{IsDurableRun}
use Rattle.opened_files.specs.Ends.{JobEnd}
use Rattle.shop_jobs.specs.Replies.{IsShopAt}
use Rattle.opened_files.specs.HostFiles.{OfWritten}
use Rattle.shop_jobs.specs.LoggedPlays.{IsLoggedPlayEnd}
use Rattle.shop_jobs.specs.Replies.{AreAnswered, AreAnsweredBy, AreReplyLines, IsLoggedService, IsPlainPlayed}
use Rattle.shop_jobs.specs.Replies.{IsShopOf, lines_to}
use Rattle.shop_jobs.specs.Runs.{IsPlayRun}
use Rattle.shop_jobs.specs.declared.reply_lines.WatchedReplies.{WatchedReplies}

-- no opening fails because a log is away
not-away : (opening : OpenFault) → opening_fault opening ≡ faults.LogAway → ⊥
not-away (openings.Layout fault) is = cc
not-away openings.NoStock is = cc
not-away openings.NoRequests is = cc
not-away (openings.BadCard item) is = cc
not-away (openings.BadRequestCard till) is = cc
not-away openings.TwoIntents is = cc
not-away openings.Device is = cc

module _ {F W : Type 0} (contents : W → Option (List ℕ)) (file after : F) (before behind : WatchedReplies W) (old new : W)
    (begun : before.out.now ≡ old) (back : before.out.ghost_name ≡ behind.out.ghost_name → new ≡ behind.out.now) where
  -- one that isn't done printed nothing
  pub play-quiet : (end : JobEnd)
      → IfErr end (λ fault. fault ≢ faults.File → fault ≢ faults.Device → IsUntouched file after before behind)
      → IsQuietEnd old new end
  play-quiet (Ok printed) same = tt
  play-quiet (Err fault) same =
      λ other another. lent-lines contents before behind old new begun back (same other another).1

  module _ {G : Ghosts F} (image script : List ℕ) where
    abbrev Run : ImageFile F G → ImageFile F G → JobEnd → Type 0
    Run start left end = IsPlayRun placed (lines_to contents) image script start left before behind end

    run-plain : HasNoReset (lines script) → (start left : ImageFile F G) (end : JobEnd) → Run start left end → IsOk end
        → (s : Shop) × IsShopOf image s × AreAnsweredBy contents s (lines script) old new
    run-plain none start left (Ok found) run ok =
        let taken = run.done.1.1 in
        let played = taken.ends.0 in
        let (s, shop) = played.shop in
        let told = (played.without_resets s shop none).0 in (
          s,
          (taken.size, subst (λ (c : Image). IsShop c s) taken.holds shop),
          subst (λ (rs : List Reply). Appends (contents old) (contents new) (report rs)) told.replies
              (given-back contents before behind old new begun back (report (told_in told.turns)) told.is.0 told.is.1),
        )
    run-plain none start left (Err fault) run ok = cc

    -- one that is done, of a script without resets, printed the replies of the image's shop to all lines
    plain-ended : (ended : JobEnd) → IsDurableRun {G = G} image file after ended Run
        → IsPlainPlayed contents (IsShopOf image) script old new ended
    plain-ended (Err refusal) x none = tt
    plain-ended (Ok found) x none =
        run-plain none x.first x.left x.end x.run
        (⊎_elim (λ same. subst (λ (e : JobEnd). IsOk e) same refl)
        (λ device. absurd (false≢true (subst (λ (e : JobEnd). IsOk e) device refl))) x.finished.told)

    pub play-plain : (ended : JobEnd) (all : List ℕ) → script ≡ all → IsDurableRun {G = G} image file after ended Run
        → IsPlainPlayed contents (IsShopOf image) all old new ended
    play-plain ended all is x =
        subst (λ (bytes : List ℕ). IsPlainPlayed contents (IsShopOf image) bytes old new ended) is (plain-ended ended x)

    -- however it ended, lines of replies were printed
    pub play-lines : (ended : JobEnd) → IsDurableRun {G = G} image file after ended Run
        → AreReplyLines contents old new
    play-lines ended x =
        some-lines contents before behind old new begun back
        (run-some placed (lines_to contents) image script x.first x.left before behind x.end x.run)

module _ {F W : Type 0} {G : Ghosts F} (contents : W → Option (List ℕ)) (image script : List ℕ) (file after : F)
    (before behind : WatchedReplies W) where
  abbrev Plays : ImageFile F G → ImageFile F G → JobEnd → Type 0
  Plays start left end = IsPlayRun placed (lines_to contents) image script start left before behind end

  -- no play ends because a log is away
  run-other : (start left : ImageFile F G) (end : JobEnd) → Plays start left end → end ≢ Err faults.LogAway
  run-other start left end run is =
      let Why : JobEnd → Type 0 = λ e. IfErr e (IsFileFault placed (lines_to contents) image script start left before behind) in
      let why = subst Why is run.fault in
      not-away why.1.opening why.1.is

  pub play-other : (ended : JobEnd) → IsDurableRun {G = G} image file after ended Plays → ended ≢ Err faults.LogAway
  play-other ended x is =
      ⊎_elim (λ same. run-other x.first x.left x.end x.run (sym same ∙ is)) (λ device. cc) x.finished.told

-- the shop of the bytes that were read of an image is that of those that the host says
pub shop-at : {H : Type 0} (stands : H → List ℕ → Stands) (host : H) (path items slice : List ℕ)
    → OfWritten stands host path (λ all. items ≡ take 174849 all) → slice ≡ items → (s : Shop) → IsShopOf slice s
    → IsShopAt stands host path s
shop-at stands host path items slice is same s shop =
    λ all holds. subst (λ (bytes : List ℕ). IsShopOf bytes s) (same ∙ is all holds) shop

-- what is said of one shop is said of the same
module _ {W : Type 0} (contents : W → Option (List ℕ)) (Is At : Shop → Type 0) (weaker : (s : Shop) → Is s → At s)
    (old new : W) where
  pub played-at : (script : List ℕ) (end : JobEnd) → IsPlainPlayed contents Is script old new end
      → IsPlainPlayed contents At script old new end
  played-at script (Err refusal) x none = tt
  played-at script (Ok found) x none = let y = x none in (y.0, weaker y.0 y.1, y.2)

  -- the same over a log
  pub answered-at : (ls : List (List ℕ)) (end : JobEnd) → OnOk end (AreAnswered contents Is ls old new)
      → OnOk end (AreAnswered contents At ls old new)
  answered-at ls (Err refusal) x = tt
  answered-at ls (Ok found) x = (x.0, weaker x.0 x.1, x.2)

  pub logged-at : (end : JobEnd) → IsLoggedService contents Is old new end → IsLoggedService contents At old new end
  logged-at (Err refusal) x = (x.0, x.1, tt)
  logged-at (Ok found) x = let y = x.2 in (x.0, x.1, (y.0, y.1, weaker y.0 y.2, y.3))

-- a script without resets that was played over a log has no line at which it is refused
pub played-text : {W : Type 0} (contents : W → Option (List ℕ)) (Is : Shop → Type 0) (items slice all : List ℕ) (old new : W)
    (end : JobEnd) → slice ≡ items → items ≡ all → first_reset (lines items) ≡ None
    → OnOk end (AreAnswered contents Is (lines slice) old new) → IsLoggedPlayEnd contents Is all old new end
played-text contents Is items slice all old new end same is plain done = record {
  reset = λ n found. absurd (none-some n (sym plain ∙ ap (λ (bytes : List ℕ). first_reset (lines bytes)) is ∙ found));
  done = subst (λ (bytes : List ℕ). OnOk end (AreAnswered contents Is (lines bytes) old new)) (same ∙ is) done;
}
