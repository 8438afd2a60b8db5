-- What stayed on the disk of a file that was played over durably.
use Rattle.std.proofs.Common.{[], ◌≡◌, ◌∙◌, Err, List, Ok, Option, Some, ap, length, refl, subst, sym, true, ℕ}
use Rattle.std.specs.Prelude.{IfErr, IfOk, None, OnOk, Result}
use Rattle.d64_image.specs.Keeps.{KeptOnly, kept_or}
use Rattle.d64_image.specs.Memory.{sectors_in}
use Rattle.host_session.specs.events.Events.{HasNoReset, messages_of, requests_of}
use Rattle.host_session.specs.events.Telling.{Output}
use Rattle.host_session.specs.runs.ScriptRuns.{AreToldSo}
use Rattle.host_session.specs.shop.Shop.{IsSettled, IsShop, Shop, start_of, with_state}
use Rattle.request_cards.specs.Ledgers.{plain, replies}
use Rattle.line_text.specs.scripts.Lines.{lines}
use Rattle.shop_commands.specs.Plays.{IsFileFault, IsPlayedFile}
use Rattle.disk_layout.specs.declared.faults.Fault.{Fault}
use Rattle.image_file.specs.ImageFile.{placed}
use Rattle.image_file.specs.Lasting.{Lasting}
use Rattle.image_file.specs.declared.durability.WritesAt.{Ghosts}
use Rattle.command_faults.specs.declared.faults.CommandFault.TheVariants as faults
use Rattle.image_file.specs.declared.sectors.ImageFile.{ImageFile}
use Rattle.shop_jobs.specs.DurableRuns.{IsDurableRun}
use Rattle.opened_files.specs.Ends.{JobEnd}
use Rattle.shop_jobs.specs.Runs.{IsPlayRun}
use Rattle.shop_jobs.specs.FilePlays.{HoldsShop, IsAfterSome}
use Rattle.shop_jobs.proofs.Durably.{all_there, at_ok, each_kept, first_kept, kept_last, told_failed}
use Rattle.shop_jobs.proofs.PlayedKept.{of_play}

-- what holds of a result that is Ok
pub on_ok_by : {T E : Type 0} (r : Result T E) (X : Type 0) → ((v : T) → r ≡ Ok v → X) → OnOk r X
on_ok_by (Ok v) X f = f v refl
on_ok_by (Err e) X f = tt

module _ {F T : Type 0} {G : Ghosts F} (o : Output T) (image script : List ℕ) (file after : F)
    (ended : JobEnd) (old new : T) (size : length image ≡ 174848)
    (known : G.whole.lasting.bytes file ≡ Some image)
    (run : IsDurableRun {G = G} image file after ended
    (λ first left end. IsPlayRun placed o image script first left old new end)) where
  abbrev L : Lasting F
  L = G.whole.lasting

  abbrev Ran : ImageFile F G → ImageFile F G → JobEnd → Type 0
  Ran first left end = IsPlayRun placed o image script first left old new end

  -- the device is told of where the file failed
  pub play_failed : ended ≡ Err faults.Device → G.has_failed after ≡ true
  play_failed e = told_failed image file after ended Ran size known run (λ is. (subst (λ (end : JobEnd). IfErr end
      (IsFileFault placed o image script run.first run.left old new)) is run.run.fault).0) e

  module _ (s : Shop) (is : IsShop (sectors_in image) s) where
    kept_only : KeptOnly placed run.first run.left (IsAfterSome s (messages_of (lines script)))
    kept_only = of_play placed o image script run.first run.left old new s is
        (first_kept image file after ended Ran size known run) run.end run.run

    -- each content of an image's size that stayed at any moment is the shop's after some beginning of the lines
    pub lasts_each : (all : List ℕ) → length all ≡ 174848 → L.stayed after (L.moment file) all
        → IsAfterSome s (messages_of (lines script)) (sectors_in all)
    lasts_each all sized stayed =
        each_kept image file after ended Ran size known run kept_only.reached kept_only all sized stayed

    played : (v : Option Fault) → ended ≡ Ok v → IsPlayedFile placed o image script run.first run.left old new
    played v e = (subst (λ (end : JobEnd). IfOk end (λ printed. (printed ≡ None)
        × IsPlayedFile placed o image script run.first run.left old new))
        (at_ok image file after ended Ran size known run v e) run.run.done).1

    -- each line was told its own reply, and what stays at the end is the shop after all of them
    pub lasts_done : (v : Option Fault) → ended ≡ Ok v → (all : List ℕ) → L.bytes after ≡ Some all
        → length all ≡ 174848 → HasNoReset (lines script)
        → AreToldSo o old new (replies (start_of s) [] (lines script))
        × IsSettled (sectors_in all) (with_state s (plain (start_of s) (requests_of (lines script))))
    lasts_done v e all there sized none =
        let x = (played v e).1 in
        let end = x.ends.0.without_resets s (subst (λ img. IsShop img s) (sym x.holds) is) none in
        let last : placed.kept run.left ≡ Some (sectors_in all) =
        kept_last image file after ended Ran size known run kept_only.reached all there sized in
        let same : x.left.image ≡ sectors_in all =
        sym x.left.agrees ∙ ap (λ k. kept_or k x.left.image) (ap placed.kept x.is_after ∙ last) in (
          end.0,
          subst (λ img. IsSettled img (with_state s (plain (start_of s) (requests_of (lines script))))) same end.1,
        )

    -- so the job left the shop
    pub holds_shop : HoldsShop G s script file after ended
    holds_shop = record {
      each = lasts_each;
      done = on_ok_by ended _ (λ v e none all sized there. (lasts_done v e all there sized none).1);
      stays = all_there run;
    }
