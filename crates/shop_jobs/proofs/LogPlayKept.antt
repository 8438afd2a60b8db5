-- What a play over a log left of that and of the folder, and that it was of the lines of its script.
use Rattle.std.proofs.Common.{◌≡◌, ℕ, Bool, List, Option, Some, inl, inr, subst}
use Rattle.std.specs.Prelude.{◌⊎◌}
use Rattle.image_log.specs.life.Folders.{FolderHistory}
use Rattle.image_log.specs.life.LiveLogs.{of_live}
use Rattle.image_log.specs.declared.life.live_log.LiveLog.{LiveLog}
use Rattle.image_log.specs.declared.log_file.LogFile.{Ghosts}
use Rattle.line_server.specs.Scripts.{crlf_text, of_script}
use Rattle.line_server.specs.logged.Reporting.{LogOutput}
use Rattle.line_text.specs.scripts.Lines.{lines}
use Rattle.opened_files.specs.Ends.{JobEnd}
use Rattle.opened_files.specs.Losses.{IsEndOfRun}
use Rattle.shop_jobs.proofs.LandedKept.{of_run}
use Rattle.shop_jobs.proofs.ReplyTold.{lent-same}
use Rattle.shop_jobs.proofs.ServiceKept.{lent-to}
use Rattle.shop_jobs.specs.JobOutputs.{ArePassed, lent_over}
use Rattle.shop_jobs.specs.KeptServices.{IsServedOrNot}
use Rattle.shop_jobs.specs.LandedRuns.{IsDoneAndLanded, IsLandedEnd, watched_end}
use Rattle.shop_jobs.specs.LoggedPlays.{IsLoggedPlay}
use Rattle.shop_jobs.specs.declared.reply_lines.LentOutput.{LentOutput}

module _ {F D W : Type 0} {G : Ghosts F} (h : FolderHistory D) (o : LogOutput (LiveLog F D G) W) (image script : List ℕ)
    (log : LiveLog F D G) (old new : LentOutput W) (first final : W) (begun : old.out.now ≡ first)
    (back : old.out.ghost_name ≡ new.out.ghost_name → final ≡ new.out.now) where
  pub played-kept : (gone : Bool) (folder : Option D) (end : JobEnd)
      → IsDoneAndLanded h (λ left ended. IsEndOfRun
      (IsLoggedPlay (of_live h) (lent_over o) image script log left old new) ended) gone folder end
      → IsServedOrNot h image (Some (crlf_text (lines script))) log (ArePassed o first final) first final end
  played-kept gone folder end x =
      let (run, is, play) = x.done in
      subst (λ (bytes : List ℕ). IsServedOrNot h image (Some (crlf_text (lines bytes))) log (ArePassed o first final) first final
      end) play.is_first
      (of_run h of_script (lent_over o) image log play.first play.left old new first final (ArePassed o first final)
      (lent-same old new first final begun back) (lent-to o old new first final begun back) x.left gone folder run end play.run
      (subst (λ (e : JobEnd). IsLandedEnd h x.left (watched_end gone e) folder end) is x.landed))

-- a script that was read is the one of which the input has the lines
pub of-script : (Not : Type 0) (Of : List ℕ → Type 0) (Served : Option (List ℕ) → Type 0) (items slice : List ℕ)
    → slice ≡ items → Of items → Not ⊎ Served (Some (crlf_text (lines slice)))
    → Not ⊎ ((text : List ℕ) × Of text × Served (Some (crlf_text (lines text))))
of-script Not Of Served items slice same of (inl not) = inl not
of-script Not Of Served items slice same of (inr served) =
    inr (items, of, subst (λ (bytes : List ℕ). Served (Some (crlf_text (lines bytes)))) same served)
