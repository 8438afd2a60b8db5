-- What was printed of a service over a log, from what it left.
use Rattle.std.proofs.Common.{◌≡◌, ◌∙◌, ◌++◌, ◌∷◌, [], ℕ, List, Option, None, Some, Ok, Err, inl, inr, subst, sym}
use Rattle.std.specs.Prelude.{OnOk}
use Rattle.std.specs.Io.KnownBytes.{Appends}
use Rattle.std.proofs.lemmas.Bool.{false≢true}
use Rattle.command_faults.proofs.Parts.{part-all}
use Rattle.host_session.specs.runs.Chains.{told_in}
use Rattle.host_session.specs.shop.Shop.{Shop, start_of}
use Rattle.image_log.specs.life.Folders.{FolderHistory}
use Rattle.image_log.specs.declared.life.live_log.LiveLog.{LiveLog}
use Rattle.image_log.specs.declared.log_file.LogFile.{Ghosts}
use Rattle.line_server.proofs.lemmas.logged.UnderWay.{as_many_replies}
use Rattle.line_server.specs.logged.Reporting.{LogOutput}
use Rattle.line_text.specs.scripts.Lines.{lines}
use Rattle.opened_files.specs.Ends.{JobEnd}
use Rattle.request_cards.specs.Ledgers.{replies, report}
use Rattle.request_cards.specs.declared.reply.Reply.{Reply}
use Rattle.shop_jobs.proofs.PlayedOver.{all_told}
use Rattle.shop_jobs.proofs.ReplyTold.{cut-lines}
use Rattle.shop_jobs.specs.JobOutputs.{ArePassed, lines_over}
use Rattle.shop_jobs.specs.KeptServices.{IsServedIn, IsServedOrNot}
use Rattle.shop_jobs.specs.Replies.{AreAnsweredBy, AreReplyLines, IsLoggedService, IsShopOf}
use Rattle.shop_jobs.specs.ServiceEnds.{IsLoggedEnd}
use Rattle.shop_jobs.specs.WatchedFiles.{media_for}

module _ {L W : Type 0} (contents : W → Option (List ℕ)) (o : LogOutput L W) (old new : W) where
  -- lines of replies
  passed-lines : (turns : List (Reply × L)) (last : Option (Reply × L)) → ArePassed (lines_over contents o) old new turns last
      → AreReplyLines contents old new
  passed-lines turns None x = inr (told_in turns, part-all _ _ (report (told_in turns)) x.0)
  passed-lines turns (Some last) (inl x) =
      inr (told_in turns ++ last.0 ∷ [], cut-lines _ _ (told_in turns) last.0 x.0.0 x.0.1)
  passed-lines turns (Some last) (inr (inl x)) =
      let all = told_in (turns ++ (media_for last.0, last.1) ∷ []) in inr (all, part-all _ _ (report all) x.0)
  passed-lines turns (Some last) (inr (inr x)) =
      inr (told_in turns ++ media_for last.0 ∷ [], cut-lines _ _ (told_in turns) (media_for last.0) x.0.0 x.0.1)

module _ {F D W : Type 0} {G : Ghosts F} (h : FolderHistory D) (contents : W → Option (List ℕ))
    (o : LogOutput (LiveLog F D G) W) (image : List ℕ) (given : Option (List ℕ)) (log : LiveLog F D G) (old new : W) where
  abbrev Kept : JobEnd → Type 0
  Kept end = IsServedOrNot h image given log (ArePassed (lines_over contents o) old new) old new end

  pub kept-lines : (end : JobEnd) → Kept end → AreReplyLines contents old new
  kept-lines end (inl not) = inl not.1
  kept-lines end (inr x) = passed-lines contents o old new x.turns x.last x.told

  -- of one that is done all of them
  pub answered-all : (found : Option _) (x : IsServedIn h image given log (ArePassed (lines_over contents o) old new) (Ok found))
      → (s : Shop) → IsShopOf image s → AreAnsweredBy contents s (lines x.handled) old new
  answered-all found x s shop =
      let told = subst (λ (l : Option (Reply × LiveLog F D G)). ArePassed (lines_over contents o) old new x.turns l) x.answered.0
      x.told in
      subst (λ (rs : List Reply). Appends (contents old) (contents new) (report rs))
      (all_told x.turns x.last (replies (start_of s) [] (lines x.handled)) x.answered.0 (x.replies_are s shop)
      (x.answered.1 ∙ sym (as_many_replies s (lines x.handled)))) told.0

  kept-all : (end : JobEnd) → Kept end
      → OnOk end ((s : Shop) × (ls : List (List ℕ)) × IsShopOf image s × AreAnsweredBy contents s ls old new)
  kept-all (Err refusal) x = tt
  kept-all (Ok found) (inl not) = absurd (false≢true not.0)
  kept-all (Ok found) (inr x) = let (s, shop) = x.shop in (s, lines x.handled, shop, answered-all found x s shop)

  pub kept-told : (end : JobEnd) → IsLoggedEnd old new end → Kept end → IsLoggedService contents (IsShopOf image) old new end
  kept-told end is x = (is, kept-lines end x, kept-all end x)
