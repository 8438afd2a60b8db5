-- What was told of an output is told of one that looks for a file first.
use Rattle.std.proofs.Common.{◌≡◌, ◌∙◌, ◌++◌, ◌∷◌, [], true, false, Err, List, Ok, Result, inl, inr, refl, sym}
use Rattle.request_cards.specs.declared.reply.Reply.{Reply}
use Rattle.line_server.specs.logged.Reporting.{IsReported, LogOutput, StaysTold}
use Rattle.shop_jobs.specs.WatchedFiles.{media_for, while_there}
use Rattle.shop_jobs.specs.declared.watched_files.RepliesWhileNamed.{RepliesWhileNamed}

module _ {L N T : Type 0} (o : LogOutput L T) (old new : RepliesWhileNamed N T) (reply : Reply) (log : L)
    (same : new.out.ghost_name ≡ old.out.ghost_name) where
  -- the file was there
  pub told_there : {E : Type 0} (result : Result Unit E) → old.gone ≡ false → new.gone ≡ false
      → IsReported o old.out.now new.out.now reply log result → IsReported (while_there o) old new reply log result
  told_there (Ok _) was is x = λ first xs k. (same ∙ k.0, is ∙ sym was ∙ k.1, x first.out.now xs k.2)
  told_there (Err _) was is x = (λ first xs k. (same ∙ k.0, inl (is, x.0 first.out.now xs k.2)), refl)

  -- it had gone, and MEDIA was told, and handed on
  pub told_gone : {E : Type 0} (error : E) (told : T) → new.gone ≡ true
      → ((first : T) (xs : List (Reply × L)) → o.told first old.out.now xs → o.told first told (xs ++ (media_for reply, log) ∷ []))
      → StaysTold o told new.out.now → IsReported (while_there o) old new reply log (Err error)
  told_gone error told is x stays =
      (λ first xs k. (same ∙ k.0, inr (is, inl (stays first.out.now _ (x first.out.now xs k.2)))), refl)

  -- or a part of it
  pub broken_gone : {E : Type 0} (error : E) → new.gone ≡ true
      → ((first : T) (xs : List (Reply × L)) → o.told first old.out.now xs → o.broken_off first new.out.now xs (media_for reply, log))
      → IsReported (while_there o) old new reply log (Err error)
  broken_gone error is x = (λ first xs k. (same ∙ k.0, inr (is, inr (x first.out.now xs k.2))), refl)
