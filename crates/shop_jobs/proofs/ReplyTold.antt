-- Replies that were printed to a writer that was lent, by what was reported over a log.
use Rattle.std.proofs.Common.{◌≡◌, ◌∙◌, ◌++◌, ◌∷◌, [], ℕ, Bool, true, false, List, Option, None, Some, Result, Ok, Err, ap}
use Rattle.std.proofs.Common.{drop, inl, inr, subst, sym, take}
use Rattle.std.specs.Prelude.{OnErr, OnOk, IsOk, refl}
use Rattle.std.proofs.KnownBytes.{Appends-trans}
use Rattle.std.specs.Io.KnownBytes.{Appends}
use Rattle.std.proofs.lemmas.List.{append-nil, append_assoc, take-append-drop}
use Rattle.command_faults.specs.Outputs.{HandsPart}
use Rattle.command_faults.specs.declared.faults.CommandFault.{CommandFault}
use Rattle.d64_image.specs.Images.{Image}
use Rattle.host_session.proofs.lemmas.events.Printed.{told_more}
use Rattle.host_session.proofs.lemmas.events.Reports.{written_more}
use Rattle.host_session.specs.events.Instants.{Instant}
use Rattle.host_session.specs.events.Telling.{IsTold}
use Rattle.host_session.specs.runs.Chains.{told_in}
use Rattle.host_session.specs.runs.Outputs.{line_of, written}
use Rattle.host_session.specs.shop.Shop.{IsShop}
use Rattle.image_log.specs.life.Folders.{FolderHistory}
use Rattle.image_log.specs.life.LiveLogs.{of_live}
use Rattle.image_log.specs.declared.life.live_log.LiveLog.{LiveLog}
use Rattle.line_server.specs.logged.Reporting.{IsReported, LogOutput}
use Rattle.request_cards.specs.Ledgers.{report}
use Rattle.request_cards.specs.declared.reply.Reply.{Reply}
use Rattle.line_text.specs.scripts.Lines.{lines}
use Rattle.image_log.specs.declared.log_file.LogFile.{Ghosts}
use Rattle.opened_files.specs.Ends.{JobEnd, as_run}
use Rattle.shop_jobs.specs.LandedRuns.{IsDoneAndLanded, IsLandedEnd, watched_end}
use Rattle.shop_jobs.specs.LoggedPlays.{IsLoggedPlay}
use Rattle.opened_files.specs.Losses.{IsEndOfRun}
use Rattle.shop_jobs.specs.JobOutputs.{lent_over, lines_over, of_no_log}
use Rattle.shop_jobs.specs.Replies.{AreAnswered, IsShopOf, lines_to}
use Rattle.shop_jobs.specs.declared.reply_lines.LentOutput.{LentOutput}
use Rattle.shop_jobs.specs.declared.reply_lines.WatchedReplies.{WatchedReplies}

-- a writer that is lent was passed a reply as any writer
pub is-lent : {W E : Type 0} (contents : W → Option (List ℕ)) (old new : WatchedReplies W) (reply : Reply) (i : Instant)
    (r : Result Unit E) → new.out.ghost_name ≡ old.out.ghost_name
    → IsTold (written contents) old.out.now new.out.now reply i r → IsTold (lines_to contents) old new reply i r
is-lent contents old new reply i (Ok x) same told = (λ first xs k. (same ∙ k.0, told.0 first.out.now xs k.1), told.1)
is-lent contents old new reply i (Err x) same told = (λ first xs k. (same ∙ k.0, told.0 first.out.now xs k.1), told.1)

-- what a writer was passed that says nothing of logs
pub is-printed : {L W E : Type 0} (contents : W → Option (List ℕ)) (old new : W) (reply : Reply) (log : L) (r : Result Unit E)
    → OnOk r (Appends (contents old) (contents new) (line_of reply))
    → OnErr r ((n : ℕ) × Appends (contents old) (contents new) (take n (line_of reply)))
    → IsReported (lines_over contents of_no_log) old new reply log r
is-printed contents old new reply log (Ok x) wrote failed = λ first xs before. (
  subst (λ rs. Appends (contents first) (contents new) (report rs)) (sym (told_more xs (reply, log)))
      (written_more (contents first) (contents old) (contents new) (told_in xs) reply before.0 wrote),
  tt,
)
is-printed contents old new reply log (Err x) wrote failed = (
  λ first xs before. (
    (
      failed.0,
      Appends-trans (contents first) (contents old) (contents new) (report (told_in xs)) (take failed.0 (line_of reply))
          before.0 failed.1,
    ),
    tt,
  ),
  refl,
)

-- the lines of replies, and then of one
report-more : (rs : List Reply) (r : Reply) → report (rs ++ r ∷ []) ≡ report rs ++ line_of r
report-more [] r = append-nil (line_of r)
report-more (x ∷ rs) r =
    ap (λ bytes. line_of x ++ bytes) (report-more rs r) ∙ sym (append_assoc (line_of x) (report rs) (line_of r))

-- lines of replies, and a beginning of one more, are a beginning of all
pub cut-lines : (a b : Option (List ℕ)) (rs : List Reply) (r : Reply) (n : ℕ)
    → Appends a b (report rs ++ take n (line_of r)) → HandsPart a b (report (rs ++ r ∷ []))
cut-lines a b rs r n printed = (
  report rs ++ take n (line_of r),
  drop n (line_of r),
  printed,
  report-more rs r ∙ ap (λ bytes. report rs ++ bytes) (sym (take-append-drop n (line_of r)))
      ∙ sym (append_assoc (report rs) (take n (line_of r)) (drop n (line_of r))),
)

-- an output that was lent is as it was if the one over it is
pub lent-same : {W : Type 0} (old new : LentOutput W) (first final : W) → old.out.now ≡ first
    → (old.out.ghost_name ≡ new.out.ghost_name → final ≡ new.out.now) → new ≡ old → final ≡ first
lent-same old new first final begun back same = back (ap (λ p. p.out.ghost_name) (sym same)) ∙ ap (λ p. p.out.now) same ∙ begun

-- and what was passed to it was passed to the caller's
pub lent-passed : {W : Type 0} (old new : LentOutput W) (first final : W) → old.out.now ≡ first
    → (old.out.ghost_name ≡ new.out.ghost_name → final ≡ new.out.now) → (P : W → W → Type 0)
    → new.out.ghost_name ≡ old.out.ghost_name → P old.out.now new.out.now → P first final
lent-passed old new first final begun back P same x =
    subst (λ w. P w final) begun (subst (λ w. P old.out.now w) (sym (back (sym same))) x)

-- a run whose log was landed, and whose end is reported as good, ended well
pub landed-ok : {F D : Type 0} {G : Ghosts F} (h : FolderHistory D) (left : LiveLog F D G) (gone : Bool) (ended : JobEnd)
    (folder : Option D) (end : JobEnd) → IsLandedEnd h left (watched_end gone ended) folder end → IsOk end → IsOk ended
landed-ok h left gone (Ok found) folder end landed ok = refl
landed-ok h left true (Err refusal) folder (Ok found) landed ok = elim landed.told [
  | inl e ↦ cc
  | inr e ↦ elim e [
    | inl d ↦ cc
    | inr m ↦ cc
  ]
]
landed-ok h left false (Err refusal) folder (Ok found) landed ok = elim landed.told [
  | inl e ↦ cc
  | inr e ↦ elim e [
    | inl d ↦ cc
    | inr m ↦ cc
  ]
]
landed-ok h left gone (Err refusal) folder (Err other) landed ok = cc

module _ {F D W : Type 0} {G : Ghosts F} (h : FolderHistory D) (contents : W → Option (List ℕ)) (o : LogOutput (LiveLog F D G) W)
    (image script : List ℕ) (log : LiveLog F D G) (old new : LentOutput W) (first final : W) (begun : old.out.now ≡ first)
    (back : old.out.ghost_name ≡ new.out.ghost_name → final ≡ new.out.now) where
  abbrev Play : LiveLog F D G → Result Unit CommandFault → Type 0
  Play left ended = IsLoggedPlay (of_live h) (lent_over (lines_over contents o)) image script log left old new ended

  play-answered : (left : LiveLog F D G) (ended : Result Unit CommandFault) → Play left ended → IsOk (as_run ended)
      → AreAnswered contents (IsShopOf image) (lines script) first final
  play-answered left (Ok _) play ok =
      let run = play.run in
      let (s, shop) = run.served.shop in
      let held = subst (λ (c : Image). IsShop c s) run.holds shop in
      let whole = play.whole refl s held in
      let told = lent-passed old new first final begun back (λ a b. (lines_over contents o).told a b whole.turns) whole.told.0
      whole.told.1 in (
        s,
        (run.size, held),
        subst (λ (rs : List Reply). Appends (contents first) (contents final) (report rs)) whole.replies_are told.0,
      )
  play-answered left (Err fault) play ok = cc

  -- a play over a log that is done printed the replies of the image's shop to all lines
  pub played-answered : (gone : Bool) (folder : Option D) (end : JobEnd)
      → IsDoneAndLanded h (λ left ended. IsEndOfRun (Play left) ended) gone folder end
      → OnOk end (AreAnswered contents (IsShopOf image) (lines script) first final)
  played-answered gone folder (Err refusal) x = tt
  played-answered gone folder (Ok found) x =
      let (ended, is, play) = x.done in
      play-answered x.left ended play
      (subst (λ (e : JobEnd). IsOk e) is (landed-ok h x.left gone x.ended folder (Ok found) x.landed refl))
