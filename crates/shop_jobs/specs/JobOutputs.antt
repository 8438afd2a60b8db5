-- What is known of the lines of replies that an output of a job was passed, each over a log. Our own.
use Rattle.std.specs.Prelude.{◌≡◌, ◌⊎◌, ⊤, ℕ, List, [], ◌∷◌, ◌++◌, None, Option, Some, refl, take, true}
use Rattle.std.proofs.KnownBytes.{Appends-nil}
use Rattle.std.specs.Io.KnownBytes.{Appends}
use Rattle.host_session.specs.runs.Chains.{told_in}
use Rattle.host_session.specs.runs.Outputs.{line_of}
use Rattle.line_server.specs.logged.Reporting.{LogOutput}
use Rattle.request_cards.specs.Ledgers.{report}
use Rattle.request_cards.specs.declared.reply.Reply.{Reply}
use Rattle.shop_jobs.specs.WatchedFiles.{IsToldOrPart, media_for}
use Rattle.shop_jobs.specs.declared.reply_lines.LentOutput.{LentOutput}

-- what an output says of the replies that were printed to it, each over a log of some type
abbrev pub OverLogs : (W : Type 0) → Type 1
OverLogs W = (L : Type 0) → LogOutput L W

-- what an output says that knows nothing of logs
abbrev pub of_no_log : {L W : Type 0} → LogOutput L W
of_no_log = record {
  told = λ _ _ _. ⊤;
  broken_off = λ _ _ _ _. ⊤;
  is_handed_on = λ _. ⊤;
  has_failed = λ _. true;
  none = λ _. tt;
}

-- Replies were printed, each on a line of its own, and over the log of which the output says so. A last one that was broken
-- off is there up to some byte.
abbrev pub lines_over : {L W : Type 0} → (W → Option (List ℕ)) → LogOutput L W → LogOutput L W
lines_over contents o = record {
  told = λ old new turns. Appends (contents old) (contents new) (report (told_in turns)) × o.told old new turns;
  broken_off = λ old new turns last. ((n : ℕ)
      × Appends (contents old) (contents new) (report (told_in turns) ++ take n (line_of last.0)))
      × o.broken_off old new turns last;
  is_handed_on = o.is_handed_on;
  has_failed = λ _. true;
  none = λ w. (Appends-nil (contents w), o.none w);
}

-- what an output says that was lent: it is the same one, and was passed what it says
abbrev pub lent_over : {L W : Type 0} → LogOutput L W → LogOutput L (LentOutput W)
lent_over o = record {
  told = λ old new turns. (new.out.ghost_name ≡ old.out.ghost_name) × o.told old.out.now new.out.now turns;
  broken_off = λ old new turns last. (new.out.ghost_name ≡ old.out.ghost_name)
      × o.broken_off old.out.now new.out.now turns last;
  is_handed_on = λ x. o.is_handed_on x.out.now;
  has_failed = λ x. o.has_failed x.out.now;
  none = λ x. (refl, o.none x.out.now);
}

-- These replies were passed on, each over the log beside it. If there is a last one, it was passed then in whole, in part or not
-- at all, or MEDIA was in its place. Nothing else was passed.
abbrev pub ArePassed : {L T : Type 0} → LogOutput L T → T → T → List (Reply × L) → Option (Reply × L) → Type 0
ArePassed o old new turns None = o.told old new turns
ArePassed o old new turns (Some last) =
    o.broken_off old new turns last ⊎ IsToldOrPart o old new turns (media_for last.0, last.1)
