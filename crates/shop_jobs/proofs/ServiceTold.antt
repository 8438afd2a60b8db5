-- What was printed to a writer that was lent.
use Rattle.std.proofs.Common.{◌≡◌, ◌∙◌, ◌++◌, ◌∷◌, [], ℕ, List, Option, ap, inl, inr, subst, sym, take}
use Rattle.std.specs.Io.KnownBytes.{Appends}
use Rattle.command_faults.proofs.Parts.{part-all}
use Rattle.host_session.specs.runs.Chains.{told_in}
use Rattle.host_session.specs.runs.Outputs.{line_of}
use Rattle.request_cards.specs.Ledgers.{report}
use Rattle.shop_jobs.proofs.ReplyTold.{cut-lines}
use Rattle.shop_jobs.specs.Replies.{AreReplyLines, IsToldSome, lines_to}
use Rattle.shop_jobs.specs.declared.reply_lines.WatchedReplies.{WatchedReplies}

-- what was passed to a writer that was lent was printed
module _ {W : Type 0} (contents : W → Option (List ℕ)) (old new : WatchedReplies W) (first final : W)
    (begun : old.out.now ≡ first) (back : old.out.ghost_name ≡ new.out.ghost_name → final ≡ new.out.now) where
  pub given-back : (bytes : List ℕ) → new.out.ghost_name ≡ old.out.ghost_name
      → Appends (contents old.out.now) (contents new.out.now) bytes → Appends (contents first) (contents final) bytes
  given-back bytes same printed =
      subst (λ w. Appends (contents w) (contents final) bytes) begun
      (subst (λ w. Appends (contents old.out.now) (contents w) bytes) (sym (back (sym same))) printed)

  pub lent-lines : new ≡ old → final ≡ first
  lent-lines same = back (ap (λ p. p.out.ghost_name) (sym same)) ∙ ap (λ p. p.out.now) same ∙ begun

  pub some-lines : IsToldSome (lines_to contents) old new → AreReplyLines contents first final
  some-lines (inl same) = inl (lent-lines same)
  some-lines (inr (turns, inl (ghost, printed))) =
      inr (told_in turns, part-all _ _ (report (told_in turns)) (given-back (report (told_in turns)) ghost printed))
  some-lines (inr (turns, inr (last, (ghost, (n, printed))))) =
      inr (
        told_in turns ++ last.0 ∷ [],
        cut-lines _ _ (told_in turns) last.0 n
            (given-back (report (told_in turns) ++ take n (line_of last.0)) ghost printed),
      )
