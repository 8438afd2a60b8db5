-- Replies that are printed.
use Rattle.std.proofs.Common.{◌≡◌, ◌++◌, ℕ, List, [], ◌∷◌, Ok, Err, Option, refl, sym, subst, ◌∙◌, ap}
use Rattle.std.proofs.Common.{arith, take}
use Rattle.std.specs.Prelude.{OnErr, OnOk, Result}
use Rattle.std.specs.Io.KnownBytes.{Appends}
use Rattle.std.proofs.KnownBytes.{Appends-trans}
use Rattle.request_cards.specs.Ledgers.{report}
use Rattle.request_cards.specs.declared.reply.Reply.{Reply}
use Rattle.host_session.proofs.lemmas.events.Reports.{written_more}
use Rattle.host_session.specs.declared.events.lines.LentReplies.{LentReplies}
use Rattle.host_session.specs.declared.events.printing.PrintedReplies.{PrintedReplies}
use Rattle.host_session.specs.events.Instants.{Instant}
use Rattle.host_session.specs.events.Telling.{IsTold}
use Rattle.host_session.specs.runs.Chains.{told_in}
use Rattle.host_session.specs.runs.Lent.{written_to}
use Rattle.host_session.specs.runs.Outputs.{line_of, printed, printer_out, written}

pub told_more : {X : Type 0} (xs : List (Reply × X)) (x : Reply × X) → told_in (xs ++ x ∷ []) ≡ told_in xs ++ x.0 ∷ []
told_more [] x = refl
told_more (y ∷ xs) x = ap (λ rs. y.0 ∷ rs) (told_more xs x)

-- what a writer was told, by what it took
pub is_written : {W E : Type 0} (contents : W → Option (List ℕ)) (old new : W) (reply : Reply) (i : Instant)
    (r : Result Unit E) → OnOk r (Appends (contents old) (contents new) (line_of reply))
    → OnErr r ((n : ℕ) × Appends (contents old) (contents new) (take n (line_of reply)))
    → IsTold (written contents) old new reply i r
is_written contents old new reply i (Ok x) wrote failed = (
  λ first xs before. subst (λ rs. Appends (contents first) (contents new) (report rs))
      (sym (told_more xs (reply, i)))
      (written_more (contents first) (contents old) (contents new) (told_in xs) reply before wrote),
  omega arith,
)
is_written contents old new reply i (Err x) wrote failed = (
  λ first xs before. (
    failed.0,
    Appends-trans (contents first) (contents old) (contents new) (report (told_in xs)) (take failed.0 (line_of reply))
        before failed.1,
  ),
  refl,
)

-- so a printer, and a writer that is lent
pub is_printed : {W E : Type 0} (contents : W → Option (List ℕ)) (old new : PrintedReplies W) (reply : Reply) (i : Instant)
    (r : Result Unit E) → IsTold (written contents) (printer_out old) (printer_out new) reply i r
    → IsTold (printed contents) old new reply i r
is_printed contents old new reply i (Ok x) told = (λ first xs k. told.0 (printer_out first) xs k, told.1)
is_printed contents old new reply i (Err x) told = (λ first xs k. told.0 (printer_out first) xs k, told.1)

pub is_lent : {W E : Type 0} (contents : W → Option (List ℕ)) (old new : LentReplies W) (reply : Reply) (i : Instant)
    (r : Result Unit E) → new.out.ghost_name ≡ old.out.ghost_name
    → IsTold (written contents) old.out.now new.out.now reply i r → IsTold (written_to contents) old new reply i r
is_lent contents old new reply i (Ok x) same told = (λ first xs k. (same ∙ k.0, told.0 first.out.now xs k.1), told.1)
is_lent contents old new reply i (Err x) same told = (λ first xs k. (same ∙ k.0, told.0 first.out.now xs k.1), told.1)
