-- One reply more, written on a line of its own.
use Rattle.std.proofs.Common.{◌≡◌, ℕ, ◌+◌, List, [], ◌∷◌, ◌++◌, Option, Some, None, refl, subst, sym, ◌∙◌, ap}
use Rattle.std.proofs.Common.{append_assoc, append-nil}
use Rattle.std.proofs.lemmas.List.{map-append}
use Rattle.std.specs.Prelude.{IsSome, codes, if◌then◌else◌, is_none, option_map, option_to_list}
use Rattle.std.specs.Io.KnownBytes.{Appends}
use Rattle.std.proofs.KnownBytes.{Appends-trans}
use Rattle.request_cards.specs.Ledgers.{report}
use Rattle.request_cards.specs.Texts.{reply_text}
use Rattle.request_cards.specs.declared.reply.Reply.{Reply}
use Rattle.line_text.specs.declared.scripts.events.Cut.{Cut}
use Rattle.line_text.specs.declared.scripts.events.Event.{Event}
use Rattle.host_session.specs.events.Asking.{messages_in}
use Rattle.host_session.specs.events.Events.{Message, message_in, message_of, messages_of}
use Rattle.host_session.specs.events.Instants.{Instant}
use Rattle.line_text.specs.scripts.Resets.{Line, first_bad, line_in, line_of}

report_more : (told : List Reply) (r : Reply) → report (told ++ r ∷ []) ≡ report told ++ (reply_text r ++ codes "\n")
report_more [] r = append-nil (reply_text r ++ codes "\n")
report_more (x ∷ told) r = ap (λ rs. reply_text x ++ codes "\n" ++ rs) (report_more told r)
    ∙ sym (append_assoc (reply_text x ++ codes "\n") (report told) (reply_text r ++ codes "\n"))

-- an event's message is that of its line
pub same_message : (e : Event) → message_in (line_in e) ≡ message_of e
same_message e = pick e.cut
  where
    pick : (c : Option Cut)
        → message_in (record {
          message = e.message.now;
          reset = option_map (λ (x : Cut). (x.after, x.recoveries.items))
              c;
        }) ≡ record { bytes = e.message.now; cut_after = option_map (λ (x : Cut). x.after) c }
    pick None = refl
    pick (Some c) = refl

-- where no line is bad, each has its event
pub good_line : (line : List ℕ) (ls : List (List ℕ)) → first_bad (line ∷ ls) ≡ None → IsSome (line_of line)
    × (first_bad ls ≡ None)
good_line line ls none = pick (line_of line) (first_bad ls) none
  where
    pick : (l : Option Line) (more : Option ℕ) → (if is_none l then Some 1 else option_map (λ n. n + 1) more) ≡ None
        → IsSome l × (more ≡ None)
    pick None more e = cc
    pick (Some l) None e = (refl, refl)
    pick (Some l) (Some n) e = cc

-- what was written, with one reply more on a line of its own
pub written_more : (a b c : Option (List ℕ)) (told : List Reply) (reply : Reply) → Appends a b (report told)
    → Appends b c (reply_text reply ++ codes "\n")
    → Appends a c (report (told ++ reply ∷ []))
written_more a b c told reply before now =
    subst (Appends a c) (sym (report_more told reply))
    (Appends-trans a b c (report told) (reply_text reply ++ codes "\n") before now)

-- the message of a line that was taken, and the lines behind it
pub line_taken : (ls rest : List (List ℕ)) (line : List ℕ) (m : Message) → ls ≡ line ∷ rest
    → ((l : Line) → line_of line ≡ Some l → message_in l ≡ m) → first_bad ls ≡ None
    → (first_bad rest ≡ None) × (messages_of ls ≡ m ∷ messages_of rest)
line_taken ls rest line m cut is none =
    let good = good_line line rest (subst (λ xs. first_bad xs ≡ None) cut none) in
    (good.1, ap messages_of cut ∙ pick (line_of line) good.0 is)
  where
    pick : (o : Option Line) → IsSome o → ((l : Line) → o ≡ Some l → message_in l ≡ m)
        → option_to_list (option_map message_in o) ++ messages_of rest ≡ m ∷ messages_of rest
    pick None some is = cc
    pick (Some l) some is = ap (λ x. x ∷ messages_of rest) (is l refl)

-- one message more was taken
pub taken_on : (xs : List (Message × Instant)) (all left more : List Message) (m : Message) (i : Instant)
    → all ≡ messages_in xs ++ left → left ≡ m ∷ more → all ≡ messages_in (xs ++ (m, i) ∷ []) ++ more
taken_on xs all left more m i is next =
    is ∙ ap (λ rest. messages_in xs ++ rest) next ∙ sym (append_assoc (messages_in xs) (m ∷ []) more)
    ∙ ap (λ ms. ms ++ more) (sym (map-append (λ x. x.0) xs ((m, i) ∷ [])))
