-- What is known of the replies that the outputs of this crate were passed. All of it is our own.
use Rattle.std.specs.Prelude.{◌≡◌, ⊤, ℕ, ◌-◌, List, ◌++◌, Option, Vec, codes, take, vec_capacity, vec_len}
use Rattle.std.proofs.KnownBytes.{Appends-nil}
use Rattle.std.proofs.Common.{append-nil, sym}
use Rattle.std.specs.Io.KnownBytes.{Appends}
use Rattle.std.specs.declared.alloc.Global.{Global}
use Rattle.request_cards.specs.Ledgers.{report}
use Rattle.request_cards.specs.Texts.{reply_text}
use Rattle.request_cards.specs.declared.reply.Reply.{Reply}
use Rattle.host_session.specs.declared.events.printing.PrintedReplies.{PrintedReplies}
use Rattle.host_session.specs.events.Telling.{Output, output_in}
use Rattle.host_session.specs.runs.Chains.{told_in}

-- the writer of a printer
abbrev pub printer_out : {W : Type 0} → PrintedReplies W → W
printer_out p = p.out

-- the line of a reply
abbrev pub line_of : Reply → List ℕ
line_of reply = reply_text reply ++ codes "\n"

-- Replies were written, each on a line of its own. A last one that was broken off is there up to some byte. No contract
-- of a writer says what it buffers.
abbrev pub written : {W : Type 0} → (W → Option (List ℕ)) → Output W
written contents = record {
  told = λ old new turns. Appends (contents old) (contents new) (report (told_in turns));
  broken_off = λ old new turns last. (n : ℕ)
      × Appends (contents old) (contents new) (report (told_in turns) ++ take n (line_of last.0));
  is_handed_on = λ _. ⊤;
  room = λ _. 0;
  none = λ w. Appends-nil (contents w);
}

-- the same for a printer, over its writer
abbrev pub printed : {W : Type 0} → (W → Option (List ℕ)) → Output (PrintedReplies W)
printed contents = output_in printer_out (written contents)

-- Replies were put in a list, after those that it had, and nowhere else.
abbrev pub listed : Output (Vec Reply Global)
listed = record {
  told = λ old new turns. new.items ≡ old.items ++ told_in turns;
  broken_off = λ old new turns last. new.items ≡ old.items ++ told_in turns;
  is_handed_on = λ _. ⊤;
  room = λ v. vec_capacity v - vec_len v;
  none = λ v. sym (append-nil v.items);
}
