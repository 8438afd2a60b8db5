-- What one more message counts in a run, and what it is told.
use Rattle.std.proofs.Common.{◌≡◌, ◌+◌, ℕ, Bool, true, false, List, [], ◌∷◌, ◌++◌, Option, Some, None, refl, sym, ◌∙◌}
use Rattle.std.proofs.Common.{ap, arith, append_assoc, append-nil}
use Rattle.std.specs.Prelude.{if◌then◌else◌, is_some}
use Rattle.std.proofs.lemmas.Grind.{flat_map-append}
use Rattle.host_session.proofs.lemmas.Held.{start}
use Rattle.request_cards.specs.declared.reply.Reply.{Reply}
use Rattle.request_cards.specs.declared.reply.Reply.TheVariants.{Cut}
use Rattle.request_cards.specs.Requests.{Ask}
use Rattle.request_cards.specs.Ledgers.{Start, State, plain, reply_in, after_message}
use Rattle.request_cards.specs.Reading.{request_of}
use Rattle.request_cards.proofs.Plain.{plain_more}
use Rattle.host_session.specs.events.Counted.{IsCounted, MayCount, NoneGotMedia, after_all, all_of, answer, answers}
use Rattle.host_session.specs.events.Events.{Message}
use Rattle.host_session.specs.runs.Runs.{blamed}
use Rattle.host_session.specs.session.Handling.{media}
use Rattle.host_session.specs.shop.Shop.{Shop, start_of, with_state}

-- what one more message counts goes to the end
pub counted_more : (start : Start) (before : List Ask) (ms : List Message) (fs : List Bool) (cs : List (List Ask))
    (m : Message) (f : Bool) (c : List Ask)
    → IsCounted start before ms fs cs → MayCount start.top (plain start (before ++ all_of cs)) (request_of m.bytes)
    m.cut_after f c
    → IsCounted start before (ms ++ m ∷ []) (fs ++ f ∷ []) (cs ++ c ∷ [])
counted_more start before [] [] [] m f c h k = (rw append-nil at k, tt)
counted_more start before (n ∷ ms) (g ∷ fs) (d ∷ cs) m f c h k =
    (h.0, counted_more start (before ++ d) ms fs cs m f c h.1 (rw append_assoc k))
counted_more start before [] [] (d ∷ cs) m f c h k = absurd h
counted_more start before [] (g ∷ fs) cs m f c h k = absurd h
counted_more start before (n ∷ ms) [] cs m f c h k = absurd h
counted_more start before (n ∷ ms) (g ∷ fs) [] m f c h k = absurd h

-- and so does its reply
answers_more : (start : Start) (before : List Ask) (ms : List Message) (fs : List Bool) (cs : List (List Ask))
    (m : Message) (f : Bool) (c : List Ask)
    → IsCounted start before ms fs cs
    → answers start before (ms ++ m ∷ []) (fs ++ f ∷ []) (cs ++ c ∷ []) ≡ answers start before ms fs cs ++ answer start
    (plain start (before ++ all_of cs)) m f ∷ []
answers_more start before [] [] [] m f c h = ap (λ b. answer start (plain start b) m f ∷ []) (sym (append-nil before))
answers_more start before (n ∷ ms) (g ∷ fs) (d ∷ cs) m f c h =
    ap (λ rs. answer start (plain start before) n g ∷ rs) (answers_more start (before ++ d) ms fs cs m f c h.1
    ∙ ap (λ b. answers start (before ++ d) ms fs cs ++ answer start (plain start b) m f ∷ [])
    (append_assoc before d (all_of cs)))
answers_more start before [] [] (d ∷ cs) m f c h = absurd h
answers_more start before [] (g ∷ fs) cs m f c h = absurd h
answers_more start before (n ∷ ms) [] cs m f c h = absurd h
answers_more start before (n ∷ ms) (g ∷ fs) [] m f c h = absurd h

pub answered_more : (ms : List Message) (fs : List Bool) (m : Message) (f : Bool) → NoneGotMedia ms fs
    → (m.cut_after ≡ None → f ≡ false)
    → NoneGotMedia (ms ++ m ∷ []) (fs ++ f ∷ [])
answered_more [] [] m f h k = (k, tt)
answered_more (n ∷ ms) (g ∷ fs) m f h k = (h.0, answered_more ms fs m f h.1 k)
answered_more [] (g ∷ fs) m f h k = absurd h
answered_more (n ∷ ms) [] m f h k = absurd h

pub blamed_more : (fs : List Bool) (f : Bool) → blamed (fs ++ f ∷ []) ≡ blamed fs + (if f then 1 else 0)
blamed_more [] true = refl
blamed_more [] false = refl
blamed_more (g ∷ fs) f = ap (λ n. (if g then 1 else 0) + n) (blamed_more fs f)
    ∙ +-assoc' (if g then 1 else 0) (blamed fs) (if f then 1 else 0)
  where
    +-assoc' : (x y z : ℕ) → x + (y + z) ≡ x + y + z
    +-assoc' x y z = omega arith

-- the state after one more part
plain_part : (start : Start) (before c : List Ask) → plain start (before ++ c) ≡ after_all start (plain start before) c
plain_part start before [] = ap (plain start) (append-nil before)
plain_part start before (a ∷ c) =
    ap (plain start) (sym (append_assoc before (a ∷ []) c))
    ∙ plain_part start (before ++ a ∷ []) c
    ∙ ap (λ state. after_all start state c) (plain_more start before a)

all_more : (cs : List (List Ask)) (c : List Ask) → all_of (cs ++ c ∷ []) ≡ all_of cs ++ c
all_more cs c = flat_map-append (λ (x : List Ask). x) cs (c ∷ []) ∙ ap (λ xs. all_of cs ++ xs) (append-nil c)

pub state_more : (start : Start) (cs : List (List Ask)) (c : List Ask)
    → plain start (all_of (cs ++ c ∷ [])) ≡ after_all start (plain start (all_of cs)) c
state_more start cs c = ap (plain start) (all_more cs c) ∙ plain_part start (all_of cs) c

-- a session goes on from the state that it found: the limits of the start alone count
pub goes_on : (s : Shop) (state : State) (o : Option Ask)
    → after_message (start_of (with_state s state)) state o ≡ after_message (start_of s) state o
goes_on s state None = refl
goes_on s state (Some a) = refl

replies_on : (s : Shop) (state : State) (m : Message) (f : Bool)
    → answer (start_of (with_state s state)) state m f ≡ answer (start_of s) state m f
replies_on s state m f = pick (request_of m.bytes)
  where
    pick : (o : Option Ask)
        → (if is_some m.cut_after then Cut else (if f then media o else reply_in (start_of (with_state s state)) state
        o))
        ≡ (if is_some m.cut_after then Cut else (if f then media o else reply_in (start_of s) state o))
    pick None = refl
    pick (Some a) = refl

-- what was told, with the reply to one message more
pub told_more : (s : Shop) (ms : List Message) (m : Message) (told : List Reply) (reply : Reply) (f : Bool)
    (c : List Ask)
    (fs : List Bool) (cs : List (List Ask))
    → told ≡ answers (start_of s) [] ms fs cs → IsCounted (start_of s) [] ms fs cs
    → reply ≡ answer (start_of (with_state s (plain (start_of s) (all_of cs)))) (plain (start_of s) (all_of cs)) m f
    → told ++ reply ∷ [] ≡ answers (start_of s) [] (ms ++ m ∷ []) (fs ++ f ∷ []) (cs ++ c ∷ [])
told_more s ms m told reply f c fs cs is counted so =
    ap (λ (rs : List Reply). rs ++ reply ∷ []) is
    ∙ ap (λ r. answers (start_of s) [] ms fs cs ++ r ∷ []) (so ∙ replies_on s (plain (start_of s) (all_of cs)) m f)
    ∙ sym (answers_more (start_of s) [] ms fs cs m f c counted)
