-- What the requests that count in a run bring in and take out of all goods.
use Rattle.std.proofs.Common.{◌≡◌, ℕ, Bool, List, [], ◌∷◌, ◌++◌, Option, Some, None, refl, sym, subst, ⊎_elim}
use Rattle.std.specs.Prelude.{All, option_to_list}
use Rattle.std.proofs.lemmas.List.Elements.{All-append, All-cons, All-nil}
use Rattle.request_cards.specs.Requests.{Ask, IsAsk}
use Rattle.request_cards.specs.Ledgers.{Start, plain}
use Rattle.request_cards.specs.Reading.{request_of}
use Rattle.request_cards.specs.Sums.{SumsAgree}
use Rattle.request_cards.proofs.Messages.{request_is}
use Rattle.request_cards.proofs.Sums.{sums_hold}
use Rattle.host_session.proofs.lemmas.events.Parts.{counted_either}
use Rattle.host_session.specs.events.Counted.{IsCounted, all_of}
use Rattle.host_session.specs.events.Events.{Message}

-- a message's request has the ranges of the grammar
asked : (bytes : List ℕ) (o : Option Ask) → request_of bytes ≡ o → All IsAsk (option_to_list o)
asked bytes None is = All-nil IsAsk
asked bytes (Some a) is = All-cons IsAsk a [] (request_is bytes a is).0 (All-nil IsAsk)

-- and so has each request that counts
pub counted_asks : (start : Start) (before : List Ask) (ms : List Message) (fs : List Bool) (cs : List (List Ask))
    → IsCounted start before ms fs cs → All IsAsk (all_of cs)
counted_asks start before [] [] [] h = All-nil IsAsk
counted_asks start before (m ∷ ms) (f ∷ fs) (c ∷ cs) h =
    let own : All IsAsk c = ⊎_elim
    (λ none. subst (λ (x : List Ask). All IsAsk x) (sym none) (All-nil IsAsk))
    (λ whole. subst (λ (x : List Ask). All IsAsk x) (sym whole.1) (asked m.bytes (request_of m.bytes) refl))
    (counted_either start.top (plain start before) (request_of m.bytes) m.cut_after f c h.0) in
    All-append IsAsk c (all_of cs) own (counted_asks start (before ++ c) ms fs cs h.1)
counted_asks start before [] [] (c ∷ cs) h = absurd h
counted_asks start before [] (f ∷ fs) cs h = absurd h
counted_asks start before (m ∷ ms) [] cs h = absurd h
counted_asks start before (m ∷ ms) (f ∷ fs) [] h = absurd h

pub sums_counted : (start : Start) (ms : List Message) (fs : List Bool) (cs : List (List Ask))
    → IsCounted start [] ms fs cs → SumsAgree start (all_of cs)
sums_counted start ms fs cs h = sums_hold start (all_of cs) (counted_asks start [] ms fs cs h)
