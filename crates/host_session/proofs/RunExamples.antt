-- Worked runs with resets, computed by the checker. Each is named by what it shows.
use Rattle.std.proofs.Common.{◌≡◌, inl, inr, ℕ, Bool, false, List, [], ◌∷◌, refl}
use Rattle.std.specs.Prelude.{codes}
use Rattle.std.specs.Fmt.{digits}
use Rattle.request_cards.specs.declared.kind.Kind.TheVariants.{Receive, Issue, Set}
use Rattle.request_cards.specs.Requests.{Ask}
use Rattle.request_cards.specs.Reading.{kind_of, kind_before, amounts, request_of}
use Rattle.line_text.specs.Numbers.{number_in, number_before}
use Rattle.request_cards.specs.Ledgers.{Start, nothing, plain, report}
use Rattle.host_session.specs.events.Counted.{IsCounted, answers}
use Rattle.host_session.specs.events.Events.{messages_of}
use Rattle.line_text.specs.scripts.Lines.{lines}
use Rattle.line_text.specs.scripts.Resets.{reset_of}

abbrev pub two_tills : Start
two_tills = record { state = nothing; tills = 2; top = 9256 }

abbrev pub receive : ℕ → Ask
receive q = record { till = 1; number = 1; body = record { kind = Receive; item = 7; quantity = q; to = 0 } }

abbrev pub set : Ask
set = record { till = 1; number = 1; body = record { kind = Set; item = 1; quantity = 5; to = 0 } }

abbrev pub issue : Ask
issue = record { till = 2; number = 1; body = record { kind = Issue; item = 1; quantity = 5; to = 0 } }

-- what the program writes, for what counts of each line
abbrev pub told : List ℕ → List Bool → List (List Ask) → List ℕ
told script fails counted = report (answers two_tills [] (messages_of (lines script)) fails counted)

abbrev pub AreCounted : List ℕ → List Bool → List (List Ask) → Type 0
AreCounted script fails counted = IsCounted two_tills [] (messages_of (lines script)) fails counted

-- power goes before the first write: the message never was
pub cut_at_none_counts_not : told (codes "@0 1,1,R,7,5\n1,1,R,7,6\n") (false ∷ false ∷ [])
    ([] ∷ (receive 6 ∷ []) ∷ []) ≡ codes "CUT\n1,1,NO CARD\n"
unfolding reset_of request_of number_before kind_before number_in amounts kind_of plain digits
cut_at_none_counts_not = refl

pub and_may_not_count : AreCounted (codes "@0 1,1,R,7,5\n") (false ∷ []) ((receive 5 ∷ []) ∷ []) → ⊥
unfolding reset_of request_of number_before kind_before number_in amounts kind_of plain digits
and_may_not_count x = let e : receive 5 ∷ [] ≡ [] = x.0 in cc

-- its answer is kept with one write: the number is used up
pub refused_request_counts_once_written : told (codes "@1 1,1,R,7,5\n1,1,R,7,6\n1,1,R,7,5\n")
    (false ∷ false ∷ false ∷ [])
    ((receive 5 ∷ []) ∷ (receive 6 ∷ []) ∷ (receive 5 ∷ []) ∷ []) ≡ codes "CUT\n1,1,CLASH\n1,1,NO CARD\n"
unfolding reset_of request_of number_before kind_before number_in amounts kind_of plain digits
refused_request_counts_once_written = refl

pub and_may_not_drop_out : AreCounted (codes "@1 1,1,R,7,5\n") (false ∷ []) ([] ∷ []) → ⊥
unfolding reset_of request_of number_before kind_before number_in amounts kind_of plain digits
and_may_not_drop_out x = let e : [] ≡ receive 5 ∷ [] = x.0 in cc

-- a first set cut early may have counted, or not
pub first_set_counted : told (codes "@1 1,1,S,1,5\n2,1,I,1,5\n1,1,S,1,5\n") (false ∷ false ∷ false ∷ [])
    ((set ∷ []) ∷ (issue ∷ []) ∷ (set ∷ []) ∷ [])
    ≡ codes "CUT\n2,1,DONE,0\n1,1,DONE,5\n"
unfolding reset_of request_of number_before kind_before number_in amounts kind_of plain digits
first_set_counted = refl

pub first_set_not_counted : told (codes "@1 1,1,S,1,5\n2,1,I,1,5\n1,1,S,1,5\n") (false ∷ false ∷ false ∷ [])
    ([] ∷ (issue ∷ []) ∷ (set ∷ []) ∷ [])
    ≡ codes "CUT\n2,1,NO CARD\n1,1,DONE,5\n"
unfolding reset_of request_of number_before kind_before number_in amounts kind_of plain digits
first_set_not_counted = refl

pub both_are_allowed : AreCounted (codes "@1 1,1,S,1,5\n") (false ∷ []) ((set ∷ []) ∷ [])
    × AreCounted (codes "@1 1,1,S,1,5\n") (false ∷ []) ([] ∷ [])
unfolding reset_of request_of number_before kind_before number_in amounts kind_of plain digits
both_are_allowed = ((inl refl, tt), (inr refl, tt))

-- past all its writes it has counted
pub late_cut_may_not_drop_out : AreCounted (codes "@3619 1,1,S,1,5\n") (false ∷ []) ([] ∷ []) → ⊥
unfolding reset_of request_of number_before kind_before number_in amounts kind_of plain digits
late_cut_may_not_drop_out x = let e : [] ≡ set ∷ [] = x.0 in cc

-- an answered message may not drop out, whatever the device did
pub answered_may_not_drop_out : AreCounted (codes "1,1,R,7,5\n") (false ∷ []) ([] ∷ []) → ⊥
unfolding reset_of request_of number_before kind_before number_in amounts kind_of plain digits
answered_may_not_drop_out x = let e : [] ≡ receive 5 ∷ [] = x.0 in cc

-- any message may be cut, one outside the grammar and the empty one too
pub any_message_may_be_cut : told (codes "@3 x\n@9 \n") (false ∷ false ∷ []) ([] ∷ [] ∷ []) ≡ codes "CUT\nCUT\n"
unfolding reset_of request_of number_before kind_before number_in amounts kind_of plain digits
any_message_may_be_cut = refl
