-- Worked values of what a message does to a shop, computed by the checker. Each is named by what it shows; the numbers
-- of writes are those of a fresh disk, where STOCK has one block with 14 records.
use Rattle.std.proofs.Common.{◌≡◌, ℕ, true, false, List, [], ◌∷◌, ◌++◌, Option, Some, None, replicate, refl, sym, arith}
use Rattle.std.specs.Fmt.{digits}
use Rattle.std.specs.Prelude.{codes}
use Rattle.std.proofs.lemmas.Bool.{false≢true}
use Rattle.d64_image.specs.declared.place.Place.{Place}
use Rattle.d64_image.specs.History.{History}
use Rattle.d64_image.specs.Images.{Image}
use Rattle.disk_layout.specs.Clean.{IsClean}
use Rattle.disk_layout.specs.Layout.{File}
use Rattle.disk_layout.specs.Records.{record_count}
use Rattle.disk_layout.specs.Rest.{Rest}
use Rattle.drive_channels.specs.State.{Seen}
use Rattle.request_cards.specs.declared.answer.Answer.TheVariants as told
use Rattle.request_cards.specs.declared.kind.Kind.TheVariants.{Set, Receive}
use Rattle.request_cards.specs.declared.ledger.Ledger.{Ledger}
use Rattle.request_cards.specs.declared.reply.Reply.TheVariants.{Syntax, Told}
use Rattle.request_cards.specs.declared.reply.Word.TheVariants.{Ahead, Kept, Media}
use Rattle.request_cards.specs.CardTexts.{Card}
use Rattle.request_cards.specs.Ledgers.{Entry, State, nothing, reply_in}
use Rattle.request_cards.specs.Reading.{amounts, kind_before, kind_of, request_of}
use Rattle.line_text.specs.Numbers.{number_before, number_in}
use Rattle.request_cards.specs.Requests.{Ask, Body}
use Rattle.host_session.specs.session.Answering.{after_ask}
use Rattle.host_session.specs.session.Handling.{IsMedia, MayGrow, after_of, card_writes, is_first_set, is_next_request}
use Rattle.host_session.specs.session.Handling.{kept_writes, media, most_writes}
use Rattle.host_session.specs.session.Standing.{IsStanding}
use Rattle.request_cards.specs.Tables.{nth, state_in, told_of}
use Rattle.host_session.specs.shop.Selecting.{IsReady}
use Rattle.host_session.specs.shop.Shop.{IsShop, Shop, start_of}

-- a shop of two tills in this state, with room up to item 9256
abbrev pub two_tills : Rest → State → Shop
two_tills rest state = record { state = state; tills = 2; top = 9256; rest = rest }

abbrev pub seven : Body
seven = record { kind = Set; item = 15; quantity = 7; to = 0 }

-- the first request of till 1, and the till's entry once it is answered
abbrev pub set : Ask
set = record { till = 1; number = 1; body = seven }

abbrev pub set_entry : Entry
set_entry = record { number = 1; body = seven; answer = told.Done 7 }

abbrev pub set_card : Card
set_card = record { version = 2; pending = false; newest = set_entry; second = None }

-- STOCK of a fresh disk: one block, which 14 records fill
abbrev pub fresh_stock : Place → File
fresh_stock p = record {
  slot = record { sector = p; number = 0; bytes = replicate 23 0 ++ 18 ∷ replicate 8 0 };
  blocks = p ∷ [];
  last = 253;
  sides = p ∷ [];
}

-- till 1 asks its first request: it is the next one; its second isn't yet, nor is any of till 3, which there isn't,
-- nor what is no request
pub first_request_is_next : (rest : Rest)
    → (is_next_request (two_tills rest nothing) (request_of (codes "1,1,S,15,7")) ≡ true)
    × ((is_next_request (two_tills rest nothing) (request_of (codes "1,2,S,15,7")) ≡ false)
    × ((is_next_request (two_tills rest nothing) (request_of (codes "3,1,S,15,7")) ≡ false)
    × (is_next_request (two_tills rest nothing) (request_of (codes "hello")) ≡ false)))
unfolding request_of number_before kind_before number_in amounts kind_of digits
first_request_is_next rest = (refl, (refl, (refl, refl)))

-- it leaves the item its quantity and the till its answer, and the limits and the rest as they were
pub set_is_applied : (rest : Rest) → let s = after_of (two_tills rest nothing) (codes "1,1,S,15,7") in
    (s.state.ledger.cards 15 ≡ Some 7) × ((s.state.ledger.cards 14 ≡ None) × ((s.state.ledger.kept 1 ≡ Some set_entry)
    × ((s.state.ledger.kept 2 ≡ None) × ((s.state.prior 1 ≡ None) × ((s.top ≡ 9256) × (s.rest ≡ rest))))))
unfolding request_of number_before kind_before number_in amounts kind_of digits
set_is_applied rest = (refl, (refl, (refl, (refl, (refl, (refl, refl))))))

-- the same message once more, or one out of turn, leaves the shop as it is
pub repeat_changes_nothing : (rest : Rest) → let s = after_of (two_tills rest nothing) (codes "1,1,S,15,7") in
    (after_of s (codes "1,1,S,15,7") ≡ s) × ((after_of s (codes "1,3,I,15,7") ≡ s) × (after_of s (codes "hello") ≡ s))
unfolding request_of number_before kind_before number_in amounts kind_of digits
repeat_changes_nothing rest = (refl, (refl, refl))

-- and is told the kept answer, or that it came too early
pub repeat_is_told_the_answer : (rest : Rest) → let s = after_of (two_tills rest nothing) (codes "1,1,S,15,7") in
    (reply_in (start_of s) s.state (request_of (codes "1,1,S,15,7")) ≡ Told 1 1 (Kept (told.Done 7)))
    × (reply_in (start_of s) s.state (request_of (codes "1,3,I,15,7")) ≡ Told 1 3 Ahead)
unfolding request_of number_before kind_before number_in amounts kind_of digits
repeat_is_told_the_answer rest = (refl, refl)

-- the request that a message is has the same shop after it
pub request_of_the_message : (rest : Rest) → after_of (two_tills rest nothing) (codes "1,1,S,15,7") ≡ after_ask
    (two_tills rest nothing) set
unfolding request_of number_before kind_before number_in amounts kind_of digits
request_of_the_message rest = refl

-- MEDIA names the till and the number of the message; what is no request is told so also where the device fails
pub media_names_the_request : (media (request_of (codes "2,7,I,3,1")) ≡ Told 2 7 Media)
    × (media (request_of (codes "hello")) ≡ Syntax)
unfolding request_of number_before kind_before number_in amounts kind_of digits
media_names_the_request = (refl, refl)

pub media_is_media : IsMedia (Told 2 7 Media)
media_is_media = (2, 7, refl)

-- a set of an item without a card may let STOCK grow; of one that has a card it doesn't, nor past the top, nor does a
-- receipt
pub first_set_may_grow : (is_first_set nothing 9256 set ≡ true)
    × ((is_first_set (state_in (replicate 14 None ++ Some 3 ∷ []) []) 9256 set ≡ false)
    × ((is_first_set nothing 14 set ≡ false)
    × (is_first_set nothing 9256 (record set { body = record seven { kind = Receive } }) ≡ false)))
first_set_may_grow = (refl, (refl, (refl, refl)))

pub what_is_no_request_grows_nothing : (rest : Rest) → ¬ (MayGrow (two_tills rest nothing) (request_of (codes "hello")))
unfolding request_of number_before kind_before number_in amounts kind_of digits
what_is_no_request_grows_nothing rest h = h

-- the card of item 1 lies in one block, that of item 15 in two; a move from the one to the other writes three
pub writes_of_cards : (card_writes ((1, 5) ∷ []) ≡ 1)
    × ((card_writes ((15, 7) ∷ []) ≡ 2) × (card_writes ((1, 5) ∷ (15, 7) ∷ []) ≡ 3))
writes_of_cards = (refl, (refl, refl))

-- an answer alone is one write; item 1, whose record is there, takes intent, card and answer; item 15 growth, intent,
-- both parts of its card, and answer
pub writes_of_answers : (p : Place) → (kept_writes (fresh_stock p) 15 [] ≡ 1)
    × ((kept_writes (fresh_stock p) 1 ((1, 7) ∷ []) ≡ 3)
    × (kept_writes (fresh_stock p) 15 ((15, 7) ∷ []) ≡ 9))
unfolding record_count
writes_of_answers p = (refl, (refl, refl))

-- a set of item 15 makes nine at most; a receipt without a card one; a message out of turn, or of no till, none
pub writes_of_messages : (rest : Rest) (p : Place)
    → (most_writes (two_tills rest nothing) (fresh_stock p) (request_of (codes "1,1,S,15,7")) ≡ 9)
    × ((most_writes (two_tills rest nothing) (fresh_stock p) (request_of (codes "1,1,R,15,7")) ≡ 1)
    × ((most_writes (two_tills rest nothing) (fresh_stock p) (request_of (codes "1,2,S,15,7")) ≡ 0)
    × (most_writes (two_tills rest nothing) (fresh_stock p) (request_of (codes "3,1,S,15,7")) ≡ 0)))
unfolding request_of number_before kind_before number_in amounts kind_of digits record_count
writes_of_messages rest p = (refl, (refl, (refl, refl)))

-- what is kept of till 1, as it is handed out
pub kept_request_is_told : told_of 1 set_entry ≡ (set, told.Done 7)
kept_request_is_told = refl

-- tables count from 1; past their end, and at 0, they hold nothing
abbrev pub quantities_of_three : List (Option ℕ)
quantities_of_three = Some 5 ∷ None ∷ Some 7 ∷ []

pub tables_count_from_1 : (nth quantities_of_three 1 ≡ Some 5) × ((nth quantities_of_three 2 ≡ None)
    × ((nth quantities_of_three 3 ≡ Some 7)
    × ((nth quantities_of_three 4 ≡ None) × (nth quantities_of_three 0 ≡ None))))
tables_count_from_1 = (refl, (refl, (refl, (refl, refl))))

-- the tables of a session hold quantities, last requests and those before
pub tables_hold_a_state : let held = state_in (replicate 14 None ++ Some 7 ∷ [])
    (Some set_card ∷ Some (record set_card { second = Some set_entry }) ∷ []) in
    (held.ledger.cards 15 ≡ Some 7) × ((held.ledger.cards 7 ≡ None) × ((held.ledger.kept 1 ≡ Some set_entry)
    × ((held.prior 1 ≡ None) × ((held.prior 2 ≡ Some set_entry) × (held.ledger.kept 3 ≡ None)))))
tables_hold_a_state = (refl, (refl, (refl, (refl, (refl, refl)))))

-- a dead session stands on a shop whatever its tables hold
pub dead_session_stands : (img : Image) (s : Shop) → IsShop img s → (l : Ledger) → l.top ≡ s.top → l.tills ≡ s.tills
    → IsStanding img true l
dead_session_stands img s shop l top tills = record {
  shop = s;
  is_shop = shop;
  top_is = top;
  tills_is = tills;
  settled = λ e. absurd (false≢true (sym e));
  state_is = λ e. absurd (false≢true (sym e));
}

-- a drive just switched on over a clean disk is ready, and one with another channel open isn't
pub drive_without_a_channel_is_ready : {D : Type 0} (S : History D) (d : Seen D) → d.dead ≡ false
    → IsClean (S.image d.disk)
    → d.channel ≡ None → IsReady S d
drive_without_a_channel_is_ready S d alive clean none = record {
  alive = alive;
  clean = clean;
  free = λ c e. absurd (cc);
}

pub drive_on_channel_3_is_not : {D : Type 0} (S : History D) (d : Seen D)
    → d.channel ≡ Some (record { number = 3; entry = 0; record_number = 1; position = 1 }) → ¬ (IsReady S d)
drive_on_channel_3_is_not S d on ready = let e : 3 ≡ 2 = ready.free _ on in absurd (omega (arith, e))
