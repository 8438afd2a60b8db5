-- A run without resets: each message has its reply over the messages before it.
use Rattle.std.proofs.Common.{◌≡◌, ◌≢◌, ℕ, Bool, true, false, List, [], ◌∷◌, ◌++◌, Option, Some, None, refl, subst, ◌∙◌}
use Rattle.std.proofs.Common.{ap, ne_eqb}
use Rattle.std.specs.Prelude.{option_to_list, flat_map, map, slice_index}
use Rattle.std.specs.List.{AllByRecursion}
use Rattle.d64_image.specs.History.{History}
use Rattle.request_cards.specs.declared.reply.Reply.{Reply}
use Rattle.request_cards.specs.Requests.{Ask}
use Rattle.request_cards.specs.Ledgers.{Start, State, plain, reply_in, replies}
use Rattle.request_cards.specs.Reading.{request_of}
use Rattle.host_session.specs.events.Counted.{IsCounted, MayCount, NoneGotMedia, all_of, answer, answers}
use Rattle.host_session.specs.events.Events.{HasNoReset, messages_of, requests_of, uncut}
use Rattle.host_session.specs.runs.Runs.{IsPlayedWhole}
use Rattle.host_session.specs.shop.Shop.{IsSettled, Shop, start_of, with_state}
use Rattle.line_text.specs.scripts.Resets.{line_of}

part_whole : (top : ℕ) (state : State) (o : Option Ask) (f : Bool) (c : List Ask) → f ≡ false
    → MayCount top state o None f c → c ≡ option_to_list o
part_whole top state None f c e h = h
part_whole top state (Some a) false c e h = h
part_whole top state (Some a) true c e h = cc

answered_so : (start : Start) (state : State) (bytes : List ℕ) (f : Bool) → f ≡ false
    → answer start state (uncut bytes) f ≡ reply_in start state (request_of bytes)
answered_so start state bytes false e = refl
answered_so start state bytes true e = cc

-- the replies, and what counted
answers_plain : (start : Start) (before : List Ask) (ls : List (List ℕ)) (fs : List Bool) (cs : List (List Ask))
    → IsCounted start before (map uncut ls) fs cs → NoneGotMedia (map uncut ls) fs
    → (answers start before (map uncut ls) fs cs ≡ replies start before ls)
    × (all_of cs ≡ flat_map (λ l. option_to_list (request_of l)) ls)
answers_plain start before [] [] [] h w = (refl, refl)
answers_plain start before [] [] (c ∷ cs) h w = absurd h
answers_plain start before [] (f ∷ fs) cs h w = absurd h
answers_plain start before (l ∷ ls) [] cs h w = absurd h
answers_plain start before (l ∷ ls) (f ∷ fs) [] h w = absurd h
answers_plain start before (l ∷ ls) (f ∷ fs) (c ∷ cs) h w =
    let part = part_whole start.top (plain start before) (request_of l) f c (w.0 refl) h.0 in
    let rest = answers_plain start (before ++ c) ls fs cs h.1 w.1 in (
      ap (λ r. r ∷ answers start (before ++ c) (map uncut ls) fs cs) (answered_so start (plain start before) l f
          (w.0 refl))
          ∙ ap (λ rs. reply_in start (plain start before) (request_of l) ∷ rs) (rest.0
          ∙ ap (λ p. replies start (before ++ p) ls) part),
      ap (λ p. p ++ all_of cs) part ∙ ap (λ xs. option_to_list (request_of l) ++ xs) rest.1,
    )

line_plain : (l : List ℕ) → slice_index l 0 ≢ 64 → line_of l ≡ Some (record { message = l; reset = None })
line_plain [] other = refl
line_plain (b ∷ l) other = rw (ne_eqb b 64 other) refl

-- a script in which no line begins with @
messages_plain : (ls : List (List ℕ)) → AllByRecursion (λ l. slice_index l 0 ≢ 64) ls → messages_of ls ≡ map uncut ls
messages_plain [] all = refl
messages_plain (l ∷ ls) all = rw (line_plain l all.0) (ap (λ ms. uncut l ∷ ms) (messages_plain ls all.1))

-- a script without resets that was played: each line has its reply over the lines before it, and each counts
pub plain_played : {D : Type 0} (h : History D) (s : Shop) (ls : List (List ℕ)) (old new : D) (told : List Reply)
    → HasNoReset ls
    → IsPlayedWhole h s (messages_of ls) old new told
    → (told ≡ replies (start_of s) [] ls) × IsSettled (h.image new) (with_state s (plain (start_of s) (requests_of ls)))
plain_played h s ls old new told none p =
    let all = messages_plain ls none in
    let is = subst (λ ms. IsCounted (start_of s) [] ms p.fails p.counted) all p.is in
    let whole = subst (λ ms. NoneGotMedia ms p.fails) all p.whole in
    let q = answers_plain (start_of s) [] ls p.fails p.counted is whole in (
      p.told_is ∙ ap (λ ms. answers (start_of s) [] ms p.fails p.counted) all ∙ q.0,
      subst (λ xs. IsSettled (h.image new) (with_state s (plain (start_of s) xs))) q.1 p.ends,
    )
