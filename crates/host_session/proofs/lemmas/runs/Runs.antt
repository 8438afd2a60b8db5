-- A run, event by event.
use Rattle.std.proofs.Common.{◌≡◌, ◌≢◌, ◌≤◌, ⊎_elim, Bool, true, false, List, [], ◌∷◌, ◌++◌, refl, sym, subst, ◌∙◌, ap}
use Rattle.std.proofs.Common.{arith, append_assoc, append-nil}
use Rattle.std.specs.Prelude.{option_to_list}
use Rattle.d64_image.specs.Images.{Image}
use Rattle.d64_image.specs.History.{History, Failed}
use Rattle.host_session.specs.Held.{HeldOnly}
use Rattle.host_session.proofs.lemmas.Held.{then, weaker}
use Rattle.request_cards.specs.declared.reply.Reply.{Reply}
use Rattle.request_cards.specs.Ledgers.{plain}
use Rattle.request_cards.specs.Reading.{request_of}
use Rattle.request_cards.proofs.Plain.{plain_nil}
use Rattle.host_session.proofs.lemmas.events.Parts.{after_whole, whole_counts}
use Rattle.host_session.proofs.lemmas.runs.Totals.{sums_counted}
use Rattle.host_session.specs.events.Counted.{after_all, all_of}
use Rattle.host_session.specs.events.Events.{Message}
use Rattle.host_session.specs.events.OneEvent.{EndsFailed, GoesOn, IsEvent, IsInEvent}
use Rattle.host_session.specs.runs.Runs.{HeldBeginnings, IsBlamed, IsPlayedWhole, IsSomeBeginning, StoppedByDevice}
use Rattle.host_session.specs.runs.Runs.{StoppedByOutput}
use Rattle.host_session.specs.shop.Shop.{IsSettled, IsShop, Shop, start_of, with_state}
use Rattle.host_session.proofs.lemmas.runs.OneMore.{answered_more, blamed_more, counted_more, goes_on, state_more}
use Rattle.host_session.proofs.lemmas.runs.OneMore.{told_more}

module _ {D : Type 0} (h : History D) where
  -- blame for earlier failures stands
  blame_later : (old mid new : D) (fs : List Bool) → IsBlamed h old mid fs → h.failures mid ≤ h.failures new
      → IsBlamed h old new fs
  blame_later old mid new fs blame later = λ lt. omega (arith, blame (omega (arith, later, lt)), later)

  blame_more : (old mid new : D) (fs : List Bool) (f : Bool) → IsBlamed h old mid fs → h.failures mid ≤ h.failures new
      → (f ≡ true → Failed h mid new)
      → IsBlamed h old new (fs ++ f ∷ [])
  blame_more old mid new fs false blame later failed =
      λ lt. omega (arith, blame (omega (arith, later, lt)), later, blamed_more fs false)
  blame_more old mid new fs true blame later failed =
      λ lt. omega (arith, blame (omega (arith, later, lt)), (failed refl).rose lt, blamed_more fs true)

  -- a beginning of these messages is one of more
  begins_more : (s : Shop) (ms : List Message) (m : Message) (old mid new : D) (i : Image)
      → h.failures mid ≤ h.failures new
      → IsSomeBeginning s ms (IsBlamed h old mid) i → IsSomeBeginning s (ms ++ m ∷ []) (IsBlamed h old new) i
  begins_more s ms m old mid new i later x = record {
    begun = x.begun;
    rest = x.rest ++ m ∷ [];
    parts = sym (append_assoc x.begun x.rest (m ∷ [])) ∙ ap (λ xs. xs ++ m ∷ []) x.parts;
    fails = x.fails;
    counted = x.counted;
    is = x.is;
    whole = x.whole;
    blame = blame_later old mid new x.fails x.blame later;
    shop = x.shop;
  }

  -- an image on the way through the next event is one of a beginning
  way_begins : (s : Shop) (ms : List Message) (m : Message) (old mid new : D) (told : List Reply) (i : Image)
      → h.failures mid ≤ h.failures new
      → (p : IsPlayedWhole h s ms old mid told)
      → IsInEvent (with_state s (plain (start_of s) (all_of p.counted))) m i
      → IsSomeBeginning s (ms ++ m ∷ []) (IsBlamed h old new) i
  way_begins s ms m old mid new told i later p = ⊎_elim
      (λ before. record {
        begun = ms;
        rest = m ∷ [];
        parts = refl;
        fails = p.fails;
        counted = p.counted;
        is = p.is;
        whole = p.whole;
        blame = blame_later old mid new p.fails p.blame later;
        shop = before;
      })
      (λ after. record {
        begun = ms ++ m ∷ [];
        rest = [];
        parts = append-nil (ms ++ m ∷ []);
        fails = p.fails ++ false ∷ [];
        counted = p.counted ++ option_to_list (request_of m.bytes) ∷ [];
        is = counted_more (start_of s) [] ms p.fails p.counted m false (option_to_list (request_of m.bytes)) p.is
            (whole_counts s.top (plain (start_of s) (all_of p.counted)) (request_of m.bytes) m.cut_after false after.0);
        whole = answered_more ms p.fails m false p.whole (λ e. refl);
        blame = blame_more old mid new p.fails false p.blame later (λ e. cc);
        shop = subst (λ state. IsShop i (with_state s state))
            (sym (state_more (start_of s) p.counted (option_to_list (request_of m.bytes))
            ∙ after_whole (start_of s) (plain (start_of s) (all_of p.counted)) (request_of m.bytes)
            ∙ sym (goes_on s (plain (start_of s) (all_of p.counted)) (request_of m.bytes))))
            after.1;
      })

  -- these messages were played whole, with every moment of it
  abbrev pub HasPlayed : Shop → List Message → D → D → List Reply → Type 0
  HasPlayed s ms old new told = IsPlayedWhole h s ms old new told × HeldBeginnings h s ms old new

  -- the shop on which the next message finds itself
  abbrev pub now_of : (s : Shop) (ms : List Message) (old new : D) (told : List Reply) → HasPlayed s ms old new told
      → Shop
  now_of s ms old new told p = with_state s (plain (start_of s) (all_of p.0.counted))

  -- before the first message
  pub held_none : (s : Shop) (messages : List Message) (old new : D) → HeldOnly h old new (λ i. IsShop i s)
      → h.failures old ≤ h.failures new
      → HeldBeginnings h s messages old new
  held_none s messages old new held later =
      weaker h old new (λ i. IsShop i s) (IsSomeBeginning s messages (IsBlamed h old new)) (λ i x. record {
        begun = [];
        rest = messages;
        parts = refl;
        fails = [];
        counted = [];
        is = tt;
        whole = tt;
        blame = λ lt. omega (arith, later);
        shop = subst (λ state. IsShop i (with_state s state)) (sym (plain_nil (start_of s))) x;
      }) held

  -- nothing has been played
  pub none_played : (s : Shop) (old new : D) → HeldOnly h old new (λ i. IsShop i s) → h.failures old ≤ h.failures new
      → IsSettled (h.image new) s
      → HasPlayed s [] old new []
  none_played s old new held later settled = (
    record {
      fails = [];
      counted = [];
      is = tt;
      whole = tt;
      blame = λ lt. omega (arith, later);
      told_is = refl;
      sums = sums_counted (start_of s) [] [] [] tt;
      ends = subst (λ state. IsSettled (h.image new) (with_state s state)) (sym (plain_nil (start_of s))) settled;
    },
    held_none s [] old new held later,
  )

  -- the moments, with those of one message more
  moments_more : (s : Shop) (ms : List Message) (m : Message) (old mid new : D) (told : List Reply)
      → h.failures mid ≤ h.failures new
      → (p : HasPlayed s ms old mid told) → HeldOnly h mid new (IsInEvent (now_of s ms old mid told p) m)
      → HeldBeginnings h s (ms ++ m ∷ []) old new
  moments_more s ms m old mid new told later p held =
      (then) h old mid new (IsSomeBeginning s (ms ++ m ∷ []) (IsBlamed h old new))
      (weaker h old mid (IsSomeBeginning s ms (IsBlamed h old mid))
      (IsSomeBeginning s (ms ++ m ∷ []) (IsBlamed h old new))
      (λ i x. begins_more s ms m old mid new i later x) p.1)
      (weaker h mid new (IsInEvent (now_of s ms old mid told p) m)
      (IsSomeBeginning s (ms ++ m ∷ []) (IsBlamed h old new))
      (λ i x. way_begins s ms m old mid new told i later p.0 x) held)

  -- one message more
  pub one_played : (s : Shop) (ms : List Message) (m : Message) (old mid new : D) (told : List Reply) (reply : Reply)
      → (p : HasPlayed s ms old mid told)
      → IsEvent h (now_of s ms old mid told p) m mid new (GoesOn h (now_of s ms old mid told p) m reply new)
      → HasPlayed s (ms ++ m ∷ []) old new (told ++ reply ∷ [])
  one_played s ms m old mid new told reply p e =
      let w = p.0 in
      let is = counted_more (start_of s) [] ms w.fails w.counted m e.failed e.counted w.is e.is in (
        record {
          fails = w.fails ++ e.failed ∷ [];
          counted = w.counted ++ e.counted ∷ [];
          is = is;
          whole = answered_more ms w.fails m e.failed w.whole e.ends.answered;
          blame = blame_more old mid new w.fails e.failed w.blame e.later e.blame;
          sums = sums_counted (start_of s) (ms ++ m ∷ []) (w.fails ++ e.failed ∷ []) (w.counted ++ e.counted ∷ []) is;
          told_is = told_more s ms m told reply e.failed e.counted w.fails w.counted w.told_is w.is e.ends.told;
          ends = subst (λ x. IsSettled (h.image new) (with_state s x))
              (sym (state_more (start_of s) w.counted e.counted)) e.ends.settled;
        },
        moments_more s ms m old mid new told e.later p e.moments,
      )

  -- the shop after no message, and after one more
  pub now_none : (s : Shop) (old new : D) (held : HeldOnly h old new (λ i. IsShop i s))
      (later : h.failures old ≤ h.failures new) (settled : IsSettled (h.image new) s)
      → now_of s [] old new [] (none_played s old new held later settled) ≡ s
  unfolding none_played
  now_none s old new held later settled = ap (λ state. with_state s state) (plain_nil (start_of s))

  pub now_more : (s : Shop) (ms : List Message) (m : Message) (old mid new : D) (told : List Reply) (reply : Reply)
      → (p : HasPlayed s ms old mid told)
      → (e : IsEvent h (now_of s ms old mid told p) m mid new (GoesOn h (now_of s ms old mid told p) m reply new))
      → now_of s (ms ++ m ∷ []) old new (told ++ reply ∷ []) (one_played s ms m old mid new told reply p e)
      ≡ with_state (now_of s ms old mid told p) (after_all (start_of (now_of s ms old mid told p))
      (now_of s ms old mid told p).state e.counted)
  unfolding one_played
  now_more s ms m old mid new told reply p e =
      ap (λ state. with_state s state) (state_more (start_of s) p.0.counted e.counted)

  -- moments of a beginning are moments of the whole
  pub held_of_more : (s : Shop) (ms rest all : List Message) (old new : D) → ms ++ rest ≡ all
      → HeldBeginnings h s ms old new → HeldBeginnings h s all old new
  held_of_more s ms rest all old new is held = weaker h old new (IsSomeBeginning s ms (IsBlamed h old new))
      (IsSomeBeginning s all (IsBlamed h old new))
      (λ i x. record {
        begun = x.begun;
        rest = x.rest ++ rest;
        parts = sym (append_assoc x.begun x.rest rest) ∙ ap (λ xs. xs ++ rest) x.parts ∙ is;
        fails = x.fails;
        counted = x.counted;
        is = x.is;
        whole = x.whole;
        blame = x.blame;
        shop = x.shop;
      }) held

  -- one message more of all of them, and it was the last that could be
  pub and_no_more : (s : Shop) (ms rest all : List Message) (old new : D) (told : List Reply) → ms ++ rest ≡ all
      → ms ≢ [] → HasPlayed s ms old new told
      → StoppedByOutput h s all old new told × HeldBeginnings h s all old new
  and_no_more s ms rest all old new told parts some p = (
    record { begun = ms; rest = rest; parts = parts; some = some; played = p.0 },
    held_of_more s ms rest all old new
        parts p.1,
  )

  -- one message more of all of them, in which the device failed
  pub stopped : (s : Shop) (ms rest all : List Message) (m : Message) (old mid new : D) (told : List Reply)
      (reply : Reply)
      → (p : HasPlayed s ms old mid told) → (ms ++ m ∷ []) ++ rest ≡ all
      → IsEvent h (now_of s ms old mid told p) m mid new (EndsFailed h (now_of s ms old mid told p) m reply new)
      → StoppedByDevice h s all old new (told ++ reply ∷ []) × HeldBeginnings h s all old new
  stopped s ms rest all m old mid new told reply p parts e =
      let w = p.0 in
      let is = counted_more (start_of s) [] ms w.fails w.counted m e.failed e.counted w.is e.is in (
        record {
          begun = ms ++ m ∷ [];
          rest = rest;
          parts = parts;
          played = record {
            fails = w.fails ++ e.failed ∷ [];
            counted = w.counted ++ e.counted ∷ [];
            is = is;
            whole = record {
              before = ms;
              last = m;
              answered = w.fails;
              messages_are = refl;
              fails_are = ap (λ f. w.fails ++ f ∷ []) e.ends.is_failed;
              whole = w.whole;
              asked = e.ends.asked;
            };
            blame = blame_more old mid new w.fails e.failed w.blame e.later e.blame;
            sums = sums_counted (start_of s) (ms ++ m ∷ []) (w.fails ++ e.failed ∷ []) (w.counted ++ e.counted ∷ []) is;
            told_is = told_more s ms m told reply e.failed e.counted w.fails w.counted w.told_is w.is e.ends.told;
            ends = subst (λ x. IsShop (h.image new) (with_state s x))
                (sym (state_more (start_of s) w.counted e.counted)) e.ends.shop;
          };
        },
        held_of_more s (ms ++ m ∷ []) rest all old new parts (moments_more s ms m old mid new told e.later p e.moments),
      )

  -- those are the messages that it was replied to
  pub stopped_begun : (s : Shop) (ms rest all : List Message) (m : Message) (old mid new : D) (told : List Reply)
      (reply : Reply) (p : HasPlayed s ms old mid told) (parts : (ms ++ m ∷ []) ++ rest ≡ all)
      (e : IsEvent h (now_of s ms old mid told p) m mid new (EndsFailed h (now_of s ms old mid told p) m reply new))
      → (stopped s ms rest all m old mid new told reply p parts e).0.begun ≡ ms ++ m ∷ []
  unfolding stopped
  stopped_begun s ms rest all m old mid new told reply p parts e = refl
