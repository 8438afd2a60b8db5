-- Each step keeps the list of requests.
use Rattle.host_session.proofs.lemmas.shop.Shops.{IsShop-one}
use Rattle.d64_image.specs.History.{History}
use Rattle.d64_image.specs.Images.{Image}
use Rattle.host_session.specs.Held.{HeldOnly}
use Rattle.host_session.specs.session.Handled.{IsHandled}
use Rattle.host_session.specs.session.Handling.{IsMedia, after_of, media}
use Rattle.host_session.specs.session.Standing.{View}
use Rattle.host_session.specs.shop.Shop.{IsSettled, IsShop, Shop, start_of, with_state}
use Rattle.request_cards.specs.Reading.{request_of}
use Rattle.host_session.specs.session.Opened.{IsOpened, Opened}
use Rattle.shop_life.specs.Lives.{shop_after}
use Rattle.std.proofs.Common.{◌≡◌, ◌∙◌, ◌⊎◌, ℕ, Bool, true, false, List, [], ◌∷◌, ◌++◌, Option, Some, None, Ok, Err}
use Rattle.std.proofs.Common.{ap, append-nil, inl, inr, refl, subst, sym}
use Rattle.std.specs.Prelude.{option_to_list}
use Rattle.request_cards.proofs.Plain.{message_more}
use Rattle.request_cards.specs.declared.reply.Reply.{Reply}
use Rattle.request_cards.specs.Ledgers.{after_message, plain, reply, reply_in}
use Rattle.request_cards.specs.Requests.{Ask}
use Rattle.shop_life.specs.Lives.{IsLife, May, Place, Step, asks_of, disk_at, off, on, opened_at}
use Rattle.shop_life.specs.Lives.{went}
use Rattle.shop_life.specs.Lives.Step.{opens, handles, cut_in_opening, cut_in_message, loses_power, ends, moves}
use Rattle.shop_life.specs.OneList.{IsAfter, IsAnsweredAgain, IsAt, Keeps, KeepAll, NoneOfTill}
use Rattle.shop_life.proofs.Repeats.{counts_no_more, told_so_again}
use Rattle.host_session.proofs.lemmas.session.NextCards.{message-ask}

-- the start of a shop later has the same limits
limits_after : (s : Shop) (before : List Ask) (o : Option Ask)
    → after_message (start_of (shop_after s before)) (plain (start_of s) before) o
    ≡ after_message (start_of s) (plain (start_of s) before) o
limits_after s before None = refl
limits_after s before (Some a) = refl

pub limits_reply : (s : Shop) (before : List Ask) (o : Option Ask)
    → reply_in (start_of (shop_after s before)) (plain (start_of s) before) o ≡ reply (start_of s) before o
limits_reply s before None = refl
limits_reply s before (Some a) = refl

-- a session that is dead isn't one that is alive
dead_alive : {A : Type 0} (b : Bool) → b ≡ true → b ≡ false → A
dead_alive b is not = let e : true ≡ false = sym is ∙ not in cc

-- a reply with the word MEDIA
media_told : (told : Reply) (a : Ask) → told ≡ media (Some a) → IsMedia told
media_told told a e = (a.till, a.number, e)

module _ {D : Type 0} (hist : History D) where
  -- a message more
  pub after_more : (s : Shop) (before : List Ask) (m : List ℕ)
      → after_of (shop_after s before) m ≡ shop_after s (before ++ asks_of (Some m))
  after_more s before m =
      ap (with_state s) (limits_after s before (request_of m) ∙ sym (message_more (start_of s) before (request_of m)))

  -- what the device holds at the end is held
  at_end : (old new : D) (P : Image → Type 0) → HeldOnly hist old new P → P (hist.image new)
  at_end old new P h = h.each (hist.image new) (hist.now new (hist.moment old) h.later)

  same_list : (s : Shop) (before : List Ask) → shop_after s before ≡ shop_after s (before ++ [])
  same_list s before = ap (λ xs. shop_after s xs) (sym (append-nil before))

  -- nothing more counts
  stays_at : (s : Shop) (before : List Ask) (p : Place D) → IsAt hist (shop_after s before) p
      → IsAt hist (shop_after s (before ++ [])) p
  stays_at s before p at = subst (λ t. IsAt hist t p) (same_list s before) at

  opened : (s : Shop) (d : D) (r : Opened D) → IsShop (hist.image d) s → IsOpened hist d r
      → IsAt hist s (opened_at r)
  opened s d (Ok v) shop may = record {
    shop = at_end d v.disk (λ c. IsShop c s) (may.moments s shop).held;
    rests = λ alive. subst (λ t. IsSettled (hist.image v.disk) t)
        (IsShop-one (hist.image d) may.ok.0 s may.ok.1 shop) may.ok.2;
  }
  opened s d (Err e) shop may = record {
    shop = at_end d e.1 (λ c. IsShop c s) (may.moments s shop).held;
    rests = tt;
  }

  step_opens : (s : Shop) (before : List Ask) (d : D) (r : Opened D) → IsAt hist (shop_after s before) (off d)
      → IsOpened hist d r → (n : List Ask) × Keeps hist s before (off d) (opens r) n
  step_opens s before d r at may = (
    [],
    record {
      once = inl refl;
      held = λ c h. inl ((may.moments (shop_after s before) at.shop).held.each c h);
      answered = tt;
      again = tt;
      opens_if_unfailed = λ never. (may.opens never).1 (shop_after s before, at.shop);
      at = stays_at s before (opened_at r) (opened (shop_after s before) d r at.shop may);
    },
  )

  step_cut_opening : (s : Shop) (before : List Ask) (d : D) (r : Opened D) (next : D)
      → IsAt hist (shop_after s before) (off d) → May hist (off d) (cut_in_opening r next)
      → (n : List Ask) × Keeps hist s before (off d) (cut_in_opening r next) n
  step_cut_opening s before d r next at may = (
    [],
    record {
      once = inl refl;
      held = λ c h. inl ((may.0.moments (shop_after s before) at.shop).held.each c h);
      answered = tt;
      again = tt;
      opens_if_unfailed = tt;
      at = stays_at s before (off next) (record {
        shop = (may.0.moments (shop_after s before) at.shop).held.each (hist.image next) may.1;
        rests = tt;
      });
    },
  )

  -- each image held in a message is before or after
  held_in : (s : Shop) (before : List Ask) (v new : View D) (m : List ℕ) (told : Reply)
      → IsShop (hist.image v.disk) (shop_after s before) → IsHandled hist v new m told → (c : Image)
      → hist.held new.disk (hist.moment v.disk) c
      → IsAfter s before c ⊎ IsAfter s (before ++ asks_of (Some m)) c
  held_in s before v new m told shop may c h =
      elim ((may.moments (shop_after s before) shop).held.each c h) [
        | inl x ↦ inl x
        | inr x ↦ inr (subst (λ t. IsShop c t) (after_more s before m) x)
      ]

  step_cut_message : (s : Shop) (before : List Ask) (v : View D) (m : List ℕ) (told : Reply) (new : View D) (next : D)
      → IsAt hist (shop_after s before) (on v) → May hist (on v) (cut_in_message m told new next)
      → (n : List Ask) × Keeps hist s before (on v) (cut_in_message m told new next) n
  step_cut_message s before v m told new next at may =
      elim (held_in s before v new m told at.shop may.0 (hist.image next) may.1) [
        | inl x ↦ (
          [],
          record {
            once = inl refl;
            held = held_in s before v new m told at.shop may.0;
            answered = tt;
            again = tt;
            opens_if_unfailed = tt;
            at = stays_at s before (off next) (record { shop = x; rests = tt });
          },
        )
        | inr x ↦ (
          asks_of (Some m),
          record {
            once = inr refl;
            held = held_in s before v new m told at.shop may.0;
            answered = tt;
            again = tt;
            opens_if_unfailed = tt;
            at = record { shop = x; rests = tt };
          },
        )
      ]

  -- a request that was in the list, asked again, is told the same
  again_of : (s : Shop) (before : List Ask) (m : List ℕ) (told : Reply) (new : View D)
      → told ≡ reply (start_of s) before (request_of m) → IsAnsweredAgain hist s before (handles m told new)
  again_of s before m told new e a first later is parts others not_media =
      let low = (message-ask m a is).number_low in (
        e
            ∙ ap (reply (start_of s) before) is
            ∙ ap (λ xs. reply (start_of s) xs (Some a)) parts
            ∙ told_so_again (start_of s) first later a low others,
        ap (with_state s) (ap (λ xs. plain (start_of s) (xs ++ a ∷ [])) parts
            ∙ counts_no_more (start_of s) first later a low others
            ∙ ap (plain (start_of s)) (sym parts)),
      )

  handles_media : (s : Shop) (before : List Ask) (v : View D) (m : List ℕ) (told : Reply) (new : View D)
      → IsAt hist (shop_after s before) (on v) → IsHandled hist v new m told → IsMedia told → new.dead ≡ true
      → (n : List Ask) × Keeps hist s before (on v) (handles m told new) n
  handles_media s before v m told new at may is dead =
      elim (held_in s before v new m told at.shop may (hist.image new.disk)
      (hist.now new.disk (hist.moment v.disk) (may.moments (shop_after s before) at.shop).held.later)) [
        | inl x ↦ (
          [],
          record {
            once = inl refl;
            held = held_in s before v new m told at.shop may;
            answered = λ not_media. absurd (not_media is);
            again = λ a first later e parts others not_media. absurd (not_media is);
            opens_if_unfailed = tt;
            at = stays_at s before (on new) (record { shop = x; rests = dead_alive new.dead dead });
          },
        )
        | inr x ↦ (
          asks_of (Some m),
          record {
            once = inr refl;
            held = held_in s before v new m told at.shop may;
            answered = λ not_media. absurd (not_media is);
            again = λ a first later e parts others not_media. absurd (not_media is);
            opens_if_unfailed = tt;
            at = record { shop = x; rests = dead_alive new.dead dead };
          },
        )
      ]

  -- a dead session answers only what is not_media request
  from_dead : (s : Shop) (before : List Ask) (m : List ℕ) (told : Reply) (o : Option Ask) → request_of m ≡ o
      → told ≡ media o → ¬ (IsMedia told)
      → (told ≡ reply (start_of s) before (request_of m)) × (asks_of (Some m) ≡ [])
  from_dead s before m told None is e not_media = (
    subst (λ x. told ≡ reply (start_of s) before x) (sym is) e,
    ap option_to_list is,
  )
  from_dead s before m told (Some a) is e not_media = absurd (not_media (media_told told a e))

  handles_answer : (s : Shop) (before : List Ask) (v : View D) (m : List ℕ) (told : Reply) (new : View D) (b : Bool)
      → v.dead ≡ b → IsAt hist (shop_after s before) (on v) → IsHandled hist v new m told → ¬ (IsMedia told)
      → (n : List Ask) × Keeps hist s before (on v) (handles m told new) n
  handles_answer s before v m told new true is at may not_media =
      let d = may.dead is in
      let f = from_dead s before m told (request_of m) refl d.0 not_media in (
        asks_of (Some m),
        record {
          once = inr refl;
          held = held_in s before v new m told at.shop may;
          answered = λ not_media. (f.0, refl);
          again = again_of s before m told new f.0;
          opens_if_unfailed = tt;
          at = subst (λ xs. IsAt hist (shop_after s (before ++ xs)) (on new)) (sym f.1)
              (stays_at s before (on new) (subst (λ w. IsAt hist (shop_after s before) (on w)) (sym d.1) at));
        },
      )
  handles_answer s before v m told new false is at may not_media =
      let r = may.reply (shop_after s before) at.shop is not_media in
      let settled = subst (λ t. IsSettled (hist.image new.disk) t) (after_more s before m) r.1 in (
        asks_of (Some m),
        record {
          once = inr refl;
          held = held_in s before v new m told at.shop may;
          answered = λ not_media. (r.0 ∙ limits_reply s before (request_of m), refl);
          again = again_of s before m told new (r.0 ∙ limits_reply s before (request_of m));
          opens_if_unfailed = tt;
          at = record {
            shop = settled.shop;
            rests = λ alive. settled;
          };
        },
      )

  step_handles : (s : Shop) (before : List Ask) (v : View D) (m : List ℕ) (told : Reply) (new : View D)
      → IsAt hist (shop_after s before) (on v) → IsHandled hist v new m told
      → (n : List Ask) × Keeps hist s before (on v) (handles m told new) n
  step_handles s before v m told new at may = elim may.failures [
    | inl x ↦ handles_media s before v m told new at may x.0 x.1
    | inr x ↦ handles_answer s before v m told new v.dead refl at may x.0
  ]

  -- between calls the disk holds what it holds
  step_loses : (s : Shop) (before : List Ask) (p : Place D) (next : D) → IsAt hist (shop_after s before) p
      → hist.held (disk_at p) (hist.moment (disk_at p)) (hist.image next)
      → (n : List Ask) × Keeps hist s before p (loses_power next) n
  step_loses s before p next at may = (
    [],
    record {
      once = inl refl;
      held = λ c h. inl (subst (λ i. IsShop i (shop_after s before)) (sym (hist.only_now (disk_at p) c h)) at.shop);
      answered = tt;
      again = tt;
      opens_if_unfailed = tt;
      at = stays_at s before (off next) (record {
        shop = subst (λ i. IsShop i (shop_after s before))
            (sym (hist.only_now (disk_at p) (hist.image next) may)) at.shop;
        rests = tt;
      });
    },
  )

  step_ends : (s : Shop) (before : List Ask) (v : View D) → IsAt hist (shop_after s before) (on v)
      → (n : List Ask) × Keeps hist s before (on v) ends n
  step_ends s before v at = (
    [],
    record {
      once = inl refl;
      held = λ c h. inl (subst (λ i. IsShop i (shop_after s before)) (sym (hist.only_now v.disk c h)) at.shop);
      answered = tt;
      again = tt;
      opens_if_unfailed = tt;
      at = stays_at s before (off v.disk) (record { shop = at.shop; rests = tt });
    },
  )

  -- the disk came elsewhere
  step_moves : (s : Shop) (before : List Ask) (d next : D) → IsAt hist (shop_after s before) (off d)
      → May hist (off d) (moves next) → (n : List Ask) × Keeps hist s before (off d) (moves next) n
  step_moves s before d next at may = (
    [],
    record {
      once = inl refl;
      held = λ c h. inl (subst (λ i. IsShop i (shop_after s before)) (sym (hist.only_now d c h)) at.shop);
      answered = tt;
      again = tt;
      opens_if_unfailed = tt;
      at = stays_at s before (off next) (record { shop = may.0 (shop_after s before) at.shop; rests = tt });
    },
  )

  pub step : (s : Shop) (before : List Ask) (p : Place D) (x : Step D) → IsAt hist (shop_after s before) p → May hist p x
      → (n : List Ask) × Keeps hist s before p x n
  step s before (off d) (opens r) at may = step_opens s before d r at may
  step s before (off d) (handles m told new) at may = absurd may
  step s before (off d) (cut_in_opening r next) at may = step_cut_opening s before d r next at may
  step s before (off d) (cut_in_message m told new next) at may = absurd may
  step s before (off d) (loses_power next) at may = step_loses s before (off d) next at may
  step s before (off d) ends at may = absurd may
  step s before (off d) (moves next) at may = step_moves s before d next at may
  step s before (on v) (opens r) at may = absurd may
  step s before (on v) (handles m told new) at may = step_handles s before v m told new at may
  step s before (on v) (cut_in_opening r next) at may = absurd may
  step s before (on v) (cut_in_message m told new next) at may = step_cut_message s before v m told new next at may
  step s before (on v) (loses_power next) at may = step_loses s before (on v) next at may
  step s before (on v) ends at may = step_ends s before v at
  step s before (on v) (moves next) at may = absurd may

  -- and so do all
  pub kept : (s : Shop) (before : List Ask) (p : Place D) (xs : List (Step D)) → IsAt hist (shop_after s before) p
      → IsLife hist p xs → (counts : List (List Ask)) × KeepAll hist s before p xs counts
  kept s before p [] at life = ([], tt)
  kept s before p (x ∷ xs) at life =
      let first = step s before p x at life.0 in
      let rest = kept s (before ++ first.0) (went p x) xs first.1.at life.1 in
      (first.0 ∷ rest.0, (first.1, rest.1))
