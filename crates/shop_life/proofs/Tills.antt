-- Tills over a life: each happening is a step of the world, or none.
use Rattle.d64_image.specs.History.{History}
use Rattle.d64_image.specs.Images.{Image}
use Rattle.host_session.specs.session.Handled.{IsHandled}
use Rattle.host_session.specs.session.Handling.{IsMedia}
use Rattle.host_session.specs.session.Standing.{View}
use Rattle.host_session.specs.shop.Shop.{IsShop, Shop, start_of}
use Rattle.request_cards.specs.Reading.{request_of}
use Rattle.shop_life.specs.Lives.{shop_after}
use Rattle.std.proofs.Common.{◌≡◌, ◌∙◌, ◌⊎◌, ℕ, true, false, List, [], ◌∷◌, ◌++◌, Option, Some, None}
use Rattle.std.proofs.Common.{ap, append-nil, inl, inr, refl, subst, sym}
use Rattle.std.specs.Prelude.{option_to_list, slice_get}
use Rattle.std.proofs.lemmas.List.Sums.{fold-append}
use Rattle.request_cards.proofs.Ends.{ends_hold}
use Rattle.request_cards.specs.declared.reply.Reply.{Reply}
use Rattle.request_cards.specs.declared.reply.Reply.TheVariants.{Cut, Syntax, Told}
use Rattle.request_cards.specs.declared.reply.Word.{Word}
use Rattle.request_cards.specs.declared.reply.Word.TheVariants.{Ahead, Clash, Kept, Media, NoTill, Stale}
use Rattle.request_cards.specs.Ledgers.{Start, reply}
use Rattle.request_cards.specs.Requests.{Ask}
use Rattle.request_cards.specs.Steps as tills
use Rattle.request_cards.specs.Steps.{HoldsAtBothEnds, World, after_reply, after_steps, asked, at_start, if_there, stepped}
use Rattle.request_cards.specs.Steps.{with_till}
use Rattle.shop_life.proofs.Kept.{step}
use Rattle.shop_life.proofs.Later.{begins_at}
use Rattle.shop_life.specs.Lives.{Place, Step, asks_of, message_in, off, on, went}
use Rattle.shop_life.specs.Lives.Step.{opens, handles, cut_in_opening, cut_in_message, loses_power, ends, moves}
use Rattle.shop_life.specs.OneList.{IsAt, Keeps}
use Rattle.shop_life.specs.Tills.{FitAll, Fits, Happening, HoldsAtAllEnds, Scene, answers_of, first_scene, followed, followed_all}
use Rattle.shop_life.specs.Tills.{given_in, told_as, world_of}
use Rattle.shop_life.specs.Tills as happen

media_gives_none : (r : Reply) → IsMedia r → answers_of r ≡ []
media_gives_none r is = ap answers_of is.2

told_one : (t n : ℕ) (w : Word) → ¬ (IsMedia (Told t n w)) → told_as t n w ≡ Told t n w ∷ []
told_one t n Media not = absurd (not (t, n, refl))
told_one t n NoTill not = refl
told_one t n Stale not = refl
told_one t n Clash not = refl
told_one t n Ahead not = refl
told_one t n (Kept a) not = refl

answer_gives_one : (r : Reply) → ¬ (IsMedia r) → answers_of r ≡ r ∷ []
answer_gives_one Syntax not = refl
answer_gives_one Cut not = refl
answer_gives_one (Told t n w) not = told_one t n w not

only_one : (o : Option Ask) (a : Ask) → option_to_list o ≡ a ∷ [] → o ≡ Some a
only_one None a e = cc
only_one (Some b) a e = cc

none_or_one : (n those : List Ask) → (n ≡ []) ⊎ (n ≡ those) → those ≡ [] → n ≡ []
none_or_one n those (inl e) none = e
none_or_one n those (inr e) none = e ∙ none

-- one step more
more : (start : Start) (steps : List tills.Step) (x : tills.Step) (w next : World) → after_steps start steps ≡ w
    → stepped start w x ≡ next → after_steps start (steps ++ x ∷ []) ≡ next
more start steps x w next e f =
    fold-append (stepped start) (at_start start) steps (x ∷ []) ∙ ap (λ v. stepped start v x) e ∙ f

-- what counted makes no difference to tills
there : {A : Type 0} (those : List Ask) (o : Option A) (w : World) (f g : A → World)
    → ((a : A) → g a ≡ record (f a) { counted = those })
    → if_there o (record w { counted = those }) g ≡ record (if_there o w f) { counted = those }
there those None w f g h = refl
there those (Some a) w f g h = h a

delivered : (start : Start) (w : World) (j : ℕ) (a : Ask) → slice_get w.sent j ≡ Some a
    → stepped start w (tills.delivers j)
    ≡ record w { counted = w.counted ++ a ∷ []; given = w.given ++ reply start w.counted (Some a) ∷ [] }
delivered start w j a e = ap (λ o. if_there o w (λ a. record w {
  counted = w.counted ++ a ∷ [];
  given = w.given ++ reply start w.counted (Some a) ∷ [];
})) e

cut_with : (start : Start) (w : World) (j : ℕ) (a : Ask) → slice_get w.sent j ≡ Some a
    → stepped start w (tills.cuts j true) ≡ record w { counted = w.counted ++ a ∷ [] }
cut_with start w j a e = ap (λ o. if_there o w (λ a. record w { counted = w.counted ++ a ∷ [] })) e

cut_without : (start : Start) (w : World) (j : ℕ) (a : Ask) → slice_get w.sent j ≡ Some a
    → stepped start w (tills.cuts j false) ≡ w
cut_without start w j a e = ap (λ o. if_there o w (λ a. w)) e

module _ {D : Type 0} (hist : History D) where
  -- a run of tills that led here
  record Reached (s : Shop) (sc : Scene D) : Type 0 where
    those : List Ask
    steps : List tills.Step
    is : after_steps (start_of s) steps ≡ world_of those sc.talk
    at : IsAt hist (shop_after s those) sc.place

  lives : (s : Shop) (sc : Scene D) (x : Step D) → Reached s sc → Fits hist sc (happen.lives_on x)
      → Reached s (followed (start_of s) sc (happen.lives_on x))
  lives s sc x r fit =
      let k = step hist s r.those sc.place x r.at fit.0 in
      record {
        those = r.those;
        steps = r.steps;
        is = r.is;
        at = subst (λ ys. IsAt hist (shop_after s ys) (went sc.place x))
            (ap (λ ys. r.those ++ ys) (none_or_one k.0 (asks_of (message_in x)) k.1.once fit.1) ∙ append-nil r.those)
            k.1.at;
      }

  -- power was lost in it, or the device failed: whether it counted or not
  cut : (s : Shop) (sc : Scene D) (x : Step D) (j : ℕ) (a : Ask) (n : List Ask) (r : Reached s sc)
      → Keeps hist s r.those sc.place x n → asks_of (message_in x) ≡ a ∷ [] → slice_get sc.talk.sent j ≡ Some a
      → given_in x ≡ [] → Reached s (followed (start_of s) sc (happen.serves j x))
  cut s sc x j a n r keep one sent none = elim keep.once [
    | inl e ↦ record {
      those = r.those ++ n;
      steps = r.steps ++ tills.cuts j false ∷ [];
      is = more (start_of s) r.steps (tills.cuts j false) (world_of r.those sc.talk)
          (world_of (r.those ++ n) (record sc.talk { given = sc.talk.given ++ given_in x })) r.is
          (cut_without (start_of s) (world_of r.those sc.talk) j a sent
          ∙ ap (λ c. record sc.talk { counted = c }) (sym (ap (λ ys. r.those ++ ys) e ∙ append-nil r.those))
          ∙ ap (λ g. record sc.talk { counted = r.those ++ n; given = g })
          (sym (ap (λ ys. sc.talk.given ++ ys) none ∙ append-nil sc.talk.given)));
      at = keep.at;
    }
    | inr e ↦ record {
      those = r.those ++ n;
      steps = r.steps ++ tills.cuts j true ∷ [];
      is = more (start_of s) r.steps (tills.cuts j true) (world_of r.those sc.talk)
          (world_of (r.those ++ n) (record sc.talk { given = sc.talk.given ++ given_in x })) r.is
          (cut_with (start_of s) (world_of r.those sc.talk) j a sent
          ∙ ap (λ c. record sc.talk { counted = r.those ++ c }) (sym (e ∙ one))
          ∙ ap (λ g. record sc.talk { counted = r.those ++ n; given = g })
          (sym (ap (λ ys. sc.talk.given ++ ys) none ∙ append-nil sc.talk.given)));
      at = keep.at;
    }
  ]

  -- it was answered
  answered : (s : Shop) (place : Place D) (talk : World) (m : List ℕ) (told : Reply) (new : View D) (j : ℕ) (a : Ask)
      (n : List Ask) (r : Reached s (record { place = place; talk = talk }))
      → IsAt hist (shop_after s (r.those ++ n)) (on new) → told ≡ reply (start_of s) r.those (request_of m)
      → n ≡ asks_of (Some m) → asks_of (Some m) ≡ a ∷ [] → slice_get talk.sent j ≡ Some a → ¬ (IsMedia told)
      → Reached s (record { place = on new; talk = record talk { given = talk.given ++ answers_of told } })
  answered s place talk m told new j a n r at is counts one sent not = record {
    those = r.those ++ n;
    steps = r.steps ++ tills.delivers j ∷ [];
    is = more (start_of s) r.steps (tills.delivers j) (world_of r.those talk)
        (world_of (r.those ++ n) (record talk { given = talk.given ++ answers_of told })) r.is
        (delivered (start_of s) (world_of r.those talk) j a sent
        ∙ ap (λ c. record talk {
          counted = r.those ++ c;
          given = talk.given ++ reply (start_of s) r.those (Some a) ∷ [];
        }) (sym (counts ∙ one))
        ∙ ap (λ g. record talk { counted = r.those ++ n; given = talk.given ++ g })
        (sym (answer_gives_one told not
        ∙ ap (λ t. t ∷ []) (is ∙ ap (λ o. reply (start_of s) r.those o) (only_one (request_of m) a one)))));
    at = at;
  }

  served_message : (s : Shop) (v : View D) (talk : World) (m : List ℕ) (told : Reply) (new : View D) (j : ℕ)
      (a : Ask) (r : Reached s (record { place = on v; talk = talk })) → IsHandled hist v new m told
      → asks_of (Some m) ≡ a ∷ [] → slice_get talk.sent j ≡ Some a
      → Reached s (followed (start_of s) (record { place = on v; talk = talk }) (happen.serves j (handles m told new)))
  served_message s v talk m told new j a r may one sent =
      let k = step hist s r.those (on v) (handles m told new) r.at may in
      elim may.failures [
        | inl x ↦ cut s (record { place = on v; talk = talk }) (handles m told new) j a k.0 r k.1 one sent
            (media_gives_none told x.0)
        | inr x ↦ let y = k.1.answered x.0 in
            answered s (on v) talk m told new j a k.0 r k.1.at y.0 y.1 one sent x.0
      ]

  served : (s : Shop) (place : Place D) (talk : World) (j : ℕ) (x : Step D)
      → Reached s (record { place = place; talk = talk })
      → Fits hist (record { place = place; talk = talk }) (happen.serves j x)
      → Reached s (followed (start_of s) (record { place = place; talk = talk }) (happen.serves j x))
  served s (on v) talk j (handles m told new) r fit = served_message s v talk m told new j fit.0 r fit.1 fit.2 fit.3
  served s (off d) talk j (handles m told new) r fit = absurd fit.1
  served s p talk j (cut_in_message m told new next) r fit =
      let k = step hist s r.those p (cut_in_message m told new next) r.at fit.1 in
      cut s (record { place = p; talk = talk }) (cut_in_message m told new next) j fit.0 k.0 r k.1 fit.2 fit.3 refl
  served s p talk j (opens o) r fit = let e : [] ≡ fit.0 ∷ [] = fit.2 in cc
  served s p talk j (cut_in_opening o next) r fit = let e : [] ≡ fit.0 ∷ [] = fit.2 in cc
  served s p talk j (loses_power next) r fit = let e : [] ≡ fit.0 ∷ [] = fit.2 in cc
  served s p talk j ends r fit = let e : [] ≡ fit.0 ∷ [] = fit.2 in cc
  served s p talk j (moves next) r fit = let e : [] ≡ fit.0 ∷ [] = fit.2 in cc

  follow : (s : Shop) (sc : Scene D) (x : Happening D) → Reached s sc → Fits hist sc x
      → Reached s (followed (start_of s) sc x)
  follow s sc (happen.wishes t b) r fit = record {
    those = r.those;
    steps = r.steps ++ tills.wishes t b ∷ [];
    is = more (start_of s) r.steps (tills.wishes t b) (world_of r.those sc.talk)
        (world_of r.those (stepped (start_of s) sc.talk (tills.wishes t b))) r.is refl;
    at = r.at;
  }
  follow s sc (happen.asks t) r fit = record {
    those = r.those;
    steps = r.steps ++ tills.asks t ∷ [];
    is = more (start_of s) r.steps (tills.asks t) (world_of r.those sc.talk)
        (world_of r.those (stepped (start_of s) sc.talk (tills.asks t))) r.is
        (there r.those (asked (sc.talk.tills t).core) sc.talk (λ a. record sc.talk { sent = sc.talk.sent ++ a ∷ [] })
        (λ a. record sc.talk { counted = r.those; sent = sc.talk.sent ++ a ∷ [] }) (λ a. refl));
    at = r.at;
  }
  follow s sc (happen.hears t j) r fit = record {
    those = r.those;
    steps = r.steps ++ tills.hears t j ∷ [];
    is = more (start_of s) r.steps (tills.hears t j) (world_of r.those sc.talk)
        (world_of r.those (stepped (start_of s) sc.talk (tills.hears t j))) r.is
        (there r.those (slice_get sc.talk.given j) sc.talk (λ y. with_till sc.talk t (after_reply y (sc.talk.tills t)))
        (λ y. with_till (record sc.talk { counted = r.those }) t (after_reply y (sc.talk.tills t))) (λ y. refl));
    at = r.at;
  }
  follow s sc (happen.lives_on x) r fit = lives s sc x r fit
  follow s sc (happen.serves j x) r fit = served s sc.place sc.talk j x r fit

  follow_all : (s : Shop) (sc : Scene D) (xs : List (Happening D)) → Reached s sc → FitAll hist (start_of s) sc xs
      → Reached s (followed_all (start_of s) sc xs)
  follow_all s sc [] r fit = r
  follow_all s sc (x ∷ xs) r fit = follow_all s (followed (start_of s) sc x) xs (follow s sc x r fit.0) fit.1

  pub ends_hold_over : (s : Shop) (disk : D) (xs : List (Happening D)) → IsShop (hist.image disk) s
      → FitAll hist (start_of s) (first_scene s disk) xs
      → HoldsAtAllEnds hist s (followed_all (start_of s) (first_scene s disk) xs)
  ends_hold_over s disk xs shop fit =
      let first : Reached s (first_scene s disk) = record { those = []; steps = []; is = refl; at = begins_at hist s disk shop } in
      let r = follow_all s (first_scene s disk) xs first fit in
      record {
        counted = r.those;
        at = r.at;
        ends = λ till. subst (λ w. HoldsAtBothEnds (start_of s) w till) r.is (ends_hold (start_of s) r.steps till);
      }
