-- A message that is a request is answered as that; another one leaves all as it is.
use Rattle.std.proofs.Common.{ap, arith, inl, inr, refl, sym, ◌∙◌, ◌≡◌, true}
use Rattle.request_cards.specs.Ledgers.{reply_in}
use Rattle.host_session.specs.session.Handling.{media}
use Rattle.host_session.specs.shop.Shop.{start_of}
use Rattle.host_session.specs.session.Standing.{View}
use Rattle.host_session.proofs.lemmas.session.Handled.{media-word, no-moments, no-onward, no-request, one-bool, one-option}
use Rattle.host_session.proofs.lemmas.session.Handled.{syntax-other, told-counted, told-failures, told-media}
use Rattle.host_session.proofs.lemmas.session.Handled.{told-moments, told-onward, told-quiet, told-reply, told-writes}
use Rattle.host_session.proofs.lemmas.shop.Shops.{standing-settled}
use Rattle.host_session.proofs.session.Session.handle.Given.{Over}
use Rattle.host_session.proofs.session.Session.handle.Goals as goal

-- what is no request
pub returns-in_default : goal.returns-in_default
returns-in_default g c =
    let S = g.D.Sectors.history in
    let none = sym c.parse.ensures.exact ∙ c.in_default.is in
    record {
      syntax = λ _. (refl, refl);
      dead = λ _. (ap media (sym none), refl);
      quiet = λ s h alive other. (ap (reply_in (start_of s) s.state) (sym none), refl);
      reply = λ s h alive other. no-request _ s _ _ none
          (standing-settled _ _ _ _ (sym (ap (λ (v : View _). S.image v.disk) c.self.view_is))
          c.self.invariant.0 (ap (λ (v : View _). v.dead) c.self.view_is ∙ alive) s h) alive;
      moments = λ s h. no-moments S c.args.self.now.disk s _ h;
      onward = λ s h. no-onward S c.args.self.now.disk s _ h;
      writes = λ f h. omega arith;
      counted = λ s h lt. absurd (omega (arith, lt));
      media = λ m. syntax-other m;
      failures = inr (λ m. syntax-other m, refl);
    }

-- a dead session
was_dead : (g : Over) (c : goal.Then-dead g) → c.args.self.now.dead ≡ true
was_dead g c = sym (ap (λ (v : View _). v.dead) c.self.view_is) ∙ c.if-dead.true

pub returns-then-dead : goal.returns-then-dead
returns-then-dead g c =
    let S = g.D.Sectors.history in
    let some = sym c.parse.ensures.exact ∙ c.in-Some.is in
    let told = told-media _ c.in-Some.request some c.till.result c.number.result c.till.ensures.value
    c.number.ensures.value _ refl in
    record {
      syntax = λ none. one-option some none;
      dead = λ _. (told, refl);
      quiet = λ s h alive _. one-bool (was_dead g c) alive;
      reply = λ s h alive _. one-bool (was_dead g c) alive;
      moments = λ s h. no-moments S c.args.self.now.disk s _ h;
      onward = λ s h. no-onward S c.args.self.now.disk s _ h;
      writes = λ f h. omega arith;
      counted = λ s h lt. absurd (omega (arith, lt));
      media = λ _. told;
      failures = inl ((c.till.result, c.number.result, refl), was_dead g c, inl (was_dead g c));
    }

-- an open one
pub returns-else-dead : goal.returns-else-dead
returns-else-dead g c =
    let S = g.D.Sectors.history in
    let some = sym c.parse.ensures.exact ∙ c.in-Some.is in
    let answered = c.word_on.ensures.answered in
    record {
      syntax = λ none. one-option some none;
      dead = λ dead. one-bool dead (sym (ap (λ (v : View _). v.dead) c.self.view_is) ∙ c.if-dead.false);
      quiet = λ s h alive.
          told-quiet S c.args.self.now c.word_on.new.self _ c.in-Some.request c.word_on.result some answered
          c.word_on.ensures.quiet c.till.result c.number.result c.till.ensures.value c.number.ensures.value s h;
      reply = λ s h alive.
          told-reply S c.args.self.now c.word_on.new.self _ c.in-Some.request c.word_on.result some answered
          c.till.result c.number.result c.till.ensures.value c.number.ensures.value s h;
      moments = told-moments S c.args.self.now c.word_on.new.self _ c.in-Some.request c.word_on.result some answered;
      onward = told-onward S c.args.self.now c.word_on.new.self _ c.in-Some.request c.word_on.result some answered;
      writes = told-writes S c.args.self.now c.word_on.new.self _ c.in-Some.request c.word_on.result some answered;
      counted = told-counted S c.args.self.now c.word_on.new.self _ c.in-Some.request c.word_on.result some answered;
      media = λ m. told-media _ c.in-Some.request some c.till.result c.number.result c.till.ensures.value
          c.number.ensures.value c.word_on.result (media-word _ _ _ m);
      failures = told-failures S c.args.self.now c.word_on.new.self c.in-Some.request c.till.result c.number.result
          c.word_on.result answered;
    }
