-- What asking for an event, and telling its reply, came to.
use Rattle.std.proofs.Common.{◌≡◌, ◌≤◌, ◌+◌, ℕ, true, false, List, Option}
use Rattle.std.proofs.Common.{None, Some, Ok, Err, refl, sym, subst, ap, ◌∙◌}
use Rattle.std.specs.Prelude.{IsSome, Result, is_err, is_ok, is_some, option_map}
use Rattle.d64_image.specs.History.{History}
use Rattle.request_cards.specs.declared.reply.Reply.{Reply}
use Rattle.host_session.specs.declared.events.sources.Next.{Next}
use Rattle.host_session.specs.events.Asking.{IsNext, Source}
use Rattle.host_session.specs.events.Events.{Message, cut_at, uncut}
use Rattle.host_session.specs.events.Instants.{Instant, instant_of}
use Rattle.host_session.specs.events.Telling.{BreaksOff, IsTold, Output, TellsOne}

-- the message that is here has no reset
pub is_whole : (m : Message) (bytes : List ℕ) → bytes ≡ m.bytes → None ≡ m.cut_after → uncut bytes ≡ m
is_whole m bytes same none = λ i. record { bytes = same i; cut_after = none i }

-- or one
pub is_reset : (m : Message) (bytes : List ℕ) (after : ℕ) → bytes ≡ m.bytes → Some after ≡ m.cut_after
    → cut_at bytes after ≡ m
is_reset m bytes after same cut = λ i. record { bytes = same i; cut_after = cut i }

-- power goes in it
pub no_none : (after : ℕ) (o : Option ℕ) → Some after ≡ o → o ≡ None → ⊥
no_none after o some none = let e = some ∙ none in cc

-- whether the event that was taken has a reset
pub no_cut : {X : Type 0} (f : X → ℕ) (r : Option X) (o : Option ℕ) → option_map f r ≡ o → is_some r ≡ false → None ≡ o
no_cut f None o same none = same
no_cut f (Some x) o same none = cc

pub some_cut : {X : Type 0} (f : X → ℕ) (r : Option X) (o : Option ℕ) → option_map f r ≡ o → is_some r ≡ true → IsSome o
some_cut f None o same some = cc
some_cut f (Some x) o same some = subst IsSome same refl

pub cut_is : {X : Type 0} (f : X → ℕ) (r : Option X) (x : X) (o : Option ℕ) → r ≡ Some x → option_map f r ≡ o
    → Some (f x) ≡ o
cut_is f r x o is same = sym (ap (option_map f) is) ∙ same

-- what asking came to, by what was answered and the disk that was lent
pub was_asked : {D A : Type 0} (h : History D) (a : Source A) (old new : A) (lent disk : D) (r answered : Next)
    → lent ≡ disk → r ≡ answered → IsNext a old new (instant_of h lent) r
    → IsNext a old new (instant_of h disk) answered
was_asked h a old new lent disk r answered is told asked =
    subst (λ n. IsNext a old new (instant_of h disk) n) told (subst (λ d. IsNext a old new (instant_of h d) r) is asked)

-- what telling came to, by what was answered
pub was_told : {T E : Type 0} (o : Output T) (old new : T) (reply : Reply) (i : Instant) (r : Result Unit E)
    → is_ok r ≡ true
    → IsTold o old new reply i r → TellsOne o old new reply i × (o.room old ≤ o.room new + 1)
was_told o old new reply i (Ok x) is told = told
was_told o old new reply i (Err x) is told = cc

pub was_broken : {T E : Type 0} (o : Output T) (old new : T) (reply : Reply) (i : Instant) (r : Result Unit E)
    → is_err r ≡ true
    → IsTold o old new reply i r → BreaksOff o old new reply i × (o.room old ≡ 0)
was_broken o old new reply i (Ok x) is told = cc
was_broken o old new reply i (Err x) is told = told
