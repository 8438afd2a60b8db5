-- What one message may count.
use Rattle.std.proofs.Common.{◌≡◌, ◌≢◌, ◌<◌, ◌⊎◌, ⊎_elim, ℕ, zero, suc, Bool, true, false, List, [], ◌∷◌, Option, Some}
use Rattle.std.proofs.Common.{None, refl, inl, inr, arith, MatchBool}
use Rattle.std.specs.Prelude.{◌&&◌, nat_lt, option_to_list}
use Rattle.request_cards.specs.Requests.{Ask}
use Rattle.request_cards.specs.Ledgers.{State, Start, after_message}
use Rattle.host_session.specs.events.Counted.{IsIn, MayBeIn, MayCount, after_all}
use Rattle.host_session.specs.session.Handling.{is_first_set}

-- without a write nothing counts
pub none_counts : (top : ℕ) (state : State) (o : Option Ask) (failed : Bool) → MayCount top state o (Some 0) failed []
none_counts top state None failed = refl
none_counts top state (Some a) failed = refl

in_or : (b : Bool) (a : Ask) → MatchBool b (MayBeIn a (a ∷ [])) (IsIn a (a ∷ []))
in_or true a = inl refl
in_or false a = refl

-- with a write, or without a reset, a message may count whole
pub whole_counts : (top : ℕ) (state : State) (o : Option Ask) (after : Option ℕ) (failed : Bool) → after ≢ Some 0
    → MayCount top state o after failed (option_to_list o)
whole_counts top state None after failed some = refl
whole_counts top state (Some a) None false some = refl
whole_counts top state (Some a) None true some = inl refl
whole_counts top state (Some a) (Some zero) failed some = absurd (some refl)
whole_counts top state (Some a) (Some (suc n)) true some = inl refl
whole_counts top state (Some a) (Some (suc n)) false some = in_or (is_first_set state top a && nat_lt (suc n) 3619) a

-- where the device failed it may be out
pub failed_out : (top : ℕ) (state : State) (o : Option Ask) (after : Option ℕ) → MayCount top state o after true []
failed_out top state None after = refl
failed_out top state (Some a) None = inr refl
failed_out top state (Some a) (Some zero) = refl
failed_out top state (Some a) (Some (suc n)) = inr refl

out_or : (b c : Bool) (a : Ask) → b ≡ true → c ≡ true → MatchBool (b && c) (MayBeIn a []) (IsIn a [])
out_or true true a x y = inr refl
out_or true false a x y = cc
out_or false c a x y = cc

-- a first set that was cut early may be out
pub first_set_out : (top : ℕ) (state : State) (a : Ask) (n : ℕ) (failed : Bool) → is_first_set state top a ≡ true
    → n < 3619
    → MayCount top state (Some a) (Some n) failed []
first_set_out top state a zero failed first early = refl
first_set_out top state a (suc n) true first early = inr refl
first_set_out top state a (suc n) false first early = out_or (is_first_set state top a) (nat_lt (suc n) 3619) a first
    (grind (arith))

-- the state after what a whole message counts
pub after_whole : (start : Start) (state : State) (o : Option Ask)
    → after_all start state (option_to_list o) ≡ after_message start state o
after_whole start state None = refl
after_whole start state (Some a) = refl

-- a message counts nothing, or, where power was there for a write, whole
pub counted_either : (top : ℕ) (state : State) (o : Option Ask) (after : Option ℕ) (failed : Bool) (c : List Ask)
    → MayCount top state o after failed c
    → (c ≡ []) ⊎ ((after ≢ Some 0) × (c ≡ option_to_list o))
counted_either top state None after failed c h = inl h
counted_either top state (Some a) None false c h = inr (λ e. cc, h)
counted_either top state (Some a) None true c h = ⊎_elim (λ e. inr (λ z. cc, e)) (λ e. inl e) h
counted_either top state (Some a) (Some zero) failed c h = inl h
counted_either top state (Some a) (Some (suc n)) true c h = ⊎_elim (λ e. inr (λ z. cc, e)) (λ e. inl e) h
counted_either top state (Some a) (Some (suc n)) false c h = pick (is_first_set state top a && nat_lt (suc n) 3619) h
  where
    pick : (b : Bool) → MatchBool b (MayBeIn a c) (IsIn a c) → (c ≡ []) ⊎ ((Some (suc n) ≢ Some 0) × (c ≡ a ∷ []))
    pick true x = ⊎_elim (λ e. inr (λ z. cc, e)) (λ e. inl e) x
    pick false x = inr (λ z. cc, x)

-- what counts where the device didn't fail may count where it did
pub counts_failed : (top : ℕ) (state : State) (o : Option Ask) (after : Option ℕ) (failed : Bool) (c : List Ask)
    → MayCount top state o after failed c
    → MayCount top state o after true c
counts_failed top state None after failed c h = h
counts_failed top state (Some a) None false c h = inl h
counts_failed top state (Some a) None true c h = h
counts_failed top state (Some a) (Some zero) failed c h = h
counts_failed top state (Some a) (Some (suc n)) true c h = h
counts_failed top state (Some a) (Some (suc n)) false c h = pick (is_first_set state top a && nat_lt (suc n) 3619) h
  where
    pick : (b : Bool) → MatchBool b (MayBeIn a c) (IsIn a c) → MayBeIn a c
    pick true x = x
    pick false x = inl x
