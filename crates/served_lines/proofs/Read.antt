-- Lines that are read of a host's input.
use Rattle.std.proofs.Common.{◌≡◌, ◌⊎◌, ◌≤◌, ◌<◌, ◌+◌, ◌-◌, ◌∙◌, ◌==◌, ◌||◌, ℕ, Bool, true, false, List, [], ◌∷◌, ◌++◌, ap, append-nil, append_assoc, arith, drop, inl, inr, ⊎_elim, length, map, refl, subst, sym, take, Result, Ok}
use Rattle.std.specs.Prelude.{Option}
use Rattle.std.proofs.lemmas.Bool.{cases_lt, eq-eqb, eqb-true}
use Rattle.std.proofs.lemmas.List.{drop-drop, drop-take, drop_all, length-append, length-take, length-take-le, map-append, take-append-drop}
use Rattle.arrayvec.specs.ArrayVec.{ArrayVec}
use Rattle.request_cards.specs.Reading.{request_of}
use Rattle.request_cards.specs.Requests.{Ask}
use Rattle.one_host.specs.Worlds.{World}
use Rattle.one_host.specs.History.{HeldOnly, HostHistory, Since, Until}
use Rattle.one_host.specs.Calls.{IsHeard, Steps, at_once, heard}
use Rattle.one_host.specs.declared.parts.Failure.{Failure}
use Rattle.one_host.proofs.Moments.{after, moments}
use Rattle.line_text.specs.scripts.Lines.{lines}
use Rattle.line_server.proofs.Cuts.{lines_two, whole_two}
use Rattle.served_lines.specs.Readings.{Awaits, Gives, GoesOn, HasMore, IsTaken, OnlyHeard, bytes_left, line_kept}
use Rattle.served_lines.specs.Taken.{TakesLines}
use Rattle.served_lines.specs.declared.reading.LineInput.{LineInput}

-- nothing was read yet
pub only_none : (v : World) → OnlyHeard v v
only_none v = record { more = []; over = v.ended; is = ap (λ (l : List ℕ). record v { heard = l }) (sym (append-nil v.heard)) }

pub begins : (v : World) (i : LineInput) (before : List ℕ) → Awaits i before v → Gives v i before [] true v
begins v i before a = record {
  only = only_none v;
  handled = [];
  whole = inl refl;
  same = refl;
  awaits = subst (λ (l : List ℕ). HasMore i l v.heard) (sym (append-nil before)) a;
  over = λ e. cc e;
}

-- what is left after some of the bytes
take_drop_of : (n m : ℕ) (xs : List ℕ) → take (m - n) (drop n xs) ≡ drop n (take m xs)
take_drop_of n m xs = ⊎_elim
    (λ (few : m < n).
    let none : m - n ≡ 0 = omega (arith, few) in
    ap (λ k. take k (drop n xs)) none ∙ sym (drop_all n (take m xs) (omega (arith, few, length-take m xs))))
    (λ (le : n ≤ m).
    let e : n + (m - n) ≡ m = omega (arith, le) in
    sym (drop-take n (m - n) xs) ∙ ap (λ k. drop n (take k xs)) e)
    (cases_lt m n)

pub left_of : (bytes : List ℕ) (at end used : ℕ) → take (end - (at + used)) (drop (at + used) bytes) ≡ drop used (take (end - at) (drop at bytes))
left_of bytes at end used =
    let e : end - (at + used) ≡ end - at - used = omega arith in
    ap (λ k. take k (drop (at + used) bytes)) e
    ∙ ap (take (end - at - used)) (sym (drop-drop used at bytes))
    ∙ take_drop_of used (end - at) (drop at bytes)

-- lines were taken of those that were read
module _ (v : World) (i j : LineInput) (before : List ℕ) (w : World) (g : Gives v i before [] true w) (texts : List (List ℕ)) (x : IsTaken i j texts) where
  t : TakesLines g.awaits.begun (take x.used (bytes_left i)) (line_kept j) texts
  t = x.takes g.awaits.begun g.awaits.lacks g.awaits.kept_is

  more : HasMore j (before ++ (g.handled ++ t.handled)) w.heard
  more = record {
    begun = t.begun;
    lacks = t.lacks;
    kept_is = t.kept_is;
    all_are = g.awaits.all_are
        ∙ ap (λ (l : List ℕ). (before ++ g.handled) ++ l)
        (ap (λ (l : List ℕ). g.awaits.begun ++ l) (sym (take-append-drop x.used (bytes_left i)))
        ∙ sym (append_assoc g.awaits.begun (take x.used (bytes_left i)) (drop x.used (bytes_left i)))
        ∙ ap (λ (l : List ℕ). l ++ drop x.used (bytes_left i)) t.parts
        ∙ append_assoc t.handled t.begun (drop x.used (bytes_left i))
        ∙ ap (λ (l : List ℕ). t.handled ++ (t.begun ++ l)) (sym x.left))
        ∙ sym (append_assoc (before ++ g.handled) t.handled (t.begun ++ bytes_left j))
        ∙ ap (λ (l : List ℕ). l ++ (t.begun ++ bytes_left j)) (append_assoc before g.handled t.handled);
  }

  pub takes_on : Gives v j before texts true w
  takes_on = record {
    only = g.only;
    handled = g.handled ++ t.handled;
    whole = whole_two g.handled t.handled g.whole t.whole;
    same = t.same ∙ ap (λ (l : List (Option Ask)). l ++ map request_of (lines t.handled)) g.same
        ∙ sym (ap (map request_of) (lines_two g.handled t.handled g.whole) ∙ map-append request_of (lines g.handled) (lines t.handled));
    awaits = more;
    over = λ e. cc e;
  }

-- bytes were read, as none was left
module _ (v : World) (i j : LineInput) (before : List ℕ) (u : World) (g : Gives v i before [] true u) (none : bytes_left i ≡ [])
    (count : ℕ) (to : List ℕ) (line : line_kept j ≡ line_kept i) (left : bytes_left j ≡ take count to) where
  pub reads_on : (some : Bool) → (w : World) → (w ≡ heard u count to) → (some ≡ false → (◌≡◌ {A = List (List ℕ)} [] []) × (((w.ended ≡ true) × (bytes_left j ≡ [])) ⊎ (18446744073709551615 ≤ length w.heard)))
      → Gives v j before [] some w
  reads_on some w is over = record {
    only = record { more = g.only.more ++ take count to; over = w.ended; is = world_is };
    handled = g.handled;
    whole = g.whole;
    same = g.same;
    awaits = record {
      begun = g.awaits.begun;
      lacks = g.awaits.lacks;
      kept_is = line ∙ g.awaits.kept_is;
      all_are = ap (λ (x : World). x.heard) is
          ∙ ap (λ (l : List ℕ). l ++ take count to) (g.awaits.all_are ∙ ap (λ (l : List ℕ). (before ++ g.handled) ++ (g.awaits.begun ++ l)) none
          ∙ ap (λ (l : List ℕ). (before ++ g.handled) ++ l) (append-nil g.awaits.begun))
          ∙ append_assoc (before ++ g.handled) g.awaits.begun (take count to)
          ∙ ap (λ (l : List ℕ). (before ++ g.handled) ++ (g.awaits.begun ++ l)) (sym left);
    };
    over = over;
  }
    where
      ended_is : w.ended ≡ (heard u count to).ended
      ended_is = ap (λ (x : World). x.ended) is

      world_is : w ≡ record v { heard = v.heard ++ (g.only.more ++ take count to); ended = w.ended }
      world_is = is ∙ ap (λ (x : World). record x { heard = x.heard ++ take count to; ended = (heard u count to).ended }) g.only.is
          ∙ ap (λ (l : List ℕ). record v { heard = l; ended = (heard u count to).ended }) (append_assoc v.heard g.only.more (take count to))
          ∙ ap (λ b. record v { heard = v.heard ++ (g.only.more ++ take count to); ended = b }) (sym ended_is)

hands_of : (u v w : World) → v ≡ w → w.hands ≡ u.hands → v.hands ≡ u.hands
hands_of u v w is same = ap (λ (x : World). x.hands) is ∙ same

-- the call, after which more was heard at most
module _ {H : Type 0} (S : HostHistory H) (a b : H) (n : ℕ) (v : World) (to : List ℕ) where
  pub hears : (x : ℕ) (u w : World) → OnlyHeard v u → IsHeard to x u w → OnlyHeard v w
  hears x u w o d = record {
    more = o.more ++ take x to;
    over = w.ended;
    is = d.1 ∙ ap (λ (y : World). record y { heard = y.heard ++ take x to; ended = (heard u x to).ended }) o.is
        ∙ ap (λ (l : List ℕ). record v { heard = l; ended = (heard u x to).ended }) (append_assoc v.heard o.more (take x to))
        ∙ ap (λ b. record v { heard = v.heard ++ (o.more ++ take x to); ended = b }) (sym (ap (λ (y : World). y.ended) d.1));
  }

  pub read_moments : Since n (OnlyHeard v) (S.world a) → (r : Result ℕ Failure) → Steps S a b (IsHeard to) at_once r → HeldOnly S a b (Until n (OnlyHeard v))
  read_moments since r c = moments S a b n (OnlyHeard v) since (IsHeard to) at_once
      (λ x u w d. hands_of u w _ d.1 refl) (λ u w never. absurd never) (OnlyHeard v) (λ u o. o) (λ u w _ never. absurd never) hears r c

  pub read_after : (A B : World → Type 0) → Since n A (S.world a) → (x : ℕ) → ((u w : World) → A u → IsHeard to x u w → B w)
      → Steps S a b (IsHeard to) at_once (Ok x) → Since n B (S.world b)
  read_after A B since x turns c = after S a b n A since (IsHeard to) at_once
      (λ x u w d. hands_of u w _ d.1 refl) (λ u w never. absurd never) B x turns c

or_true : (b c : Bool) → c ≡ true → (b || c) ≡ true
or_true true c is = refl
or_true false c is = is

-- what the calls make of a list without a line
module _ {H : Type 0} (S : HostHistory H) (a b : H) (n : ℕ) (v : World) (first i j k : LineInput) (counter : ℕ)
    (since : Since n (λ w. GoesOn v first i [] true w × (counter ≤ length w.heard)) (S.world a)) (texts : List (List ℕ)) (x : IsTaken i j texts) where
  pub gives_some : Since n (GoesOn v first j texts true) (S.world a)
  gives_some = record { count = since.count; is = λ e before begun. takes_on v i j before (S.world a) ((since.is e).0 before begun) texts x }

  module _ (none : texts ≡ []) (all : bytes_left j ≡ []) (to : List ℕ) (line : line_kept k ≡ line_kept j) (count : ℕ) (left : bytes_left k ≡ take count to)
      (steps : Steps S a b (IsHeard to) at_once (Ok count)) where
    taken : (before : List ℕ) (u : World) → Gives v i before [] true u → Gives v j before [] true u
    taken before u g = subst (λ ts. Gives v j before ts true u) none (takes_on v i j before u g texts x)

    pub gives_none : count ≡ 0 → Since n (GoesOn v first k texts false) (S.world b)
    gives_none zero = read_after S a b n v to (λ w. GoesOn v first i [] true w × (counter ≤ length w.heard)) (GoesOn v first k texts false) since count
        (λ u w p d before begun. subst (λ ts. Gives v k before ts false w) (sym none)
        (reads_on v j k before u (taken before u (p.0 before begun)) all count to line left false w d.1
        (λ _. (refl, inl (ap (λ (y : World). y.ended) d.1 ∙ or_true u.ended (count == 0) (eq-eqb count 0 zero), left ∙ ap (λ m. take m to) zero))))) steps

    pub gives_more : (count ≡ 0 → ⊥) → Since n (λ w. GoesOn v first k [] true w × (counter + 1 ≤ length w.heard)) (S.world b)
    gives_more some = read_after S a b n v to (λ w. GoesOn v first i [] true w × (counter ≤ length w.heard))
        (λ w. GoesOn v first k [] true w × (counter + 1 ≤ length w.heard)) since count
        (λ u w p d. (
          λ before begun. reads_on v j k before u (taken before u (p.0 before begun)) all count to line left true w d.1 (λ e. cc e),
          (let more = ap (λ (y : World). length y.heard) d.1 ∙ length-append u.heard (take count to) in
              omega (arith, more, p.1, length-take-le count to d.0, some)),
        )) steps

-- nothing was brought for as long as can be counted
pub gives_up : (v : World) (i : LineInput) (before : List ℕ) (w : World) → Gives v i before [] true w → 18446744073709551615 ≤ length w.heard → Gives v i before [] false w
gives_up v i before w g long = record { only = g.only; handled = g.handled; whole = g.whole; same = g.same; awaits = g.awaits; over = λ _. (refl, inr long) }

-- a list without a line
pub none_of : (ls : List (ArrayVec ℕ)) (n : ℕ) (b : Bool) → length ls ≡ n → b ≡ true → b ≡ (n == 0) → ls ≡ []
none_of [] n b long so is = refl
none_of (l ∷ ls) n b long so is = absurd (omega (arith, long, eqb-true n 0 (sym is ∙ so)))

pub few_of : (ls : List (ArrayVec ℕ)) → ls ≡ [] → length ls < 512
few_of ls is = omega (arith, ap length is)
