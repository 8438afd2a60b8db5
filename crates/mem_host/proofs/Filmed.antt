-- One more world on the film, and what a call makes of that.
use Rattle.std.proofs.Common.{◌≡◌, ◌⊎◌, ◌∙◌, inl, inr, ⊎_elim, ℕ, suc, ◌≤◌, ◌<◌, List, [], ◌∷◌, ◌++◌, length, take, Some, IfOk, Bool, true, false, not, IsErr, IsErrAnd, Result, Ok, Err, refl, sym, ap, subst, arith, le_refl, length-append}
use Rattle.std.proofs.lemmas.Bool.{cases_lt}
use Rattle.std.proofs.lemmas.List.{take-append-le, take_all}
use Rattle.std.proofs.Math.Nat.{le_trans}
use Rattle.one_host.specs.History.{HeldOnly}
use Rattle.one_host.specs.Worlds.{OthersDid, World}
use Rattle.one_host.specs.Calls.{Steps, says}
use Rattle.one_host.specs.declared.parts.Failure.{Failure}
use Rattle.one_host.proofs.Moments.{joined, weaker}
use Rattle.mem_host.specs.Film.{Attempts, HadBeen, Passes, all_taken, film}
use Rattle.mem_host.specs.Moves.{acted, world_of}
use Rattle.mem_host.specs.declared.mem_host.MemHost.{MemHost}
use Rattle.mem_host.specs.declared.moves.Move.{Move}
use Rattle.mem_host.proofs.Played.{played}

pub none : (w : World) → OthersDid w w
none w = record { count = le_refl w.hands; obeyed = λ _. refl; own = refl; used = le_refl w.used }

pub both : (u v w : World) → OthersDid u v → OthersDid v w → OthersDid u w
both u v w a b = record {
  count = le_trans a.count b.count;
  obeyed = λ e. let mid : v.hands ≡ u.hands = omega (arith, e, a.count, b.count) in b.obeyed (e ∙ sym mid) ∙ a.obeyed mid;
  own = b.own ∙ ap (λ (x : World). record x { files = w.files; used = w.used; names = w.names; hands = w.hands }) a.own;
  used = le_trans a.used b.used;
}

pub if_ok_map : {T E : Type 0} (r : Result T E) (P Q : T → Type 0) → ((x : T) → P x → Q x) → IfOk r P → IfOk r Q
if_ok_map (Ok x) P Q f p = f x p
if_ok_map (Err e) P Q f p = tt

module _ (a b : MemHost) where
  -- nothing changed
  pub stayed : (P : World → Type 0) → b.moves ≡ a.moves → P (film.world a) → HeldOnly film a b P
  stayed P is p = record {
    later = omega (arith, ap (λ m. length m.items) is);
    each = λ w had. subst P (sym (had.is ∙ all_taken b.moves.items had.s (subst (λ m. length m.items ≤ had.s) (sym is) had.later)
        ∙ ap (λ m. world_of m.items) is)) p;
    before = λ t w le had. inl (subst (λ m. HadBeen m.items t w) is had);
  }

  -- one thing more was done
  pub moved_on : (P : World → Type 0) (what : Move) → b.moves.items ≡ a.moves.items ++ what ∷ [] → P (film.world a) → P (film.world b)
      → HeldOnly film a b P
  moved_on P what is p q = record {
    later = omega (arith, ap length is, length-append a.moves.items (what ∷ []));
    each = λ w had. ⊎_elim
        (λ (old : HadBeen a.moves.items (length a.moves.items) w). subst P (sym (film.only_now a w old)) p)
        (λ (new : w ≡ film.world b). subst P (sym new) q)
        (split (length a.moves.items) w had);
    before = λ t w le had. ⊎_elim
        (λ (old : HadBeen a.moves.items t w). inl old)
        (λ (new : w ≡ film.world b). inr (subst P (sym new) q))
        (split t w had);
  }
    where
      split : (t : ℕ) (w : World) → HadBeen b.moves.items t w → HadBeen a.moves.items t w ⊎ (w ≡ film.world b)
      split t w had = ⊎_elim
          (λ (lt : length a.moves.items < had.s). inr (had.is ∙ all_taken b.moves.items had.s
          (omega (arith, lt, ap length is, length-append a.moves.items (what ∷ [])))))
          (λ (le : had.s ≤ length a.moves.items). inl (record {
            s = had.s;
            later = had.later;
            within = le;
            is = had.is ∙ ap (λ m. world_of (take had.s m)) is ∙ ap world_of (take-append-le had.s a.moves.items (what ∷ []) le);
          }))
          (cases_lt (length a.moves.items) had.s)

  pub world_now : (what : Move) → b.moves.items ≡ a.moves.items ++ what ∷ [] → film.world b ≡ acted (film.world a) what
  world_now what is = ap world_of is ∙ played a.moves.items what

  pub same_world : b.moves ≡ a.moves → film.world b ≡ film.world a
  same_world is = ap (λ m. world_of m.items) is

  -- **A change, or none.**

  pub did : {K : Type 0} (what : Move) → b.moves.items ≡ a.moves.items ++ what ∷ [] → b.failed ≡ a.failed → b.taken ≡ a.taken
      → Attempts {K = K} {T = Unit {0}} a b (Ok what) (Ok tt)
  did what is failed taken = record {
    ok = world_now what is;
    err = tt;
    held = moved_on (λ w. (w ≡ film.world a) ⊎ (w ≡ film.world b)) what is (inl refl) (inr refl);
    told = failed;
    taken = taken;
  }

  pub fell : {K T : Type 0} (what : Result Move K) (e : Failure) → b.moves ≡ a.moves → b.failed ≡ Some e → b.taken ≡ a.taken
      → Attempts {K = K} {T = T} a b what (Err e)
  fell what e is failed taken = record {
    ok = tt;
    err = same_world is;
    held = stayed (λ w. (w ≡ film.world a) ⊎ (w ≡ film.world b)) is (inl refl);
    told = failed;
    taken = taken;
  }

  -- **Before a call.**

  pub passed : b.moves ≡ a.moves → b.failed ≡ a.failed → Passes {T = Unit {0}} a b (Ok tt)
  passed is failed = record {
    others = subst (OthersDid (film.world a)) (sym (same_world is)) (none (film.world a));
    held = stayed (λ w. OthersDid (film.world a) w) is (none (film.world a));
    told = failed;
  }

  pub stopped : (e : Failure) → b.moves ≡ a.moves → b.failed ≡ Some e → Passes {T = Unit {0}} a b (Err e)
  stopped e is failed = record {
    others = subst (OthersDid (film.world a)) (sym (same_world is)) (none (film.world a));
    held = stayed (λ w. OthersDid (film.world a) w) is (none (film.world a));
    told = failed;
  }

  -- somebody let a path lead elsewhere
  pub was_meddled : (what : Move) → acted (film.world a) what ≡ record (film.world a) {
    names = (acted (film.world a) what).names;
    hands = suc (film.world a).hands;
  } → b.moves.items ≡ a.moves.items ++ what ∷ [] → b.failed ≡ a.failed → Passes {T = Unit {0}} a b (Ok tt)
  was_meddled what meddles is failed = record {
    others = others;
    held = moved_on (λ w. OthersDid (film.world a) w) what is (none (film.world a)) others;
    told = failed;
  }
    where
      others : OthersDid (film.world a) (film.world b)
      others = subst (OthersDid (film.world a)) (sym (world_now what is ∙ meddles)) (record {
        count = omega arith;
        obeyed = λ same. absurd (omega (arith, same));
        own = refl;
        used = le_refl (film.world a).used;
      })

module _ (a m b : MemHost) where
  pub then_passed : {T : Type 0} (r : Result T Failure) → Passes {T = Unit {0}} a m (Ok tt) → Passes m b r → Passes a b r
  then_passed (Ok x) p q = record {
    others = both (film.world a) (film.world m) (film.world b) p.others q.others;
    held = joined film a m b (λ w. OthersDid (film.world a) w) p.held
        (weaker film m b (λ w. OthersDid (film.world m) w) (λ w. OthersDid (film.world a) w)
        (λ w o. both (film.world a) (film.world m) w p.others o) q.held);
    told = q.told ∙ p.told;
  }
  then_passed (Err e) p q = record {
    others = both (film.world a) (film.world m) (film.world b) p.others q.others;
    held = joined film a m b (λ w. OthersDid (film.world a) w) p.held
        (weaker film m b (λ w. OthersDid (film.world m) w) (λ w. OthersDid (film.world a) w)
        (λ w o. both (film.world a) (film.world m) w p.others o) q.held);
    told = q.told;
  }

  module _ {T : Type 0} (D : T → World → World → Type 0) (way : World → World → Type 0) where
    held_on : Passes {T = Unit {0}} a m (Ok tt) → HeldOnly film m b (λ w. (w ≡ film.world m) ⊎ (w ≡ film.world b))
        → HeldOnly film a b (λ w. OthersDid (film.world a) w ⊎ ((w ≡ film.world b) ⊎ way (film.world m) w))
    held_on p c = joined film a m b (λ w. OthersDid (film.world a) w ⊎ ((w ≡ film.world b) ⊎ way (film.world m) w))
        (weaker film a m (λ w. OthersDid (film.world a) w) (λ w. OthersDid (film.world a) w ⊎ ((w ≡ film.world b) ⊎ way (film.world m) w))
        (λ w o. inl o) p.held)
        (weaker film m b (λ w. (w ≡ film.world m) ⊎ (w ≡ film.world b)) (λ w. OthersDid (film.world a) w ⊎ ((w ≡ film.world b) ⊎ way (film.world m) w))
        (λ w. ⊎_elim (λ (e : w ≡ film.world m). inl (subst (OthersDid (film.world a)) (sym e) p.others)) (λ (e : w ≡ film.world b). inr (inl e)))
        c)

    -- the call did this
    pub made_it : {K : Type 0} (what : Result Move K) (x : T) → Passes {T = Unit {0}} a m (Ok tt)
        → IfOk what (λ v. D x (film.world m) (acted (film.world m) v)) → Attempts {K = K} {T = Unit {0}} m b what (Ok tt)
        → Steps film a b D way (Ok x)
    made_it (Ok what) x p d c = record {
      found = film.world m;
      others = p.others;
      ok = subst (D x (film.world m)) (sym c.ok) d;
      err = tt;
      held = held_on p c.held;
      told = c.told ∙ p.told;
    }
    made_it (Err _) x p d c = absurd c.ok

    -- it did nothing, and failed
    pub gave_up : {K U : Type 0} (what : Result Move K) (e : Failure) → Passes {T = Unit {0}} a m (Ok tt) → Attempts {K = K} {T = U} m b what (Err e)
        → Steps film a b D way (Err e)
    gave_up what e p c = record {
      found = film.world m;
      others = p.others;
      ok = tt;
      err = inl c.err;
      held = held_on p c.held;
      told = c.told;
    }

  module _ {T : Type 0} (D : T → World → World → Type 0) (way : World → World → Type 0) where
    -- it found that it can't be done
    pub gave_in : (e : Failure) → Passes {T = Unit {0}} a m (Ok tt) → b.moves ≡ m.moves → b.failed ≡ Some e → b.taken ≡ m.taken → Steps film a b D way (Err e)
    gave_in e p is failed taken = gave_up D way {K = Unit {0}} {U = Unit {0}} (Err tt) e p (fell m b (Err tt) e is failed taken)

    pub gave_up_so : {K U : Type 0} (what : Result Move K) (e : Failure) (r : Result T Failure) → IsErr r × IsErrAnd r (λ x. x ≡ e)
        → Passes {T = Unit {0}} a m (Ok tt) → Attempts {K = K} {T = U} m b what (Err e) → Steps film a b D way r
    gave_up_so what e (Ok x) is p c = absurd (cc (is.0))
    gave_up_so what e (Err x) is p c = subst (λ y. Steps film a b D way (Err y)) (sym is.1) (gave_up D way what e p c)

  -- either of these
  pub attempted : {K : Type 0} (D : Unit {0} → World → World → Type 0) (way : World → World → Type 0) (what : Result Move K)
      (r : Result (Unit {0}) Failure) → Passes {T = Unit {0}} a m (Ok tt)
      → IfOk what (λ v. D tt (film.world m) (acted (film.world m) v)) → Attempts {K = K} {T = Unit {0}} m b what r → Steps film a b D way r
  attempted D way what (Ok x) p d c = made_it D way what x p d c
  attempted D way what (Err e) p d c = gave_up D way what e p c

module _ (a m : MemHost) {T : Type 0} (D : T → World → World → Type 0) (way : World → World → Type 0) where
  -- it wasn't begun
  pub refused : (e : Failure) (r : Result T Failure) → IsErr r × IsErrAnd r (λ x. x ≡ e) → Passes {T = Unit {0}} a m (Err e) → Steps film a m D way r
  refused e (Ok x) is p = absurd (cc (is.0))
  refused e (Err x) is p = record {
    found = film.world m;
    others = p.others;
    ok = tt;
    err = inl refl;
    held = weaker film a m (λ w. OthersDid (film.world a) w) (λ w. OthersDid (film.world a) w ⊎ ((w ≡ film.world m) ⊎ way (film.world m) w)) (λ w o. inl o) p.held;
    told = p.told ∙ ap (λ y. Some y) (sym is.1);
  }

  -- it changed nothing
  pub answered : (x : T) → D x (film.world m) (film.world m) → Passes {T = Unit {0}} a m (Ok tt) → Steps film a m D way (Ok x)
  answered x d p = record {
    found = film.world m;
    others = p.others;
    ok = d;
    err = tt;
    held = weaker film a m (λ w. OthersDid (film.world a) w) (λ w. OthersDid (film.world a) w ⊎ ((w ≡ film.world m) ⊎ way (film.world m) w)) (λ w o. inl o) p.held;
    told = p.told;
  }
