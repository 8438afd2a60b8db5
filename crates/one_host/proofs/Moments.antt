-- How moments go on from one call to the next.
use Rattle.std.proofs.Common.{ℕ, ◌≡◌, ◌≤◌, ◌⊎◌, ◌∙◌, ⊎_elim, inl, inr, sym, ap, subst, le_refl, Result, Ok, Err, arith}
use Rattle.std.proofs.Math.Nat.{le_trans}
use Rattle.one_host.specs.Worlds.{World, OthersDid}
use Rattle.one_host.specs.History.{HostHistory, HeldOnly, Since, Until}
use Rattle.one_host.specs.Calls.{Steps}
use Rattle.one_host.specs.declared.parts.Failure.{Failure}

module _ {H : Type 0} (S : HostHistory H) where
  pub start : (h : H) (P : World → Type 0) → P (S.world h) → HeldOnly S h h P
  start h P p = record {
    later = le_refl (S.moment h);
    each = λ w x. subst P (sym (S.only_now h w x)) p;
    before = λ t w le x. inl x;
  }

  pub joined : (a b c : H) (P : World → Type 0) → HeldOnly S a b P → HeldOnly S b c P → HeldOnly S a c P
  joined a b c P first second = record {
    later = le_trans first.later second.later;
    each = λ w h. ⊎_elim (first.each w) (λ p. p) (second.before (S.moment a) w first.later h);
    before = λ t w le h. ⊎_elim (first.before t w le) (λ p. inr p) (second.before t w (le_trans le first.later) h);
  }

  pub weaker : (a b : H) (P Q : World → Type 0) → ((w : World) → P w → Q w) → HeldOnly S a b P → HeldOnly S a b Q
  weaker a b P Q f h = record {
    later = h.later;
    each = λ w x. f w (h.each w x);
    before = λ t w le x. ⊎_elim (λ l. inl l) (λ p. inr (f w p)) (h.before t w le x);
  }

  -- what it is at the end is one of those
  pub at_end : (a b : H) (P : World → Type 0) → HeldOnly S a b P → P (S.world b)
  at_end a b P h = h.each (S.world b) (S.now b (S.moment a) h.later)

-- where others have done nothing by now, they had done nothing before
pub none_before : (n : ℕ) (u v : World) → OthersDid u v → n ≤ u.hands → v.hands ≡ n → u.hands ≡ n
none_before n u v o le is = omega (arith, o.count, le, is)

pub found_since : (n : ℕ) (A : World → Type 0) (u v : World) → OthersDid u v → Since n A u → Since n A v
found_since n A u v o at = record {
  count = le_trans at.count o.count;
  is = λ e. let before = none_before n u v o at.count e in subst A (sym (o.obeyed (e ∙ sym before))) (at.is before);
}

-- One call, from worlds with A on, unless others did something. What it makes has B.
module _ {H T : Type 0} (S : HostHistory H) (a b : H) (n : ℕ) (A : World → Type 0) (at : Since n A (S.world a))
    (done : T → World → World → Type 0) (way : World → World → Type 0)
    (keeps : (x : T) (u v : World) → done x u v → v.hands ≡ u.hands)
    (keeps_way : (u v : World) → way u v → v.hands ≡ u.hands) where
  pub after : (B : World → Type 0) (x : T) → ((u v : World) → A u → done x u v → B v) → Steps S a b done way (Ok x) → Since n B (S.world b)
  after B x turns c =
      let f = found_since n A (S.world a) c.found c.others at in
      let k = keeps x c.found (S.world b) c.ok in
      record { count = subst (λ m. n ≤ m) (sym k) f.count; is = λ e. turns c.found (S.world b) (f.is (sym k ∙ e)) c.ok }

  module _ (P : World → Type 0) (before : (u : World) → A u → P u) (on_way : (u v : World) → A u → way u v → P v)
      (on_done : (x : T) (u v : World) → A u → done x u v → P v) where
    by_way : (u v : World) → Since n A u → way u v → Until n P v
    by_way u v f c e = on_way u v (f.is (sym (keeps_way u v c) ∙ e)) c

    by_same : (u v : World) → Since n A u → v ≡ u → Until n P v
    by_same u v f is e = subst P (sym is) (before u (f.is (ap (λ (w : World). w.hands) (sym is) ∙ e)))

    the_end : (r : Result T Failure) → Steps S a b done way r → Until n P (S.world b)
    the_end (Ok x) c = (after P x (on_done x) c).is
    the_end (Err x) c = ⊎_elim
        (by_same c.found (S.world b) (found_since n A (S.world a) c.found c.others at))
        (by_way c.found (S.world b) (found_since n A (S.world a) c.found c.others at))
        c.err

    pub moments : (r : Result T Failure) → Steps S a b done way r → HeldOnly S a b (Until n P)
    moments r c =
        let f = found_since n A (S.world a) c.found c.others at in
        weaker S a b (λ w. OthersDid (S.world a) w ⊎ ((w ≡ S.world b) ⊎ way c.found w)) (Until n P)
        (λ w. ⊎_elim (λ (o : OthersDid (S.world a) w). λ (e : w.hands ≡ n). before w ((found_since n A (S.world a) w o at).is e))
        (⊎_elim (λ (is : w ≡ S.world b). subst (Until n P) (sym is) (the_end r c)) (by_way c.found w f)))
        c.held
