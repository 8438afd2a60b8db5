-- Calls that go over sectors in order, one after another.
use Rattle.std.proofs.Common.{ℕ, ◌≡◌, ◌≢◌, ◌+◌, List, [], ◌∷◌, ◌++◌, ◌⊎◌, drop, length, take, ⊎_elim, sym, ◌∙◌, ap}
use Rattle.std.proofs.Common.{refl, arith, subst, inl, inr}
use Rattle.std.specs.Prelude.{Contains, Some, slice_get}
use Rattle.std.proofs.lemmas.List.{append-nil, append_assoc, length-append, take-append-drop}
use Rattle.std.proofs.lemmas.List.Elements.{Contains-append_left, Contains-append_right, Contains-append_cases}
use Rattle.d64_image.proofs.Moments.{at_end, reading, then, weaker}
use Rattle.d64_image.proofs.Images.{sector-put_other, sector-put_same}
use Rattle.d64_image.proofs.Places.{same_or_other}
use Rattle.d64_image.specs.History.{HeldOnly, History, OldOr, OnlyReads}
use Rattle.d64_image.specs.Images.{Image, Sector, put, sector}
use Rattle.d64_image.specs.declared.place.Place.{Place}
use Rattle.disk_layout.proofs.lemmas.lists.Lists.{take-get}
use Rattle.disk_layout.proofs.lemmas.lists.Once.{Contains-cases, Contains-here, Contains-nil, EachOnce-apart}
use Rattle.disk_layout.proofs.lemmas.lists.Once.{EachOnce-join, EachOnce-left}
use Rattle.disk_layout.specs.Chain.{EachOnce}
use Rattle.disk_layout.specs.InOrder.{AreMade, GoesOver, IsUnderWay, WritesOnce, WritesOther}

-- part of distinct places
pub once-split : (xs : List Place) (n : ℕ) → EachOnce xs → EachOnce (take n xs ++ drop n xs)
once-split xs n once = let P : List Place → Type 0 = EachOnce in subst P (sym (take-append-drop n xs)) once

pub once-next : (xs : List Place) (n : ℕ) (p : Place) → slice_get xs n ≡ Some p → EachOnce xs
    → EachOnce (take n xs ++ p ∷ [])
once-next xs n p there once =
    let P : List Place → Type 0 = EachOnce in
    subst P (take-get xs n p there) (EachOnce-left (take (n + 1) xs) (drop (n + 1) xs) (once-split xs (n + 1) once))

module _ (Right : Place → Sector → Type 0) where
  -- nothing is done yet
  pub made_none : (a b : Image) → b ≡ a → AreMade Right [] a b
  made_none a b e = record {
    right = λ p c. absurd (Contains-nil p c);
    kept = λ p r. ap (λ (i : Image). sector i p) e;
    rest = λ p c. ap (λ (i : Image). sector i p) e;
  }

  -- these, and then those
  pub made_then : (ps qs : List Place) (a b c : Image) → EachOnce (ps ++ qs) → AreMade Right ps a b
      → AreMade Right qs b c → AreMade Right (ps ++ qs) a c
  made_then ps qs a b c once first second = record {
    right = λ p d. elim (Contains-append_cases ps qs p d) [
      | inl x ↦ let P : Sector → Type 0 = Right p in subst P (sym (second.rest p (EachOnce-apart ps qs once p x)))
          (first.right p x)
      | inr y ↦ second.right p y
    ];
    kept = λ p r. let P : Sector → Type 0 = Right p in second.kept p (subst P (sym (first.kept p r)) r)
        ∙ first.kept p r;
    rest = λ p out. second.rest p (λ d. out (Contains-append_right ps qs p d))
        ∙ first.rest p (λ d. out (Contains-append_left ps qs p d));
  }

  -- one sector
  pub made_one : (p : Place) (a b : Image) → ((q : Place) → p ≢ q → sector b q ≡ sector a q) → Right p (sector b p)
      → (Right p (sector a p) → sector b p ≡ sector a p) → AreMade Right (p ∷ []) a b
  made_one p a b others right kept = record {
    right = λ q c. elim (Contains-cases q p [] c) [
      | inl e ↦ let P : Place → Type 0 = λ x. Right x (sector b x) in
          subst P e right
      | inr none ↦ absurd (Contains-nil q none)
    ];
    kept = λ q r. elim (same_or_other p q) [
      | inl e ↦ let P : Place → Type 0 = λ x. sector b x ≡ sector a x in let Q : Place
          → Type 0 = λ x. Right x (sector a x) in subst P e (kept (subst Q (sym e) r))
      | inr ne ↦ others q ne
    ];
    rest = λ q out. elim (same_or_other p q) [
      | inl e ↦
          absurd (out (let P : Place → Type 0 = λ x. Contains (p ∷ []) x in subst P e (Contains-here p [])))
      | inr ne ↦ others q ne
    ];
  }

  pub made_put : (p : Place) (a : Image) (bytes : Sector) → length a ≡ 683 → Right p bytes
      → (Right p (sector a p) → bytes ≡ sector a p) → AreMade Right (p ∷ []) a (put a p bytes)
  made_put p a bytes size right kept = made_one p a (put a p bytes) (λ q ne. sector-put_other a p q bytes ne)
      (let P : Sector → Type 0 = Right p in subst P (sym here) right) (λ r. here ∙ kept r)
    where
      here : sector (put a p bytes) p ≡ bytes
      here = sector-put_same a p bytes size

  pub under_way_none : (ps : List Place) (a b : Image) → b ≡ a → IsUnderWay Right ps a b
  under_way_none ps a b e = record { done = []; left = ps; split = refl; made = made_none a b e }

  pub under_way_all : (ps : List Place) (a b : Image) → AreMade Right ps a b → IsUnderWay Right ps a b
  under_way_all ps a b h = record { done = ps; left = []; split = sym (append-nil ps); made = h }

  pub under_way_more : (ps qs : List Place) (a b : Image) → IsUnderWay Right ps a b → IsUnderWay Right (ps ++ qs) a b
  under_way_more ps qs a b h = record {
    done = h.done;
    left = h.left ++ qs;
    split = ap (λ (xs : List Place). xs ++ qs) h.split ∙ append_assoc h.done h.left qs;
    made = h.made;
  }

  pub under_way_then : (ps qs : List Place) (a b c : Image) → EachOnce (ps ++ qs) → AreMade Right ps a b
      → IsUnderWay Right qs b c → IsUnderWay Right (ps ++ qs) a c
  under_way_then ps qs a b c once first h = record {
    done = ps ++ h.done;
    left = h.left;
    split = ap (λ (xs : List Place). ps ++ xs) h.split ∙ sym (append_assoc ps h.done h.left);
    made = made_then ps h.done a b c
        (let P : List Place → Type 0 = EachOnce in
        EachOnce-left (ps ++ h.done) h.left (subst P (ap (λ (xs : List Place). ps ++ xs) h.split
        ∙ sym (append_assoc ps h.done h.left)) once))
        first h.made;
  }

module _ {D : Type 0} (S : History D) where
  -- no write
  pub once_none : (a b : D) (n : ℕ) → OnlyReads S a b n → WritesOnce S a b
  once_none a b n r = record {
    written = [];
    once = tt;
    other = λ p c. absurd (Contains-nil p c);
    writes = omega (arith, r.writes);
  }

  -- one write at most
  pub once_one : (a b : D) (p : Place) → WritesOther S a b p → WritesOnce S a b
  once_one a b p (inl none) = record {
    written = [];
    once = tt;
    other = λ q c. absurd (Contains-nil q c);
    writes = omega (arith, none);
  }
  once_one a b p (inr (changed, one)) = record {
    written = p ∷ [];
    once = (Contains-nil p, tt);
    other = λ q c. elim (Contains-cases q p [] c) [
      | inl e ↦ let P : Place → Type 0 = λ x. sector (S.image b) x ≢ sector (S.image a) x in subst P e changed
      | inr none ↦ absurd (Contains-nil q none)
    ];
    writes = omega (arith, one);
  }

  module _ (Right : Place → Sector → Type 0) where
    pub once_then : (ps qs : List Place) (a b c : D) → EachOnce (ps ++ qs) → AreMade Right ps (S.image a) (S.image b)
        → IsUnderWay Right qs (S.image b) (S.image c) → WritesOnce S a b → WritesOnce S b c → WritesOnce S a c
    once_then ps qs a b c once made way first second = record {
      written = first.written ++ second.written;
      once = EachOnce-join first.written second.written first.once second.once
          (λ p x y. out p (first.other p x) (second.other p y));
      other = λ p x. elim (Contains-append_cases first.written second.written p x) [
        | inl d ↦ λ e. not-not p (first.other p d) (λ own. first.other p d (sym (way.made.rest p (apart p own)) ∙ e))
        | inr d ↦ λ e. not-not-later p (second.other p d) (λ own. second.other p d (e
            ∙ sym (made.rest p (λ mine. apart p mine own))))
      ];
      writes = omega (arith, first.writes, second.writes, length-append first.written second.written);
    }
      where
        apart : (p : Place) → Contains ps p → ¬ (Contains way.done p)
        apart p own d = EachOnce-apart ps qs once p own (let P : List Place → Type 0 = λ xs. Contains xs p in
            subst P (sym way.split) (Contains-append_left way.done way.left p d))

        -- what was written is one of the sectors gone over
        not-not : (p : Place) → sector (S.image b) p ≢ sector (S.image a) p → ¬ (¬ (Contains ps p))
        not-not p changed out = changed (made.rest p out)

        not-not-later : (p : Place) → sector (S.image c) p ≢ sector (S.image b) p → ¬ (¬ (Contains way.done p))
        not-not-later p changed out = changed (way.made.rest p out)

        out : (p : Place) → sector (S.image b) p ≢ sector (S.image a) p
            → ¬ (sector (S.image c) p ≢ sector (S.image b) p)
        out p before after = not-not p before (λ own. not-not-later p after (apart p own))

    -- only reads: nothing of it is done
    pub over_none : (ps : List Place) (a b : D) (n : ℕ) → OnlyReads S a b n → GoesOver S a b Right ps
    over_none ps a b n r = record {
      held = reading S a b n _ r (under_way_none Right ps (S.image a) (S.image a) refl);
      once = once_none a b n r;
    }

    -- more is to come
    pub over_more : (ps qs : List Place) (a b : D) → GoesOver S a b Right ps → GoesOver S a b Right (ps ++ qs)
    over_more ps qs a b h = record {
      held = weaker S a b _ _ (λ c w. under_way_more Right ps qs (S.image a) c w) h.held;
      once = h.once;
    }

    -- all of these, and then those
    pub over_then : (ps qs : List Place) (a b c : D) → EachOnce (ps ++ qs) → GoesOver S a b Right ps
        → AreMade Right ps (S.image a) (S.image b) → GoesOver S b c Right qs → GoesOver S a c Right (ps ++ qs)
    over_then ps qs a b c once first made second = record {
      held = then S a b c _ (weaker S a b _ _ (λ i w. under_way_more Right ps qs (S.image a) i w) first.held)
          (weaker S b c _ _ (λ i w. under_way_then Right ps qs (S.image a) (S.image b) i once made w) second.held);
      once = once_then ps qs a b c once made (at_end S b c _ second.held) first.once second.once;
    }

    -- one sector, which is as it was, or right
    pub over_one : (p : Place) (a b : D) → HeldOnly S a b (λ c. (c ≡ S.image a) ⊎ AreMade Right (p ∷ []) (S.image a) c)
        → WritesOther S a b p → GoesOver S a b Right (p ∷ [])
    over_one p a b held other = record {
      held = weaker S a b _ _ (λ c. ⊎_elim (λ e. under_way_none Right (p ∷ []) (S.image a) c e)
          (λ made. under_way_all Right (p ∷ []) (S.image a) c made)) held;
      once = once_one a b p other;
    }

    -- one write
    pub over_write : (p : Place) (a b : D) (bytes : Sector)
        → HeldOnly S a b (OldOr (S.image a) (put (S.image a) p bytes)) → Right p bytes
        → (Right p (sector (S.image a) p) → bytes ≡ sector (S.image a) p) → WritesOther S a b p
        → GoesOver S a b Right (p ∷ [])
    over_write p a b bytes held right kept other = over_one p a b
        (weaker S a b _ _
        (λ c. ⊎_elim (λ e. inl e) (λ e. inr (let P : Image → Type 0 = AreMade Right (p ∷ []) (S.image a) in
        subst P (sym e) (made_put Right p (S.image a) bytes (S.whole a).size right kept)))) held)
        other

    -- reads, and then these
    pub over_read : (ps : List Place) (a b c : D) (n : ℕ) → EachOnce ps → OnlyReads S a b n → GoesOver S b c Right ps
        → GoesOver S a c Right ps
    over_read ps a b c n once r over = over_then [] ps a b c once (over_none [] a b n r)
        (made_none Right (S.image a) (S.image b) r.image) over
