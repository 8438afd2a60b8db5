-- How the words on moments, counts and failures go on from one call to the next.
use Rattle.std.proofs.Common.{ℕ, ◌≡◌, ◌≤◌, ◌<◌, ◌+◌, ⊎_elim, inl, inr, sym, ◌∙◌, subst, refl, le_refl, Result, Ok}
use Rattle.std.proofs.Common.{Err, OnOk, OnErr, arith}
use Rattle.std.proofs.Math.Nat.{add-le-add, le_of_eq, le_trans, lt_of_le_of_lt, lt_of_lt_of_le}
use Rattle.d64_image.specs.Images.{Image}
use Rattle.d64_image.specs.History.{History, HeldOnly, Failed, NeverFailed, OnlyReads, OldOr, Changes}
use Rattle.d64_image.specs.History.{ChangesInOneStep, FailsInOneStep, WritesNothing, IfCounted}

-- counts that rise by so much at most, one after another
rises : {y z n : ℕ} (x k m : ℕ) → k + m ≤ n → y ≤ x + k → z ≤ y + m → z ≤ x + n
rises x k m le first second = omega (arith, le, first, second)

rises_less : {y m n : ℕ} (x : ℕ) → m ≤ n → y ≤ x + m → y ≤ x + n
rises_less x le h = le_trans h (add-le-add (le_refl x) le)

stays : {x y : ℕ} (n : ℕ) → y ≡ x → y ≤ x + n
stays n same = omega (arith, same)

-- a count that stays, beside one that rises
rises_later : {x y z : ℕ} → y ≡ x → y < z → x < z
rises_later same lt = lt_of_le_of_lt (le_of_eq (sym same)) lt

between : {x y z : ℕ} → x ≤ y → y ≤ z → z ≡ x → y ≡ x
between low high same = omega (arith, low, high, same)

between_rest : {x y z : ℕ} → x ≤ y → y ≤ z → z ≡ x → z ≡ y
between_rest low high same = omega (arith, low, high, same)

falls : {x y : ℕ} → y ≡ x → x < y → ⊥
falls same lt = omega (arith, same, lt)

module _ {D : Type 0} (S : History D) where
  pub start : (d : D) (P : Image → Type 0) → P (S.image d) → HeldOnly S d d P
  start d P p = record {
    reached = S.reached_same d;
    later = le_refl (S.moment d);
    each = λ c h. subst P (sym (S.only_now d c h)) p;
    before = λ t c le h. inl h;
  }

  -- one call after another
  pub then : (a b c : D) (P : Image → Type 0) → HeldOnly S a b P → HeldOnly S b c P → HeldOnly S a c P
  then a b c P first second = record {
    reached = S.reached_then a b c first.reached second.reached;
    later = le_trans first.later second.later;
    each = λ x h. ⊎_elim (first.each x) (λ p. p) (second.before (S.moment a) x first.later h);
    before = λ t x le h. ⊎_elim (first.before t x le) (λ p. inr p) (second.before t x (le_trans le first.later) h);
  }

  pub weaker : (a b : D) (P Q : Image → Type 0) → ((c : Image) → P c → Q c) → HeldOnly S a b P → HeldOnly S a b Q
  weaker a b P Q f h = record {
    reached = h.reached;
    later = h.later;
    each = λ c x. f c (h.each c x);
    before = λ t c le x. ⊎_elim (λ l. inl l) (λ p. inr (f c p)) (h.before t c le x);
  }

  -- what it holds at the end is one of those
  pub at_end : (a b : D) (P : Image → Type 0) → HeldOnly S a b P → P (S.image b)
  at_end a b P h = h.each (S.image b) (S.now b (S.moment a) h.later)

  -- a read
  pub reading : (a b : D) (n : ℕ) (P : Image → Type 0) → OnlyReads S a b n → P (S.image a) → HeldOnly S a b P
  reading a b n P r p = weaker a b (λ c. c ≡ S.image a) P (λ c e. subst P (sym e) p) r.held

  -- a write
  pub writing : (a b : D) (i j : Image) (P : Image → Type 0) → HeldOnly S a b (OldOr i j) → P i → P j → HeldOnly S a b P
  writing a b i j P h p q = weaker a b (OldOr i j) P (λ c. ⊎_elim (λ e. subst P (sym e) p) (λ e. subst P (sym e) q)) h

  -- with the count of writes
  pub changes_weaker : (a b : D) (m n : ℕ) (P Q : Image → Type 0) → m ≤ n → ((c : Image) → P c → Q c)
      → Changes S a b m P → Changes S a b n Q
  changes_weaker a b m n P Q le f h = record {
    held = weaker a b P Q f h.held;
    writes = rises_less (S.writes a) le h.writes;
  }

  pub changes_then : (a b c : D) (k m n : ℕ) (P : Image → Type 0) → k + m ≤ n → Changes S a b k P → Changes S b c m P
      → Changes S a c n P
  changes_then a b c k m n P le first second = record {
    held = then a b c P first.held second.held;
    writes = rises (S.writes a) k m le first.writes second.writes;
  }

  pub no_change : (d : D) (P : Image → Type 0) → P (S.image d) → Changes S d d 0 P
  no_change d P p = record { held = start d P p; writes = stays 0 refl }

  pub reads_change : (a b : D) (n : ℕ) (P : Image → Type 0) → OnlyReads S a b n → P (S.image a) → Changes S a b 0 P
  reads_change a b n P r p = record { held = reading a b n P r p; writes = stays 0 r.writes }

  pub write_change : (a b : D) (i j : Image) (P : Image → Type 0) → HeldOnly S a b (OldOr i j)
      → S.writes b ≤ S.writes a + 1 → P i → P j → Changes S a b 1 P
  write_change a b i j P h counted p q = record { held = writing a b i j P h p q; writes = counted }

  -- one turn more of a loop of writes
  pub one_write_more : (a b c : D) (n : ℕ) (i j : Image) (P : Image → Type 0) → Changes S a b n P
      → HeldOnly S b c (OldOr i j) → S.writes c ≤ S.writes b + 1
      → P i → P j → Changes S a c (n + 1) P
  one_write_more a b c n i j P so_far h counted p q = changes_then a b c n 1 (n + 1) P (le_refl (n + 1)) so_far
      (write_change b c i j P h counted p q)

  -- reads alone
  pub no_reads : (d : D) → OnlyReads S d d 0
  no_reads d = record { image = refl; held = start d (λ c. c ≡ S.image d) refl; reads = stays 0 refl; writes = refl }

  pub reads_then : (a b c : D) (k m n : ℕ) → k + m ≤ n → OnlyReads S a b k → OnlyReads S b c m → OnlyReads S a c n
  reads_then a b c k m n le first second = record {
    image = second.image ∙ first.image;
    held = then a b c (λ i. i ≡ S.image a) first.held (weaker b c (λ i. i ≡ S.image b) (λ i. i ≡ S.image a) (λ i e. e
        ∙ first.image) second.held);
    reads = rises (S.reads a) k m le first.reads second.reads;
    writes = second.writes ∙ first.writes;
  }

  pub reads_weaker : (a b : D) (m n : ℕ) → m ≤ n → OnlyReads S a b m → OnlyReads S a b n
  reads_weaker a b m n le r = record {
    image = r.image;
    held = r.held;
    reads = rises_less (S.reads a) le r.reads;
    writes = r.writes;
  }

  -- reads, and then one step
  pub read_step : (a b : D) (n : ℕ) → OnlyReads S a b n → ChangesInOneStep S a b
  read_step a b n r = weaker a b (λ i. i ≡ S.image a) (OldOr (S.image a) (S.image b)) (λ i e. inl e) r.held

  pub reads_then_step : (a b c : D) (n : ℕ) → OnlyReads S a b n → ChangesInOneStep S b c → ChangesInOneStep S a c
  reads_then_step a b c n r step = then a b c (OldOr (S.image a) (S.image c))
      (weaker a b (λ i. i ≡ S.image a) (OldOr (S.image a) (S.image c)) (λ i e. inl e) r.held)
      (weaker b c (OldOr (S.image b) (S.image c)) (OldOr (S.image a) (S.image c))
      (λ i. ⊎_elim (λ e. inl (e ∙ r.image)) (λ e. inr e)) step)

  pub read_fails : (a b : D) (n : ℕ) → OnlyReads S a b n → FailsInOneStep S a b
  read_fails a b n r = record { uncounted = r.writes; one_step = read_step a b n r }

  pub reads_then_fails : (a b c : D) (n : ℕ) → OnlyReads S a b n → FailsInOneStep S b c → FailsInOneStep S a c
  reads_then_fails a b c n r f = record {
    uncounted = f.uncounted ∙ r.writes;
    one_step = reads_then_step a b c n r f.one_step;
  }

  -- nothing is written
  pub no_write : (d : D) → WritesNothing S d d
  no_write d = record { image = refl; held = start d (λ c. c ≡ S.image d) refl; writes = refl }

  pub reads_no_write : (a b : D) (n : ℕ) → OnlyReads S a b n → WritesNothing S a b
  reads_no_write a b n r = record { image = r.image; held = r.held; writes = r.writes }

  pub no_write_then : (a b c : D) → WritesNothing S a b → WritesNothing S b c → WritesNothing S a c
  no_write_then a b c first second = record {
    image = second.image ∙ first.image;
    held = then a b c (λ i. i ≡ S.image a) first.held (weaker b c (λ i. i ≡ S.image b) (λ i. i ≡ S.image a) (λ i e. e
        ∙ first.image) second.held);
    writes = second.writes ∙ first.writes;
  }

  pub no_write_change : (a b : D) (P : Image → Type 0) → WritesNothing S a b → P (S.image a) → Changes S a b 0 P
  no_write_change a b P w p = record {
    held = weaker a b (λ c. c ≡ S.image a) P (λ c e. subst P (sym e) p) w.held;
    writes = stays 0 w.writes;
  }

  -- a write is counted at most once, however it ends
  pub counted_once : {T E : Type 0} (a b : D) (result : Result T E) → OnOk result (S.writes b ≤ S.writes a + 1)
      → OnErr result (S.writes b ≡ S.writes a)
      → S.writes b ≤ S.writes a + 1
  counted_once a b (Ok _) counted uncounted = counted
  counted_once a b (Err _) counted uncounted = stays 1 uncounted

  -- where a write was counted: one call that writes, and what comes before or after it
  pub none_counted : (a b : D) (P : Image → Type 0) → S.writes b ≡ S.writes a → IfCounted S a b P
  none_counted a b P same = λ (lt : S.writes a < S.writes b). absurd (falls same lt)

  -- failures
  pub failed_later : (a b c : D) → S.failures b ≡ S.failures a → Failed S b c → Failed S a c
  failed_later a b c same f = record {
    later = le_trans (le_of_eq (sym same)) f.later;
    rose = λ lt. rises_later same (f.rose lt);
  }

  pub failed_before : (a b c : D) → Failed S a b → S.failures b ≤ S.failures c → Failed S a c
  failed_before a b c f le = record {
    later = le_trans f.later le;
    rose = λ lt. lt_of_lt_of_le (f.rose (lt_of_le_of_lt le lt)) le;
  }

  pub never_failed : (a b : D) → NeverFailed S a b → Failed S a b → ⊥
  never_failed a b n f = falls n.same (f.rose n.not_spent)

  -- a premise on a whole run holds of its parts
  pub never_failed_first : (a b c : D) → S.failures a ≤ S.failures b → S.failures b ≤ S.failures c → NeverFailed S a c
      → NeverFailed S a b
  never_failed_first a b c ab bc n = record { same = between ab bc n.same; not_spent = lt_of_le_of_lt bc n.not_spent }

  pub never_failed_rest : (a b c : D) → S.failures a ≤ S.failures b → S.failures b ≤ S.failures c → NeverFailed S a c
      → NeverFailed S b c
  never_failed_rest a b c ab bc n = record { same = between_rest ab bc n.same; not_spent = n.not_spent }
