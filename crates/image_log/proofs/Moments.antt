-- How a run of calls on a file goes on.
use Rattle.std.proofs.Common.{inl, inr, ⊎_elim, ℕ, List, arith}
use Rattle.image_log.specs.Files.{Elapses, FileHistory, LeavesOnly}

module _ {F : Type 0} (h : FileHistory F) where
  -- before the first call
  pub started : (old : F) (P : List ℕ → Type 0) → ((c : List ℕ) → h.may_leave old c → P c) → LeavesOnly h old old P
  started old P here = record {
    later = omega arith;
    each = λ c left. here c (h.only_now old c left);
    before = λ t c le left. inl left;
  }

  -- one call more, after which a power loss leaves what has P
  pub goes_on : (old mid new : F) (P : List ℕ → Type 0) → LeavesOnly h old mid P → Elapses h mid new
      → ((c : List ℕ) → h.may_leave new c → P c) → LeavesOnly h old new P
  goes_on old mid new P so_far time here = record {
    later = omega (arith, so_far.later, time.later);
    each = λ c left. ⊎_elim (so_far.each c) (here c) (time.nothing_else (h.moment old) c so_far.later left);
    before = λ t c le left. ⊎_elim (so_far.before t c le) (λ now. inr (here c now))
        (time.nothing_else t c (omega (arith, le, so_far.later)) left);
  }

  pub weaker : (old new : F) (P Q : List ℕ → Type 0) → ((c : List ℕ) → P c → Q c) → LeavesOnly h old new P
      → LeavesOnly h old new Q
  weaker old new P Q f only = record {
    later = only.later;
    each = λ c left. f c (only.each c left);
    before = λ t c le left. ⊎_elim (λ was. inl was) (λ p. inr (f c p)) (only.before t c le left);
  }
