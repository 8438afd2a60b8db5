-- How a run of calls on a folder goes on.
use Rattle.std.proofs.Common.{arith, inl, inr, subst, sym, ⊎_elim}
use Rattle.std.specs.Prelude.{Result}
use Rattle.image_log.specs.life.Folders.{Acts, AllLeft, Folder, FolderHistory, LeavesFolders, Passes, Same}

module _ {D : Type 0} (h : FolderHistory D) where
  -- before the first call
  pub started : (old : D) (P : Folder → Type 0) → AllLeft h old P → LeavesFolders h old old P
  started old P here = record {
    later = omega arith;
    each = λ c left. here c (h.only_now old c left);
    before = λ t c le left. inl left;
  }

  -- one call more, after which a power loss leaves what has P
  pub goes_on : (old mid new : D) (P : Folder → Type 0) → LeavesFolders h old mid P → Passes h mid new
      → AllLeft h new P → LeavesFolders h old new P
  goes_on old mid new P so_far time here = record {
    later = omega (arith, so_far.later, time.later);
    each = λ c left. ⊎_elim (so_far.each c) (here c) (time.nothing_else (h.moment old) c so_far.later left);
    before = λ t c le left. ⊎_elim (so_far.before t c le) (λ now. inr (here c now))
        (time.nothing_else t c (omega (arith, le, so_far.later)) left);
  }

  -- one that changes nothing
  pub stays : {T E : Type 0} (old mid new : D) (P : Folder → Type 0) (r : Result T E) → LeavesFolders h old mid P
      → Acts h mid new (λ s. s) Same r → LeavesFolders h old new P
  stays old mid new P r so_far acts = goes_on old mid new P so_far acts.time
      (λ s may.
      let from = acts.outcomes s may in
      subst P (sym from.2) (so_far.each from.0 (h.now mid (h.moment old) from.0 so_far.later from.1)))

  -- one run behind another
  pub joined : (old mid new : D) (P : Folder → Type 0) → LeavesFolders h old mid P → LeavesFolders h mid new P
      → LeavesFolders h old new P
  joined old mid new P one two = record {
    later = omega (arith, one.later, two.later);
    each = λ c left. ⊎_elim (one.each c) (λ p. p) (two.before (h.moment old) c one.later left);
    before = λ t c le left. ⊎_elim (one.before t c le) (λ p. inr p) (two.before t c (omega (arith, le, one.later)) left);
  }

  pub weaker : (old new : D) (P Q : Folder → Type 0) → ((c : Folder) → P c → Q c) → LeavesFolders h old new P
      → LeavesFolders h old new Q
  weaker old new P Q f only = record {
    later = only.later;
    each = λ c left. f c (only.each c left);
    before = λ t c le left. ⊎_elim (λ was. inl was) (λ p. inr (f c p)) (only.before t c le left);
  }
