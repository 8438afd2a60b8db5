-- The mark of a log that was found.
use Rattle.std.proofs.Common.{◌≡◌, ◌≤◌, ◌+◌, ◌-◌, ◌⊎◌, ◌∙◌, ℕ, List, [], ◌∷◌, ap, arith, eqb, inl, inr, length, not, refl, slice_index, subst, sym, ⊎_elim}
use Rattle.std.specs.Prelude.{Err, IsSome, None, Ok, OnOk, Option, Result, Some}
use Rattle.std.proofs.lemmas.Bool.{false≢true}
use Rattle.d64_image.specs.Images.{Image}
use Rattle.image_log.specs.Files.{FileHistory, Mixed, Only, SyncsBytes, WritesBytes}
use Rattle.image_log.proofs.Commits.{new_mixed}
use Rattle.image_log.proofs.Marked.{is_there, mark_left, same_recovered}
use Rattle.image_log.specs.Recovered.{base_of}
use Rattle.image_log.specs.life.Bringing.{HasLog, IsFound, IsMarkedIn, MarkTorn, marked_log}
use Rattle.image_log.specs.life.Folders.{Acts, AllLeft, Folder, FolderHistory, IsReturned, LeavesFolders, LogOf, Same, with_log}
use Rattle.image_log.specs.life.Mixes.{IsMixOf}
use Rattle.image_log.specs.life.Shops.{Gives, GivesOneOf, LogGives, given_by}
use Rattle.image_log.proofs.lemmas.life.Steps.{goes_on, started}

-- a part of the mark changes nothing
pub mark_gives : (d c : List ℕ) (image given : Image) → MarkTorn d c → LogGives d image given → LogGives c image given
mark_gives d c image given torn gives =
    let mixed : Mixed 4194304 (1 ∷ []) d c = torn (omega (arith, gives.size)) in
    let left = mark_left d gives.size c mixed gives.based gives.ends in
    record {
      size = mixed.size ∙ gives.size;
      based = left.based;
      own = ⊎_elim
          (λ same. inl (same ∙ sym left.base))
          (λ marked. inr (
            ⊎_elim
                (λ (same : slice_index c (4194304 + 0) ≡ slice_index d (4194304 + 0)). ap (λ (k : ℕ). not (eqb k 0)) same ∙ marked.0)
                (λ (one : slice_index c (4194304 + 0) ≡ slice_index (1 ∷ []) 0). ap (λ (k : ℕ). not (eqb k 0)) one)
                (mixed.each 0 (omega arith)),
            subst (λ (b : Image). IsMixOf b given image) (sym left.base) marked.1,
          ))
          gives.own;
      is = same_recovered d gives.size c mixed ∙ gives.is;
      ends = left.ends;
    }

-- with its mark it gives the same beside each mix of its base and that
pub marked_gives : (f : List ℕ) (image other given : Image) → LogGives f image given → IsMixOf (base_of f) given other
    → LogGives (marked_log f) other given
marked_gives f image other given gives mix =
    let mixed : Mixed 4194304 (1 ∷ []) f (marked_log f) = new_mixed f 4194304 (1 ∷ []) (omega (arith, gives.size)) in
    let left = mark_left f gives.size (marked_log f) mixed gives.based gives.ends in
    record {
      size = mixed.size ∙ gives.size;
      based = left.based;
      own = inr (is_there f gives.size, subst (λ (b : Image). IsMixOf b given other) (sym left.base) mix);
      is = same_recovered f gives.size (marked_log f) mixed ∙ gives.is;
      ends = left.ends;
    }

pub always : {T E : Type 0} {P : Type 0} (r : Result T E) → P → OnOk r P
always (Ok x) p = p
always (Err e) p = tt

unmarked_yet : (c : List ℕ) → MarkTorn c c
unmarked_yet c long = record {
  size = refl;
  before = λ i low. refl;
  after = λ i low. refl;
  each = λ i low. inl refl;
}

-- a log that has these bytes
pub gives_log : (s : Folder) (c : List ℕ) (given : Image) → s.log ≡ Some c → Gives s given → LogGives c s.image given
gives_log s c given is gives = subst (λ (o : Option (List ℕ)). given_by o s.image given) is gives

log_is : (m c : List ℕ) (from o : Folder) → o ≡ with_log c from → c ≡ m → HasLog m o
log_is m c from o is same = ap (λ (x : Folder). x.log) is ∙ ap Some same

module _ {D F : Type 0} (h : FolderHistory D) (g : FileHistory F) (old : D) (shops : List Image) (s : Folder)
    (found : IsFound h old shops s) (file marked : F)
    (opened : LogOf h g old file)
    (outcomes : (c : List ℕ) → g.may_leave marked c → (from : List ℕ) × g.may_leave file from × MarkTorn from c)
  where
    -- the log with a part of its mark, in the folder
    torn_gives : (from : Folder) (c0 c : List ℕ) → h.may_leave old from → g.may_leave file c0 → MarkTorn c0 c
        → GivesOneOf shops (with_log c from)
    torn_gives from c0 c may left torn =
        let other = opened.left c0 left in
        let one = found.left other.0 other.1 in
        let image : other.0.image ≡ from.image = (found.settled other.0 other.1).0 ∙ sym (found.settled from may).0 in (
          one.0,
          one.1,
          mark_gives c0 c from.image one.0 torn
              (subst (λ (i : Image). LogGives c0 i one.0) image (gives_log other.0 c0 one.0 other.2 one.2)),
        )

    module _ {T E : Type 0} (a new : D) (opening : Result T E) (acts : Acts h old a (λ (x : Folder). x) Same opening)
        (lent : g.moment file ≡ h.lent a)
        (since : (t : ℕ) (c : List ℕ) → t ≤ g.moment file → g.left_since marked t c
        → g.left_since file t c ⊎ ((from : List ℕ) × g.may_leave file from × MarkTorn from c))
        {E2 : Type 0} (closing : Result Unit E2) (returned : IsReturned h g a new marked closing) where
      was : (o : Folder) → h.may_leave a o → h.may_leave old o
      was o may = let from = acts.outcomes o may in subst (h.may_leave old) (sym from.2) from.1

      opened_moments : LeavesFolders h old a (GivesOneOf shops)
      opened_moments = goes_on h old old a (GivesOneOf shops) (started h old (GivesOneOf shops) found.left) acts.time
          (λ o may. found.left o (was o may))

      now : AllLeft h new (GivesOneOf shops)
      now o may =
          let from = returned.outcomes o may in
          ⊎_elim
          (λ same. subst (GivesOneOf shops) (sym same.0) (found.left from.0 (was from.0 from.1)))
          (λ closed. let torn = outcomes closed.0 closed.1 in
          subst (GivesOneOf shops) (sym closed.2) (torn_gives from.0 torn.0 closed.0 (was from.0 from.1) torn.1 torn.2))
          from.2

      while_open : (k : ℕ) (from : Folder) (c : List ℕ) → k ≡ h.lent a → h.may_leave a from → g.left_since marked k c
          → GivesOneOf shops (with_log c from)
      while_open k from c is may was_left =
          let left = subst (λ (t : ℕ). g.left_since marked t c) is was_left in
          ⊎_elim
          (λ before. torn_gives from c c (was from may)
          (g.only_now file c (subst (λ (t : ℕ). g.left_since file t c) (sym lent) before)) (unmarked_yet c))
          (λ torn. torn_gives from torn.0 c (was from may) torn.1 torn.2)
          (since (h.lent a) c (omega (arith, lent)) left)

      -- a moment of the folder before the log was lent
      while_lent : (t : ℕ) (o : Folder) → t ≤ h.moment a → h.left_since new t o → h.left_since a t o ⊎ GivesOneOf shops o
      while_lent t o le left = ⊎_elim
          (λ then. ⊎_elim
          (λ before. inl before.1)
          (λ open_then. inr (subst (GivesOneOf shops) (sym open_then.4)
          (while_open (h.lent a + (t - (h.moment a + 1))) open_then.0 open_then.2 (omega (arith, le)) open_then.1 open_then.3)))
          then)
          (λ after. inr (now o after))
          (returned.since t o (omega (arith, le)) left)

      pub mark_moments : LeavesFolders h old new (GivesOneOf shops)
      mark_moments = record {
        later = omega (arith, opened_moments.later, returned.later);
        each = λ o left. ⊎_elim (λ before. opened_moments.each o before) (λ gives. gives)
            (while_lent (h.moment old) o opened_moments.later left);
        before = λ t o le left. ⊎_elim (λ before. opened_moments.before t o le before) (λ gives. inr gives)
            (while_lent t o (omega (arith, le, opened_moments.later)) left);
      }

      module _ (back : (s : Folder) (f : List ℕ) → h.held a ≡ Some s → g.held marked ≡ Some f → h.held new ≡ Some (with_log f s))
          (f : List ℕ) (log : s.log ≡ Some f)
          (kept : (x : Folder) → h.held old ≡ Some x → h.held a ≡ Some x)
          (put : g.held file ≡ Some f → 4194304 ≤ length f
          → (g.held marked ≡ Some (marked_log f)) × Only (marked_log f) (g.may_leave marked)) where
        long : 4194304 ≤ length f
        long = omega (arith, (gives_log s f found.gives.0 log found.gives.2).size)

        is_put : (g.held marked ≡ Some (marked_log f)) × Only (marked_log f) (g.may_leave marked)
        is_put = put (opened.held s f found.held log) long

        pub mark_held : h.held new ≡ Some (with_log (marked_log f) s)
        mark_held = back s (marked_log f) (kept s found.held) is_put.0

        pub mark_stays : AllLeft h new (IsMarkedIn f s)
        mark_stays o may =
            let from = returned.outcomes o may in
            ⊎_elim
            (λ same. absurd (not_none from.0 (was from.0 from.1) same.1))
            (λ closed. (
              log_is (marked_log f) closed.0 from.0 o closed.2 (is_put.1 closed.0 closed.1),
              ap (λ (x : Folder). x.image) closed.2 ∙ (found.settled from.0 (was from.0 from.1)).0,
            ))
            from.2
          where
            not_none : (from : Folder) → h.may_leave old from → from.log ≡ None → ⊥
            not_none from may none =
                let there : IsSome from.log = (found.settled from may).1.some (subst IsSome (sym log) refl) in
                false≢true (subst IsSome none there)

-- the mark, written and synced
module _ {F : Type 0} (g : FileHistory F) (old mid new : F) where
  module _ {T E T2 E2 : Type 0} (writing : Result T E) (writes : WritesBytes g old mid 4194304 (1 ∷ []) writing)
      (syncing : Result T2 E2) (syncs : SyncsBytes g mid new syncing) where
    pub put_left : (t : ℕ) (c : List ℕ) → t ≤ g.moment old → g.left_since new t c
        → g.left_since old t c ⊎ ((from : List ℕ) × g.may_leave old from × MarkTorn from c)
    put_left t c le left =
        ⊎_elim
        (λ before. ⊎_elim (λ was. inl was) (λ torn. let w = writes.torn c torn in inr (w.0, w.1, w.2))
        (writes.time.nothing_else t c le before))
        (λ after. let w = writes.torn c (syncs.outcomes c after) in inr (w.0, w.1, w.2))
        (syncs.time.nothing_else t c (omega (arith, le, writes.time.later)) left)

    put_ok : (ok : (f : List ℕ) → g.held old ≡ Some f → 4194304 ≤ length f → g.held mid ≡ Some (marked_log f))
        → (r : Result T2 E2) → OnOk r ((f : List ℕ) → g.held mid ≡ Some f → Only f (g.may_leave new))
        → OnOk r ((f : List ℕ) → g.held old ≡ Some f → 4194304 ≤ length f
        → (g.held new ≡ Some (marked_log f)) × Only (marked_log f) (g.may_leave new))
    put_ok ok (Ok x) only = λ f held long. (syncs.held ∙ ok f held long, only (marked_log f) (ok f held long))
    put_ok ok (Err e) only = tt

    pub is_put_at_ok : ((f : List ℕ) → g.held old ≡ Some f → 4194304 ≤ length f → g.held mid ≡ Some (marked_log f))
        → OnOk syncing ((f : List ℕ) → g.held old ≡ Some f → 4194304 ≤ length f
        → (g.held new ≡ Some (marked_log f)) × Only (marked_log f) (g.may_leave new))
    is_put_at_ok ok = put_ok ok syncing syncs.ok
