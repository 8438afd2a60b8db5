-- What a power loss leaves in each stage stands for the old image or the new one.
use Rattle.std.proofs.Common.{◌≡◌, ◌⊎◌, ℕ, suc, ◌≤◌, ◌<◌, List, [], ◌∷◌, length, Some, slice_get, refl, sym, ap, subst, inl, inr, ⊎_elim, arith}
use Rattle.one_host.specs.Worlds.{IsMix, Kept, Left, MayLeave, OneOf, World}
use Rattle.one_host.specs.declared.parts.Entry.{Entry}
use Rattle.one_host.specs.declared.parts.Entry.TheVariants.{Leads, Nothing}
use Rattle.one_host.specs.Calls.{turned}
use Rattle.replaced_images.specs.Replaced.{Always, ByLog, Gives, GivesBeside, Logs, Stands, log_of, whole}

-- two lists that read alike at each place are one
alike : (c xs : List ℕ) → length c ≤ length xs → ((i : ℕ) → i < length xs → slice_get c i ≡ slice_get xs i) → c ≡ xs
alike [] [] le each = refl
alike [] (x ∷ xs) le each = absurd (cc (each 0 (omega arith)))
alike (y ∷ ys) [] le each = absurd (omega (arith, le))
alike (y ∷ ys) (x ∷ xs) le each =
    let first : y ≡ x = cc (each 0 (omega arith)) in
    let rest = alike ys xs (omega (arith, le)) (λ i lt. each (suc i) (omega (arith, lt))) in
    cc (first, rest)

-- what was synced stays
pub settled : (k : Kept (List ℕ)) (x c : List ℕ) → k ≡ whole x → IsMix k.now k.before c → c ≡ x
settled k x c is mix =
    let m : IsMix x [] c = subst (λ (v : Kept (List ℕ)). IsMix v.now v.before c) is mix in
    alike c x m.size (λ i lt. ⊎_elim
    (λ (e : slice_get c i ≡ slice_get x i). e)
    (λ (z : (length x ≤ i) × (slice_get c i ≡ Some 0)). absurd (omega (arith, lt, z.0)))
    (m.each i))

-- the entry of a name
pub entry_left : (w : World) (left : Left) → MayLeave w left → (p : List ℕ) (k : Kept Entry) → w.names p ≡ k → OneOf (λ was. left.names p ≡ was) k.now k.before
entry_left w left may p k is = subst (λ (v : Kept Entry). OneOf (λ was. left.names p ≡ was) v.now v.before) is (may.names p)

module _ (logs : Logs) (path : List ℕ) (i : ℕ) (w : World) (left : Left) (may : MayLeave w left)
    (led : w.names path ≡ whole (Leads i)) where
  stands : (given : List ℕ) (e : Entry) → left.names (log_of path) ≡ e → ByLog logs left (left.bytes i) e given → Stands logs path left given
  stands given e is by = record {
    image = i;
    led = entry_left w left may path (whole (Leads i)) led;
    by_log = subst (λ v. ByLog logs left (left.bytes i) v given) (sym is) by;
  }

  -- with no log the image's file gives the image
  pub alone : (x : List ℕ) → (w.files i).bytes ≡ whole x → left.names (log_of path) ≡ Nothing → Stands logs path left x
  alone x is none = stands x Nothing none (sym (settled (w.files i).bytes x (left.bytes i) is (may.bytes i)))

  -- with the log it is the new one
  pub logged : (l : ℕ) (f old new : List ℕ) → GivesBeside logs f old new → (w.files l).bytes ≡ whole f → IsMix new (old ∷ []) (left.bytes i)
      → left.names (log_of path) ≡ Leads l → Stands logs path left new
  logged l f old new gives is mix named = stands new (Leads l) named
      (subst (λ c. logs c (left.bytes i) ≡ Some new) (sym (settled (w.files l).bytes f (left.bytes l) is (may.bytes l))) (gives (left.bytes i) mix))

pub mix_of_old : (old new c : List ℕ) → c ≡ old → length old ≡ length new → IsMix new (old ∷ []) c
mix_of_old old new c is same = record {
  each = λ i. inr (inl (ap (λ l. slice_get l i) is));
  size = inr (omega (arith, ap length is));
}

pub mix_of_new : (old new c : List ℕ) → c ≡ new → IsMix new (old ∷ []) c
mix_of_new old new c is = record {
  each = λ i. inl (inl (ap (λ l. slice_get l i) is));
  size = inl (omega (arith, ap length is));
}

module _ (logs : Logs) (path old new : List ℕ) (i l : ℕ) (w : World) where
  -- no log
  pub gives_alone : w.names path ≡ whole (Leads i) → w.names (log_of path) ≡ whole Nothing
      → ((w.files i).bytes ≡ whole old) ⊎ ((w.files i).bytes ≡ whole new) → Gives logs path old new w
  gives_alone led name image left may =
      let none = entry_left w left may (log_of path) (whole Nothing) name in
      ⊎_elim (λ is. inl (alone logs path i w left may led old is none)) (λ is. inr (alone logs path i w left may led new is none)) image

  module _ (f : List ℕ) (gives : GivesBeside logs f old new) (log : (w.files l).bytes ≡ whole f) (led : w.names path ≡ whole (Leads i)) where
    -- the log's name came, and the folder wasn't synced
    pub gives_named : length old ≡ length new → w.names (log_of path) ≡ turned (whole Nothing) (Leads l) → (w.files i).bytes ≡ whole old → Gives logs path old new w
    gives_named same name image left may = ⊎_elim
        (λ (e : left.names (log_of path) ≡ Leads l). inr (logged logs path i w left may led l f old new gives log
        (mix_of_old old new (left.bytes i) (settled (w.files i).bytes old (left.bytes i) image (may.bytes i)) same) e))
        (λ (e : left.names (log_of path) ≡ Nothing). inl (alone logs path i w left may led old image e))
        (entry_left w left may (log_of path) (turned (whole Nothing) (Leads l)) name)

    -- the log's name went, and the folder wasn't synced
    pub gives_unnamed : w.names (log_of path) ≡ turned (whole (Leads l)) Nothing → (w.files i).bytes ≡ whole new → Gives logs path old new w
    gives_unnamed name image left may = ⊎_elim
        (λ (e : left.names (log_of path) ≡ Nothing). inr (alone logs path i w left may led new image e))
        (λ (e : left.names (log_of path) ≡ Leads l). inr (logged logs path i w left may led l f old new gives log
        (mix_of_new old new (left.bytes i) (settled (w.files i).bytes new (left.bytes i) image (may.bytes i))) e))
        (entry_left w left may (log_of path) (turned (whole (Leads l)) Nothing) name)

    -- the log has its name: it is the new one
    pub gives_logged : w.names (log_of path) ≡ whole (Leads l) → ((c : List ℕ) → IsMix (w.files i).bytes.now (w.files i).bytes.before c → IsMix new (old ∷ []) c)
        → Always logs path new w
    gives_logged name mixed left may = logged logs path i w left may led l f old new gives log (mixed (left.bytes i) (may.bytes i))
        (entry_left w left may (log_of path) (whole (Leads l)) name)

-- an image that it stands for in any case is one of two
pub gives_of : (logs : Logs) (path old new : List ℕ) (w : World) → Always logs path new w → Gives logs path old new w
gives_of logs path old new w always left may = inr (always left may)

pub always_of : (logs : Logs) (path new : List ℕ) (w : World) → Gives logs path new new w → Always logs path new w
always_of logs path new w gives left may = ⊎_elim (λ s. s) (λ s. s) (gives left may)

-- a log that stands for the new image beside a mix does so beside the new one
pub gives_new : (logs : Logs) (log old new : List ℕ) → length old ≡ length new → GivesBeside logs log old new → GivesBeside logs log new new
gives_new logs log old new same gives c mix = gives c (record {
  each = λ i. ⊎_elim (λ s. inl s) (λ s. inl s) (mix.each i);
  size = ⊎_elim (λ s. inl s) (λ s. inl s) mix.size;
})
