-- A write and a sync of one file.
use Rattle.std.proofs.Common.{◌≡◌, ◌==◌, ◌∙◌, ℕ, Bool, true, false, List, [], ◌∷◌, ap, if◌then◌else◌, refl, subst, sym, Result, Ok}
use Rattle.std.proofs.lemmas.Bool.{eq-eqb}
use Rattle.one_host.specs.Worlds.{File, IsMix, Kept, World}
use Rattle.one_host.specs.History.{HeldOnly, HostHistory, Since, Until}
use Rattle.one_host.specs.Calls.{Steps, brought, changed, doubted, half_changed, makes, put, synced, turned, unsynced, with_bytes, written}
use Rattle.one_host.specs.declared.parts.Failure.{Failure}
use Rattle.one_host.proofs.Moments.{after, moments}
use Rattle.image_log.specs.Files.{overwritten}
use Rattle.replaced_images.specs.Stages.{AreWithin}
use Rattle.replaced_images.proofs.Pieces.{old_within}
use Rattle.kept_logs.specs.Files.{Has, Mixes, OnlyFile, Takes, bytes_in}
use Rattle.kept_logs.proofs.Bytes.{leaves_mixed, new_within, part_within, put_over, same}

if_so : {A : Type 0} (b : Bool) (x y : A) → b ≡ true → (if b then x else y) ≡ x
if_so b x y is = ap (λ c. if c then x else y) is

if_not : {A : Type 0} (b : Bool) (x y : A) → b ≡ false → (if b then x else y) ≡ y
if_not b x y is = ap (λ c. if c then x else y) is

-- the world itself
pub only_self : (v : World) (n : ℕ) → OnlyFile v n v
only_self v n = record { file = refl; others = λ m _. refl; rest = refl }

-- the file has other bytes
module _ (v u : World) (n : ℕ) (k : Kept (List ℕ)) where
  pub bytes_now : (with_bytes u n k).files n ≡ record (u.files n) { bytes = k }
  bytes_now = if_so (n == n) (record (u.files n) { bytes = k }) (u.files n) (eq-eqb n n refl)

  pub only_with : OnlyFile v n u → OnlyFile v n (with_bytes u n k)
  only_with o = record {
    file = bytes_now ∙ ap (λ (f : File). record f { bytes = k }) o.file
        ∙ ap (λ (b : Kept (List ℕ)). record (v.files n) { bytes = b }) (sym (ap (λ (f : File). f.bytes) bytes_now));
    others = λ m apart. if_not (m == n) (record (u.files n) { bytes = k }) (u.files m) apart ∙ o.others m apart;
    rest = ap (λ (w : World). record w { files = (with_bytes u n k).files }) o.rest;
  }

-- the world is v, and these bytes were written into the file, and perhaps synced
module _ (v : World) (n at : ℕ) (bytes : List ℕ) where
  abbrev f : List ℕ
  f = bytes_in v n

  abbrev new : List ℕ
  new = overwritten f at bytes

  -- the first call finds it so
  pub record Begins (w : World) : Type 0 where
    pub is : w ≡ v
    pub takes : Takes n at bytes v

  -- it is written
  pub record IsWritten (w : World) : Type 0 where
    pub only : OnlyFile v n w
    pub kept : (w.files n).bytes ≡ record { now = new; before = f ∷ []; in_doubt = false }
    pub takes : Takes n at bytes v

  -- whatever is left is a mix
  mixes_by : (w : World) → Takes n at bytes v → OnlyFile v n w → AreWithin f new (w.files n).bytes.now (w.files n).bytes.before → Mixes v n at bytes w
  mixes_by w t o are = record { only = o; leaves = leaves_mixed f at bytes t.within (w.files n).bytes.now (w.files n).bytes.before are }

  kept_of : Takes n at bytes v → (v.files n).bytes ≡ record { now = f; before = []; in_doubt = false }
  kept_of t = λ i. record { now = f; before = t.safe.before i; in_doubt = t.safe.sure i }

  pub begins_mixes : (u : World) → Begins u → Mixes v n at bytes u
  begins_mixes u b = subst (Mixes v n at bytes) (sym b.is) (mixes_by v b.takes (only_self v n)
      (subst (λ (l : List (List ℕ)). AreWithin f new f l) (sym b.takes.safe.before) (old_within f new (same f at bytes b.takes.within))))

  -- the file of a world that came of v has these bytes
  module _ (t : Takes n at bytes v) (x : List ℕ) where
    changed_kept : ((changed v n x).files n).bytes ≡ record { now = x; before = f ∷ []; in_doubt = false }
    changed_kept = ap (λ (g : File). g.bytes) (bytes_now v v n (turned (v.files n).bytes x)) ∙ ap (λ (k : Kept (List ℕ)). turned k x) (kept_of t)

    changed_only : OnlyFile v n (changed v n x)
    changed_only = only_with v v n (turned (v.files n).bytes x) (only_self v n)

  half_mixes : (u w : World) → Begins u → half_changed n (λ old. put old at bytes) u w → Mixes v n at bytes w
  half_mixes u w b d = subst (Mixes v n at bytes) (sym (d.2 ∙ ap (λ (y : World). changed y n d.0) b.is)) (mixes_by (changed v n d.0) b.takes (changed_only b.takes d.0)
      (subst (λ (k : Kept (List ℕ)). AreWithin f new k.now k.before) (sym (changed_kept b.takes d.0))
      (part_within f at bytes b.takes.within d.0 mix, old_within f new (same f at bytes b.takes.within))))
    where
      mix : IsMix new (f ∷ []) d.0
      mix = subst (λ (l : List ℕ). IsMix l (f ∷ []) d.0) (put_over f at bytes b.takes.within)
          (subst (λ (y : World). IsMix (put (bytes_in y n) at bytes) (bytes_in y n ∷ []) d.0) b.is d.1)

  writes : (u w : World) → Begins u → w ≡ written u n at bytes → IsWritten w
  writes u w b is = subst IsWritten (sym (is ∙ ap (λ (y : World). written y n at bytes) b.is)) (record {
    only = changed_only b.takes (put f at bytes);
    kept = changed_kept b.takes (put f at bytes) ∙ ap (λ (l : List ℕ). record { now = l; before = f ∷ []; in_doubt = false }) (put_over f at bytes b.takes.within);
    takes = b.takes;
  })

  written_mixes : (u : World) → IsWritten u → Mixes v n at bytes u
  written_mixes u w = mixes_by u w.takes w.only
      (subst (λ (k : Kept (List ℕ)). AreWithin f new k.now k.before) (sym w.kept)
      (new_within f at bytes w.takes.within, old_within f new (same f at bytes w.takes.within)))

  module _ (u : World) (w : IsWritten u) (F : Kept (List ℕ) → Kept (List ℕ)) where
    becomes_kept : ((with_bytes u n (F (u.files n).bytes)).files n).bytes ≡ F (record { now = new; before = f ∷ []; in_doubt = false })
    becomes_kept = ap (λ (g : File). g.bytes) (bytes_now v u n (F (u.files n).bytes)) ∙ ap F w.kept

    becomes_only : OnlyFile v n (with_bytes u n (F (u.files n).bytes))
    becomes_only = only_with v u n (F (u.files n).bytes) w.only

  unsynced_mixes : (u w : World) → IsWritten u → w ≡ unsynced u n → Mixes v n at bytes w
  unsynced_mixes u w b is = subst (Mixes v n at bytes) (sym is) (mixes_by (unsynced u n) b.takes (becomes_only u b doubted)
      (subst (λ (k : Kept (List ℕ)). AreWithin f new k.now k.before) (sym (becomes_kept u b doubted))
      (new_within f at bytes b.takes.within, old_within f new (same f at bytes b.takes.within))))

  syncs : (u w : World) → IsWritten u → w ≡ synced u n → Has v n new w
  syncs u w b is = subst (Has v n new) (sym is) (record {
    only = becomes_only u b brought;
    safe = record {
      before = ap (λ (k : Kept (List ℕ)). k.before) (becomes_kept u b brought);
      sure = ap (λ (k : Kept (List ℕ)). k.in_doubt) (becomes_kept u b brought);
    };
    is = ap (λ (k : Kept (List ℕ)). k.now) (becomes_kept u b brought);
  })

  synced_mixes : (u w : World) → IsWritten u → w ≡ synced u n → Mixes v n at bytes w
  synced_mixes u w b is = mixes_by w b.takes (syncs u w b is).only
      (subst (λ (k : Kept (List ℕ)). AreWithin f new k.now k.before)
      (sym (ap (λ (y : World). (y.files n).bytes) is ∙ becomes_kept u b brought)) (new_within f at bytes b.takes.within))

hands_of : (u v w : World) → v ≡ w → w.hands ≡ u.hands → v.hands ≡ u.hands
hands_of u v w is same = ap (λ (x : World). x.hands) is ∙ same

-- the calls
module _ {H T : Type 0} (S : HostHistory H) (a b : H) (k : ℕ) (v : World) (n at : ℕ) (bytes : List ℕ) where
  module _ (since : Since k (Begins v n at bytes) (S.world a)) where
    pub write_moments : (r : Result T Failure)
        → Steps S a b (makes (λ w. written w n at bytes)) (half_changed n (λ old. put old at bytes)) r → HeldOnly S a b (Until k (Mixes v n at bytes))
    write_moments r c = moments S a b k (Begins v n at bytes) since (makes (λ w. written w n at bytes)) (half_changed n (λ old. put old at bytes))
        (λ _ u w d. hands_of u w _ d refl) (λ u w d. hands_of u w _ d.2 refl) (Mixes v n at bytes) (begins_mixes v n at bytes)
        (half_mixes v n at bytes) (λ _ u w s d. written_mixes v n at bytes w (writes v n at bytes u w s d)) r c

    pub write_after : (x : T)
        → Steps S a b (makes (λ w. written w n at bytes)) (half_changed n (λ old. put old at bytes)) (Ok x) → Since k (IsWritten v n at bytes) (S.world b)
    write_after x c = after S a b k (Begins v n at bytes) since (makes (λ w. written w n at bytes)) (half_changed n (λ old. put old at bytes))
        (λ _ u w d. hands_of u w _ d refl) (λ u w d. hands_of u w _ d.2 refl) (IsWritten v n at bytes) x (writes v n at bytes) c

  module _ (since : Since k (IsWritten v n at bytes) (S.world a)) where
    pub sync_moments : (r : Result T Failure)
        → Steps S a b (makes (λ w. synced w n)) (λ w x. x ≡ unsynced w n) r → HeldOnly S a b (Until k (Mixes v n at bytes))
    sync_moments r c = moments S a b k (IsWritten v n at bytes) since (makes (λ w. synced w n)) (λ w x. x ≡ unsynced w n)
        (λ _ u w d. hands_of u w _ d refl) (λ u w d. hands_of u w _ d refl) (Mixes v n at bytes) (written_mixes v n at bytes)
        (unsynced_mixes v n at bytes) (λ _ u w s d. synced_mixes v n at bytes u w s d) r c

    pub sync_after : (x : T)
        → Steps S a b (makes (λ w. synced w n)) (λ w x. x ≡ unsynced w n) (Ok x) → Since k (Has v n (overwritten (bytes_in v n) at bytes)) (S.world b)
    sync_after x c = after S a b k (IsWritten v n at bytes) since (makes (λ w. synced w n)) (λ w x. x ≡ unsynced w n)
        (λ _ u w d. hands_of u w _ d refl) (λ u w d. hands_of u w _ d refl) (Has v n (overwritten (bytes_in v n) at bytes)) x (syncs v n at bytes) c

-- it begins in the world that is there
pub begins : (k : ℕ) (v : World) (n at : ℕ) (bytes : List ℕ) → Since k (Takes n at bytes) v → Since k (Begins v n at bytes) v
begins k v n at bytes since = record { count = since.count; is = λ e. record { is = refl; takes = since.is e } }
