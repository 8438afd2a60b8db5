-- A file of zeros, and what begins in it.
use Rattle.std.proofs.Common.{◌≡◌, ◌≤◌, ◌+◌, ◌-◌, ◌∙◌, ℕ, zero, suc, List, [], ◌++◌, ap, arith, false, if◌then◌else◌, inl, inr, length, refl, replicate, slice_index, subst, sym, Result, Ok}
use Rattle.std.specs.Prelude.{take}
use Rattle.std.proofs.lemmas.Bool.{cases_lt}
use Rattle.std.proofs.lemmas.List.{get_or-replicate, get_or_past, length-replicate}
use Rattle.one_host.specs.Worlds.{Kept, World}
use Rattle.one_host.specs.History.{HeldOnly, HostHistory, Since, Until}
use Rattle.one_host.specs.Calls.{Steps, brought, changed, doubted, ended, half_changed, lengthened, makes, put, synced, turned, unsynced, with_bytes, written}
use Rattle.one_host.specs.declared.parts.Failure.{Failure}
use Rattle.one_host.proofs.Moments.{after, moments}
use Rattle.image_log.specs.Files.{overwritten}
use Rattle.image_log.proofs.Commits.{new_after, new_before, new_each, new_long}
use Rattle.kept_logs.specs.Files.{IsEmpty, IsLaid, IsLaidOut, OnlyFile, bytes_in}
use Rattle.kept_logs.proofs.Bytes.{put_over}
use Rattle.kept_logs.proofs.Calls.{bytes_now, only_self, only_with}

zero_at : (m i : ℕ) → slice_index (replicate {A = ℕ} m 0) i ≡ 0
zero_at m i = elim (cases_lt i m) [
  | inl low ↦ get_or-replicate m i 0 0 low
  | inr past ↦ get_or_past (replicate m 0) i 0 (omega (arith, past, length-replicate {A = ℕ} m 0))
]

take_none : (m : ℕ) → take {A = ℕ} m [] ≡ []
take_none zero = refl
take_none (suc m) = refl

-- an empty file that is lengthened has zeros
ended_none : (m : ℕ) → ended [] m ≡ replicate m 0
ended_none m =
    let e : m - 0 ≡ m = omega arith in
    ap (λ l. l ++ replicate (m - 0) 0) (take_none m) ∙ ap (λ k. replicate k 0) e

-- zeros over zeros
module _ (f : List ℕ) (zeros : (i : ℕ) → slice_index f i ≡ 0) (at m : ℕ) (within : at + m ≤ length f) where
  fits : at + length (replicate {A = ℕ} m 0) ≤ length f
  fits = omega (arith, within, length-replicate {A = ℕ} m 0)

  pub put_zeros : (i : ℕ) → slice_index (put f at (replicate {A = ℕ} m 0)) i ≡ 0
  put_zeros i = ap (λ (l : List ℕ). slice_index l i) (put_over f at (replicate m 0) fits) ∙ elim (cases_lt i at) [
    | inl low ↦ new_before f at (replicate m 0) fits i low ∙ zeros i
    | inr from ↦ elim (cases_lt i (at + m)) [
      | inl inside ↦
          let e : at + (i - at) ≡ i = omega (arith, from) in
          ap (slice_index (overwritten f at (replicate {A = ℕ} m 0))) (sym e)
          ∙ new_each f at (replicate m 0) fits (i - at) (omega (arith, from, inside, length-replicate {A = ℕ} m 0)) ∙ zero_at m (i - at)
      | inr past ↦ new_after f at (replicate m 0) fits i (omega (arith, past, length-replicate {A = ℕ} m 0)) ∙ zeros i
    ]
  ]

  pub put_long : length (put f at (replicate {A = ℕ} m 0)) ≡ length f
  put_long = ap length (put_over f at (replicate m 0) fits) ∙ new_long f at (replicate m 0) fits

hands_of : (u v w : World) → v ≡ w → w.hands ≡ u.hands → v.hands ≡ u.hands
hands_of u v w is same = ap (λ (x : World). x.hands) is ∙ same

module _ (v : World) (n : ℕ) where
  -- the file of such a world has these bytes
  module _ (u : World) (F : Kept (List ℕ) → Kept (List ℕ)) (o : OnlyFile v n u) where
    becomes : ((with_bytes u n (F (u.files n).bytes)).files n).bytes ≡ F (u.files n).bytes
    becomes = ap (λ g. g.bytes) (bytes_now v u n (F (u.files n).bytes))

    becomes_only : OnlyFile v n (with_bytes u n (F (u.files n).bytes))
    becomes_only = only_with v u n (F (u.files n).bytes) o

  pub record Starts (w : World) : Type 0 where
    pub is : w ≡ v
    pub empty : IsEmpty n v

  only_of : (u : World) → Starts u → OnlyFile v n u
  only_of u s = subst (OnlyFile v n) (sym s.is) (only_self v n)

  changed_only : (u w : World) (x : List ℕ) → OnlyFile v n u → w ≡ changed u n x → OnlyFile v n w
  changed_only u w x o is = subst (OnlyFile v n) (sym is) (becomes_only u (λ k. turned k x) o)

  laid_by : (u : World) (F : Kept (List ℕ) → Kept (List ℕ)) → OnlyFile v n u → (F (u.files n).bytes).in_doubt ≡ false
      → length (F (u.files n).bytes).now ≡ 4198400 → ((i : ℕ) → slice_index (F (u.files n).bytes).now i ≡ 0) → IsLaid v n (with_bytes u n (F (u.files n).bytes))
  laid_by u F o sure size zeros = record {
    only = becomes_only u F o;
    sure = ap (λ k. k.in_doubt) (becomes u F o) ∙ sure;
    size = ap (λ k. length k.now) (becomes u F o) ∙ size;
    zeros = λ i. ap (λ k. slice_index k.now i) (becomes u F o) ∙ zeros i;
  }

  sizes : (m : ℕ) → m ≡ 4198400 → (u w : World) → Starts u → w ≡ lengthened u n m → IsLaid v n w
  sizes m size u w s is = subst (IsLaid v n) (sym (is ∙ ap (λ (y : World). lengthened y n m) s.is))
      (laid_by v (λ k. turned k (ended (bytes_in v n) m)) (only_self v n) s.empty.safe.sure
      (ap (λ l. length (ended l m)) s.empty.none ∙ ap length (ended_none m) ∙ length-replicate {A = ℕ} m 0 ∙ size)
      (λ i. ap (λ l. slice_index (ended l m) i) s.empty.none ∙ ap (λ l. slice_index l i) (ended_none m) ∙ zero_at m i))

  writes : (at m : ℕ) → at + m ≤ 4198400 → (u w : World) → IsLaid v n u → w ≡ written u n at (replicate {A = ℕ} m 0) → IsLaid v n w
  writes at m le u w l is = subst (IsLaid v n) (sym is) (laid_by u (λ k. turned k (put (bytes_in u n) at (replicate {A = ℕ} m 0))) l.only l.sure
      (put_long (bytes_in u n) l.zeros at m (omega (arith, le, l.size)) ∙ l.size)
      (put_zeros (bytes_in u n) l.zeros at m (omega (arith, le, l.size))))

  brought_sure : (k : Kept (List ℕ)) → k.in_doubt ≡ false → brought k ≡ record { now = k.now; before = []; in_doubt = k.in_doubt }
  brought_sure k sure = ap (λ d. if d then k else record { now = k.now; before = []; in_doubt = k.in_doubt }) sure

  syncs : (u w : World) → IsLaid v n u → w ≡ synced u n → IsLaidOut v n w
  syncs u w l is = subst (IsLaidOut v n) (sym is) (record {
    laid = laid_by u brought l.only (ap (λ (k : Kept (List ℕ)). k.in_doubt) b ∙ l.sure) (ap (λ (k : Kept (List ℕ)). length k.now) b ∙ l.size)
        (λ i. ap (λ (k : Kept (List ℕ)). slice_index k.now i) b ∙ l.zeros i);
    safe = record {
      before = ap (λ (k : Kept (List ℕ)). k.before) (becomes u brought l.only ∙ b);
      sure = ap (λ (k : Kept (List ℕ)). k.in_doubt) (becomes u brought l.only ∙ b) ∙ l.sure;
    };
  })
    where
      b : brought (u.files n).bytes ≡ record { now = (u.files n).bytes.now; before = []; in_doubt = (u.files n).bytes.in_doubt }
      b = brought_sure (u.files n).bytes l.sure

  unsynced_only : (u w : World) → OnlyFile v n u → w ≡ unsynced u n → OnlyFile v n w
  unsynced_only u w o is = subst (OnlyFile v n) (sym is) (becomes_only u doubted o)

  -- the calls
  module _ {H T : Type 0} (S : HostHistory H) (a b : H) (k : ℕ) where
    module _ (since : Since k Starts (S.world a)) (m : ℕ) (size : m ≡ 4198400) where
      pub size_moments : (r : Result T Failure) → Steps S a b (makes (λ w. lengthened w n m)) (half_changed n (λ old. ended old m)) r → HeldOnly S a b (Until k (OnlyFile v n))
      size_moments r c = moments S a b k Starts since (makes (λ w. lengthened w n m)) (half_changed n (λ old. ended old m))
          (λ _ u w d. hands_of u w _ d refl) (λ u w d. hands_of u w _ d.2 refl) (OnlyFile v n) only_of
          (λ u w s d. changed_only u w d.0 (only_of u s) d.2) (λ _ u w s d. (sizes m size u w s d).only) r c

      pub size_after : (x : T) → Steps S a b (makes (λ w. lengthened w n m)) (half_changed n (λ old. ended old m)) (Ok x) → Since k (IsLaid v n) (S.world b)
      size_after x c = after S a b k Starts since (makes (λ w. lengthened w n m)) (half_changed n (λ old. ended old m))
          (λ _ u w d. hands_of u w _ d refl) (λ u w d. hands_of u w _ d.2 refl) (IsLaid v n) x (λ u w s d. sizes m size u w s d) c

    module _ (since : Since k (IsLaid v n) (S.world a)) where
      pub sync_moments : (r : Result T Failure) → Steps S a b (makes (λ w. synced w n)) (λ w x. x ≡ unsynced w n) r → HeldOnly S a b (Until k (OnlyFile v n))
      sync_moments r c = moments S a b k (IsLaid v n) since (makes (λ w. synced w n)) (λ w x. x ≡ unsynced w n)
          (λ _ u w d. hands_of u w _ d refl) (λ u w d. hands_of u w _ d refl) (OnlyFile v n) (λ u l. l.only)
          (λ u w l d. unsynced_only u w l.only d) (λ _ u w l d. (syncs u w l d).laid.only) r c

      pub sync_after : (x : T) → Steps S a b (makes (λ w. synced w n)) (λ w x. x ≡ unsynced w n) (Ok x) → Since k (IsLaidOut v n) (S.world b)
      sync_after x c = after S a b k (IsLaid v n) since (makes (λ w. synced w n)) (λ w x. x ≡ unsynced w n)
          (λ _ u w d. hands_of u w _ d refl) (λ u w d. hands_of u w _ d refl) (IsLaidOut v n) x (λ u w l d. syncs u w l d) c

      module _ (at m : ℕ) (le : at + m ≤ 4198400) where
        pub zero_moments : (r : Result T Failure) → Steps S a b (makes (λ w. written w n at (replicate {A = ℕ} m 0))) (half_changed n (λ old. put old at (replicate {A = ℕ} m 0))) r
            → HeldOnly S a b (Until k (OnlyFile v n))
        zero_moments r c = moments S a b k (IsLaid v n) since (makes (λ w. written w n at (replicate {A = ℕ} m 0))) (half_changed n (λ old. put old at (replicate {A = ℕ} m 0)))
            (λ _ u w d. hands_of u w _ d refl) (λ u w d. hands_of u w _ d.2 refl) (OnlyFile v n) (λ u l. l.only)
            (λ u w l d. changed_only u w d.0 l.only d.2) (λ _ u w l d. (writes at m le u w l d).only) r c

        pub zero_after : (x : T) → Steps S a b (makes (λ w. written w n at (replicate {A = ℕ} m 0))) (half_changed n (λ old. put old at (replicate {A = ℕ} m 0))) (Ok x)
            → Since k (IsLaid v n) (S.world b)
        zero_after x c = after S a b k (IsLaid v n) since (makes (λ w. written w n at (replicate {A = ℕ} m 0))) (half_changed n (λ old. put old at (replicate {A = ℕ} m 0)))
            (λ _ u w d. hands_of u w _ d refl) (λ u w d. hands_of u w _ d.2 refl) (IsLaid v n) x (λ u w l d. writes at m le u w l d) c

-- it begins in the world that is there
pub starts : (k : ℕ) (v : World) (n : ℕ) → Since k (IsEmpty n) v → Since k (Starts v n) v
starts k v n since = record { count = since.count; is = λ e. record { is = refl; empty = since.is e } }

pub laid_of : {H : Type 0} (S : HostHistory H) (a : H) (k : ℕ) (v : World) (n : ℕ) → Since k (IsLaidOut v n) (S.world a) → Since k (IsLaid v n) (S.world a)
laid_of S a k v n since = record { count = since.count; is = λ e. (since.is e).laid }
