-- The calls of a change, each from its stage to the next.
use Rattle.std.proofs.Common.{◌≡◌, ℕ, zero, suc, ◌≤◌, Bool, true, false, List, [], ◌∷◌, length, None, slice_get, Result, Ok, if◌then◌else◌, refl, sym, ◌∙◌, ap, subst, inl, inr, arith}
use Rattle.one_host.specs.Worlds.{IsMix, Kept, Left, MayLeave, World}
use Rattle.one_host.specs.History.{HeldOnly, HostHistory, Since, Until}
use Rattle.one_host.specs.Calls.{IsMade, IsRemoved, IsRenamed, Steps, are_one, at_once, brought, entry, folder_synced, folder_unsynced, half_changed, locked, makes, moved, put, synced, turned, unsynced, written}
use Rattle.one_host.specs.declared.parts.Entry.{Entry}
use Rattle.one_host.specs.declared.parts.Entry.TheVariants.{Leads, Nothing}
use Rattle.one_host.specs.declared.parts.Failure.{Failure}
use Rattle.one_host.specs.declared.parts.Handle.{Handle}
use Rattle.one_host.specs.declared.parts.Kind.TheVariants.{Regular}
use Rattle.one_host.specs.declared.parts.Lock.TheVariants.{Free}
use Rattle.one_host.proofs.Moments.{after, moments}
use Rattle.replaced_images.specs.Replaced.{Always, Gives, GivesBeside, Logs, Rests, log_of, making_of, whole}
use Rattle.replaced_images.specs.Stages.{Has, Makes}
use Rattle.replaced_images.proofs.Gave.{gives_alone, gives_of, gives_logged, gives_named, gives_unnamed, mix_of_new, mix_of_old, settled}
use Rattle.replaced_images.proofs.Staged.{begins, folder_settles, folder_unsynced_leaves, making_becomes, making_settles, names_log, unnames, unsynced_leaves}

none_past : (xs : List ℕ) (j : ℕ) → slice_get xs j ≡ None → length xs ≤ j
none_past [] j is = omega arith
none_past (x ∷ xs) zero is = absurd (cc is)
none_past (x ∷ xs) (suc j) is = omega (arith, none_past xs j is)

pub hands_of : (u v w : World) → v ≡ w → w.hands ≡ u.hands → v.hands ≡ u.hands
hands_of u v w is same = ap (λ (x : World). x.hands) is ∙ same

none_on_way : (u v : World) → at_once u v → v.hands ≡ u.hands
none_on_way u v never = absurd never

-- what a sync that failed leaves
pub gives_on : (logs : Logs) (path old new : List ℕ) (u v : World) → ((left : Left) → MayLeave v left → MayLeave u left) → Gives logs path old new u
    → Gives logs path old new v
gives_on logs path old new u v less gives left may = gives left (less left may)

pub always_on : (logs : Logs) (path new : List ℕ) (u v : World) → ((left : Left) → MayLeave v left → MayLeave u left) → Always logs path new u
    → Always logs path new v
always_on logs path new u v less always left may = always left (less left may)

module _ {H : Type 0} (S : HostHistory H) (n : ℕ) (path : List ℕ) (i : ℕ) where
  -- **The log is made.**

  abbrev Made : List ℕ → ℕ → Kept (List ℕ) → World → Type 0
  Made old l log = Makes path i l (whole old) log (whole Nothing)

  made_gives : (logs : Logs) (old new : List ℕ) (l : ℕ) (log : Kept (List ℕ)) (u : World) → Made old l log u → Gives logs path old new u
  made_gives logs old new l log u m = gives_alone logs path old new i l u m.has.led m.has.name (inl m.has.image)

  rests_gives : (logs : Logs) (old new : List ℕ) (u : World) → Rests path i old u → Gives logs path old new u
  rests_gives logs old new u r = gives_alone logs path old new i i u r.led r.name (inl r.image)

  pub make_moments : (logs : Logs) (old new : List ℕ) (a b : H) (q : List ℕ) → q ≡ making_of path → (r : Result Handle Failure) → Since n (Rests path i old) (S.world a)
      → Steps S a b (IsMade q Regular) at_once r → HeldOnly S a b (Until n (Gives logs path old new))
  make_moments logs old new a b q named r at c = moments S a b n (Rests path i old) at (IsMade (making_of path) Regular) at_once
      (λ h u v d. hands_of u v _ d.2.1 refl) none_on_way (Gives logs path old new) (rests_gives logs old new) (λ u v _ never. absurd never)
      (λ h u v rests d. made_gives logs old new h.number (whole []) v (begins path i old u rests h v d)) r (subst (λ p. Steps S a b (IsMade p Regular) at_once r) named c)

  pub make_after : (old : List ℕ) (a b : H) (q : List ℕ) → q ≡ making_of path → (h : Handle) → Since n (Rests path i old) (S.world a)
      → Steps S a b (IsMade q Regular) at_once (Ok h) → Since n (Made old h.number (whole [])) (S.world b)
  make_after old a b q named h at c = after S a b n (Rests path i old) at (IsMade (making_of path) Regular) at_once
      (λ h u v d. hands_of u v _ d.2.1 refl) none_on_way (Made old h.number (whole [])) h (λ u v rests d. begins path i old u rests h v d)
      (subst (λ p. Steps S a b (IsMade p Regular) at_once (Ok h)) named c)

  module _ (old : List ℕ) (l : ℕ) (log : Kept (List ℕ)) (a b : H) (at : Since n (Made old l log) (S.world a)) where
    -- its file is written
    wrote : (bytes : List ℕ) (u v : World) → Made old l log u → v ≡ written u l 0 bytes → Made old l (turned log (put log.now 0 bytes)) v
    wrote bytes u v m is = subst (Made old l (turned log (put log.now 0 bytes))) (sym is)
        (making_becomes path i l (whole old) log (whole Nothing) u (λ k. turned k (put k.now 0 bytes)) m)

    pub write_moments : (logs : Logs) (new bytes : List ℕ) {T : Type 0} (r : Result T Failure)
        → Steps S a b (makes (λ w. written w l 0 bytes)) (half_changed l (λ was. put was 0 bytes)) r → HeldOnly S a b (Until n (Gives logs path old new))
    write_moments logs new bytes r c = moments S a b n (Made old l log) at (makes (λ w. written w l 0 bytes)) (half_changed l (λ was. put was 0 bytes))
        (λ _ u v d. hands_of u v _ d refl) (λ u v d. hands_of u v _ d.2 refl) (Gives logs path old new) (made_gives logs old new l log)
        (λ u v m d. made_gives logs old new l (turned log d.0) v (subst (Made old l (turned log d.0)) (sym d.2)
        (making_becomes path i l (whole old) log (whole Nothing) u (λ k. turned k d.0) m)))
        (λ _ u v m d. made_gives logs old new l (turned log (put log.now 0 bytes)) v (wrote bytes u v m d)) r c

    pub write_after : (bytes : List ℕ) {T : Type 0} (x : T)
        → Steps S a b (makes (λ w. written w l 0 bytes)) (half_changed l (λ was. put was 0 bytes)) (Ok x) → Since n (Made old l (turned log (put log.now 0 bytes))) (S.world b)
    write_after bytes x c = after S a b n (Made old l log) at (makes (λ w. written w l 0 bytes)) (half_changed l (λ was. put was 0 bytes))
        (λ _ u v d. hands_of u v _ d refl) (λ u v d. hands_of u v _ d.2 refl) (Made old l (turned log (put log.now 0 bytes))) x (λ u v m d. wrote bytes u v m d) c

    -- its file is synced
    synced_so : (u v : World) → Made old l log u → v ≡ synced u l → Made old l (brought log) v
    synced_so u v m is = subst (Made old l (brought log)) (sym is) (making_becomes path i l (whole old) log (whole Nothing) u brought m)

    pub sync_moments : (logs : Logs) (new : List ℕ) {T : Type 0} (r : Result T Failure)
        → Steps S a b (makes (λ w. synced w l)) (λ w v. v ≡ unsynced w l) r → HeldOnly S a b (Until n (Gives logs path old new))
    sync_moments logs new r c = moments S a b n (Made old l log) at (makes (λ w. synced w l)) (λ w v. v ≡ unsynced w l)
        (λ _ u v d. hands_of u v _ d refl) (λ u v d. hands_of u v _ d refl) (Gives logs path old new) (made_gives logs old new l log)
        (λ u v m d. subst (Gives logs path old new) (sym d) (gives_on logs path old new u (unsynced u l) (unsynced_leaves u l) (made_gives logs old new l log u m)))
        (λ _ u v m d. made_gives logs old new l (brought log) v (synced_so u v m d)) r c

    pub sync_after : {T : Type 0} (x : T) → Steps S a b (makes (λ w. synced w l)) (λ w v. v ≡ unsynced w l) (Ok x) → Since n (Made old l (brought log)) (S.world b)
    sync_after x c = after S a b n (Made old l log) at (makes (λ w. synced w l)) (λ w v. v ≡ unsynced w l)
        (λ _ u v d. hands_of u v _ d refl) (λ u v d. hands_of u v _ d refl) (Made old l (brought log)) x (λ u v m d. synced_so u v m d) c

    -- the folder is synced
    pub settle_moments : (logs : Logs) (new : List ℕ) {T : Type 0} (r : Result T Failure)
        → Steps S a b (makes (λ w. folder_synced w path)) (λ w v. v ≡ folder_unsynced w path) r → HeldOnly S a b (Until n (Gives logs path old new))
    settle_moments logs new r c = moments S a b n (Made old l log) at (makes (λ w. folder_synced w path)) (λ w v. v ≡ folder_unsynced w path)
        (λ _ u v d. hands_of u v _ d refl) (λ u v d. hands_of u v _ d refl) (Gives logs path old new) (made_gives logs old new l log)
        (λ u v m d. subst (Gives logs path old new) (sym d) (gives_on logs path old new u (folder_unsynced u path) (folder_unsynced_leaves u path) (made_gives logs old new l log u m)))
        (λ _ u v m d. made_gives logs old new l log v (subst (Made old l log) (sym d) (making_settles path i l (whole old) log (whole Nothing) u m))) r c

    pub settle_after : {T : Type 0} (x : T) → Steps S a b (makes (λ w. folder_synced w path)) (λ w v. v ≡ folder_unsynced w path) (Ok x) → Since n (Made old l log) (S.world b)
    settle_after x c = after S a b n (Made old l log) at (makes (λ w. folder_synced w path)) (λ w v. v ≡ folder_unsynced w path)
        (λ _ u v d. hands_of u v _ d refl) (λ u v d. hands_of u v _ d refl) (Made old l log) x
        (λ u v m d. subst (Made old l log) (sym d) (making_settles path i l (whole old) log (whole Nothing) u m)) c

  -- **From its name on it counts.**

  hands_renamed : (u : World) (from to : List ℕ) → (renamed_hands : Bool) → (if renamed_hands then u else moved u from to).hands ≡ u.hands
  hands_renamed u from to true = refl
  hands_renamed u from to false = refl

  module _ (logs : Logs) (l : ℕ) (log old new : List ℕ) (gives : GivesBeside logs log old new) (a b : H) where
    abbrev Named : Kept (List ℕ) → Kept Entry → World → Type 0
    Named image name = Has path i l image (whole log) name

    -- the image's file has any mix of both
    pub logged_gives : (image : Kept (List ℕ)) → ((c : List ℕ) → IsMix image.now image.before c → IsMix new (old ∷ []) c) → (u : World)
        → Named image (whole (Leads l)) u → Always logs path new u
    logged_gives image mixed u h = gives_logged logs path old new i l u log gives h.log h.led h.name
        (λ c. subst (λ (k : Kept (List ℕ)). IsMix k.now k.before c → IsMix new (old ∷ []) c) (sym h.image) (mixed c))

    pub rename_moments : length old ≡ length new → (p q : List ℕ) → p ≡ making_of path → q ≡ log_of path → {T : Type 0} (r : Result T Failure) → Since n (Makes path i l (whole old) (whole log) (whole Nothing)) (S.world a)
        → Steps S a b (IsRenamed p q) at_once r → HeldOnly S a b (Until n (Gives logs path old new))
    rename_moments same p q from to r at c = moments S a b n (Makes path i l (whole old) (whole log) (whole Nothing)) at (IsRenamed (making_of path) (log_of path)) at_once
        (λ _ u v d. hands_of u v _ d.1 (hands_renamed u (making_of path) (log_of path) (are_one (entry u (making_of path)) (entry u (log_of path))))) none_on_way
        (Gives logs path old new) (λ u m. gives_alone logs path old new i l u m.has.led m.has.name (inl m.has.image)) (λ u v _ never. absurd never)
        (λ _ u v m d. named_gives v (names_log path i l (whole old) (whole log) u m v d)) r
        (subst (λ y. Steps S a b (IsRenamed (making_of path) y) at_once r) to (subst (λ y. Steps S a b (IsRenamed y q) at_once r) from c))
      where
        named_gives : (v : World) → Named (whole old) (turned (whole Nothing) (Leads l)) v → Gives logs path old new v
        named_gives v h = gives_named logs path old new i l v log gives h.log h.led same h.name h.image

    pub rename_after : (p q : List ℕ) → p ≡ making_of path → q ≡ log_of path → {T : Type 0} (x : T) → Since n (Makes path i l (whole old) (whole log) (whole Nothing)) (S.world a)
        → Steps S a b (IsRenamed p q) at_once (Ok x) → Since n (Named (whole old) (turned (whole Nothing) (Leads l))) (S.world b)
    rename_after p q from to x at c = after S a b n (Makes path i l (whole old) (whole log) (whole Nothing)) at (IsRenamed (making_of path) (log_of path)) at_once
        (λ _ u v d. hands_of u v _ d.1 (hands_renamed u (making_of path) (log_of path) (are_one (entry u (making_of path)) (entry u (log_of path))))) none_on_way
        (Named (whole old) (turned (whole Nothing) (Leads l))) x (λ u v m d. names_log path i l (whole old) (whole log) u m v d)
        (subst (λ y. Steps S a b (IsRenamed (making_of path) y) at_once (Ok x)) to (subst (λ y. Steps S a b (IsRenamed y q) at_once (Ok x)) from c))

    -- the folder is synced, where P holds before and afterwards
    pub folder_moments : (image : Kept (List ℕ)) (name : Kept Entry) → ((u : World) → Named image name u → Gives logs path old new u)
        → ((u : World) → Named image (brought name) u → Gives logs path old new u) → {T : Type 0} (r : Result T Failure) → Since n (Named image name) (S.world a)
        → Steps S a b (makes (λ w. folder_synced w path)) (λ w v. v ≡ folder_unsynced w path) r → HeldOnly S a b (Until n (Gives logs path old new))
    folder_moments image name before behind r at c = moments S a b n (Named image name) at (makes (λ w. folder_synced w path)) (λ w v. v ≡ folder_unsynced w path)
        (λ _ u v d. hands_of u v _ d refl) (λ u v d. hands_of u v _ d refl) (Gives logs path old new) before
        (λ u v h d. subst (Gives logs path old new) (sym d) (gives_on logs path old new u (folder_unsynced u path) (folder_unsynced_leaves u path) (before u h)))
        (λ _ u v h d. behind v (subst (Named image (brought name)) (sym d) (folder_settles path i l image (whole log) name u h))) r c

    pub folder_after : (image : Kept (List ℕ)) (name : Kept Entry) {T : Type 0} (x : T) → Since n (Named image name) (S.world a)
        → Steps S a b (makes (λ w. folder_synced w path)) (λ w v. v ≡ folder_unsynced w path) (Ok x) → Since n (Named image (brought name)) (S.world b)
    folder_after image name x at c = after S a b n (Named image name) at (makes (λ w. folder_synced w path)) (λ w v. v ≡ folder_unsynced w path)
        (λ _ u v d. hands_of u v _ d refl) (λ u v d. hands_of u v _ d refl) (Named image (brought name)) x
        (λ u v h d. subst (Named image (brought name)) (sym d) (folder_settles path i l image (whole log) name u h)) c

    pub named_is : length old ≡ length new → (v : World) → Named (whole old) (turned (whole Nothing) (Leads l)) v → Gives logs path old new v
    named_is same v h = gives_named logs path old new i l v log gives h.log h.led same h.name h.image

    pub old_always : length old ≡ length new → (v : World) → Named (whole old) (whole (Leads l)) v → Always logs path new v
    old_always same = logged_gives (whole old) (λ c m. mix_of_old old new c (settled (whole old) old c refl m) same)

    pub old_is : length old ≡ length new → (v : World) → Named (whole old) (whole (Leads l)) v → Gives logs path old new v
    old_is same v h = gives_of logs path old new v (old_always same v h)

    pub new_is : (v : World) → Named (whole new) (whole (Leads l)) v → Gives logs path old new v
    new_is v h = gives_of logs path old new v (logged_gives (whole new) (λ c m. mix_of_new old new c (settled (whole new) new c refl m)) v h)

    pub unnamed_is : (v : World) → Named (whole new) (turned (whole (Leads l)) Nothing) v → Gives logs path old new v
    unnamed_is v h = gives_unnamed logs path old new i l v log gives h.log h.led h.name h.image

    pub gone_is : (v : World) → Named (whole new) (whole Nothing) v → Gives logs path old new v
    gone_is v h = gives_alone logs path old new i l v h.led h.name (inr h.image)

    -- **The log goes.**

    pub remove_moments : (q : List ℕ) → q ≡ log_of path → {T : Type 0} (r : Result T Failure) → Since n (Named (whole new) (whole (Leads l))) (S.world a)
        → Steps S a b (IsRemoved q) at_once r → HeldOnly S a b (Until n (Gives logs path old new))
    remove_moments q named r at c = moments S a b n (Named (whole new) (whole (Leads l))) at (IsRemoved (log_of path)) at_once
        (λ _ u v d. hands_of u v _ d.1 refl) none_on_way (Gives logs path old new) new_is (λ u v _ never. absurd never)
        (λ _ u v h d. unnamed_is v (unnames path i l (whole new) (whole log) (whole (Leads l)) u h v d)) r
        (subst (λ p. Steps S a b (IsRemoved p) at_once r) named c)

    pub remove_after : (q : List ℕ) → q ≡ log_of path → {T : Type 0} (x : T) → Since n (Named (whole new) (whole (Leads l))) (S.world a)
        → Steps S a b (IsRemoved q) at_once (Ok x) → Since n (Named (whole new) (turned (whole (Leads l)) Nothing)) (S.world b)
    remove_after q named x at c = after S a b n (Named (whole new) (whole (Leads l))) at (IsRemoved (log_of path)) at_once
        (λ _ u v d. hands_of u v _ d.1 refl) none_on_way (Named (whole new) (turned (whole (Leads l)) Nothing)) x
        (λ u v h d. unnames path i l (whole new) (whole log) (whole (Leads l)) u h v d)
        (subst (λ p. Steps S a b (IsRemoved p) at_once (Ok x)) named c)

    -- **The log's file is closed.**

    closed : (m : ℕ) (u v : World) → Named (whole new) (whole Nothing) u → v ≡ locked u m Free → Named (whole new) (whole Nothing) v
    closed m u v h is = subst (Named (whole new) (whole Nothing)) (sym is) (record {
      led = h.led;
      image = h.image;
      log = h.log;
      name = h.name;
      apart = h.apart;
      other = h.other;
    })

    pub close_moments : (m : ℕ) {T : Type 0} (r : Result T Failure) → Since n (Named (whole new) (whole Nothing)) (S.world a)
        → Steps S a b (makes (λ w. locked w m Free)) at_once r → HeldOnly S a b (Until n (Gives logs path old new))
    close_moments m r at c = moments S a b n (Named (whole new) (whole Nothing)) at (makes (λ w. locked w m Free)) at_once
        (λ _ u v d. hands_of u v _ d refl) none_on_way (Gives logs path old new) gone_is (λ u v _ never. absurd never)
        (λ _ u v h d. gone_is v (closed m u v h d)) r c

    pub close_after : (m : ℕ) {T : Type 0} (x : T) → Since n (Named (whole new) (whole Nothing)) (S.world a)
        → Steps S a b (makes (λ w. locked w m Free)) at_once (Ok x) → Since n (Named (whole new) (whole Nothing)) (S.world b)
    close_after m x at c = after S a b n (Named (whole new) (whole Nothing)) at (makes (λ w. locked w m Free)) at_once
        (λ _ u v d. hands_of u v _ d refl) none_on_way (Named (whole new) (whole Nothing)) x (λ u v h d. closed m u v h d) c
