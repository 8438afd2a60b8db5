-- The sectors of the image's file, one after another.
use Rattle.std.proofs.Common.{◌≡◌, ℕ, ◌≤◌, ◌+◌, List, [], ◌∷◌, length, Result, Ok, if◌then◌else◌, refl, sym, ◌∙◌, ap, subst, inl}
use Rattle.std.specs.Prelude.{take, drop}
use Rattle.one_host.specs.Worlds.{IsMix, Kept, World}
use Rattle.one_host.specs.History.{HeldOnly, HostHistory, Since, Until}
use Rattle.one_host.specs.Calls.{Steps, brought, half_changed, makes, put, synced, turned, unsynced, written}
use Rattle.one_host.specs.declared.parts.Entry.TheVariants.{Leads}
use Rattle.one_host.specs.declared.parts.Failure.{Failure}
use Rattle.one_host.proofs.Moments.{after, moments}
use Rattle.replaced_images.specs.Replaced.{Always, GivesBeside, Logs, whole}
use Rattle.replaced_images.specs.Stages.{AreWithin, Has, IsWithin, Partly}
use Rattle.replaced_images.proofs.Called.{always_on, hands_of, logged_gives}
use Rattle.replaced_images.proofs.Pieces.{all_written, mix_of_within, mixed_within, old_within, put_begun, put_within}
use Rattle.replaced_images.proofs.Staged.{image_becomes, unsynced_leaves}

now_within : (old new now : List ℕ) (before : List (List ℕ)) → AreWithin old new now before → IsWithin old new now
now_within old new now [] w = w
now_within old new now (b ∷ before) w = w.0

module _ {H : Type 0} (S : HostHistory H) (n : ℕ) (path : List ℕ) (i : ℕ) (logs : Logs) (l : ℕ) (log old new : List ℕ) (gives : GivesBeside logs log old new)
    (same : length old ≡ length new) (a b : H) where
  abbrev Part : ℕ → World → Type 0
  Part = Partly path i l old new log

  pub part_gives : (at : ℕ) (u : World) → Part at u → Always logs path new u
  part_gives at u p = logged_gives S n path i logs l log old new gives a b p.kept
      (λ c m. mix_of_within old new same c (mixed_within old new same p.kept.now p.kept.before p.within c m)) u p.has

  pub begins : (u : World) → Has path i l (whole old) (whole log) (whole (Leads l)) u → Part 0 u
  begins u h = record { kept = whole old; has = h; sure = refl; within = old_within old new same; begun = refl }

  goes_on : (at m : ℕ) → at + m ≤ length new → (u v : World) → Part at u → v ≡ written u i at (take m (drop at new)) → Part (at + m) v
  goes_on at m le u v p is = record {
    kept = turned p.kept (put p.kept.now at (take m (drop at new)));
    has = subst (Has path i l (turned p.kept (put p.kept.now at (take m (drop at new)))) (whole log) (whole (Leads l))) (sym is)
        (image_becomes path i l p.kept (whole log) (whole (Leads l)) u (λ k. turned k (put k.now at (take m (drop at new)))) p.has);
    sure = p.sure;
    within = (put_within old new same at m p.kept.now le (now_within old new p.kept.now p.kept.before p.within), p.within);
    begun = put_begun old new same at m p.kept.now le (now_within old new p.kept.now p.kept.before p.within) p.begun;
  }

  halfway : (at m : ℕ) → at + m ≤ length new → (u v : World) → Part at u → half_changed i (λ was. put was at (take m (drop at new))) u v → Always logs path new v
  halfway at m le u v p d = logged_gives S n path i logs l log old new gives a b (turned p.kept d.0)
      (λ c x. mix_of_within old new same c (mixed_within old new same d.0 (p.kept.now ∷ p.kept.before) (part, p.within) c x)) v
      (subst (Has path i l (turned p.kept d.0) (whole log) (whole (Leads l))) (sym d.2)
      (image_becomes path i l p.kept (whole log) (whole (Leads l)) u (λ k. turned k d.0) p.has))
    where
      now : IsWithin old new p.kept.now
      now = now_within old new p.kept.now p.kept.before p.within

      mix : IsMix (put p.kept.now at (take m (drop at new))) (p.kept.now ∷ []) d.0
      mix = subst (λ (k : Kept (List ℕ)). IsMix (put k.now at (take m (drop at new))) (k.now ∷ []) d.0) p.has.image d.1

      part : IsWithin old new d.0
      part = mixed_within old new same (put p.kept.now at (take m (drop at new))) (p.kept.now ∷ []) (put_within old new same at m p.kept.now le now, now) d.0 mix

  -- a piece is written
  pub piece_moments : (at m : ℕ) → at + m ≤ length new → (bytes : List ℕ) → bytes ≡ take m (drop at new) → {T : Type 0} (r : Result T Failure) → Since n (Part at) (S.world a)
      → Steps S a b (makes (λ w. written w i at bytes)) (half_changed i (λ was. put was at bytes)) r → HeldOnly S a b (Until n (Always logs path new))
  piece_moments at m le bytes are r since c = moments S a b n (Part at) since (makes (λ w. written w i at (take m (drop at new)))) (half_changed i (λ was. put was at (take m (drop at new))))
      (λ _ u v d. hands_of u v _ d refl) (λ u v d. hands_of u v _ d.2 refl) (Always logs path new) (part_gives at)
      (halfway at m le) (λ _ u v p d. part_gives (at + m) v (goes_on at m le u v p d)) r
      (subst (λ x. Steps S a b (makes (λ w. written w i at x)) (half_changed i (λ was. put was at x)) r) are c)

  pub piece_after : (at m : ℕ) → at + m ≤ length new → (bytes : List ℕ) → bytes ≡ take m (drop at new) → {T : Type 0} (x : T) → Since n (Part at) (S.world a)
      → Steps S a b (makes (λ w. written w i at bytes)) (half_changed i (λ was. put was at bytes)) (Ok x) → Since n (Part (at + m)) (S.world b)
  piece_after at m le bytes are x since c = after S a b n (Part at) since (makes (λ w. written w i at (take m (drop at new)))) (half_changed i (λ was. put was at (take m (drop at new))))
      (λ _ u v d. hands_of u v _ d refl) (λ u v d. hands_of u v _ d.2 refl) (Part (at + m)) x (λ u v p d. goes_on at m le u v p d)
      (subst (λ y. Steps S a b (makes (λ w. written w i at y)) (half_changed i (λ was. put was at y)) (Ok x)) are c)

  -- all of it is synced
  brought_new : (at : ℕ) → length new ≤ at → (u : World) → (p : Part at u) → brought p.kept ≡ whole new
  brought_new at le u p =
      let is : p.kept.now ≡ new = all_written old new same at p.kept.now le (now_within old new p.kept.now p.kept.before p.within) p.begun in
      ap (λ d. if d then p.kept else record { now = p.kept.now; before = []; in_doubt = p.kept.in_doubt }) p.sure
      ∙ (λ j. record { now = is j; before = []; in_doubt = p.sure j })

  all_synced : (at : ℕ) → length new ≤ at → (u v : World) → Part at u → v ≡ synced u i → Has path i l (whole new) (whole log) (whole (Leads l)) v
  all_synced at le u v p is = subst (λ k. Has path i l k (whole log) (whole (Leads l)) v) (brought_new at le u p)
      (subst (Has path i l (brought p.kept) (whole log) (whole (Leads l))) (sym is) (image_becomes path i l p.kept (whole log) (whole (Leads l)) u brought p.has))

  pub last_moments : (at : ℕ) → length new ≤ at → {T : Type 0} (r : Result T Failure) → Since n (Part at) (S.world a)
      → Steps S a b (makes (λ w. synced w i)) (λ w v. v ≡ unsynced w i) r → HeldOnly S a b (Until n (Always logs path new))
  last_moments at le r since c = moments S a b n (Part at) since (makes (λ w. synced w i)) (λ w v. v ≡ unsynced w i)
      (λ _ u v d. hands_of u v _ d refl) (λ u v d. hands_of u v _ d refl) (Always logs path new) (part_gives at)
      (λ u v p d. subst (Always logs path new) (sym d) (always_on logs path new u (unsynced u i) (unsynced_leaves u i) (part_gives at u p)))
      (λ _ u v p d. logged_gives S n path i logs l log old new gives a b (whole new)
      (λ c m. mix_of_within old new same c (mixed_within old new same new [] (new_within) c m)) v (all_synced at le u v p d)) r c
    where
      new_within : IsWithin old new new
      new_within = record { size = refl; each = λ j. inl refl }

  pub last_after : (at : ℕ) → length new ≤ at → {T : Type 0} (x : T) → Since n (Part at) (S.world a)
      → Steps S a b (makes (λ w. synced w i)) (λ w v. v ≡ unsynced w i) (Ok x) → Since n (Has path i l (whole new) (whole log) (whole (Leads l))) (S.world b)
  last_after at le x since c = after S a b n (Part at) since (makes (λ w. synced w i)) (λ w v. v ≡ unsynced w i)
      (λ _ u v d. hands_of u v _ d refl) (λ u v d. hands_of u v _ d refl) (Has path i l (whole new) (whole log) (whole (Leads l))) x (λ u v p d. all_synced at le u v p d) c
