-- A commit behind a log: what a power loss leaves of it on the way, and what stands after it.
use Rattle.std.proofs.Common.{◌≡◌, ◌≤◌, ◌<◌, ◌+◌, ◌*◌, ◌∙◌, ℕ, List, [], Bool, ap, arith, ext_get_or, get_or, inl, ⊎_elim, length, refl, subst, sym, take}
use Rattle.std.specs.List.{flat_map}
use Rattle.std.proofs.lemmas.Bool.{false≢true}
use Rattle.d64_image.specs.Images.{Image}
use Rattle.one_host.specs.Worlds.{IsMix, World}
use Rattle.one_host.specs.History.{HeldOnly, HostHistory, Since, Until}
use Rattle.one_host.proofs.Moments.{weaker}
use Rattle.image_log.specs.Blocks.{IsCommit, block_at, brought, first_commit, replayed}
use Rattle.image_log.specs.Files.{Mixed, overwritten}
use Rattle.image_log.specs.Logs.{StandsFor}
use Rattle.image_log.specs.Marks.{Covers, NoneTouched}
use Rattle.image_log.specs.Recovered.{IsAppended, IsLeft, IsLog, base_of, recovered}
use Rattle.image_log.specs.declared.log.Log.{Log}
use Rattle.image_log.proofs.Ends.{commit_stands, quiet}
use Rattle.image_log.proofs.Torn.{base_end_is, ends_clean}
use Rattle.replaced_images.proofs.Pieces.{mixed_within}
use Rattle.kept_logs.specs.Files.{Has, IsSafe, Mixes, OnlyFile, Takes, bytes_in}
use Rattle.kept_logs.specs.Logs.{Commits, IsCommitted, MayCommit, Stands, log_end, log_file, log_in}
use Rattle.kept_logs.specs.declared.logs.KeptLog.{KeptLog}
use Rattle.kept_logs.proofs.Blocks.{Still, as_log, as_stands, has_room, some_is, still, torn_left, written}
use Rattle.kept_logs.proofs.Bytes.{same_at}
use Rattle.kept_logs.proofs.Calls.{only_self}

-- bytes of which a power loss leaves only these
pub alone : (f c : List ℕ) → IsMix f [] c → c ≡ f
alone f c mix =
    let w = mixed_within f f refl f [] (record { size = refl; each = λ j. inl refl }) c mix in
    ext_get_or 0 c f w.size (λ i _. same_at c f i (⊎_elim (λ e. e) (λ e. e) (w.each i)))

-- the blocks of a commit, joined
module _ (room : List (List ℕ)) (n end : ℕ) (commit : IsCommit (λ q. get_or room q []) end n) (few : n ≤ 46)
    (rooms : length room ≡ 46) (wide : (q : ℕ) → q < 46 → length (get_or room q []) ≡ 4096) (fits : end + 46 ≤ 1024)
    (bytes : List ℕ) (joined : bytes ≡ flat_map (λ b. b) (take n room)) (long : length bytes ≡ length (take n room) * 4096)
    (touched : List Bool) (now : Image) (sized : length now ≡ 683)
    (makes : (image : Image) → replayed (λ q. get_or room q []) image n ≡ brought touched now 683 image) where
  pub takes : (l : KeptLog) (start before : Image) (w : World) → log_end l ≡ end → Stands l start before w → Takes (log_file l) (4096 * end) bytes w
  takes l start before w at_end s = record {
    safe = s.safe;
    within = has_room room n end commit few rooms wide fits bytes joined long (log_in w l) (subst (IsLog (log_in w l)) at_end s.log);
  }

  module _ (l : KeptLog) (at_end : log_end l ≡ end) (start before : Image) (covers : Covers touched before now) (v : World) (s : Stands l start before v) where
    abbrev pub f : List ℕ
    f = log_in v l

    abbrev pub new : List ℕ
    new = overwritten f (4096 * end) bytes

    log : IsLog f end
    log = subst (IsLog f) at_end s.log

    based : 0 < first_commit (block_at f) end
    based = subst (λ e. 0 < first_commit (block_at f) e) at_end s.based

    is_written : IsAppended still new f end n (brought touched now 683 (recovered f))
    is_written = written room n end commit few rooms wide fits bytes joined long f log (brought touched now 683 (recovered f)) (makes (recovered f))

    bytes_are : is_written.bytes ≡ new
    bytes_are = sym (some_is new is_written.bytes is_written.rests.held)

    as_next : Log (List ℕ) Still
    as_next = record (as_log l start before v s) {
      file = new;
      end = end + n;
      ends = omega (arith, fits, few);
      rest = λ _. record {
        log = λ g is. subst (λ (x : List ℕ). IsLog x (end + n)) (bytes_are ∙ some_is new g is) is_written.log;
        based = λ g is. subst (λ (x : List ℕ). 0 < first_commit (block_at x) (end + n)) (bytes_are ∙ some_is new g is) is_written.based;
        durable = λ g is c left. left ∙ some_is new g is;
      };
    }

    stands_next : StandsFor as_next start now
    unfolding as_next
    stands_next = commit_stands (as_log l start before v s) now touched sized as_next n (λ e. false≢true e)
        (λ g rests is. subst (λ (x : List ℕ). IsAppended still new x (log_end l) n (brought touched now 683 (recovered x))) (some_is f g rests.held)
        (subst (λ e. IsAppended still new f e n (brought touched now 683 (recovered f))) (sym at_end) is_written))
        start before (as_stands l start before v s) covers

    -- every sector that changed was touched
    made : brought touched now 683 (recovered f) ≡ now
    unfolding as_next
    made = sym is_written.image ∙ ap recovered (bytes_are ∙ some_is new stands_next.bytes stands_next.held) ∙ stands_next.image

    pub left : (c : List ℕ) → Mixed (4096 * end) bytes f c → IsLeft start before now c
    left c mixed = subst (λ (b : Image). IsLeft b before now c) s.base
        (subst (λ (i : Image). IsLeft (base_of f) i now c) s.image
        (subst (λ (i : Image). IsLeft (base_of f) (recovered f) i c) made
        (torn_left room n end commit few rooms wide fits bytes joined long f log (brought touched now 683 (recovered f)) (makes (recovered f)) based c mixed)))

    pub commits : (w : World) → Mixes v (log_file l) (4096 * end) bytes w → Commits v l start before now w
    commits w m = record { only = m.only; leaves = λ c mix. left c (m.leaves c mix) }

    pub committed_is : (m : KeptLog) → log_file m ≡ log_file l → log_end m ≡ end + n → (w : World) → Has v (log_file l) new w → IsCommitted v l m start now w
    committed_is m same reaches w h = record {
      file = same;
      only = h.only;
      stands = record {
        safe = subst (λ k. IsSafe k w) (sym same) h.safe;
        log = subst (λ e. IsLog (log_in w m) e) (sym reaches) (subst (λ (x : List ℕ). IsLog x (end + n)) (sym is) is_written.log);
        based = subst (λ e. 0 < first_commit (block_at (log_in w m)) e) (sym reaches)
            (subst (λ (x : List ℕ). 0 < first_commit (block_at x) (end + n)) (sym is) is_written.based);
        base = ap base_of is ∙ is_written.base based ∙ s.base;
        image = ap recovered is ∙ is_written.image ∙ made;
      };
    }
      where
        is : log_in w m ≡ is_written.bytes
        is = ap (bytes_in w) same ∙ h.is ∙ some_is new is_written.bytes is_written.rests.held

  -- the call that writes them
  module _ (l : KeptLog) (at_end : log_end l ≡ end) (start before : Image)
      {H : Type 0} (S : HostHistory H) (a b : H) (k : ℕ) (since : Since k (MayCommit l start before touched now) (S.world a)) where
    begun : Since k (Takes (log_file l) (4096 * end) bytes) (S.world a)
    begun = record { count = since.count; is = λ e. takes l start before (S.world a) at_end (since.is e).stands }

    pub append_moments : (Since k (Takes (log_file l) (4096 * end) bytes) (S.world a)
        → HeldOnly S a b (Until k (Mixes (S.world a) (log_file l) (4096 * end) bytes))) → HeldOnly S a b (Until k (Commits (S.world a) l start before now))
    append_moments held = weaker S a b (Until k (Mixes (S.world a) (log_file l) (4096 * end) bytes)) (Until k (Commits (S.world a) l start before now))
        (λ w m e. commits l at_end start before (since.is (was w (m e).only e)).covers (S.world a) (since.is (was w (m e).only e)).stands w (m e)) (held begun)
      where
        was : (w : World) → OnlyFile (S.world a) (log_file l) w → w.hands ≡ k → (S.world a).hands ≡ k
        was w o e = sym (ap (λ (x : World). x.hands) o.rest) ∙ e

    pub append_since : (Since k (Takes (log_file l) (4096 * end) bytes) (S.world a)
        → Since k (Has (S.world a) (log_file l) (overwritten (log_in (S.world a) l) (4096 * end) bytes)) (S.world b))
        → (m : KeptLog) → log_file m ≡ log_file l → log_end m ≡ end + n → Since k (IsCommitted (S.world a) l m start now) (S.world b)
    append_since has m same reaches =
        let after = has begun in
        record {
          count = after.count;
          is = λ e. committed_is l at_end start before (since.is (was (S.world b) (after.is e).only e)).covers (S.world a) (since.is (was (S.world b) (after.is e).only e)).stands m same reaches (S.world b) (after.is e);
        }
      where
        was : (w : World) → OnlyFile (S.world a) (log_file l) w → w.hands ≡ k → (S.world a).hands ≡ k
        was w o e = sym (ap (λ (x : World). x.hands) o.rest) ∙ e

-- a log that stands as it was
pub stays : (l : KeptLog) (start_image before now : Image) (v : World) → Stands l start_image before v → Commits v l start_image before now v
stays l start_image before now v s = record {
  only = only_self v (log_file l);
  leaves = λ c mix.
      subst (IsLeft start_image before now)
      (sym (alone (log_in v l) c (subst (λ (b : List (List ℕ)). IsMix (log_in v l) b c) s.safe.before mix)))
      (record {
        size = s.log.size;
        based = omega (arith, base_end_is (log_in v l) (log_end l) s.log, s.based);
        base = s.base;
        image = inl s.image;
        ends = ends_clean (log_in v l) (log_end l) s.log;
      });
}

-- where no sector was touched nothing is written
module _ (l : KeptLog) (start_image before now : Image) (touched : List Bool) (sized : length now ≡ 683) (none : NoneTouched touched)
    (covers : Covers touched before now) (v : World) (s : Stands l start_image before v) where
  same : before ≡ now
  same = quiet (as_log l start_image before v s) now touched sized none start_image before (as_stands l start_image before v s) covers

  pub quiet_committed : IsCommitted v l l start_image now v
  quiet_committed = record {
    file = refl;
    only = only_self v (log_file l);
    stands = subst (λ (i : Image). Stands l start_image i v) same s;
  }
