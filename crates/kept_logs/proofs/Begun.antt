-- A log that begins: zeros, and then an image as the first commit.
use Rattle.std.proofs.Common.{◌≡◌, ◌≤◌, ◌<◌, ◌+◌, ◌*◌, ◌∙◌, ℕ, List, [], ap, arith, false, get_or, length, refl, replicate, subst, sym, take, true}
use Rattle.std.specs.List.{flat_map}
use Rattle.std.proofs.lemmas.Bool.{false≢true}
use Rattle.d64_image.specs.Images.{Image}
use Rattle.one_host.specs.Worlds.{File, World}
use Rattle.one_host.specs.History.{HeldOnly, HostHistory, Since, Until}
use Rattle.one_host.proofs.Moments.{joined, weaker}
use Rattle.image_log.specs.Blocks.{IsCommit, block_at, brought, committed, first_commit, replayed}
use Rattle.image_log.specs.Files.{overwritten}
use Rattle.image_log.specs.Logs.{StandsFor}
use Rattle.image_log.specs.Recovered.{IsAppended, IsLog, base_of, recovered}
use Rattle.image_log.specs.declared.log.Log.{Log}
use Rattle.image_log.proofs.Ends.{all_touched, begun_stands}
use Rattle.kept_logs.specs.Files.{Has, IsLaid, IsLaidOut, Mixes, OnlyFile, Takes, bytes_in}
use Rattle.kept_logs.specs.Logs.{IsBegun, log_end, log_file}
use Rattle.kept_logs.specs.declared.logs.KeptLog.{KeptLog}
use Rattle.kept_logs.proofs.Blocks.{Still, has_room, some_is, still, written}

-- a file that was written, and written again
pub only_then : (v u w : World) (n : ℕ) → OnlyFile v n u → OnlyFile u n w → OnlyFile v n w
only_then v u w n o p = record {
  file = p.file ∙ ap (λ (x : File). record x { bytes = (w.files n).bytes }) o.file;
  others = λ m apart. p.others m apart ∙ o.others m apart;
  rest = p.rest ∙ ap (λ (x : World). record x { files = w.files }) o.rest;
}

none_committed : (blocks : ℕ → List ℕ) → committed blocks 0 ≡ 0
unfolding committed
none_committed blocks = refl

-- zeros are an empty log
blank_log : (v : World) (n : ℕ) (u : World) → IsLaid v n u → IsLog (bytes_in u n) 0
blank_log v n u l = record {
  size = l.size;
  within = omega arith;
  whole = λ q low. absurd (omega (arith, low));
  ended = none_committed (block_at (bytes_in u n));
  zeros = λ i _. l.zeros i;
}

module _ (room : List (List ℕ)) (n : ℕ) (commit : IsCommit (λ q. get_or room q []) 0 n) (few : n ≤ 46)
    (rooms : length room ≡ 46) (wide : (q : ℕ) → q < 46 → length (get_or room q []) ≡ 4096)
    (bytes : List ℕ) (joined : bytes ≡ flat_map (λ b. b) (take n room)) (long : length bytes ≡ length (take n room) * 4096)
    (image : Image) (sized : length image ≡ 683)
    (makes : (old : Image) → replayed (λ q. get_or room q []) old n ≡ brought (replicate 683 true) image 683 old)
    (m : KeptLog) (reaches : log_end m ≡ n) (v u : World) (laid : IsLaidOut v (log_file m) u) where
  fits : 0 + 46 ≤ 1024
  fits = omega arith

  abbrev f : List ℕ
  f = bytes_in u (log_file m)

  abbrev new : List ℕ
  new = overwritten f (4096 * 0) bytes

  pub takes : Takes (log_file m) 0 bytes u
  takes = record { safe = laid.safe; within = has_room room n 0 commit few rooms wide fits bytes joined long f (blank_log v (log_file m) u laid.laid) }

  is_written : IsAppended still new f 0 n (brought (replicate 683 true) image 683 (recovered f))
  is_written = written room n 0 commit few rooms wide fits bytes joined long f (blank_log v (log_file m) u laid.laid)
      (brought (replicate 683 true) image 683 (recovered f)) (makes (recovered f))

  bytes_are : is_written.bytes ≡ new
  bytes_are = sym (some_is new is_written.bytes is_written.rests.held)

  reached : 0 + n ≡ log_end m
  reached = omega (arith, reaches)

  log_new : IsLog new (log_end m)
  log_new = subst (IsLog new) reached (subst (λ (x : List ℕ). IsLog x (0 + n)) bytes_are is_written.log)

  based_new : 0 < first_commit (block_at new) (log_end m)
  based_new = subst (λ e. 0 < first_commit (block_at new) e) reached (subst (λ (x : List ℕ). 0 < first_commit (block_at x) (0 + n)) bytes_are is_written.based)

  as_begun : Log (List ℕ) Still
  as_begun = record {
    file = new;
    end = log_end m;
    closed = false;
    room = m.room;
    ends = m.ends;
    rooms = m.rooms;
    rest = λ _. record {
      log = λ g is. subst (λ (x : List ℕ). IsLog x (log_end m)) (some_is new g is) log_new;
      based = λ g is. subst (λ (x : List ℕ). 0 < first_commit (block_at x) (log_end m)) (some_is new g is) based_new;
      durable = λ g is c left. left ∙ some_is new g is;
    };
  }

  stands_for : StandsFor as_begun image image
  unfolding as_begun
  stands_for = begun_stands [] f new image (replicate 683 true) n sized (all_touched 683)
      (λ g is. sym (some_is [] g is))
      (λ _. (f, record { held = refl; durable = λ c is. is }, blank_log v (log_file m) u laid.laid))
      (λ e. cc e) (λ e. cc e)
      (λ g rests is. subst (λ (x : List ℕ). IsAppended still new x 0 n (brought (replicate 683 true) image 683 (recovered x))) (some_is f g rests.held) is_written)
      as_begun refl (λ e. false≢true e) refl

  new_is : new ≡ stands_for.bytes
  unfolding as_begun
  new_is = some_is new stands_for.bytes stands_for.held

  pub begun_in : (w : World) → Has u (log_file m) new w → IsBegun v m image w
  begun_in w h = record {
    only = only_then v u w (log_file m) laid.laid.only h.only;
    stands = record {
      safe = h.safe;
      log = subst (λ (x : List ℕ). IsLog x (log_end m)) (sym h.is) log_new;
      based = subst (λ (x : List ℕ). 0 < first_commit (block_at x) (log_end m)) (sym h.is) based_new;
      base = ap base_of (h.is ∙ new_is) ∙ stands_for.base;
      image = ap recovered (h.is ∙ new_is) ∙ stands_for.image;
    };
  }

-- the calls
module _ {H : Type 0} (S : HostHistory H) (a b c : H) (k : ℕ) (n : ℕ) (bytes : List ℕ) (laid : Since k (IsLaidOut (S.world a) n) (S.world b)) where
  was : (w : World) → OnlyFile (S.world b) n w → w.hands ≡ k → (S.world b).hands ≡ k
  was w o e = sym (ap (λ (x : World). x.hands) o.rest) ∙ e

  pub begin_held : HeldOnly S a b (Until k (OnlyFile (S.world a) n)) → HeldOnly S b c (Until k (Mixes (S.world b) n 0 bytes)) → HeldOnly S a c (Until k (OnlyFile (S.world a) n))
  begin_held first second = joined S a b c (Until k (OnlyFile (S.world a) n)) first
      (weaker S b c (Until k (Mixes (S.world b) n 0 bytes)) (Until k (OnlyFile (S.world a) n))
      (λ w m e. only_then (S.world a) (S.world b) w n (laid.is (was w (m e).only e)).laid.only (m e).only) second)

  pub taken : ((u : World) → IsLaidOut (S.world a) n u → Takes n 0 bytes u) → Since k (Takes n 0 bytes) (S.world b)
  taken takes = record { count = laid.count; is = λ e. takes (S.world b) (laid.is e) }

  pub begun : {B : World → Type 0} → ((u : World) → IsLaidOut (S.world a) n u → (w : World) → Has u n (overwritten (bytes_in u n) 0 bytes) w → B w)
      → Since k (Has (S.world b) n (overwritten (bytes_in (S.world b) n) 0 bytes)) (S.world c) → Since k B (S.world c)
  begun makes has = record { count = has.count; is = λ e. makes (S.world b) (laid.is (was (S.world c) (has.is e).only e)) (S.world c) (has.is e) }
