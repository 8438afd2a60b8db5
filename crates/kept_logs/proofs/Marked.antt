-- The mark of a log, and what a power loss leaves while it is written.
use Rattle.std.proofs.Common.{◌≡◌, ◌≤◌, ◌<◌, ◌+◌, ◌∙◌, ℕ, List, [], ◌∷◌, ap, arith, length, ⊎_elim, subst, sym}
use Rattle.d64_image.specs.Images.{Image}
use Rattle.one_host.specs.Worlds.{World}
use Rattle.one_host.specs.History.{HeldOnly, HostHistory, Since, Until}
use Rattle.one_host.proofs.Moments.{weaker}
use Rattle.image_log.specs.Files.{Mixed, overwritten}
use Rattle.image_log.specs.Recovered.{IsLeft, base_end, is_marked, recovered}
use Rattle.image_log.proofs.Commits.{new_mixed}
use Rattle.image_log.proofs.Marked.{is_there, mark_left}
use Rattle.image_log.proofs.Torn.{base_end_is, ends_clean}
use Rattle.kept_logs.specs.Files.{Has, Mixes, OnlyFile, Takes}
use Rattle.kept_logs.specs.Logs.{Commits, IsMarked, Stands, log_end, log_file, log_in}
use Rattle.kept_logs.specs.declared.logs.KeptLog.{KeptLog}

module _ (l : KeptLog) (start now : Image) (v : World) (s : Stands l start now v) where
  abbrev f : List ℕ
  f = log_in v l

  within : 4194304 + length {A = ℕ} (1 ∷ []) ≤ length f
  within = omega (arith, s.log.size)

  pub mark_takes : Takes (log_file l) 4194304 (1 ∷ []) v
  mark_takes = record { safe = s.safe; within = within }

  left : (c : List ℕ) → Mixed 4194304 (1 ∷ []) f c → IsLeft start now now c
  left c mixed =
      let based : 0 < base_end f = omega (arith, base_end_is f (log_end l) s.log, s.based) in
      subst (λ (x : Image). IsLeft start x x c) s.image
      (subst (λ (b : Image). IsLeft b (recovered f) (recovered f) c) s.base (mark_left f s.log.size c mixed based (ends_clean f (log_end l) s.log)))

  pub mark_commits : (w : World) → Mixes v (log_file l) 4194304 (1 ∷ []) w → Commits v l start now now w
  mark_commits w m = record { only = m.only; leaves = λ c mix. left c (m.leaves c mix) }

  pub mark_marks : (w : World) → Has v (log_file l) (overwritten f 4194304 (1 ∷ [])) w → IsMarked v (log_file l) now w
  mark_marks w h = record {
    only = h.only;
    safe = h.safe;
    mark = ap is_marked h.is ∙ is_there f s.log.size;
    image = ap recovered h.is ∙ ⊎_elim (λ e. e) (λ e. e) (left (overwritten f 4194304 (1 ∷ [])) (new_mixed f 4194304 (1 ∷ []) within)).image;
  }

-- the calls
module _ {H : Type 0} (S : HostHistory H) (a b : H) (k : ℕ) (l : KeptLog) (start now : Image) (since : Since k (Stands l start now) (S.world a)) where
  pub begun : Since k (Takes (log_file l) 4194304 (1 ∷ [])) (S.world a)
  begun = record { count = since.count; is = λ e. mark_takes l start now (S.world a) (since.is e) }

  was : (w : World) → OnlyFile (S.world a) (log_file l) w → w.hands ≡ k → (S.world a).hands ≡ k
  was w o e = sym (ap (λ (x : World). x.hands) o.rest) ∙ e

  pub mark_held : HeldOnly S a b (Until k (Mixes (S.world a) (log_file l) 4194304 (1 ∷ []))) → HeldOnly S a b (Until k (Commits (S.world a) l start now now))
  mark_held held = weaker S a b (Until k (Mixes (S.world a) (log_file l) 4194304 (1 ∷ []))) (Until k (Commits (S.world a) l start now now))
      (λ w m e. mark_commits l start now (S.world a) (since.is (was w (m e).only e)) w (m e)) held

  pub marked : Since k (Has (S.world a) (log_file l) (overwritten (log_in (S.world a) l) 4194304 (1 ∷ []))) (S.world b)
      → Since k (IsMarked (S.world a) (log_file l) now) (S.world b)
  marked has = record { count = has.count; is = λ e. mark_marks l start now (S.world a) (since.is (was (S.world b) (has.is e).only e)) (S.world b) (has.is e) }
