-- The session's disk, committed to the log.
use Rattle.std.proofs.Common.{◌≡◌, ℕ, Bool, List, subst, sym}
use Rattle.d64_image.specs.Images.{Image}
use Rattle.one_host.specs.History.{HeldOnly, HostHistory, Since, Until}
use Rattle.one_host.proofs.Moments.{start as start_at}
use Rattle.image_log.specs.Marks.{Covers}
use Rattle.image_log.specs.Touched.{touched_of}
use Rattle.kept_logs.specs.Logs.{Commits, IsCommitted, MayCommit}
use Rattle.kept_logs.specs.declared.logs.KeptLog.{KeptLog}
use Rattle.kept_logs.proofs.Commits.{stays}
use Rattle.line_server.specs.logged.Memory.{Memory, image_of}

module _ (disk : Memory) (kept now : Image) (marked touched : List Bool) (is : now ≡ image_of disk) (marks : marked ≡ touched_of disk)
    (all : Covers marked kept now → Covers touched kept now) where
  pub as_marked : Covers (touched_of disk) kept (image_of disk) → Covers marked kept now
  as_marked covers = subst (λ (m : List Bool). Covers m kept now) (sym marks) (subst (λ (i : Image). Covers (touched_of disk) kept i) (sym is) covers)

  module _ {H : Type 0} (S : HostHistory H) (a b : H) (log : KeptLog) (n : ℕ) (start : Image)
      (since : Since n (MayCommit log start kept (touched_of disk) (image_of disk)) (S.world a)) where
    may : Since n (MayCommit log start kept touched now) (S.world a)
    may = record { count = since.count; is = λ e. record { stands = (since.is e).stands; covers = all (as_marked (since.is e).covers) } }

    pub commit_moments : (Since n (MayCommit log start kept touched now) (S.world a) → HeldOnly S a b (Until n (Commits (S.world a) log start kept now)))
        → HeldOnly S a b (Until n (Commits (S.world a) log start kept (image_of disk)))
    commit_moments held = subst (λ (i : Image). HeldOnly S a b (Until n (Commits (S.world a) log start kept i))) is (held may)

    pub commit_since : (m : KeptLog) → (Since n (MayCommit log start kept touched now) (S.world a) → Since n (IsCommitted (S.world a) log m start now) (S.world b))
        → Since n (IsCommitted (S.world a) log m start (image_of disk)) (S.world b)
    commit_since m made = subst (λ (i : Image). Since n (IsCommitted (S.world a) log m start i) (S.world b)) is (made may)

    -- the log is full, and nothing was done
    pub full_moments : HeldOnly S a a (Until n (Commits (S.world a) log start kept (image_of disk)))
    full_moments = start_at S a (Until n (Commits (S.world a) log start kept (image_of disk)))
        (λ e. stays log start kept (image_of disk) (S.world a) (since.is e).stands)
