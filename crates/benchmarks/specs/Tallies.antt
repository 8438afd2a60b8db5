-- What a count of clean checks says. Our own.
use Rattle.std.specs.Prelude.{ℕ, ◌≡◌, ◌≤◌, ◌*◌}
use Rattle.d64_image.specs.History.{History, NeverFailed, OnlyReads}
use Rattle.disk_layout.specs.Clean.{IsClean}

-- so many of the checks found the disk clean: all of them if it is clean and the device didn't fail; none if it isn't
-- clean
pub record IsTally {D : Type 0} (S : History D) (old new : D) (checks count : ℕ) : Type 0 where
  -- at most 2115 reads a check
  pub reads : OnlyReads S old new (2115 * checks)
  pub later : S.failures old ≤ S.failures new
  pub few : count ≤ checks
  pub clean : NeverFailed S old new → IsClean (S.image old) → count ≡ checks
  pub unclean : ¬ (IsClean (S.image old)) → count ≡ 0
