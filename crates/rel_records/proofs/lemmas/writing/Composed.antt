-- Calls one after another: what was held over both.
use Rattle.std.proofs.Common.{arith, subst, ℕ, ◌≤◌}
use Rattle.d64_image.proofs.Moments.{changes_then, reads_change}
use Rattle.d64_image.specs.History.{Changes, History, OnlyReads}
use Rattle.d64_image.specs.Images.{Image}

-- reads, and then what a call does; P says of an old image what is held after it
pub reads_first : {D : Type 0} (S : History D) (a b c : D) (k m n : ℕ) (P : Image → Image → Type 0) → m ≤ n
    → OnlyReads S a b k → P (S.image a) (S.image a) → Changes S b c m (P (S.image b)) → Changes S a c n (P (S.image a))
reads_first S a b c k m n P le reads same changes =
    let Q : Image → Type 0 = λ i. Changes S b c m (P i) in
    changes_then S a b c 0 m n (P (S.image a)) (omega (arith, le)) (reads_change S a b k (P (S.image a)) reads same)
    (subst Q reads.image changes)
