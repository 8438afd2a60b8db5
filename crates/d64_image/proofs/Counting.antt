-- Counts over a call of a device: plain numbers.
use Rattle.std.proofs.Common.{arith, min, ℕ, ◌+◌, ◌-◌, ◌<◌, ◌≡◌, ◌≢◌, ◌≤◌}

-- one more, up to the greatest value
pub not_fewer : (a b most : ℕ) → a ≤ most → b ≡ min (a + 1) most → a ≤ b
not_fewer a b most fits one = omega (arith, fits, one)

pub risen : (a b most : ℕ) → b ≡ min (a + 1) most → b < most → a < b
risen a b most one below = omega (arith, one, below)

pub one_more : (a b most : ℕ) → b ≡ min (a + 1) most → b ≤ a + 1
one_more a b most one = omega (arith, one)

pub not_same : (a b most : ℕ) → b ≡ min (a + 1) most → b ≡ a → b < most → ⊥
not_same a b most one same few = omega (arith, one, same, few)

-- what is counted beneath, from v to w, and here, from a to b: nothing, or one
pub none_passed : (v w a b : ℕ) → w ≡ v → b ≡ a → w + a ≤ v + b
none_passed v w a b beneath here = omega (arith, beneath, here)

pub one_passed : (v w a b : ℕ) → w ≤ v + 1 → b ≡ a + 1 → w + a ≤ v + b
one_passed v w a b beneath here = omega (arith, beneath, here)

pub one_counted : (v w a b most : ℕ) → w ≤ v + 1 → b ≡ min (a + 1) most → b < most → w + a ≤ v + b
one_counted v w a b most beneath one few = omega (arith, beneath, one, few)

pub grown : (a b : ℕ) → b ≡ a + 1 → a ≤ b
grown a b more = omega (arith, more)

-- what a fuse still lets pass
pub left-none : (limit passed : ℕ) → passed ≡ limit → limit - passed ≡ 0
left-none limit passed all = omega (arith, all)

pub left-some : (limit passed : ℕ) → passed ≤ limit → passed ≢ limit → limit - passed ≢ 0
left-some limit passed within more none = more (omega (arith, within, none))

pub left-one_less : (limit passed : ℕ) → limit - passed ≢ 0 → limit - passed ≡ limit - (passed + 1) + 1
left-one_less limit passed some = omega (arith, some)
