-- How many sectors a walk has visited, and how many it hasn't: plain numbers.
use Rattle.std.proofs.Common.{arith, ℕ, ◌+◌, ◌<◌, ◌≡◌, ◌≤◌}

-- of 683 sectors n were visited, and `room` not
pub few : (n room : ℕ) → n + room ≡ 683 → n ≤ 683
few n room all = omega (arith, all)

pub in_list : (n room : ℕ) → n + room ≡ 683 → n < 720
in_list n room all = omega (arith, all)

-- one more is visited
pub one_visited : (n more : ℕ) → more ≡ n + 1 → n + 1 ≤ more
one_visited n more push = omega (arith, push)

pub visited_all : (n more room less : ℕ) → n + room ≡ 683 → more ≡ n + 1 → less + 1 ≡ room → more + less ≡ 683
visited_all n more room less all push insert = omega (arith, all, push, insert)

pub still_few : (n more room less : ℕ) → n + room ≡ 683 → more ≡ n + 1 → less + 1 ≡ room → more ≤ 683
still_few n more room less all push insert = few more less (visited_all n more room less all push insert)

pub less_room : (room less : ℕ) → less + 1 ≡ room → less < room
less_room room less insert = omega (arith, insert)
