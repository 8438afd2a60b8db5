-- The faults of a run, told apart.
use Rattle.std.proofs.Common.{◌≡◌, ℕ}
use Rattle.host_session.specs.declared.faults.OpenFault.{OpenFault}
use Rattle.host_session.specs.declared.runs.scripts.ScriptFault.{ScriptFault}
use Rattle.host_session.specs.declared.runs.scripts.ScriptFault.TheVariants as ends

-- each fault is another one
abbrev pub line_of : ScriptFault → ℕ
line_of (ends.BadLine n) = n
line_of _ = 0

pub line-output : (n : ℕ) → ends.BadLine n ≡ ends.Output → ⊥
line-output n e = cc

pub line-device : (n : ℕ) → ends.BadLine n ≡ ends.Device → ⊥
line-device n e = cc

pub line-open : (n : ℕ) (f : OpenFault) → ends.BadLine n ≡ ends.Open f → ⊥
line-open n f e = cc
