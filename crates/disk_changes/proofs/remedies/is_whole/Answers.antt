-- The check, and what it says of the image.
use Rattle.std.proofs.Common.{subst}
use Rattle.disk_layout.specs.Clean.{IsClean}
use Rattle.disk_changes.proofs.remedies.is_whole.Goals as goal

pub returns-clause-ok : goal.returns-clause-ok
returns-clause-ok c = (
  c.in_ok-disk.ensures.ok.0,
  (
    λ t. record {
      size = c.in_ok-disk.ensures.ok.0;
      clean = subst IsClean c.in_ok-disk.ensures.ok.1 (c.in-Ok.ensures.ok.0, c.in-Ok.ensures.ok.1);
      uncut = c.in_ok-uncut.ensures.ok.0 t;
    },
    λ whole. c.in_ok-uncut.ensures.ok.1 whole.uncut,
  ),
)
