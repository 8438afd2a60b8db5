-- So much was printed.
use Rattle.std.proofs.Common.{length, ◌-◌, ◌≡◌, ◌≤◌, ℕ, take}
use Rattle.one_host.specs.History.{HeldOnly, Known, Until, Since}
use Rattle.served_lines.specs.Printings.{OnlySaid, has_said}
use Rattle.served_lines.proofs.printing.print_whole.Given as goal

abbrev pub invariant-loop-at : goal.invariant-loop-at
invariant-loop-at g l = record {
  within : l.at ≤ length l.text;
  any_moment : Known g.H.Host.history → (n : ℕ) → n ≤ (g.H.Host.history.world l.initial.host).hands
      → HeldOnly g.H.Host.history l.initial.host l.host (Until n (OnlySaid (g.H.Host.history.world l.initial.host) l.text));
  so_far : Known g.H.Host.history → (n : ℕ) → n ≤ (g.H.Host.history.world l.initial.host).hands
      → Since n (λ w. w ≡ has_said (g.H.Host.history.world l.initial.host) (take l.at l.text)) (g.H.Host.history.world l.host);
}

abbrev pub decreases-loop-at : goal.decreases-loop-at
decreases-loop-at g l = length l.text - l.at
