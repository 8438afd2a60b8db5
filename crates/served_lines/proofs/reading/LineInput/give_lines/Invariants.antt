-- So far no line was at hand.
use Rattle.std.proofs.Common.{[], ◌≡◌, ◌≤◌, ℕ, length, true}
use Rattle.std.specs.Prelude.{vec_capacity}
use Rattle.one_host.specs.History.{HeldOnly, Known, Since, Until}
use Rattle.served_lines.specs.Readings.{GoesOn, OnlyHeard}
use Rattle.served_lines.proofs.reading.LineInput.give_lines.Given as goal

abbrev pub invariant-loop : goal.invariant-loop
invariant-loop g l = record {
  room : 512 ≤ vec_capacity l.lines;
  told : Known g.H.Host.history → g.H.Host.history.failed l.host ≡ g.H.Host.history.failed l.initial.host;
  any_moment : Known g.H.Host.history → (n : ℕ) → n ≤ (g.H.Host.history.world l.initial.host).hands
      → HeldOnly g.H.Host.history l.initial.host l.host (Until n (OnlyHeard (g.H.Host.history.world l.initial.host)));
  only : Known g.H.Host.history → (n : ℕ) → n ≤ (g.H.Host.history.world l.initial.host).hands
      → Since n (OnlyHeard (g.H.Host.history.world l.initial.host)) (g.H.Host.history.world l.host);
  so_far : Known g.H.Host.history → (n : ℕ) → n ≤ (g.H.Host.history.world l.initial.host).hands
      → Since n (λ w. GoesOn (g.H.Host.history.world l.initial.host) l.fn.self l.self [] true w × (l.counter ≤ length w.heard)) (g.H.Host.history.world l.host);
}
