-- Zeros so far.
use Rattle.std.proofs.Common.{◌≡◌, ℕ}
use Rattle.one_host.specs.History.{HeldOnly, Known, Since, Until}
use Rattle.kept_logs.specs.Files.{IsEmpty, IsLaid, OnlyFile}
use Rattle.kept_logs.proofs.laying_out.lay_out.Given as goal

abbrev pub invariant-loop-k : goal.invariant-loop-k
invariant-loop-k g l = record {
  told : Known g.H.Host.history → g.H.Host.history.failed l.host ≡ g.H.Host.history.failed l.fn.host;
  any_moment : Known g.H.Host.history → (n : ℕ) → Since n (IsEmpty l.file.number) (g.H.Host.history.world l.fn.host)
      → HeldOnly g.H.Host.history l.fn.host l.host (Until n (OnlyFile (g.H.Host.history.world l.fn.host) l.file.number));
  so_far : Known g.H.Host.history → (n : ℕ) → Since n (IsEmpty l.file.number) (g.H.Host.history.world l.fn.host)
      → Since n (IsLaid (g.H.Host.history.world l.fn.host) l.file.number) (g.H.Host.history.world l.host);
}
