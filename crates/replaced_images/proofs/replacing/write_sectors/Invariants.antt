use Rattle.std.proofs.Common.{◌≡◌, ℕ, List, length, ◌*◌}
use Rattle.one_host.specs.History.{HeldOnly, Known, Since, Until}
use Rattle.one_host.specs.declared.parts.Entry.TheVariants.{Leads}
use Rattle.replaced_images.specs.Replaced.{Always, GivesBeside, Logs, whole}
use Rattle.replaced_images.specs.Stages.{Has, Partly}
use Rattle.replaced_images.proofs.replacing.write_sectors.Given as goal

abbrev pub invariant-loop-k : goal.invariant-loop-k
invariant-loop-k g l = record {
  any_moment : Known g.H.Host.history → (n : ℕ) (logs : Logs) (m : ℕ) (log old : List ℕ) → GivesBeside logs log old l.new → length old ≡ length l.new
      → Since n (Has l.names.image.now l.image.number m (whole old) (whole log) (whole (Leads m))) (g.H.Host.history.world l.initial.host)
      → HeldOnly g.H.Host.history l.initial.host l.host (Until n (Always logs l.names.image.now l.new));
  so_far : Known g.H.Host.history → (n : ℕ) (m : ℕ) (log old : List ℕ) → length old ≡ length l.new
      → Since n (Has l.names.image.now l.image.number m (whole old) (whole log) (whole (Leads m))) (g.H.Host.history.world l.initial.host)
      → Since n (Partly l.names.image.now l.image.number m old l.new log (256 * l.k)) (g.H.Host.history.world l.host);
}
