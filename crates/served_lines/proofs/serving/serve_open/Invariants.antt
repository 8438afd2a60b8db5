-- All batches so far were answered.
use Rattle.std.proofs.Common.{◌≡◌, ℕ}
use Rattle.d64_image.specs.Images.{Image}
use Rattle.d64_image.specs.Memory.{disk_image}
use Rattle.d64_image.specs.declared.mem_disk.MemDisk.{MemDisk}
use Rattle.host_session.specs.shop.Shop.{IsShop, Shop}
use Rattle.one_host.specs.History.{HeldOnly, Known, Since, Until}
use Rattle.kept_logs.specs.Logs.{Stands, log_file}
use Rattle.line_server.specs.logged.Batches.{HasOpened}
use Rattle.served_lines.specs.Services.{Answers}
use Rattle.served_lines.specs.Steps.{Serves}
use Rattle.served_lines.proofs.serving.serve_open.Given as goal

abbrev pub invariant-loop : goal.invariant-loop
invariant-loop g l = record {
  file : log_file l.log ≡ log_file l.fn.log;
  any_moment : Known g.H.Host.history → (n : ℕ) (s : Shop) (start : Image) (disk : MemDisk) → HasOpened disk l.fn.session l.fn.room.kept.items
      → IsShop (disk_image disk) s → Since n (Stands l.fn.log start (disk_image disk)) (g.H.Host.history.world l.fn.host)
      → HeldOnly g.H.Host.history l.fn.host l.host (Until n (Answers s start (disk_image disk) (g.H.Host.history.world l.fn.host) (log_file l.fn.log)));
  so_far : Known g.H.Host.history → (n : ℕ) (s : Shop) (start : Image) (disk : MemDisk) → HasOpened disk l.fn.session l.fn.room.kept.items
      → IsShop (disk_image disk) s → Since n (Stands l.fn.log start (disk_image disk)) (g.H.Host.history.world l.fn.host)
      → Since n (Serves s start (disk_image disk) (g.H.Host.history.world l.fn.host) l.session l.room.kept.items l.log l.room.input) (g.H.Host.history.world l.host);
}
