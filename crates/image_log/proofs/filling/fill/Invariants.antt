use Rattle.std.proofs.Common.{◌≡◌, ◌≤◌, ◌<◌, ◌+◌, ◌*◌, ℕ, [], false, length, slice_index_or}
use Rattle.std.specs.Prelude.{IsTrue}
use Rattle.d64_image.specs.Images.{Image}
use Rattle.image_log.specs.Blocks.{brought, is_last, is_whole, replayed}
use Rattle.image_log.proofs.filling.fill.Given as goal

abbrev pub invariant-loop-m : goal.invariant-loop-m
invariant-loop-m l = record {
  room : length l.room ≡ 46;
  wide : (q : ℕ) → q < 46 → length (slice_index_or l.room q []) ≡ 4096;
  some : l.from < 683;
  full : 15 * l.m ≤ l.from;
  whole : (q : ℕ) → q < l.m → IsTrue (is_whole (l.place + q) (slice_index_or l.room q []));
  more : (q : ℕ) → q < l.m → is_last (slice_index_or l.room q []) ≡ false;
  brought : (image : Image) → replayed (λ q. slice_index_or l.room q []) image l.m ≡ brought l.touched l.now l.from image;
}
