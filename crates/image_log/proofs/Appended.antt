-- The blocks that were made, joined, and what became of the file behind which they were written.
use Rattle.std.proofs.Common.{◌≡◌, ◌≤◌, ◌<◌, ◌+◌, ◌*◌, ◌∙◌, ℕ, List, [], Result, ap, arith, get_or, refl, length, slice_index, take, get_or-take, length-take-le}
use Rattle.std.specs.List.{flat_map}
use Rattle.d64_image.specs.Images.{Image}
use Rattle.image_log.specs.Blocks.{IsCommit, replayed}
use Rattle.image_log.specs.Files.{BringsBytes, FileHistory, LeavesOnly, Mixed, Rests, overwritten}
use Rattle.image_log.specs.Recovered.{IsAppended, IsLog, IsTorn, base_of, recovered}
use Rattle.image_log.proofs.Commits.{base_after, base_first, based_after, blend_mixed, flat_at, log_after, recovered_after, unmarked}
use Rattle.image_log.proofs.Moments.{weaker}
use Rattle.image_log.proofs.Torn.{left}

module _ (room : List (List ℕ)) (n end : ℕ) (commit : IsCommit (λ q. get_or room q []) end n) (few : n ≤ 46)
    (rooms : length room ≡ 46) (wide : (q : ℕ) → q < 46 → length (get_or room q []) ≡ 4096) (fits : end + 46 ≤ 1024)
    (bytes : List ℕ) (joined : bytes ≡ flat_map (λ b. b) (take n room)) (long : length bytes ≡ length (take n room) * 4096) where
  abbrev B : ℕ → List ℕ
  B q = get_or room q []

  size : length bytes ≡ 4096 * n
  size = omega (arith, long, length-take-le n room (omega (arith, rooms, few)))

  within : end + n ≤ 1024
  within = omega (arith, fits, few)

  pub has_room : (f : List ℕ) → IsLog f end → 4096 * end + length bytes ≤ length f
  has_room f log = omega (arith, size, within, log.size)

  each : (q : ℕ) → q < n → length (B q) ≡ 4096
  each q low = wide q (omega (arith, low, few))

  taken : (q : ℕ) → q < n → get_or (take n room) q [] ≡ B q
  taken q low = get_or-take n room q [] low

  blocks : (q i : ℕ) → q < n → i < 4096 → slice_index bytes (4096 * q + i) ≡ slice_index (B q) i
  blocks q i low small =
      let count = length-take-le n room (omega (arith, rooms, few)) in
      ap (λ (x : List ℕ). slice_index x (4096 * q + i)) joined
      ∙ flat_at 4096 (take n room) (λ j below. ap length (taken j (omega (arith, below, count))) ∙ each j (omega (arith, below, count)))
      q i (omega (arith, low, count)) small
      ∙ ap (λ (b : List ℕ). slice_index b i) (taken q low)

  module _ {F : Type 0} (h : FileHistory F) (old new : F) (after : Image → Image)
      (makes : (image : Image) → replayed B image n ≡ after image) (f : List ℕ) (log : IsLog f end) where
    torn_of : (c : List ℕ) → Mixed (4096 * end) bytes f c → IsTorn f end (after (recovered f)) c
    torn_of c mixed = record {
      left = λ some. left f end log B n commit within bytes size each blocks c mixed few (base_of f) (recovered f) (after (recovered f))
          some refl refl (makes (recovered f));
      unmarked = unmarked f end log B n commit within bytes size each blocks c mixed;
    }

    pub torn_moments : {T E : Type 0} (result : Result T E) → BringsBytes h old new (4096 * end) bytes f result
        → LeavesOnly h old new (IsTorn f end (after (recovered f)))
    torn_moments result brings = weaker h old new (Mixed (4096 * end) bytes f) (IsTorn f end (after (recovered f)))
        torn_of brings.any_moment

    pub appended : Rests h new (overwritten f (4096 * end) bytes) → IsAppended h new f end n (after (recovered f))
    appended rests = record {
      bytes = overwritten f (4096 * end) bytes;
      rests = rests;
      log = log_after f end log B n commit within bytes size each blocks;
      based = based_after f end log B n commit within bytes size each blocks;
      image = recovered_after f end log B n commit within bytes size each blocks ∙ makes (recovered f);
      base = base_after f end log B n commit within bytes size each blocks;
      first = λ start. base_first f end log B n commit within bytes size each blocks start
          ∙ recovered_after f end log B n commit within bytes size each blocks ∙ makes (recovered f);
      beside = λ c blend. torn_of c (blend_mixed f (4096 * end) bytes (has_room f log) c blend);
    }
