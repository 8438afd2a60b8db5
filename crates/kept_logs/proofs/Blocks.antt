-- The blocks of a commit, joined and written behind the bytes of a log.
use Rattle.std.proofs.Common.{◌≡◌, ◌≤◌, ◌<◌, ◌+◌, ◌*◌, ◌∙◌, ℕ, List, [], Some, ap, arith, false, get_or, length, refl, slice_index, subst, take, get_or-take, length-take-le}
use Rattle.std.specs.List.{flat_map}
use Rattle.std.proofs.lemmas.Bool.{false≢true}
use Rattle.d64_image.specs.Images.{Image}
use Rattle.one_host.specs.Worlds.{World}
use Rattle.image_log.specs.Blocks.{IsCommit, block_at, first_commit, replayed}
use Rattle.image_log.specs.Files.{FileHistory, Mixed, overwritten}
use Rattle.image_log.specs.Logs.{StandsFor}
use Rattle.image_log.specs.Recovered.{IsAppended, IsLeft, IsLog, IsTorn, base_of, recovered}
use Rattle.image_log.specs.declared.log.Log.{Log}
use Rattle.image_log.specs.declared.log_file.LogFile.{Ghosts}
use Rattle.image_log.proofs.Commits.{base_after, base_first, based_after, blend_mixed, flat_at, log_after, recovered_after, unmarked}
use Rattle.image_log.proofs.Torn.{base_end_is, ends_clean, left}
use Rattle.kept_logs.specs.Logs.{Stands, log_end, log_in}
use Rattle.kept_logs.specs.declared.logs.KeptLog.{KeptLog}

-- a file that a power loss leaves as it is
abbrev pub still : FileHistory (List ℕ)
still = record {
  held = λ f. Some f;
  may_leave = λ f c. c ≡ f;
  moment = λ _. 0;
  left_since = λ f _ c. c ≡ f;
  has_failed = λ _. false;
  only_now = λ _ _ is. is;
}

abbrev pub Still : Ghosts (List ℕ)
Still = record { history = still }

pub some_is : {A : Type 0} (x y : A) → Some x ≡ Some y → x ≡ y
some_is x y e = cc e

-- the log as one over such a file
module _ (l : KeptLog) (start before : Image) (w : World) (s : Stands l start before w) where
  abbrev pub as_log : Log (List ℕ) Still
  as_log = record {
    file = log_in w l;
    end = log_end l;
    closed = false;
    room = l.room;
    ends = l.ends;
    rooms = l.rooms;
    rest = λ _. record {
      log = λ g is. subst (λ (x : List ℕ). IsLog x (log_end l)) (some_is (log_in w l) g is) s.log;
      based = λ g is. subst (λ (x : List ℕ). 0 < first_commit (block_at x) (log_end l)) (some_is (log_in w l) g is) s.based;
      durable = λ g is c left. left ∙ some_is (log_in w l) g is;
    };
  }

  pub as_stands : StandsFor as_log start before
  as_stands = record {
    is_open = λ e. false≢true e;
    bytes = log_in w l;
    held = refl;
    durable = λ c is. is;
    size = s.log.size;
    based = omega (arith, base_end_is (log_in w l) (log_end l) s.log, s.based);
    base = s.base;
    image = s.image;
    ends = ends_clean (log_in w l) (log_end l) s.log;
  }

-- the blocks of a commit, joined
module _ (room : List (List ℕ)) (n end : ℕ) (commit : IsCommit (λ q. get_or room q []) end n) (few : n ≤ 46)
    (rooms : length room ≡ 46) (wide : (q : ℕ) → q < 46 → length (get_or room q []) ≡ 4096) (fits : end + 46 ≤ 1024)
    (bytes : List ℕ) (joined : bytes ≡ flat_map (λ b. b) (take n room)) (long : length bytes ≡ length (take n room) * 4096) where
  abbrev B : ℕ → List ℕ
  B q = get_or room q []

  size : length bytes ≡ 4096 * n
  size = omega (arith, long, length-take-le n room (omega (arith, rooms, few)))

  within : end + n ≤ 1024
  within = omega (arith, fits, few)

  pub has_room : (f : List ℕ) → IsLog f end → 4096 * end + length bytes ≤ length f
  has_room f log = omega (arith, size, within, log.size)

  each : (q : ℕ) → q < n → length (B q) ≡ 4096
  each q low = wide q (omega (arith, low, few))

  blocks : (q i : ℕ) → q < n → i < 4096 → slice_index bytes (4096 * q + i) ≡ slice_index (B q) i
  blocks q i low small =
      let count = length-take-le n room (omega (arith, rooms, few)) in
      ap (λ (x : List ℕ). slice_index x (4096 * q + i)) joined
      ∙ flat_at 4096 (take n room) (λ j below. ap length (get_or-take n room j [] (omega (arith, below, count))) ∙ each j (omega (arith, below, count)))
      q i (omega (arith, low, count)) small
      ∙ ap (λ (b : List ℕ). slice_index b i) (get_or-take n room q [] low)

  module _ (f : List ℕ) (log : IsLog f end) (after : Image) (makes : replayed B (recovered f) n ≡ after) where
    abbrev new : List ℕ
    new = overwritten f (4096 * end) bytes

    torn : (c : List ℕ) → Mixed (4096 * end) bytes f c → IsTorn f end after c
    torn c mixed = record {
      left = λ some. left f end log B n commit within bytes size each blocks c mixed few (base_of f) (recovered f) after some refl refl makes;
      unmarked = unmarked f end log B n commit within bytes size each blocks c mixed;
    }

    pub written : IsAppended still new f end n after
    written = record {
      bytes = new;
      rests = record { held = refl; durable = λ c is. is };
      log = log_after f end log B n commit within bytes size each blocks;
      based = based_after f end log B n commit within bytes size each blocks;
      image = recovered_after f end log B n commit within bytes size each blocks ∙ makes;
      base = base_after f end log B n commit within bytes size each blocks;
      first = λ start. base_first f end log B n commit within bytes size each blocks start
          ∙ recovered_after f end log B n commit within bytes size each blocks ∙ makes;
      beside = λ c blend. torn c (blend_mixed f (4096 * end) bytes (has_room f log) c blend);
    }

    -- what a power loss leaves of it on the way
    pub torn_left : 0 < first_commit (block_at f) end → (c : List ℕ) → Mixed (4096 * end) bytes f c → IsLeft (base_of f) (recovered f) after c
    torn_left some c mixed = (torn c mixed).left some
