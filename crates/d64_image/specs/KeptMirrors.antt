-- A disk in memory whose sectors a file keeps. Our own.
use Rattle.std.specs.Prelude.{ℕ, Bool, ◌≡◌, ◌<◌, ◌≤◌, ◌+◌, ◌⊎◌, refl, true, false}
use Rattle.std.proofs.Common.{◌∙◌, ap, arith, inl, inr, sym, ⊎_elim, le_refl, lit≤}
use Rattle.d64_image.specs.declared.kept_mirror.KeptMirror.{KeptMirror}
use Rattle.d64_image.specs.declared.mem_disk.MemDisk.{MemDisk}
use Rattle.d64_image.specs.declared.sector_file.SectorFile.{Ghosts}
use Rattle.d64_image.specs.History.{History}
use Rattle.d64_image.specs.Images.{Image}
use Rattle.d64_image.specs.Keeps.{FileFailed, failed_from, failed_to, kept_or, kept_whole}
use Rattle.d64_image.specs.Memory.{disk_image}

-- 1 if true, 0 if false
abbrev pub one_if : Bool → ℕ
one_if true = 1
one_if false = 0

pub one_if-small : (b : Bool) → one_if b ≤ 1
one_if-small true = lit≤ tt
one_if-small false = lit≤ tt

module _ {F : Type 0} {G : Ghosts F} where
  -- the file, and the disk in memory
  abbrev pub mirror_file : KeptMirror F G → F
  mirror_file m = m.file

  abbrev pub mirror_disk : KeptMirror F G → MemDisk
  mirror_disk m = m.disk

  -- The file failed, and the mirror fails each call from then on.
  abbrev pub is_broken : KeptMirror F G → Type 0
  is_broken m = m.broken ≡ true

  -- how many sectors the file and memory took
  abbrev pub mirror_writes : KeptMirror F G → ℕ
  mirror_writes m = m.taken.n

  -- what the file keeps, or memory's image if that isn't known
  abbrev pub mirror_image : KeptMirror F G → Image
  mirror_image m = kept_or (G.keeps.kept m.file) (disk_image m.disk)

  -- From old to new: the file is one that comes from the old one by sectors that it was to keep. A broken mirror stays
  -- so, and its file stays as it is. It is broken if its file failed, and only then. A mirror that took no sector and
  -- is not broken did nothing to the file.
  pub record IsMirrored (old new : KeptMirror F G) : Type 0 where
    pub file : G.keeps.reached old.file new.file
    pub failures : G.keeps.failures old.file ≤ G.keeps.failures new.file
    pub broken : is_broken old → is_broken new × (new.file ≡ old.file)
    pub unfailed : (is_broken new → ⊥) → G.keeps.failures new.file ≡ G.keeps.failures old.file
    pub failed : is_broken new → is_broken old ⊎ FileFailed G.keeps old.file new.file
    pub taken : old.taken.n ≤ new.taken.n
    -- the file counts no sector that the mirror doesn't
    pub counted : new.taken.n < 18446744073709551615 → G.keeps.writes new.file + old.taken.n ≤ G.keeps.writes old.file
        + new.taken.n
    pub quiet : new.taken.n ≡ old.taken.n → new.taken.n < 18446744073709551615 → is_broken new ⊎ (new.file ≡ old.file)

  pub mirrored_same : (m : KeptMirror F G) → IsMirrored m m
  mirrored_same m = record {
    file = G.keeps.reached_same m.file;
    failures = le_refl (G.keeps.failures m.file);
    broken = λ h. (h, refl);
    unfailed = λ _. refl;
    failed = λ h. inl h;
    taken = le_refl m.taken.n;
    counted = λ _. le_refl (G.keeps.writes m.file + m.taken.n);
    quiet = λ _ _. inr refl;
  }

  pub mirrored_then : (a b c : KeptMirror F G) → IsMirrored a b → IsMirrored b c → IsMirrored a c
  mirrored_then a b c x y = record {
    file = G.keeps.reached_then a.file b.file c.file x.file y.file;
    failures = omega (arith, x.failures, y.failures);
    broken = λ h. ((y.broken (x.broken h).0).0, (y.broken (x.broken h).0).1 ∙ (x.broken h).1);
    unfailed = λ whole. y.unfailed whole ∙ x.unfailed (λ h. whole (y.broken h).0);
    failed = λ h. ⊎_elim
        (λ (hb : is_broken b). ⊎_elim
        (λ (ha : is_broken a). inl ha)
        (λ f. inr (failed_to G.keeps a.file b.file c.file f y.failures))
        (x.failed hb))
        (λ f. inr (failed_from G.keeps a.file b.file c.file x.failures f))
        (y.failed h);
    taken = omega (arith, x.taken, y.taken);
    counted = λ few. omega (arith, y.counted few, x.counted (omega (arith, few, y.taken)));
    quiet = λ same few.
        let first : b.taken.n ≡ a.taken.n = omega (arith, same, x.taken, y.taken) in
        let second : c.taken.n ≡ b.taken.n = omega (arith, same, x.taken, y.taken) in
        ⊎_elim
        (λ (h : is_broken b). inl (y.broken h).0)
        (λ (e : b.file ≡ a.file). ⊎_elim
        (λ (h : is_broken c). inl h)
        (λ (d : c.file ≡ b.file). inr (d ∙ e))
        (y.quiet second few))
        (x.quiet first (omega (arith, few, second)));
  }

  -- A mirror holds what its file keeps, or what its memory holds if that isn't known. Its count of failures is spent
  -- with the first: from then on each call fails.
  abbrev pub mirror : History (KeptMirror F G)
  mirror = record {
    image = mirror_image;
    moment = λ m. G.keeps.moment m.file;
    held = λ m t c. (c ≡ mirror_image m) ⊎ G.keeps.held m.file t c;
    reads = λ _. 0;
    writes = λ m. m.taken.n;
    failures = λ m. one_if m.broken;
    last = 1;
    whole = λ m. kept_whole (disk_image m.disk) m.disk.whole (G.keeps.kept m.file) (G.keeps.whole m.file);
    now = λ m t le. inl refl;
    only_now = λ m c held. ⊎_elim (λ (e : c ≡ mirror_image m). e)
        (λ h. sym (ap (λ o. kept_or o (disk_image m.disk)) (G.keeps.only_now m.file c h))) held;
    up_to_last = λ m. one_if-small m.broken;
    reached = IsMirrored;
    reached_same = mirrored_same;
    reached_then = mirrored_then;
    failed_at = λ m _. is_broken m;
    failed_stays = λ a b _ x h. (x.broken h).0;
  }
