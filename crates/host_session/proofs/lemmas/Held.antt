-- How the words on moments of a shop's disk go on from one call to the next.
use Rattle.std.proofs.Common.{List, ℕ, ◌≡◌, ◌<◌, ◌≤◌, ◌+◌, ◌⊎◌, arith, inl, inr, subst, sym}
use Rattle.d64_image.proofs.FileRuns as files
use Rattle.d64_image.proofs.Fused as fused
use Rattle.d64_image.proofs.Moments as devices
use Rattle.d64_image.specs.Fuses.{fuse, fuse_disk, fuse_failures, fuse_left}
use Rattle.d64_image.specs.History as history
use Rattle.d64_image.specs.History.{Failed, History, OnlyReads, WritesNothing}
use Rattle.d64_image.specs.FileDisks.{in_run}
use Rattle.d64_image.specs.Images.{Image}
use Rattle.d64_image.specs.KeptMirrors.{is_broken, mirror}
use Rattle.d64_image.specs.declared.kept_mirror.KeptMirror.{KeptMirror}
use Rattle.d64_image.specs.declared.sector_file.SectorFile.{Ghosts}
use Rattle.d64_image.specs.declared.fuse.Fuse.{Fuse}
use Rattle.host_session.specs.Held.{Changes, HeldOnly}
use Rattle.disk_layout.specs.Layout.{File, Layout}
use Rattle.disk_layout.specs.Whole.{IsWhole, KeepsWhole}
use Rattle.rel_records.specs.Written.{IsWriting}

module _ {D : Type 0} (S : History D) where
  -- what the device's words say, where the images keep files whole
  pub enrich : (a b : D) (P : Image → Type 0) → history.HeldOnly S a b P
      → (IsWhole (S.image a) → (c : Image) → P c → IsWhole c) → HeldOnly S a b P
  enrich a b P h keeps = record {
    reached = h.reached;
    later = h.later;
    each = h.each;
    before = h.before;
    whole = λ w. devices.weaker S a b P IsWhole (keeps w) h;
  }

  pub bare : (a b : D) (P : Image → Type 0) → HeldOnly S a b P → history.HeldOnly S a b P
  bare a b P h = record { reached = h.reached; later = h.later; each = h.each; before = h.before }

  pub start : (d : D) (P : Image → Type 0) → P (S.image d) → HeldOnly S d d P
  start d P p =
      let h = devices.start S d P p in
      record {
        reached = h.reached;
        later = h.later;
        each = h.each;
        before = h.before;
        whole = λ w. devices.start S d IsWhole w;
      }

  -- one call after another
  pub then : (a b c : D) (P : Image → Type 0) → HeldOnly S a b P → HeldOnly S b c P → HeldOnly S a c P
  then a b c P first second =
      let h = devices.then S a b c P (bare a b P first) (bare b c P second) in
      record {
        reached = h.reached;
        later = h.later;
        each = h.each;
        before = h.before;
        whole = λ w. devices.then S a b c IsWhole (first.whole w)
            (second.whole (devices.at_end S a b IsWhole (first.whole w)));
      }

  pub weaker : (a b : D) (P Q : Image → Type 0) → ((c : Image) → P c → Q c) → HeldOnly S a b P → HeldOnly S a b Q
  weaker a b P Q f x =
      let h = devices.weaker S a b P Q f (bare a b P x) in
      record { reached = h.reached; later = h.later; each = h.each; before = h.before; whole = x.whole }

  -- what it holds at the end is one of those
  pub at_end : (a b : D) (P : Image → Type 0) → HeldOnly S a b P → P (S.image b)
  at_end a b P h = devices.at_end S a b P (bare a b P h)

  -- with the count of writes
  pub changes_enrich : (a b : D) (n : ℕ) (P : Image → Type 0) → history.Changes S a b n P
      → (IsWhole (S.image a) → (c : Image) → P c → IsWhole c) → Changes S a b n P
  changes_enrich a b n P h keeps = record { held = enrich a b P h.held keeps; writes = h.writes }

  pub changes_bare : (a b : D) (n : ℕ) (P : Image → Type 0) → Changes S a b n P → history.Changes S a b n P
  changes_bare a b n P h = record { held = bare a b P h.held; writes = h.writes }

  pub changes_weaker : (a b : D) (m n : ℕ) (P Q : Image → Type 0) → m ≤ n → ((c : Image) → P c → Q c)
      → Changes S a b m P → Changes S a b n Q
  changes_weaker a b m n P Q le f h = record {
    held = weaker a b P Q f h.held;
    writes = omega (arith, le, h.writes);
  }

  pub changes_then : (a b c : D) (k m n : ℕ) (P : Image → Type 0) → k + m ≤ n → Changes S a b k P → Changes S b c m P
      → Changes S a c n P
  changes_then a b c k m n P le first second = record {
    held = then a b c P first.held second.held;
    writes = omega (arith, le, first.writes, second.writes);
  }

  pub no_change : (d : D) (P : Image → Type 0) → P (S.image d) → Changes S d d 0 P
  no_change d P p = record { held = start d P p; writes = omega arith }

  -- calls that write nothing
  same_image : (a b : D) (P : Image → Type 0) → history.HeldOnly S a b (λ c. c ≡ S.image a) → P (S.image a)
      → HeldOnly S a b P
  same_image a b P h p =
      let same : (Q : Image → Type 0) → Q (S.image a) → (c : Image) → c ≡ S.image a → Q c = λ Q q c e. subst Q (sym e) q in
      let x = devices.weaker S a b (λ c. c ≡ S.image a) P (same P p) h in
      record {
        reached = x.reached;
        later = x.later;
        each = x.each;
        before = x.before;
        whole = λ w. devices.weaker S a b (λ c. c ≡ S.image a) IsWhole (same IsWhole w) h;
      }

  pub reads_change : (a b : D) (n : ℕ) (P : Image → Type 0) → OnlyReads S a b n → P (S.image a) → Changes S a b 0 P
  reads_change a b n P r p = record { held = same_image a b P r.held p; writes = omega (arith, r.writes) }

  pub no_write_change : (a b : D) (P : Image → Type 0) → WritesNothing S a b → P (S.image a) → Changes S a b 0 P
  no_write_change a b P w p = record { held = same_image a b P w.held p; writes = omega (arith, w.writes) }

-- over a fuse, and beneath it
module _ {D : Type 0} (h : History D) where
  pub held_beneath : (a b : Fuse D) (P : Image → Type 0) → HeldOnly (fuse h) a b P
      → HeldOnly h (fuse_disk a) (fuse_disk b) P
  held_beneath a b P x = record {
    reached = x.reached.beneath;
    later = x.later;
    each = x.each;
    before = x.before;
    whole = λ w. fused.held_beneath h a b IsWhole (x.whole w);
  }

  pub changes_beneath : (a b : Fuse D) (n : ℕ) (P : Image → Type 0) → Changes (fuse h) a b n P
      → Changes h (fuse_disk a) (fuse_disk b) n P
  changes_beneath a b n P x = record {
    held = held_beneath a b P x.held;
    writes = omega (arith, x.writes, x.held.reached.writes);
  }

  pub cause_beneath : (a b : Fuse D) (P : Image → Type 0) → HeldOnly (fuse h) a b P → fuse_failures a < (fuse h).last
      → Failed (fuse h) a b
      → (fuse_left b ≡ 0) ⊎ Failed h (fuse_disk a) (fuse_disk b)
  cause_beneath a b P x = fused.cause_beneath h a b P (bare (fuse h) a b P x)

-- an image that is held while a record is written keeps files whole as growth does
pub writing-whole : (old : Image) (l : Layout) (n : ℕ) (f : File) (m r pos : ℕ) (text : List ℕ) (c : Image)
    → IsWriting old l n f m r pos text c → KeepsWhole old l f m c
writing-whole old l n f m r pos text c (inl g) = g.3
writing-whole old l n f m r pos text c (inr (inl x)) = x.1
writing-whole old l n f m r pos text c (inr (inr x)) = x.1

-- over a mirror, and of its file
module _ {F : Type 0} {G : Ghosts F} where
  pub held_by_file : (first : F) (a b : KeptMirror F G) (P : Image → Type 0) → HeldOnly mirror a b P
      → HeldOnly (in_run G.keeps first) (files.file_disk a) (files.file_disk b) P
  held_by_file first a b P x =
      let h = files.held_by_file first a b P (bare mirror a b P x) in
      record {
        reached = h.reached;
        later = h.later;
        each = h.each;
        before = h.before;
        whole = λ w. files.held_by_file first a b IsWhole (x.whole w);
      }

  pub same_file : (a b : KeptMirror F G) (P : Image → Type 0) → a.taken.n ≡ 0 → Changes mirror a b 0 P
      → (is_broken b → ⊥) → b.file ≡ a.file
  same_file a b P untaken kept whole = files.same_file a b P untaken (changes_bare mirror a b 0 P kept) whole
