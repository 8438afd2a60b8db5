-- What a run over a mirror says of its file.
use Rattle.std.proofs.Common.{Bool, true, false, ◌≡◌, ◌<◌, ◌≤◌, ◌+◌, None, Option, Some, arith, refl, ⊎_elim}
use Rattle.std.proofs.lemmas.Bool.Decides.{nat_tests}
use Rattle.d64_image.specs.declared.kept_mirror.KeptMirror.{KeptMirror}
use Rattle.d64_image.specs.declared.sector_file.SectorFile.{Ghosts}
use Rattle.d64_image.specs.FileDisks.{FileDisk, fails_since, in_run}
use Rattle.d64_image.specs.KeptMirrors.{IsMirrored, is_broken, mirror, mirror_image, one_if}
use Rattle.d64_image.specs.History.{Changes, Failed, HeldOnly, NeverFailed}
use Rattle.d64_image.specs.Images.{Image}
use Rattle.d64_image.specs.Keeps.{Agrees, FileFailed, Keeps, kept_or}

pub agrees_with_itself : (o : Option Image) (img : Image) → Agrees o (kept_or o img)
agrees_with_itself None img = refl
agrees_with_itself (Some c) img = refl

-- a failure that is counted, or a count that is spent
since_failed : {F : Type 0} (K : Keeps F) (first file : F) → FileFailed K first file → fails_since K first file ≡ 1
since_failed K first file failed = grind (arith, nat_tests, failed.rose)

pub since_grows : {F : Type 0} (K : Keeps F) (first a b : F) → K.failures a ≤ K.failures b
    → fails_since K first a ≤ fails_since K first b
since_grows K first a b le = grind (arith, nat_tests)

pub one_if-false : (b : Bool) → (b ≡ true → ⊥) → one_if b ≡ 0
one_if-false true not = absurd (not refl)
one_if-false false not = refl

module _ {F : Type 0} {G : Ghosts F} where
  -- the file of a mirror, with what the mirror holds
  abbrev pub file_disk : KeptMirror F G → FileDisk G.keeps
  file_disk m = record {
    file = m.file;
    image = mirror_image m;
    whole = mirror.whole m;
    agrees = agrees_with_itself (G.keeps.kept m.file) _;
  }

  -- a mirror that isn't broken never failed
  pub not_failed : (a b : KeptMirror F G) → (is_broken b → ⊥) → Failed mirror a b → ⊥
  not_failed a b whole failed =
      let none : one_if b.broken ≡ 0 = one_if-false b.broken whole in
      let rose : one_if a.broken < one_if b.broken = failed.rose (omega (arith, none)) in
      omega (arith, none, rose)

  -- and its file is as it was, where it was handed nothing
  pub same_file : (a b : KeptMirror F G) (P : Image → Type 0) → a.taken.n ≡ 0 → Changes mirror a b 0 P → (is_broken b → ⊥)
      → b.file ≡ a.file
  same_file a b P untaken kept whole =
      let taken : b.taken.n ≤ a.taken.n + 0 = kept.writes in
      let x : IsMirrored a b = kept.held.reached in
      ⊎_elim (λ broken. absurd (whole broken)) (λ e. e)
      (x.quiet (omega (arith, taken, x.taken)) (omega (arith, taken, untaken)))

  module _ (first : F) where
    -- what the mirror held its file kept
    pub held_by_file : (a b : KeptMirror F G) (P : Image → Type 0) → HeldOnly mirror a b P
        → HeldOnly (in_run G.keeps first) (file_disk a) (file_disk b) P
    held_by_file a b P held = record {
      reached = (held.reached.file, held.reached.failures);
      later = held.later;
      each = held.each;
      before = held.before;
    }

  module _ (start : KeptMirror F G) (whole : is_broken start → ⊥) where
    -- a broken mirror's file failed, and no other's
    pub file_failed : (b : KeptMirror F G) → IsMirrored start b → is_broken b → FileFailed G.keeps start.file b.file
    file_failed b x broken = ⊎_elim (λ (h : is_broken start). absurd (whole h)) (λ f. f) (x.failed broken)

    -- a mirror whose file hasn't failed since is whole
    pub since_whole : (b : KeptMirror F G) → IsMirrored start b → fails_since G.keeps start.file b.file < 1 → is_broken b
        → ⊥
    since_whole b x few broken =
        let one : fails_since G.keeps start.file b.file ≡ 1 =
        since_failed G.keeps start.file b.file (file_failed b x broken) in
        omega (arith, one, few)

    -- a failure of the mirror in the run is one of the file's
    pub failed_by_file : (a b : KeptMirror F G) → IsMirrored start b → IsMirrored a b → Failed mirror a b
        → Failed (in_run G.keeps start.file) (file_disk a) (file_disk b)
    failed_by_file a b x y failed = record {
      later = since_grows G.keeps start.file a.file b.file y.failures;
      rose = λ few.
          let none : one_if b.broken ≡ 0 = one_if-false b.broken (since_whole b x few) in
          let rose : one_if a.broken < one_if b.broken = failed.rose (omega (arith, none)) in
          omega (arith, none, rose);
    }

    -- where the file doesn't fail, the mirror doesn't
    pub never_failed : (b : KeptMirror F G) → IsMirrored start b → NeverFailed (in_run G.keeps start.file) (file_disk start)
        (file_disk b)
        → NeverFailed mirror start b
    never_failed b x never =
        let none : one_if b.broken ≡ 0 = one_if-false b.broken (since_whole b x never.not_spent) in
        let before : one_if start.broken ≡ 0 = one_if-false start.broken whole in
        record { same = omega (arith, none, before); not_spent = omega (arith, none) }
