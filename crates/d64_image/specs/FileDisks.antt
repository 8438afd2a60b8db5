-- A file in a run, as a disk. Our own.
use Rattle.std.specs.Prelude.{ℕ, ◌≡◌, ◌≤◌, ◌⊎◌, nat_lt, if◌then◌else◌, refl}
use Rattle.std.proofs.Common.{ap, arith, inl, sym, ⊎_elim, le_refl, ◌∙◌}
use Rattle.std.proofs.lemmas.Bool.Decides.{nat_tests}
use Rattle.d64_image.specs.History.{History}
use Rattle.d64_image.specs.Images.{Image, IsImage}
use Rattle.d64_image.specs.Keeps.{Agrees, FileFailed, Keeps, failed_to, kept_or}

-- a file with the image that it keeps, or, if that isn't known, the image that it is taken to keep
pub record FileDisk {F : Type 0} (K : Keeps F) : Type 0 where
  pub file : F
  pub image : Image
  pub whole : IsImage image
  pub agrees : Agrees (K.kept file) image

-- 1 if a call of the file has failed since it was `first`, or if the count of failures is spent; otherwise 0
abbrev pub fails_since : {F : Type 0} → Keeps F → F → F → ℕ
fails_since K first file =
    if nat_lt (K.failures file) K.last then (if nat_lt (K.failures first) (K.failures file) then 1 else 0) else 1

pub fails_since-small : {F : Type 0} (K : Keeps F) (first file : F) → fails_since K first file ≤ 1
fails_since-small K first file = grind (arith, nat_tests)

-- The history of a file in a run from `first` on. Its failures are spent with the first of the run.
abbrev pub in_run : {F : Type 0} (K : Keeps F) → F → History (FileDisk K)
in_run K first = record {
  image = λ d. d.image;
  moment = λ d. K.moment d.file;
  held = λ d t c. (c ≡ d.image) ⊎ K.held d.file t c;
  reads = λ _. 0;
  writes = λ d. K.writes d.file;
  failures = λ d. fails_since K first d.file;
  last = 1;
  whole = λ d. d.whole;
  now = λ d t le. inl refl;
  only_now = λ d c held. ⊎_elim (λ (e : c ≡ d.image). e)
      (λ h. sym (ap (λ o. kept_or o d.image) (K.only_now d.file c h)) ∙ d.agrees) held;
  up_to_last = λ d. fails_since-small K first d.file;
  reached = λ a b. K.reached a.file b.file × (K.failures a.file ≤ K.failures b.file);
  reached_same = λ d. (K.reached_same d.file, le_refl (K.failures d.file));
  reached_then = λ a b c x y. (K.reached_then a.file b.file c.file x.0 y.0, omega (arith, x.1, y.1));
  failed_at = λ d _. FileFailed K first d.file;
  failed_stays = λ a b _ x failed. failed_to K first a.file b.file failed x.1;
}
