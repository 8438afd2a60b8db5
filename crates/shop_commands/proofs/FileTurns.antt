-- The turns of a run over a mirror, each over its file.
use Rattle.std.proofs.Common.{◌≡◌, ◌⊎◌, Bool, List, [], ◌∷◌, ◌++◌, ap}
use Rattle.std.proofs.Common.{arith, false, inl, inr, refl, true}
use Rattle.std.specs.Prelude.{map}
use Rattle.d64_image.specs.declared.kept_mirror.KeptMirror.{KeptMirror}
use Rattle.d64_image.specs.declared.sector_file.SectorFile.{Ghosts}
use Rattle.d64_image.specs.FileDisks.{FileDisk}
use Rattle.d64_image.specs.KeptMirrors.{one_if}
use Rattle.d64_image.proofs.FileRuns.{file_disk}
use Rattle.host_session.specs.runs.Chains.{told_in}
use Rattle.request_cards.specs.declared.reply.Reply.{Reply}

-- the turns of a run, each over the file of its mirror
abbrev pub over_files : {F : Type 0} {G : Ghosts F} → List (Reply × KeptMirror F G) → List (Reply × FileDisk G.keeps)
over_files xs = map (λ x. (x.0, file_disk x.1)) xs

-- two that count alike are alike
pub same_broken : (p q : Bool) → one_if q ≡ one_if p → q ≡ true → p ≡ true
same_broken true q same broken = refl
same_broken false true same broken = absurd (omega (arith, same))
same_broken false false same broken = broken

pub broken_or : (b : Bool) → (b ≡ true) ⊎ (b ≡ true → ⊥)
broken_or true = inl refl
broken_or false = inr (λ e. cc)

module _ {F : Type 0} {G : Ghosts F} where
  pub same_told : (xs : List (Reply × KeptMirror F G)) → told_in xs ≡ told_in (over_files xs)
  same_told [] = refl
  same_told (x ∷ xs) = ap (λ rest. x.0 ∷ rest) (same_told xs)

  pub over_files-more : (xs ys : List (Reply × KeptMirror F G)) → over_files xs ++ over_files ys ≡ over_files (xs ++ ys)
  over_files-more [] ys = refl
  over_files-more (x ∷ xs) ys = ap (λ rest. (x.0, file_disk x.1) ∷ rest) (over_files-more xs ys)
