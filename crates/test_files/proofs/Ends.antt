-- What stayed of a shop on the disk of a file in memory.
use Rattle.std.proofs.Common.{◌≡◌, ◌∙◌, ◌∷◌, List, [], None, Option, Some}
use Rattle.std.proofs.Common.{ap, drop, length, suc, zero}
use Rattle.std.proofs.Common.{⊎_elim, ℕ}
use Rattle.std.specs.Prelude.{Vec}
use Rattle.std.specs.declared.alloc.Global.{Global}
use Rattle.test_files.specs.WholeFiles.{held_lasting}
use Rattle.test_files.specs.Past.{AreImages, HadBeen}
use Rattle.test_files.specs.declared.whole_file.WholeFile.{WholeFile}

images_left : (t : ℕ) (past : List (Vec ℕ Global)) → AreImages past → AreImages (drop t past)
images_left zero past all = all
images_left (suc t) [] all = all
images_left (suc t) (v ∷ past) all = images_left t past all.1

had_sized : (past : List (Vec ℕ Global)) (bytes : List ℕ) → AreImages past → HadBeen past bytes
    → length bytes ≡ 174848
had_sized [] bytes all had = absurd had
had_sized (v ∷ past) bytes all had =
    ⊎_elim (λ e. ap length e ∙ all.0) (λ rest. had_sized past bytes all.1 rest) had

-- what a file held at any moment has the size of an image
pub held_sized : (f : WholeFile) (t : ℕ) (all : List ℕ) → held_lasting.stayed f t all → length all ≡ 174848
held_sized f t all stayed = ⊎_elim
    (λ e. ap length e ∙ f.file.held.size)
    (λ had. had_sized (drop t f.file.held.past.items) all (images_left t f.file.held.past.items f.file.held.images) had)
    stayed

-- the bytes that are known
abbrev pub known_in : Option (List ℕ) → List ℕ
known_in None = []
known_in (Some bytes) = bytes
