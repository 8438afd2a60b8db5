-- The three paths of an image differ, and are in one folder.
use Rattle.std.proofs.Common.{◌≡◌, ℕ, List, [], ◌∷◌, ◌++◌, true, false, Bool, if◌then◌else◌, ◌==◌, refl, ◌∙◌, ap, append_assoc}
use Rattle.std.specs.Prelude.{bytes_eq, codes, ◌&&◌}
use Rattle.std.proofs.lemmas.Bool.{eq-eqb}
use Rattle.one_host.specs.Calls.{folder_of, folder_part}
use Rattle.replaced_images.specs.Replaced.{log_of, making_of}

pub same_bytes : (p : List ℕ) → bytes_eq p p ≡ true
same_bytes [] = refl
same_bytes (b ∷ p) = ap (λ c. c && bytes_eq p p) (eq-eqb b b refl) ∙ same_bytes p

longer : (p : List ℕ) (b : ℕ) (q : List ℕ) → bytes_eq p (p ++ b ∷ q) ≡ false
longer [] b q = refl
longer (a ∷ p) b q = ap (λ c. c && bytes_eq p (p ++ b ∷ q)) (eq-eqb a a refl) ∙ longer p b q

pub not_log : (path : List ℕ) → bytes_eq path (log_of path) ≡ false
not_log path = longer path 45 (codes "log")

pub not_making : (path : List ℕ) → bytes_eq path (making_of path) ≡ false
not_making path = ap (bytes_eq path) (append_assoc path (codes "-log") (codes ".new")) ∙ longer path 45 (codes "log.new")

pub log_not_making : (path : List ℕ) → bytes_eq (log_of path) (making_of path) ≡ false
log_not_making path = longer (log_of path) 46 (codes "new")

part_log : (seen path : List ℕ) → folder_part seen (path ++ codes "-log") ≡ folder_part seen path
part_log seen [] = refl
part_log seen (b ∷ path) = by_slash (b == 47) (part_log [] path) (part_log (seen ++ b ∷ []) path)
  where
    by_slash : (s : Bool) → folder_part [] (path ++ codes "-log") ≡ folder_part [] path
        → folder_part (seen ++ b ∷ []) (path ++ codes "-log") ≡ folder_part (seen ++ b ∷ []) path
        → (if s then seen ++ b ∷ folder_part [] (path ++ codes "-log") else folder_part (seen ++ b ∷ []) (path ++ codes "-log"))
        ≡ (if s then seen ++ b ∷ folder_part [] path else folder_part (seen ++ b ∷ []) path)
    by_slash true fresh more = ap (λ (l : List ℕ). seen ++ b ∷ l) fresh
    by_slash false fresh more = more

pub one_folder : (path : List ℕ) → bytes_eq (folder_of (log_of path)) (folder_of path) ≡ true
one_folder path = ap (λ l. bytes_eq l (folder_of path)) (part_log [] path) ∙ same_bytes (folder_of path)
