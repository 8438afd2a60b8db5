-- Records among the bytes of a file, printed one after another.
use Rattle.std.proofs.Common.{◌≡◌, ◌<◌, ◌≤◌, ◌+◌, ◌-◌, ◌*◌, ◌/◌, ℕ, suc, List, [], Option, ap, arith, drop, get_or, length, max, subst, sym, take, ◌∙◌}
use Rattle.std.proofs.KnownBytes.{Appends-trans}
use Rattle.std.proofs.Math.Nat.{div-le_self, div-mul-le_self}
use Rattle.std.proofs.lemmas.List.{length-take}
use Rattle.std.specs.Io.KnownBytes.{Appends}
use Rattle.d64_image.specs.Images.{Image, IsImage}
use Rattle.d64_image.specs.declared.place.Place.{Place}
use Rattle.disk_layout.proofs.lemmas.records.Joined.{length-joined}
use Rattle.disk_layout.proofs.lemmas.records.Pieces.{length-pieces, pieces-at, row-le}
use Rattle.disk_layout.specs.Records.{joined}
use Rattle.file_rescues.specs.Bytes.{file_bytes}
use Rattle.file_rescues.specs.Forms.{form_line, form_lines_to}
use Rattle.file_rescues.specs.Records.{records_of}
use Rattle.file_rescues.specs.declared.forms.RecordForm.{RecordForm}

-- a record that is there lies within the bytes
pub within : (k n L : ℕ) → k < n / L → k * L + L ≤ n
within k n L low =
    let row = row-le k (n / L) L low in
    let all = div-mul-le_self n L in
    omega (arith, row, all)

pub few-records : (n L : ℕ) → n ≤ 203708 → n / L ≤ 203708
few-records n L few = omega (arith, few, div-le_self n L)

-- the line of one record more
pub piece-more : (a b c : Option (List ℕ)) (form : RecordForm) (L k end : ℕ) (bytes : List ℕ) → k < length bytes / L
    → end ≡ k * L + L → Appends a b (form_lines_to form (records_of L bytes) k)
    → Appends b c (form_line form (k + 1) (take (end - k * L) (drop (k * L) bytes)))
    → Appends a c (form_lines_to form (records_of L bytes) (k + 1))
piece-more a b c form L k end bytes low ends so_far more =
    let size : end - k * L ≡ L = omega (arith, ends) in
    let piece-is : take (end - k * L) (drop (k * L) bytes) ≡ get_or (records_of L bytes) k [] =
    ap (λ (n : ℕ). take n (drop (k * L) bytes)) size ∙ sym (pieces-at L (length bytes / L) bytes k [] low) in
    let next : suc k ≡ k + 1 = omega arith in
    subst (λ (n : ℕ). Appends a c (form_lines_to form (records_of L bytes) n)) next
    (Appends-trans a b c _ _ so_far (subst (λ (r : List ℕ). Appends b c (form_line form (k + 1) r)) piece-is more))

-- the lines of all of them
pub pieces-all : (a b : Option (List ℕ)) (form : RecordForm) (L k : ℕ) (bytes : List ℕ) → k ≡ length bytes / L
    → Appends a b (form_lines_to form (records_of L bytes) k)
    → Appends a b (form_lines_to form (records_of L bytes) (length (records_of L bytes)))
pieces-all a b form L k bytes end printed = subst (λ (n : ℕ). Appends a b (form_lines_to form (records_of L bytes) n))
    (end ∙ sym (length-pieces L (length bytes / L) bytes)) printed

-- how many there are
pub pieces-count : (L : ℕ) (bytes : List ℕ) → length (records_of L bytes) ≡ length bytes / L
pieces-count L bytes = length-pieces L (length bytes / L) bytes

-- and each of them
pub piece-is : (L k end : ℕ) (bytes : List ℕ) → k < length bytes / L → end ≡ k * L + L
    → take (end - k * L) (drop (k * L) bytes) ≡ get_or (records_of L bytes) (k + 1 - 1) []
piece-is L k end bytes low ends =
    let size : end - k * L ≡ L = omega (arith, ends) in
    let here : k ≡ k + 1 - 1 = omega arith in
    ap (λ (n : ℕ). take n (drop (k * L) bytes)) size ∙ sym (pieces-at L (length bytes / L) bytes k [] low)
    ∙ ap (λ (m : ℕ). get_or (records_of L bytes) m []) here

-- a file of at most 720 blocks has at most 182,880 bytes
pub short-file : (img : Image) (blocks : List Place) (u : ℕ) → IsImage img → length blocks ≤ 720
    → length (file_bytes img blocks u) ≤ 182880
unfolding file_bytes
short-file img blocks u whole few =
    let long = length-joined img blocks whole in
    let part = length-take (254 * (length blocks - 1) + max u 1 - 1) (joined img blocks) in
    omega (arith, few, long, part)
