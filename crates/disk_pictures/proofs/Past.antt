-- Sectors past track 35, and the entries that have one, looked for one after another.
use Rattle.std.proofs.Common.{◌≡◌, ◌<◌, ◌≤◌, ◌+◌, ◌-◌, ◌++◌, ◌∷◌, [], ℕ, suc, zero, Bool, true, false, List, get_or, length, map, take, drop, refl}
use Rattle.std.proofs.Common.{sym, subst, ap, ◌∙◌, arith}
use Rattle.std.specs.List.{range_with_len}
use Rattle.std.specs.Prelude.{None, Option, Some, flat_map, if◌then◌else◌, slice_get}
use Rattle.std.specs.Io.KnownBytes.{Appends}
use Rattle.std.proofs.KnownBytes.{Appends-nil, Appends-trans}
use Rattle.std.proofs.lemmas.Grind.{flat_map-append}
use Rattle.std.proofs.lemmas.List.{append-nil, drop_all, drop_more, take_more}
use Rattle.disk_layout.specs.Layout.{File}
use Rattle.disk_layout.specs.declared.slot.Slot.{Slot}
use Rattle.disk_pictures.specs.Drawings.{file_in}
use Rattle.disk_pictures.specs.PastErrors.{having, is_entrys, past_error, past_error_line, past_sharing, past_sharing_line, sectors_past}
use Rattle.disk_pictures.specs.declared.drawn_file.DrawnFile.{DrawnFile}

-- the entries from the i-th on are it and those after it
from-here : (fs : List DrawnFile) (i : ℕ) (f : DrawnFile) → i < length fs → get_or fs i f ≡ f
    → map file_in (drop i fs) ≡ file_in f ∷ map file_in (drop (i + 1) fs)
from-here fs i f inside there =
    ap (map file_in) (drop_more fs i f inside) ∙ ap (λ g. file_in g ∷ map file_in (drop (i + 1) fs)) there

first-of : (image : List ℕ) (n : ℕ) (f : File) (fs : List File) (b : Bool) → is_entrys image n f ≡ b
    → having image n (f ∷ fs) ≡ (if b then f ∷ having image n fs else having image n fs)
unfolding having
first-of image n f fs b e = ap (λ (t : Bool). if t then f ∷ having image n fs else having image n fs) e

-- it is the one that is looked for
pub found-past : (image : List ℕ) (n : ℕ) (fs : List DrawnFile) (i : ℕ) (f : DrawnFile) (all : Option File) (left : ℕ)
    → i < length fs → get_or fs i f ≡ f → is_entrys image n (file_in f) ≡ true → left ≡ 0
    → all ≡ slice_get (having image n (map file_in (drop i fs))) left → Some (file_in f) ≡ all
found-past image n fs i f all left inside there has none so =
    sym (so ∙ ap (λ gs. slice_get (having image n gs) left) (from-here fs i f inside there)
    ∙ ap (λ gs. slice_get gs left) (first-of image n (file_in f) (map file_in (drop (i + 1) fs)) true has)
    ∙ ap (slice_get (file_in f ∷ having image n (map file_in (drop (i + 1) fs)))) none)

-- it has the sector, but others that have it are left
pub passed-past : (image : List ℕ) (n : ℕ) (fs : List DrawnFile) (i : ℕ) (f : DrawnFile) (all : Option File) (left next : ℕ)
    → i < length fs → get_or fs i f ≡ f → is_entrys image n (file_in f) ≡ true → left ≡ suc next
    → all ≡ slice_get (having image n (map file_in (drop i fs))) left
    → all ≡ slice_get (having image n (map file_in (drop (i + 1) fs))) next
passed-past image n fs i f all left next inside there has more so =
    so ∙ ap (λ gs. slice_get (having image n gs) left) (from-here fs i f inside there)
    ∙ ap (λ gs. slice_get gs left) (first-of image n (file_in f) (map file_in (drop (i + 1) fs)) true has)
    ∙ ap (slice_get (file_in f ∷ having image n (map file_in (drop (i + 1) fs)))) more

-- it hasn't
pub left-out-past : (image : List ℕ) (n : ℕ) (fs : List DrawnFile) (i : ℕ) (f : DrawnFile) (all : Option File) (left : ℕ)
    → i < length fs → get_or fs i f ≡ f → is_entrys image n (file_in f) ≡ false
    → all ≡ slice_get (having image n (map file_in (drop i fs))) left
    → all ≡ slice_get (having image n (map file_in (drop (i + 1) fs))) left
left-out-past image n fs i f all left inside there other so =
    so ∙ ap (λ gs. slice_get (having image n gs) left) (from-here fs i f inside there)
    ∙ ap (λ gs. slice_get gs left) (first-of image n (file_in f) (map file_in (drop (i + 1) fs)) false other)

-- none is left
pub none-past : (image : List ℕ) (n : ℕ) (fs : List DrawnFile) (i : ℕ) (all : Option File) (left : ℕ) → length fs ≤ i
    → all ≡ slice_get (having image n (map file_in (drop i fs))) left → None ≡ all
unfolding having
none-past image n fs i all left end so =
    sym (so ∙ ap (λ (gs : List DrawnFile). slice_get (having image n (map file_in gs)) left) (drop_all i fs end))

-- a number that isn't 0 is the next one of the number before it
pub one-less : (n m : ℕ) → (n ≡ 0 → ⊥) → m ≡ n - 1 → n ≡ suc m
one-less zero m more is = absurd (more refl)
one-less (suc k) m more is = omega (arith, is)

-- the lines of one number more, and of all of them
pub numbers-more : (line : ℕ → List ℕ) (a b c : Option (List ℕ)) (ns : List ℕ) (i : ℕ) → i < length ns
    → Appends a b (flat_map line (take i ns)) → Appends b c (line (get_or ns i 0)) → Appends a c (flat_map line (take (i + 1) ns))
numbers-more line a b c ns i inside before more =
    subst (Appends a c)
    (sym (ap (flat_map line) (take_more ns i 0 inside) ∙ flat_map-append line (take i ns) (get_or ns i 0 ∷ [])
    ∙ ap (λ t. flat_map line (take i ns) ++ t) (append-nil (line (get_or ns i 0)))))
    (Appends-trans a b c _ _ before more)

pub numbers-all : (line : ℕ → List ℕ) (a b : Option (List ℕ)) (ns some : List ℕ) → some ≡ ns → Appends a b (flat_map line some)
    → Appends a b (flat_map line ns)
numbers-all line a b ns some all lines = subst (λ (ms : List ℕ). Appends a b (flat_map line ms)) all lines

range-suc : (a n : ℕ) → range_with_len a (suc n) ≡ range_with_len a n ++ (a + n) ∷ []
range-suc a zero = let at : a ≡ a + 0 = omega arith in ap (λ (k : ℕ). k ∷ []) at
range-suc a (suc n) =
    let at : a + 1 + n ≡ a + suc n = omega arith in
    ap (λ (ks : List ℕ). a ∷ ks) (range-suc (a + 1) n ∙ ap (λ (k : ℕ). range_with_len (a + 1) n ++ k ∷ []) at)

-- the lines of one sector more
pub past-more : (line : ℕ → List ℕ) (a b c : Option (List ℕ)) (i : ℕ)
    → Appends a b (flat_map line (range_with_len 683 i)) → Appends b c (line (683 + i))
    → Appends a c (flat_map line (range_with_len 683 (i + 1)))
past-more line a b c i before more =
    let next : i + 1 ≡ suc i = omega arith in
    subst (Appends a c)
    (sym (ap (λ (k : ℕ). flat_map line (range_with_len 683 k)) next ∙ ap (flat_map line) (range-suc 683 i)
    ∙ flat_map-append line (range_with_len 683 i) ((683 + i) ∷ [])
    ∙ ap (λ t. flat_map line (range_with_len 683 i) ++ t) (append-nil (line (683 + i)))))
    (Appends-trans a b c _ _ before more)

-- and of all of them
pub past-all : (line : ℕ → List ℕ) (a b : Option (List ℕ)) (i : ℕ) → i ≡ 119 → Appends a b (flat_map line (range_with_len 683 i))
    → Appends a b (flat_map line sectors_past)
unfolding sectors_past
past-all line a b i all lines = subst (λ (k : ℕ). Appends a b (flat_map line (range_with_len 683 k))) all lines

-- the line of a sector that wasn't read, and of one that was
pub error-told : (a b : Option (List ℕ)) (n : ℕ) (mine entry : Option Slot) (error : Option ℕ) (e : ℕ) → mine ≡ entry
    → error ≡ Some e → Appends a b (past_error n mine e) → Appends a b (past_error_line n entry error)
error-told a b n mine entry error e is wrong told =
    subst (λ (o : Option ℕ). Appends a b (past_error_line n entry o)) (sym wrong)
    (subst (λ (s : Option Slot). Appends a b (past_error n s e)) is told)

pub error-none : (a : Option (List ℕ)) (n : ℕ) (entry : Option Slot) (error : Option ℕ) → error ≡ None
    → Appends a a (past_error_line n entry error)
error-none a n entry error is = subst (λ (o : Option ℕ). Appends a a (past_error_line n entry o)) (sym is) (Appends-nil a)

-- the line of a sector that two files have, and of one that they haven't
pub sharing-told : (a b : Option (List ℕ)) (n : ℕ) (mine first second : Option Slot) (s : Slot) → mine ≡ first → Some s ≡ second
    → Appends a b (past_sharing n mine s) → Appends a b (past_sharing_line n first second)
sharing-told a b n mine first second s is two told =
    subst (λ (o : Option Slot). Appends a b (past_sharing_line n first o)) two
    (subst (λ (o : Option Slot). Appends a b (past_sharing n o s)) is told)

pub sharing-none : (a : Option (List ℕ)) (n : ℕ) (first second : Option Slot) → None ≡ second
    → Appends a a (past_sharing_line n first second)
sharing-none a n first second is = subst (λ (o : Option Slot). Appends a a (past_sharing_line n first o)) is (Appends-nil a)
