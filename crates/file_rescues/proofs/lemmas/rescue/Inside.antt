-- The names of the files that are made lie in the folder, and differ.
use Rattle.std.proofs.Common.{◌≡◌, ◌≢◌, ◌<◌, ◌≤◌, ◌+◌, ◌%◌, ◌++◌, ◌∷◌, ◌⊎◌, inl, inr, ℕ, Bool, true, false, List, [], Option, Some, None, ap, append_assoc, arith, get_or, length, length-append, map, refl, subst, sym, ◌∙◌}
use Rattle.std.specs.Prelude.{Contains, IsTrue, codes, if◌then◌else◌, nat_eq}
use Rattle.std.specs.List.{AllByRecursion}
use Rattle.std.proofs.lemmas.Bool.{false≢true}
use Rattle.std.proofs.lemmas.Bool.Decides.{Decides-eqb}
use Rattle.std.proofs.lemmas.List.{get_or-append-add, map-append}
use Rattle.std.proofs.lemmas.List.Elements.{Contains-append_cases, Contains-append_left}
use Rattle.d64_image.specs.Images.{Image}
use Rattle.d64_image.specs.declared.place.Place.{Place}
use Rattle.disk_layout.proofs.lemmas.lists.Once.{Contains-cases, Contains-nil, EachOnce-join}
use Rattle.disk_layout.specs.Chain.{EachOnce}
use Rattle.disk_layout.specs.Directory.{type_byte}
use Rattle.disk_layout.specs.declared.slot.Slot.{Slot}
use Rattle.line_text.proofs.lemmas.petscii.Names.{endings-same, is-safe, numbers-same, second-digit}
use Rattle.line_text.specs.petscii.FileNames.{IsSafeName, ending_of, ending_text, file_byte, file_name_of, is_file_byte, number_text}
use Rattle.line_text.specs.declared.petscii.file_names.Ending.{Ending}
use Rattle.line_text.specs.declared.petscii.file_names.Ending.TheVariants.{Del, Seq, Prg, Usr, Rel, Other, Records}
use Rattle.damaged_files.proofs.lemmas.reached.Lengths.{name-short}
use Rattle.file_rescues.specs.rescue.Folders.{NewFile, StaysInside, new_file}
use Rattle.damaged_files.specs.reached.Names.{name_of}
use Rattle.file_rescues.specs.Found.{records_length}
use Rattle.file_rescues.specs.rescue.Art.{is_art}
use Rattle.file_rescues.specs.rescue.Named.{cvt_name, first_name}
use Rattle.file_rescues.specs.rescue.Rescues.{all_files, bytes_in, files_from, files_of, index_of_files, line_files, own_files}
use Rattle.file_rescues.specs.declared.rescue.rescuing.Rescued.{Rescued}

abbrev name : NewFile → List ℕ
name f = f.name

abbrev IsInside : NewFile → Type 0
IsInside f = StaysInside f.name

-- none of the bytes is 0
no-zero : (xs : List ℕ) → AllByRecursion (λ b. IsTrue (is_file_byte b)) xs → ¬ (Contains xs 0)
no-zero [] all has = absurd (Contains-nil 0 has)
no-zero (x ∷ xs) all has = elim (Contains-cases 0 x xs has) [
  | inl is ↦ cc (subst (λ b. IsTrue (is_file_byte b)) is all.0)
  | inr there ↦ no-zero xs all.1 there
]

-- a text that is longer isn't this one
longer : (xs ys : List ℕ) → length ys < length xs → xs ≢ ys
longer xs ys long same = omega (arith, long, ap length same)

-- a name that any system takes lies in the folder
pub safe-inside : (xs : List ℕ) → IsSafeName xs → StaysInside xs
safe-inside xs safe = record {
  some = omega (arith, safe.long);
  short = omega (arith, safe.short);
  no_separator = safe.no_separator;
  no_zero = no-zero xs safe.bytes;
  not_here = longer xs (codes ".") (omega (arith, safe.long));
  not_above = longer xs (codes "..") (omega (arith, safe.long));
}

pub name-inside : (n : ℕ) (s : Slot) (e : Ending) → n < 256 → StaysInside (file_name_of n (name_of s) e)
name-inside n s e low = safe-inside _ (is-safe n (name_of s) e low (name-short s))

-- a name that has another end of the same length
swapped : (xs es fs : List ℕ) → StaysInside (xs ++ es) → length fs ≡ length es → 2 < length fs → ¬ (Contains fs 47)
    → ¬ (Contains fs 0) → StaysInside (xs ++ fs)
swapped xs es fs old same long no-slash no-null =
    let a = length-append xs es in
    let b = length-append xs fs in
    record {
      some = omega (arith, b, long);
      short = omega (arith, old.short, a, b, same);
      no_separator = λ has. elim (Contains-append_cases xs fs 47 has) [
        | inl left ↦ old.no_separator (Contains-append_left xs es 47 left)
        | inr right ↦ no-slash right
      ];
      no_zero = λ has. elim (Contains-append_cases xs fs 0 has) [
        | inl left ↦ old.no_zero (Contains-append_left xs es 0 left)
        | inr right ↦ no-null right
      ];
      not_here = longer (xs ++ fs) (codes ".") (omega (arith, b, long));
      not_above = longer (xs ++ fs) (codes "..") (omega (arith, b, long));
    }

-- a text none of whose bytes is this one
abbrev AreOther : ℕ → List ℕ → Type 0
AreOther b xs = AllByRecursion (λ x. nat_eq x b ≡ false) xs

other : (b : ℕ) (xs : List ℕ) → AreOther b xs → ¬ (Contains xs b)
other b [] all has = absurd (Contains-nil b has)
other b (x ∷ xs) all has = elim (Contains-cases b x xs has) [
  | inl is ↦ false≢true (sym all.0 ∙ ap (λ (y : ℕ). nat_eq y b) is ∙ same-number b)
  | inr there ↦ other b xs all.1 there
]
  where
    same-number : (n : ℕ) → nat_eq n n ≡ true
    same-number n = (Decides-eqb n n).1 refl

index-other-47 : AreOther 47 (codes "index.csv")
index-other-47 = (refl, (refl, (refl, (refl, (refl, (refl, (refl, (refl, (refl, tt)))))))))

index-other-0 : AreOther 0 (codes "index.csv")
index-other-0 = (refl, (refl, (refl, (refl, (refl, (refl, (refl, (refl, (refl, tt)))))))))

pub index-inside : StaysInside (codes "index.csv")
index-inside = record {
  some = omega arith;
  short = omega arith;
  no_separator = other 47 (codes "index.csv") index-other-47;
  no_zero = other 0 (codes "index.csv") index-other-0;
  not_here = longer (codes "index.csv") (codes ".") (omega arith);
  not_above = longer (codes "index.csv") (codes "..") (omega arith);
}

-- the name of a CVT
abbrev front : ℕ → List ℕ → List ℕ
front n a = number_text n ++ 45 ∷ map file_byte a

ended : (n : ℕ) (a es : List ℕ) → number_text n ++ 45 ∷ (map file_byte a ++ es) ≡ front n a ++ es
ended n a es = sym (append_assoc (number_text n) (45 ∷ map file_byte a) es)

cvt-other-47 : AreOther 47 (codes ".cvt")
cvt-other-47 = (refl, (refl, (refl, (refl, tt))))

cvt-other-0 : AreOther 0 (codes ".cvt")
cvt-other-0 = (refl, (refl, (refl, (refl, tt))))

cvt-inside : (n : ℕ) (s : Slot) → n < 256 → StaysInside (cvt_name n (name_of s))
unfolding cvt_name file_name_of
cvt-inside n s low =
    subst StaysInside (sym (ended n (name_of s) (codes ".cvt")))
    (swapped (front n (name_of s)) (codes ".prg") (codes ".cvt")
    (subst StaysInside (ended n (name_of s) (codes ".prg")) (name-inside n s Prg low)) refl (omega arith)
    (other 47 (codes ".cvt") cvt-other-47) (other 0 (codes ".cvt") cvt-other-0))

pub first-inside : (n : ℕ) (is_cvt : Bool) (s : Slot) → n < 256 → StaysInside (first_name n is_cvt s)
unfolding first_name
first-inside n false s low = name-inside n s (ending_of (type_byte s)) low
first-inside n true s low = cvt-inside n s low

inside-append : (xs ys : List NewFile) → AllByRecursion IsInside xs → AllByRecursion IsInside ys
    → AllByRecursion IsInside (xs ++ ys)
inside-append [] ys left right = right
inside-append (x ∷ xs) ys left right = (left.0, inside-append xs ys left.1 right)

lines-inside : (n : ℕ) (f : Rescued) (bytes : List ℕ) (o : Option ℕ) → n < 256
    → AllByRecursion IsInside (line_files n f bytes o)
lines-inside n f bytes None low = tt
lines-inside n f bytes (Some L) low = (name-inside n f.slot Records low, tt)

-- none, or these
unless-inside : (none : Bool) (fs : List NewFile) → AllByRecursion IsInside fs
    → AllByRecursion IsInside (if none then [] else fs)
unless-inside true fs all = tt
unless-inside false fs all = all

own-inside : (image : List ℕ) (img : Image) (n : ℕ) (f : Rescued) → n < 256 → AllByRecursion IsInside (own_files image img n f)
unfolding own_files
own-inside image img n f low = (
  first-inside n f.is_cvt f.slot low,
  lines-inside n f (bytes_in image img f) (records_length f.slot) low,
)

from-inside : (image : List ℕ) (img : Image) (n : ℕ) (files : List Rescued) → n + length files ≤ 256
    → AllByRecursion IsInside (files_from image img n files)
unfolding files_from files_of
from-inside image img n [] few = tt
from-inside image img n (f ∷ fs) few = inside-append (files_of image img n f) (files_from image img (n + 1) fs)
    (unless-inside (is_art f.slot) (own_files image img n f) (own-inside image img n f (omega (arith, few))))
    (from-inside image img (n + 1) fs (omega (arith, few)))

pub all-inside : (image : List ℕ) (img : Image) (directory : List Place) (files : List Rescued) → length files ≤ 144
    → AllByRecursion IsInside (all_files image img directory files)
all-inside image img directory files few = inside-append (files_from image img 1 files) (index_of_files image img directory files ∷ [])
    (from-inside image img 1 files (omega (arith, few))) (index-inside, tt)

-- a name that begins with this number
abbrev IsNumbered : ℕ → List ℕ → Type 0
IsNumbered n x = (tail : List ℕ) × (x ≡ number_text n ++ 45 ∷ tail)

-- the name of a file of an entry with this number or a greater one
abbrev IsFrom : ℕ → List ℕ → Type 0
IsFrom n x = (k : ℕ) × (n ≤ k) × (k < 256) × IsNumbered k x

name-numbered : (n : ℕ) (a : List ℕ) (e : Ending) → IsNumbered n (file_name_of n a e)
unfolding file_name_of
name-numbered n a e = (map file_byte a ++ ending_text e, refl)

cvt-numbered : (n : ℕ) (a : List ℕ) → IsNumbered n (cvt_name n a)
unfolding cvt_name
cvt-numbered n a = (map file_byte a ++ codes ".cvt", refl)

first-numbered : (n : ℕ) (is_cvt : Bool) (s : Slot) → IsNumbered n (first_name n is_cvt s)
unfolding first_name
first-numbered n false s = name-numbered n (name_of s) (ending_of (type_byte s))
first-numbered n true s = cvt-numbered n (name_of s)

endings : (m n : ℕ) (a b : List ℕ) (s t : Ending) → file_name_of m a s ≡ file_name_of n b t → s ≡ t
unfolding file_name_of
endings m n a b s t same =
    endings-same (number_text m ++ 45 ∷ map file_byte a) (number_text n ++ 45 ∷ map file_byte b) s t
    (append_assoc (number_text m) (45 ∷ map file_byte a) (ending_text s) ∙ same
    ∙ sym (append_assoc (number_text n) (45 ∷ map file_byte b) (ending_text t)))

not-index : (n : ℕ) (tail : List ℕ) → number_text n ++ 45 ∷ tail ≢ codes "index.csv"
not-index n tail same =
    let digit = second-digit n (45 ∷ tail) in
    let second = ap (λ (l : List ℕ). get_or l 1 0) same in
    omega (arith, digit, second)

by-kind : (b0 b1 b2 b3 b4 : Bool)
    → (if b0 then Del else (if b1 then Seq else (if b2 then Prg else (if b3 then Usr else (if b4 then Rel else Other)))))
    ≢ Records
by-kind true b1 b2 b3 b4 e = cc
by-kind false true b2 b3 b4 e = cc
by-kind false false true b3 b4 e = cc
by-kind false false false true b4 e = cc
by-kind false false false false true e = cc
by-kind false false false false false e = cc

no-records : (t : ℕ) → ending_of t ≢ Records
no-records t = by-kind (nat_eq (t % 16) 0) (nat_eq (t % 16) 1) (nat_eq (t % 16) 2) (nat_eq (t % 16) 3) (nat_eq (t % 16) 4)

-- the third letter of the ending is another
cvt-apart : (n : ℕ) (a : List ℕ) → cvt_name n a ≢ file_name_of n a Records
unfolding cvt_name file_name_of
cvt-apart n a same =
    let left = get_or-append-add (front n a) (codes ".cvt") 2 0 in
    let right = get_or-append-add (front n a) (codes ".csv") 2 0 in
    let both : front n a ++ codes ".cvt" ≡ front n a ++ codes ".csv" =
    sym (ended n a (codes ".cvt")) ∙ same ∙ ended n a (codes ".csv") in
    let letters : 118 ≡ 115 = sym left ∙ ap (λ (l : List ℕ). get_or l (length (front n a) + 2) 0) both ∙ right in
    omega (arith, letters)

first-apart : (n : ℕ) (is_cvt : Bool) (s : Slot) → first_name n is_cvt s ≢ file_name_of n (name_of s) Records
unfolding first_name
first-apart n false s = λ is. no-records (type_byte s) (endings n n (name_of s) (name_of s) _ _ is)
first-apart n true s = cvt-apart n (name_of s)

-- the names of an entry's files differ
own-once : (n : ℕ) (f : Rescued) (bytes : List ℕ) (body : List ℕ) (o : Option ℕ)
    → EachOnce (map name (new_file (first_name n f.is_cvt f.slot) body ∷ line_files n f bytes o))
own-once n f bytes body None = (Contains-nil _, tt)
own-once n f bytes body (Some L) = (
  λ has. elim (Contains-cases _ _ [] has) [
    | inl is ↦ first-apart n f.is_cvt f.slot (sym is)
    | inr none ↦ Contains-nil _ none
  ],
  (Contains-nil _, tt),
)

own-from : (n : ℕ) (f : Rescued) (bytes body : List ℕ) (o : Option ℕ) (x : List ℕ)
    → Contains (map name (new_file (first_name n f.is_cvt f.slot) body ∷ line_files n f bytes o)) x → IsNumbered n x
own-from n f bytes body None x has = elim (Contains-cases x _ [] has) [
  | inl is ↦ subst (IsNumbered n) is (first-numbered n f.is_cvt f.slot)
  | inr none ↦ absurd (Contains-nil x none)
]
own-from n f bytes body (Some L) x has = elim (Contains-cases x _ (map name (line_files n f bytes (Some L))) has) [
  | inl is ↦ subst (IsNumbered n) is (first-numbered n f.is_cvt f.slot)
  | inr there ↦ elim (Contains-cases x _ [] there) [
    | inl is ↦ subst (IsNumbered n) is (name-numbered n (name_of f.slot) Records)
    | inr none ↦ absurd (Contains-nil x none)
  ]
]

-- the same of all files that are made of an entry
files-once : (image : List ℕ) (img : Image) (n : ℕ) (f : Rescued) → EachOnce (map name (files_of image img n f))
unfolding files_of own_files
files-once image img n f = unless (is_art f.slot)
  where
    unless : (none : Bool) → EachOnce (map name (if none then [] else own_files image img n f))
    unless true = tt
    unless false = own-once n f (bytes_in image img f) (bytes_in image img f) (records_length f.slot)

made-from : (image : List ℕ) (img : Image) (n : ℕ) (f : Rescued) (x : List ℕ) → Contains (map name (files_of image img n f)) x
    → IsNumbered n x
unfolding files_of own_files
made-from image img n f x = unless (is_art f.slot)
  where
    unless : (none : Bool) → Contains (map name (if none then [] else own_files image img n f)) x
        → IsNumbered n x
    unless true has = absurd (Contains-nil x has)
    unless false has = own-from n f (bytes_in image img f) (bytes_in image img f) (records_length f.slot) x has

either : (xs ys : List NewFile) (y : List ℕ) → Contains (map name (xs ++ ys)) y
    → Contains (map name xs) y ⊎ Contains (map name ys) y
either xs ys y has =
    Contains-append_cases (map name xs) (map name ys) y (subst (λ (l : List (List ℕ)). Contains l y) (map-append name xs ys) has)

from-names : (image : List ℕ) (img : Image) (n : ℕ) (files : List Rescued) → n + length files ≤ 256 → (x : List ℕ)
    → Contains (map name (files_from image img n files)) x → IsFrom n x
unfolding files_from
from-names image img n [] few x has = absurd (Contains-nil x has)
from-names image img n (f ∷ fs) few x has =
    elim (either (files_of image img n f) (files_from image img (n + 1) fs) x has) [
      | inl here ↦ (n, omega arith, omega (arith, few), made-from image img n f x here)
      | inr there ↦ later n (from-names image img (n + 1) fs (omega (arith, few)) x there)
    ]
  where
    later : (m : ℕ) → IsFrom (m + 1) x → IsFrom m x
    later m (k, low, high, is) = (k, omega (arith, low), high, is)

from-once : (image : List ℕ) (img : Image) (n : ℕ) (files : List Rescued) → n + length files ≤ 256
    → EachOnce (map name (files_from image img n files))
unfolding files_from
from-once image img n [] few = tt
from-once image img n (f ∷ fs) few =
    subst EachOnce (sym (map-append name (files_of image img n f) (files_from image img (n + 1) fs)))
    (EachOnce-join (map name (files_of image img n f)) (map name (files_from image img (n + 1) fs))
    (files-once image img n f)
    (from-once image img (n + 1) fs (omega (arith, few)))
    (λ x here there. apart x
    (made-from image img n f x here)
    (from-names image img (n + 1) fs (omega (arith, few)) x there)))
  where
    low : n < 256
    low = omega (arith, few)

    apart : (x : List ℕ) → IsNumbered n x → IsFrom (n + 1) x → ⊥
    apart x (tail, is) (k, after, high, (more, other)) =
        let same = numbers-same n k tail more low high (sym is ∙ other) in omega (arith, after, same)

pub all-once : (image : List ℕ) (img : Image) (directory : List Place) (files : List Rescued) → length files ≤ 144
    → EachOnce (map name (all_files image img directory files))
all-once image img directory files few =
    subst EachOnce (sym (map-append name (files_from image img 1 files) (index_of_files image img directory files ∷ [])))
    (EachOnce-join (map name (files_from image img 1 files)) (codes "index.csv" ∷ [])
    (from-once image img 1 files (omega (arith, few))) (Contains-nil (codes "index.csv"), tt)
    (λ x here there. elim (Contains-cases x (codes "index.csv") [] there) [
      | inl is ↦ index-apart x (from-names image img 1 files (omega (arith, few)) x here) is
      | inr none ↦ Contains-nil x none
    ]))
  where
    index-apart : (x : List ℕ) → IsFrom 1 x → codes "index.csv" ≡ x → ⊥
    index-apart x (k, after, high, (tail, is)) index = not-index k tail (sym is ∙ sym index)
