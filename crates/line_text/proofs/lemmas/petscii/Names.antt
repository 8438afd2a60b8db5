-- Names of files: what their first bytes and their last bytes say, and that none has a byte that a system refuses.
use Rattle.std.proofs.Common.{◌≡◌, ◌<◌, ◌≤◌, ◌+◌, ◌/◌, ◌%◌, ℕ, suc, zero, List, [], ◌∷◌, ◌++◌, Bool, true, false, map, get_or}
use Rattle.std.proofs.Common.{length, drop, length-append, ap, ap₂, sym, subst, ◌∙◌, arith, refl}
use Rattle.std.specs.Prelude.{Contains, IsTrue, if◌then◌else◌, nat_eq, nat_lt}
use Rattle.std.specs.List.{AllByRecursion}
use Rattle.std.proofs.Common.{inl, inr, lit≤, ◌⊎◌}
use Rattle.std.proofs.Math.Seq.{drop-append_seam}
use Rattle.std.proofs.lemmas.List.{length-map}
use Rattle.std.proofs.lemmas.List.{append_assoc}
use Rattle.std.proofs.lemmas.Bool.{ltb-true}
use Rattle.line_text.specs.petscii.FileNames.{IsSafeName, ending_text, file_byte, file_name_of, is_file_byte, number_text}
use Rattle.line_text.specs.declared.petscii.file_names.Ending.{Ending}
use Rattle.line_text.specs.declared.petscii.file_names.Ending.TheVariants.{Del, Seq, Prg, Usr, Rel, Other, Records}

-- the digits of a number, where the test says whether it is below 100
abbrev digits : Bool → ℕ → List ℕ
digits small n =
    if small then (48 + n / 10) ∷ (48 + n % 10) ∷ []
    else (48 + n / 100) ∷ (48 + n / 10 % 10) ∷ (48 + n % 10) ∷ []

-- equal digits before a hyphen are those of one number
numbers-by : (p q : Bool) (m n : ℕ) (xs ys : List ℕ) → m < 256 → n < 256 → nat_lt m 100 ≡ p → nat_lt n 100 ≡ q
    → digits p m ++ 45 ∷ xs ≡ digits q n ++ 45 ∷ ys → m ≡ n
numbers-by true true m n xs ys low high small short same =
    let a : 48 + m / 10 ≡ 48 + n / 10 = ap (λ (l : List ℕ). get_or l 0 0) same in
    let b : 48 + m % 10 ≡ 48 + n % 10 = ap (λ (l : List ℕ). get_or l 1 0) same in
    omega arith
numbers-by true false m n xs ys low high small short same =
    let c : 45 ≡ 48 + n % 10 = ap (λ (l : List ℕ). get_or l 2 0) same in
    absurd (omega arith)
numbers-by false true m n xs ys low high small short same =
    let c : 48 + m % 10 ≡ 45 = ap (λ (l : List ℕ). get_or l 2 0) same in
    absurd (omega arith)
numbers-by false false m n xs ys low high small short same =
    let a : 48 + m / 100 ≡ 48 + n / 100 = ap (λ (l : List ℕ). get_or l 0 0) same in
    let b : 48 + m / 10 % 10 ≡ 48 + n / 10 % 10 = ap (λ (l : List ℕ). get_or l 1 0) same in
    let c : 48 + m % 10 ≡ 48 + n % 10 = ap (λ (l : List ℕ). get_or l 2 0) same in
    omega arith

pub numbers-same : (m n : ℕ) (xs ys : List ℕ) → m < 256 → n < 256
    → number_text m ++ 45 ∷ xs ≡ number_text n ++ 45 ∷ ys → m ≡ n
numbers-same m n xs ys low high same = numbers-by (nat_lt m 100) (nat_lt n 100) m n xs ys low high refl refl same

-- the second byte of a name is a digit
second-by : (p : Bool) (n : ℕ) (xs : List ℕ) → get_or (digits p n ++ xs) 1 0 ≤ 57
second-by true n xs = let low : n % 10 < 10 = omega arith in omega arith
second-by false n xs = let low : n / 10 % 10 < 10 = omega arith in omega arith

pub second-digit : (n : ℕ) (xs : List ℕ) → get_or (number_text n ++ xs) 1 0 ≤ 57
second-digit n xs = second-by (nat_lt n 100) n xs

-- lists that are equal have equal ends, if the ends are of one length
ends-same : (xs ys es fs : List ℕ) → length es ≡ length fs → xs ++ es ≡ ys ++ fs → es ≡ fs
ends-same xs ys es fs long same =
    let all : length (xs ++ es) ≡ length (ys ++ fs) = ap length same in
    let front : length xs ≡ length ys = omega (arith, length-append xs es, length-append ys fs) in
    sym (drop-append_seam xs es) ∙ ap₂ (λ (k : ℕ) (l : List ℕ). drop k l) front same ∙ drop-append_seam ys fs

-- the ending that a text begins: its first letter says which
abbrev read_ending : List ℕ → Ending
read_ending text =
    if nat_eq (get_or text 1 0) 100 then Del
    else (if nat_eq (get_or text 1 0) 115 then Seq
    else (if nat_eq (get_or text 1 0) 112 then Prg
    else (if nat_eq (get_or text 1 0) 117 then Usr
    else (if nat_eq (get_or text 1 0) 114 then Rel
    else (if nat_eq (get_or text 1 0) 98 then Other else Records)))))

read-ending : (s : Ending) → read_ending (ending_text s) ≡ s
read-ending Del = refl
read-ending Seq = refl
read-ending Prg = refl
read-ending Usr = refl
read-ending Rel = refl
read-ending Other = refl
read-ending Records = refl

length-ending : (s : Ending) → length (ending_text s) ≡ 4
length-ending Del = refl
length-ending Seq = refl
length-ending Prg = refl
length-ending Usr = refl
length-ending Rel = refl
length-ending Other = refl
length-ending Records = refl

pub endings-same : (xs ys : List ℕ) (s t : Ending) → xs ++ ending_text s ≡ ys ++ ending_text t → s ≡ t
endings-same xs ys s t same =
    sym (read-ending s)
    ∙ ap read_ending (ends-same xs ys (ending_text s) (ending_text t) (length-ending s ∙ sym (length-ending t)) same)
    ∙ read-ending t

-- a byte that a name of a file may have
abbrev IsFileByte : ℕ → Type 0
IsFileByte b = IsTrue (is_file_byte b)

All-append : (xs ys : List ℕ) → AllByRecursion IsFileByte xs → AllByRecursion IsFileByte ys
    → AllByRecursion IsFileByte (xs ++ ys)
All-append [] ys left right = right
All-append (x ∷ xs) ys left right = (left.0, All-append xs ys left.1 right)

-- a digit, and whatever byte of an entry's name
digit-file : (d : ℕ) → d < 10 → IsFileByte (48 + d)
digit-file zero low = refl
digit-file (suc zero) low = refl
digit-file (suc (suc zero)) low = refl
digit-file (suc (suc (suc zero))) low = refl
digit-file (suc (suc (suc (suc zero)))) low = refl
digit-file (suc (suc (suc (suc (suc zero))))) low = refl
digit-file (suc (suc (suc (suc (suc (suc zero)))))) low = refl
digit-file (suc (suc (suc (suc (suc (suc (suc zero))))))) low = refl
digit-file (suc (suc (suc (suc (suc (suc (suc (suc zero)))))))) low = refl
digit-file (suc (suc (suc (suc (suc (suc (suc (suc (suc zero))))))))) low = refl
digit-file (suc (suc (suc (suc (suc (suc (suc (suc (suc (suc d)))))))))) low = absurd (omega arith)

chosen-file : (p : Bool) (b : ℕ) → is_file_byte b ≡ p → IsFileByte (if p then b else 95)
chosen-file true b is = is
chosen-file false b is = refl

name-file : (xs : List ℕ) → AllByRecursion IsFileByte (map file_byte xs)
name-file [] = tt
name-file (x ∷ xs) = (chosen-file (is_file_byte x) x refl, name-file xs)

ending-file : (s : Ending) → AllByRecursion IsFileByte (ending_text s)
ending-file Del = (refl, (refl, (refl, (refl, tt))))
ending-file Seq = (refl, (refl, (refl, (refl, tt))))
ending-file Prg = (refl, (refl, (refl, (refl, tt))))
ending-file Usr = (refl, (refl, (refl, (refl, tt))))
ending-file Rel = (refl, (refl, (refl, (refl, tt))))
ending-file Other = (refl, (refl, (refl, (refl, tt))))
ending-file Records = (refl, (refl, (refl, (refl, tt))))

digits-file : (p : Bool) (n : ℕ) → n < 256 → nat_lt n 100 ≡ p → AllByRecursion IsFileByte (digits p n)
digits-file true n low small = (
  digit-file (n / 10) (omega (arith, ltb-true n 100 small)),
  (digit-file (n % 10) (omega arith), tt),
)
digits-file false n low small = (
  digit-file (n / 100) (omega arith),
  (digit-file (n / 10 % 10) (omega arith), (digit-file (n % 10) (omega arith), tt)),
)

pub all-file : (n : ℕ) (a : List ℕ) (s : Ending) → n < 256
    → AllByRecursion IsFileByte (number_text n ++ 45 ∷ (map file_byte a ++ ending_text s))
all-file n a s low =
    All-append (number_text n) _ (digits-file (nat_lt n 100) n low refl)
    (refl, All-append (map file_byte a) (ending_text s) (name-file a) (ending-file s))

-- what a list has is its first element or one of the others
Contains-cases : (x y : ℕ) (xs : List ℕ) → Contains (y ∷ xs) x → (y ≡ x) ⊎ Contains xs x
Contains-cases x y xs (zero, h, e) = inl e
Contains-cases x y xs (suc i, h, e) = inr (i, omega (arith, h), e)

-- a slash is no such byte, so no list of them has one
no-slash : (xs : List ℕ) → AllByRecursion IsFileByte xs → ¬ (Contains xs 47)
no-slash [] all has = absurd (omega (arith, has.1))
no-slash (x ∷ xs) all has = elim (Contains-cases 47 x xs has) [
  | inl is ↦ cc (subst IsFileByte is all.0)
  | inr there ↦ no-slash xs all.1 there
]

-- how long a name is, and its first byte
digits-long : (p : Bool) (n : ℕ) → (2 ≤ length (digits p n)) × (length (digits p n) ≤ 3)
digits-long true n = (lit≤ tt, lit≤ tt)
digits-long false n = (lit≤ tt, lit≤ tt)

first-by : (p : Bool) (n : ℕ) (xs : List ℕ) → n < 256 → nat_lt n 100 ≡ p
    → (48 ≤ get_or (digits p n ++ xs) 0 0) × (get_or (digits p n ++ xs) 0 0 ≤ 57)
first-by true n xs low small = (omega arith, omega (arith, ltb-true n 100 small))
first-by false n xs low small = (omega arith, omega arith)

name-long : (n : ℕ) (a : List ℕ) (s : Ending)
    → length (number_text n ++ 45 ∷ (map file_byte a ++ ending_text s)) ≡ length (number_text n) + (5 + length a)
name-long n a s =
    length-append (number_text n) (45 ∷ (map file_byte a ++ ending_text s))
    ∙ (let l = length-append (map file_byte a) (ending_text s) in
    let m = length-map a file_byte in
    let e = length-ending s in
    omega (arith, l, m, e))

pub is-safe : (n : ℕ) (a : List ℕ) (s : Ending) → n < 256 → length a ≤ 16 → IsSafeName (file_name_of n a s)
unfolding file_name_of
is-safe n a s low short =
    let all = all-file n a s low in
    let first = first-by (nat_lt n 100) n (45 ∷ (map file_byte a ++ ending_text s)) low refl in
    let front = digits-long (nat_lt n 100) n in
    let long = name-long n a s in
    record {
      first_low = first.0;
      first_high = first.1;
      bytes = all;
      no_separator = no-slash _ all;
      long = omega (arith, front.0, long);
      short = omega (arith, front.1, long, short);
    }

-- a name from its parts
pub from-parts : (none numbered dashed named all number name ending : List ℕ) → none ≡ [] → numbered ≡ none ++ number
    → dashed ≡ numbered ++ 45 ∷ [] → named ≡ dashed ++ name → all ≡ named ++ ending
    → all ≡ number ++ 45 ∷ (name ++ ending)
from-parts none numbered dashed named all number name ending a b c d e =
    let back : numbered ≡ number = b ∙ ap (λ (l : List ℕ). l ++ number) a in
    e ∙ ap (λ (l : List ℕ). l ++ ending) (d ∙ ap (λ (l : List ℕ). l ++ name) (c ∙ ap (λ (l : List ℕ). l ++ 45 ∷ []) back))
    ∙ append_assoc (number ++ 45 ∷ []) name ending ∙ append_assoc number (45 ∷ []) (name ++ ending)
