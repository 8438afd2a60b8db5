-- Typed lines, made lines of records.
use Rattle.std.proofs.Common.{◌≡◌, ◌≢◌, ◌≤◌, ◌<◌, ◌⊎◌, inl, inr, ◌-◌, ◌∙◌, ℕ, List, [], ◌∷◌, ◌++◌, Bool, true, false, Result, Ok, Err}
use Rattle.std.proofs.Common.{ap, arith, get_or, length, refl, subst, sym}
use Rattle.std.specs.Prelude.{is_err}
use Rattle.std.proofs.lemmas.List.{append_assoc, append-nil, get_or_past}
use Rattle.std.proofs.lemmas.Option.{get_or_from_slice_get}
use Rattle.d64_image.specs.Memory.{disk_image, memory}
use Rattle.d64_image.specs.declared.mem_disk.MemDisk.{MemDisk}
use Rattle.disk_changes.proofs.Judged.{never-fails}
use Rattle.disk_changes.specs.lines.TypedLines.{AreMadeOf, IsLeft, IsMadeOf, IsOfRecord, IsPushed, Pushes}
use Rattle.disk_layout.specs.Layout.{File, Layout}
use Rattle.disk_layout.specs.Records.{records}
use Rattle.line_text.specs.bytes.Texts.{record_line, trimmed}
use Rattle.line_text.specs.petscii.Quoted.{one_line}
use Rattle.line_text.specs.petscii.Typing.{IsTextLine}
use Rattle.line_text.specs.declared.petscii.characters.CharacterSet.{CharacterSet}
use Rattle.rel_records.specs.Calls.{ReadsRecord}
use Rattle.rel_records.specs.File.{IsFileOf}
use Rattle.rel_records.specs.Written.{IsAbsent}
use Rattle.rel_records.specs.declared.faults.RelFault.{RelFault}
use Rattle.rel_records.specs.declared.faults.RelFault.TheVariants as rel
use Rattle.rel_records.specs.declared.rel_file.RelFile.{RelFile}

-- a record that isn't there is none
none-there : (rs : List (List ℕ)) (n : ℕ) → 1 ≤ n → IsAbsent rs n → [] ≡ get_or rs (n - 1) []
none-there rs n low (inl none) = absurd (omega (arith, low, none))
none-there rs n low (inr past) = sym (get_or_past rs (n - 1) [] (omega (arith, low, past)))

module _ (a b : MemDisk) (l : Layout) (k : ℕ) (f : File) (v : RelFile) (n : ℕ) (text : List ℕ) (low : 1 ≤ n)
    (of : IsFileOf (disk_image a) l k f v) where
  -- the record that was read
  pub was-read : (r : Result (Unit {0}) RelFault) → ReadsRecord memory a b v n text 3 r → is_err r ≡ false
      → text ≡ get_or (records (disk_image a) f) (n - 1) []
  was-read (Ok x) read ok = sym (get_or_from_slice_get (records (disk_image a) f) (n - 1) text [] (read.ok l k f of).there)
  was-read (Err e) read ok = cc

  not-there : (e : RelFault) → ReadsRecord memory a b v n text 3 (Err e) → (e ≡ rel.NotPresent) ⊎ (e ≡ rel.Device)
      → [] ≡ get_or (records (disk_image a) f) (n - 1) []
  not-there e read (inl none) = none-there (records (disk_image a) f) n low (read.not_present l k f of none)
  not-there e read (inr device) =
      absurd (never-fails a b (subst (λ (g : RelFault). ReadsRecord memory a b v n text 3 (Err g)) device read).failures)

  -- or none
  pub none-read : (r : Result (Unit {0}) RelFault) → ReadsRecord memory a b v n text 3 r → is_err r ≡ true
      → [] ≡ get_or (records (disk_image a) f) (n - 1) []
  none-read (Ok x) read err = cc
  none-read (Err e) read err = not-there e read read.told

-- what was appended for a line with this number and text
pub made-of : (set : CharacterSet) (rs : List (List ℕ)) (line : List ℕ) (n : ℕ) (text had old new : List ℕ)
    → (1 ≤ n) × (n ≤ 182880) × IsTextLine line n text → had ≡ get_or rs (n - 1) [] → IsPushed set n had text old new
    → Pushes old new (IsMadeOf set rs line)
made-of set rs line n text had old new is same (inl (bytes, left, pushed)) = (
  record_line n bytes,
  pushed,
  inl (record {
    number = n;
    low = is.0;
    high = is.1;
    text = text;
    is = is.2;
    bytes = bytes;
    left = subst (λ (h : List ℕ). IsLeft set h text bytes) same left;
    made_is = refl;
  }),
)
made-of set rs line n text had old new is same (inr (none, pushed)) = (
  10 ∷ [],
  pushed,
  inr (inr (n, text, is.0, is.1, is.2, subst (λ (h : List ℕ). (bytes : List ℕ) → length bytes ≤ 254 → ¬ (IsLeft set h text bytes)) same none), refl),
)

-- the lines so far are made of the first of all lines, and those that are left are to come
pub record MadeTo (set : CharacterSet) (rs : List (List ℕ)) (all left : List (List ℕ)) (plain : List ℕ) : Type 0 where
  pub front : List (List ℕ)
  pub split : all ≡ front ++ left
  pub made : AreMadeOf set rs front plain

pub made-none : (set : CharacterSet) (rs all : List (List ℕ)) → MadeTo set rs all all []
made-none set rs all = record { front = []; split = refl; made = refl }

snoc : (set : CharacterSet) (rs front : List (List ℕ)) (line made plain : List ℕ) → AreMadeOf set rs front plain
    → IsMadeOf set rs line made → AreMadeOf set rs (front ++ line ∷ []) (plain ++ made)
snoc set rs [] line made plain none is =
    (made, [], is, refl, ap (λ (p : List ℕ). p ++ made) none ∙ sym (append-nil made))
snoc set rs (x ∷ front) line made plain (one, more, first, rest, split) is = (
  one,
  more ++ made,
  first,
  snoc set rs front line made more rest is,
  ap (λ (p : List ℕ). p ++ made) split ∙ append_assoc one more made,
)

pub made-more : (set : CharacterSet) (rs all left : List (List ℕ)) (line : List ℕ) (next : List (List ℕ)) (plain new : List ℕ)
    → MadeTo set rs all left plain → left ≡ line ∷ next → Pushes plain new (IsMadeOf set rs line)
    → MadeTo set rs all next new
made-more set rs all left line next plain new to split (made, pushed, is) = record {
  front = to.front ++ line ∷ [];
  split = to.split ∙ ap (λ (ls : List (List ℕ)). to.front ++ ls) split ∙ sym (append_assoc to.front (line ∷ []) next);
  made = subst (AreMadeOf set rs (to.front ++ line ∷ [])) (sym pushed) (snoc set rs to.front line made plain to.made is);
}

pub made-all : (set : CharacterSet) (rs all left : List (List ℕ)) (plain : List ℕ) → MadeTo set rs all left plain → left ≡ []
    → AreMadeOf set rs all plain
made-all set rs all left plain to none =
    let front : all ≡ to.front = to.split ∙ ap (λ (ls : List (List ℕ)). to.front ++ ls) none ∙ append-nil to.front in
    subst (λ (ls : List (List ℕ)). AreMadeOf set rs ls plain) (sym front) to.made

left-reads : (set : CharacterSet) (old text bytes : List ℕ) → IsLeft set old text bytes
    → (text ≡ one_line set (trimmed bytes)) ⊎ (text ≡ one_line set bytes)
left-reads set old text bytes (inl same) = inl (same.0 ∙ ap (λ (o : List ℕ). one_line set (trimmed o)) (sym same.1))
left-reads set old text bytes (inr typed) = inr typed.1.0

-- the record reads as its line does
pub reads-so : (set : CharacterSet) (rs : List (List ℕ)) (line made : List ℕ) → (x : IsOfRecord set rs line made)
    → (x.text ≡ one_line set (trimmed x.bytes)) ⊎ (x.text ≡ one_line set x.bytes)
reads-so set rs line made x = left-reads set (get_or rs (x.number - 1) []) x.text x.bytes x.left
