-- The files of an entry, made one after the other.
use Rattle.std.proofs.Common.{◌≡◌, ◌<◌, ◌+◌, ◌++◌, ◌∷◌, ℕ, List, [], Option, ap, append_assoc, append-nil, arith, drop, get_or, inl, inr, length, refl, subst, sym, take, ◌∙◌}
use Rattle.std.specs.Option.{option_or}
use Rattle.std.proofs.lemmas.List.{length-take-le, take-append-drop, take_more}
use Rattle.d64_image.specs.Images.{Image}
use Rattle.d64_image.specs.declared.place.Place.{Place}
use Rattle.disk_layout.specs.declared.faults.Fault.{Fault}
use Rattle.file_rescues.proofs.lemmas.rescue.Parts.{adds-both, adds-none, part-before, part-then}
use Rattle.std.specs.Prelude.{codes, false, true}
use Rattle.file_rescues.specs.rescue.Art.{is_art}
use Rattle.file_rescues.specs.rescue.Folders.{AddsFiles, AddsPart, NewFile, new_file}
use Rattle.file_rescues.specs.rescue.Index.{heading}
use Rattle.file_rescues.specs.rescue.Named.{first_name}
use Rattle.file_rescues.specs.rescue.Sharing.{owned, past_of}
use Rattle.file_rescues.specs.Found.{records_length}
use Rattle.file_rescues.specs.rescue.Rescues.{all_files, bytes_in, fault_of, files_from, files_of, first_fault, index_of_files, line_files, line_of, own_files, row_of, rows_from}
use Rattle.file_rescues.specs.declared.rescue.rescuing.Rescued.{Rescued}
use Rattle.std.specs.declared.io.ErrorKind.{ErrorKind}
use Rattle.std.specs.declared.io.ErrorKind.TheVariants as kinds
use Rattle.command_faults.specs.Faults.{io_fault}
use Rattle.file_rescues.specs.rescue.Rescues.{IsMakeFault}

-- two words report that a folder failed
pub two-words : (kind : ErrorKind) → IsMakeFault (io_fault kind)
two-words kinds.OutOfMemory = inr refl
two-words _ = inl refl

-- the file with its bytes, as it is made
abbrev first_file : ℕ → Rescued → List ℕ → NewFile
first_file n f bytes = new_file (first_name n f.is_cvt f.slot) bytes

pub data-part : (a b : Option (List NewFile)) (image : List ℕ) (img : Image) (n : ℕ) (f : Rescued) (bytes : List ℕ)
    → bytes ≡ bytes_in image img f → AddsPart a b (first_file n f bytes ∷ []) → AddsPart a b (own_files image img n f)
unfolding own_files
data-part a b image img n f bytes same part =
    part-before a b (first_file n f (bytes_in image img f) ∷ []) (line_files n f (bytes_in image img f) (records_length f.slot))
    (subst (λ (bs : List ℕ). AddsPart a b (first_file n f bs ∷ [])) same part)

pub lines-part : (a b c : Option (List NewFile)) (image : List ℕ) (img : Image) (n : ℕ) (f : Rescued) (bytes more : List ℕ)
    → bytes ≡ bytes_in image img f → more ≡ bytes_in image img f → AddsFiles a b (first_file n f bytes ∷ [])
    → AddsPart b c (line_files n f more (records_length f.slot)) → AddsPart a c (own_files image img n f)
unfolding own_files
lines-part a b c image img n f bytes more same again made part =
    part-then a b c (first_file n f (bytes_in image img f) ∷ []) (line_files n f (bytes_in image img f) (records_length f.slot))
    (subst (λ (bs : List ℕ). AddsFiles a b (first_file n f bs ∷ [])) same made)
    (subst (λ (bs : List ℕ). AddsPart b c (line_files n f bs (records_length f.slot))) again part)

pub both-made : (a b c : Option (List NewFile)) (image : List ℕ) (img : Image) (n : ℕ) (f : Rescued) (bytes more : List ℕ)
    → bytes ≡ bytes_in image img f → more ≡ bytes_in image img f → AddsFiles a b (first_file n f bytes ∷ [])
    → AddsFiles b c (line_files n f more (records_length f.slot)) → AddsFiles a c (own_files image img n f)
unfolding own_files
both-made a b c image img n f bytes more same again made last =
    adds-both a b c (first_file n f (bytes_in image img f) ∷ []) (line_files n f (bytes_in image img f) (records_length f.slot))
    (subst (λ (bs : List ℕ). AddsFiles a b (first_file n f bs ∷ [])) same made)
    (subst (λ (bs : List ℕ). AddsFiles b c (line_files n f bs (records_length f.slot))) again last)

-- directory art has no file
pub art-made : (a : Option (List NewFile)) (image : List ℕ) (img : Image) (n : ℕ) (f : Rescued) → is_art f.slot ≡ true
    → AddsFiles a a (files_of image img n f)
unfolding files_of
art-made a image img n f art = rw art (adds-none a)

-- what isn't has its own
pub own-made : (P : List NewFile → Type 0) (image : List ℕ) (img : Image) (n : ℕ) (f : Rescued) → is_art f.slot ≡ false
    → P (own_files image img n f) → P (files_of image img n f)
unfolding files_of
own-made P image img n f none holds = rw none holds

-- the files of entries, and of more behind them
pub from-append : (image : List ℕ) (img : Image) (n : ℕ) (xs ys : List Rescued)
    → files_from image img n (xs ++ ys) ≡ files_from image img n xs ++ files_from image img (n + length xs) ys
unfolding files_from
from-append image img n [] ys = let e : n ≡ n + 0 = omega arith in ap (λ (k : ℕ). files_from image img k ys) e
from-append image img n (x ∷ xs) ys =
    let e : n + 1 + length xs ≡ n + length (x ∷ xs) = omega arith in
    ap (λ (l : List NewFile). files_of image img n x ++ l) (from-append image img (n + 1) xs ys)
    ∙ sym (append_assoc (files_of image img n x) (files_from image img (n + 1) xs) (files_from image img (n + 1 + length xs) ys))
    ∙ ap (λ (k : ℕ). files_of image img n x ++ files_from image img (n + 1) xs ++ files_from image img k ys) e

pub rows-append : (image : List ℕ) (img : Image) (all : List Place) (past : List ℕ) (n : ℕ) (xs ys : List Rescued)
    → rows_from image img all past n (xs ++ ys) ≡ rows_from image img all past n xs ++ rows_from image img all past (n + length xs) ys
unfolding rows_from
rows-append image img all past n [] ys = let e : n ≡ n + 0 = omega arith in ap (λ (k : ℕ). rows_from image img all past k ys) e
rows-append image img all past n (x ∷ xs) ys =
    let e : n + 1 + length xs ≡ n + length (x ∷ xs) = omega arith in
    ap (λ (l : List ℕ). line_of image img all past n x ++ l) (rows-append image img all past (n + 1) xs ys)
    ∙ sym (append_assoc (line_of image img all past n x) (rows_from image img all past (n + 1) xs)
    (rows_from image img all past (n + 1 + length xs) ys))
    ∙ ap (λ (k : ℕ). line_of image img all past n x ++ rows_from image img all past (n + 1) xs ++ rows_from image img all past k ys) e

pub fault-append : (image : List ℕ) (img : Image) (all : List Place) (n : ℕ) (found : Option Fault) (xs ys : List Rescued)
    → first_fault image img all n found (xs ++ ys)
    ≡ first_fault image img all (n + length xs) (first_fault image img all n found xs) ys
unfolding first_fault
fault-append image img all n found [] ys = let e : n ≡ n + 0 = omega arith in ap (λ (k : ℕ). first_fault image img all k found ys) e
fault-append image img all n found (x ∷ xs) ys =
    let e : n + 1 + length xs ≡ n + length (x ∷ xs) = omega arith in
    let next : Option Fault = option_or found (fault_of (row_of image img all n x)) in
    fault-append image img all (n + 1) next xs ys
    ∙ ap (λ (k : ℕ). first_fault image img all k (first_fault image img all (n + 1) next xs) ys) e

-- before the first
pub no-files : (a : Option (List NewFile)) (image : List ℕ) (img : Image) (fs : List Rescued) → AddsFiles a a (files_from image img 1 (take 0 fs))
unfolding files_from
no-files a image img fs = adds-none a

pub no-rows : (image : List ℕ) (img : Image) (all : List Place) (past : List ℕ) (old : List ℕ) (fs : List Rescued)
    → old ≡ old ++ rows_from image img all past 1 (take 0 fs)
unfolding rows_from
no-rows image img all past old fs = sym (append-nil old)

pub no-fault : (image : List ℕ) (img : Image) (all : List Place) (old : Option Fault) (fs : List Rescued)
    → old ≡ first_fault image img all 1 old (take 0 fs)
unfolding first_fault
no-fault image img all old fs = refl

-- one file
from-one : (image : List ℕ) (img : Image) (n : ℕ) (f : Rescued) → files_from image img n (f ∷ []) ≡ files_of image img n f
unfolding files_from
from-one image img n f = append-nil (files_of image img n f)

rows-one : (image : List ℕ) (img : Image) (all : List Place) (past : List ℕ) (n : ℕ) (f : Rescued)
    → rows_from image img all past n (f ∷ []) ≡ line_of image img all past n f
unfolding rows_from
rows-one image img all past n f = append-nil (line_of image img all past n f)

fault-one : (image : List ℕ) (img : Image) (all : List Place) (n : ℕ) (found : Option Fault) (f : Rescued)
    → first_fault image img all n found (f ∷ []) ≡ option_or found (fault_of (row_of image img all n f))
unfolding first_fault
fault-one image img all n found f = refl

taken : (k : ℕ) (fs : List Rescued) (f : Rescued) → k < length fs → get_or fs k f ≡ f
    → take (k + 1) fs ≡ take k fs ++ f ∷ []
taken k fs f inside is = take_more fs k f inside ∙ ap (λ (g : Rescued). take k fs ++ g ∷ []) is

numbered : (k n : ℕ) (fs : List Rescued) → k < length fs → n ≡ k + 1 → 1 + length (take k fs) ≡ n
numbered k n fs inside is = omega (arith, is, length-take-le k fs (omega (arith, inside)))

-- the files of one entry more
pub made-more : (a b c : Option (List NewFile)) (image : List ℕ) (img : Image) (k n : ℕ) (fs : List Rescued) (f : Rescued) → k < length fs
    → get_or fs k f ≡ f → n ≡ k + 1 → AddsFiles a b (files_from image img 1 (take k fs)) → AddsFiles b c (files_of image img n f)
    → AddsFiles a c (files_from image img 1 (take (k + 1) fs))
made-more a b c image img k n fs f inside is number before more =
    subst (AddsFiles a c)
    (sym (ap (files_from image img 1) (taken k fs f inside is) ∙ from-append image img 1 (take k fs) (f ∷ [])
    ∙ ap (λ (m : ℕ). files_from image img 1 (take k fs) ++ files_from image img m (f ∷ [])) (numbered k n fs inside number)
    ∙ ap (λ (l : List NewFile). files_from image img 1 (take k fs) ++ l) (from-one image img n f)))
    (adds-both a b c (files_from image img 1 (take k fs)) (files_of image img n f) before more)

pub rows-more : (image : List ℕ) (img : Image) (all : List Place) (past : List ℕ) (k n : ℕ) (fs : List Rescued) (f : Rescued) (old now new : List ℕ)
    → k < length fs → get_or fs k f ≡ f → n ≡ k + 1 → now ≡ old ++ rows_from image img all past 1 (take k fs)
    → new ≡ now ++ line_of image img all past n f → new ≡ old ++ rows_from image img all past 1 (take (k + 1) fs)
rows-more image img all past k n fs f old now new inside is number before more =
    let row : List ℕ = line_of image img all past n f in
    more ∙ ap (λ (l : List ℕ). l ++ row) before ∙ append_assoc old (rows_from image img all past 1 (take k fs)) row
    ∙ ap (λ (l : List ℕ). old ++ l)
    (sym (ap (rows_from image img all past 1) (taken k fs f inside is) ∙ rows-append image img all past 1 (take k fs) (f ∷ [])
    ∙ ap (λ (m : ℕ). rows_from image img all past 1 (take k fs) ++ rows_from image img all past m (f ∷ [])) (numbered k n fs inside number)
    ∙ ap (λ (l : List ℕ). rows_from image img all past 1 (take k fs) ++ l) (rows-one image img all past n f)))

pub fault-more : (image : List ℕ) (img : Image) (all : List Place) (k n : ℕ) (fs : List Rescued) (f : Rescued) (old now : Option Fault)
    → k < length fs → get_or fs k f ≡ f → n ≡ k + 1 → now ≡ first_fault image img all 1 old (take k fs)
    → option_or now (fault_of (row_of image img all n f)) ≡ first_fault image img all 1 old (take (k + 1) fs)
fault-more image img all k n fs f old now inside is number before =
    let own : Option Fault = fault_of (row_of image img all n f) in
    ap (λ (o : Option Fault). option_or o own) before
    ∙ sym (ap (first_fault image img all 1 old) (taken k fs f inside is) ∙ fault-append image img all 1 old (take k fs) (f ∷ [])
    ∙ ap (λ (m : ℕ). first_fault image img all m (first_fault image img all 1 old (take k fs)) (f ∷ []))
    (numbered k n fs inside number) ∙ fault-one image img all n (first_fault image img all 1 old (take k fs)) f)

-- a part of the files of the next entry
pub made-part : (a b c : Option (List NewFile)) (image : List ℕ) (img : Image) (k n : ℕ) (fs : List Rescued) (f : Rescued) → k < length fs
    → get_or fs k f ≡ f → n ≡ k + 1 → AddsFiles a b (files_from image img 1 (take k fs)) → AddsPart b c (files_of image img n f)
    → AddsPart a c (files_from image img 1 fs)
made-part a b c image img k n fs f inside is number before part =
    let front : List NewFile = files_from image img 1 (take k fs) in
    let both : AddsPart a c (front ++ files_of image img n f) = part-then a b c front (files_of image img n f) before part in
    let all : front ++ files_of image img n f ≡ files_from image img 1 (take (k + 1) fs) =
    sym (ap (files_from image img 1) (taken k fs f inside is) ∙ from-append image img 1 (take k fs) (f ∷ [])
    ∙ ap (λ (m : ℕ). front ++ files_from image img m (f ∷ [])) (numbered k n fs inside number)
    ∙ ap (λ (l : List NewFile). front ++ l) (from-one image img n f)) in
    subst (AddsPart a c)
    (sym (from-append image img 1 (take (k + 1) fs) (drop (k + 1) fs))
    ∙ ap (files_from image img 1) (take-append-drop (k + 1) fs))
    (part-before a c (files_from image img 1 (take (k + 1) fs)) _ (subst (AddsPart a c) all both))

-- the rows, if these sectors are those that are shared
pub rows-with : (image : List ℕ) (img : Image) (directory : List Place) (files : List Rescued) (past old new : List ℕ)
    → past ≡ past_of 2 files → new ≡ old ++ rows_from image img (owned directory files) past 1 files
    → new ≡ old ++ rows_from image img (owned directory files) (past_of 2 files) 1 files
rows-with image img directory files past old new is rows =
    rows ∙ ap (λ (ns : List ℕ). old ++ rows_from image img (owned directory files) ns 1 files) is

-- the index, as it was put together
index-is : (image : List ℕ) (img : Image) (directory : List Place) (files : List Rescued) (none first now slice : List ℕ) → none ≡ []
    → first ≡ none ++ heading → now ≡ first ++ rows_from image img (owned directory files) (past_of 2 files) 1 files → slice ≡ now
    → new_file (codes "index.csv") slice ≡ index_of_files image img directory files
index-is image img directory files none first now slice empty head rows same =
    ap (new_file (codes "index.csv"))
    (same ∙ rows ∙ ap (λ (l : List ℕ). l ++ rows_from image img (owned directory files) (past_of 2 files) 1 files)
    (head ∙ ap (λ (l : List ℕ). l ++ heading) empty))

-- the files of the entries, and the index or a part of it
pub all-made : (a b c : Option (List NewFile)) (image : List ℕ) (img : Image) (directory : List Place) (files : List Rescued)
    (none first now slice : List ℕ) → none ≡ [] → first ≡ none ++ heading
    → now ≡ first ++ rows_from image img (owned directory files) (past_of 2 files) 1 files → slice ≡ now
    → AddsFiles a b (files_from image img 1 files) → AddsFiles b c (new_file (codes "index.csv") slice ∷ [])
    → AddsFiles a c (all_files image img directory files)
all-made a b c image img directory files none first now slice empty head rows same made last =
    adds-both a b c (files_from image img 1 files) (index_of_files image img directory files ∷ []) made
    (subst (λ (f : NewFile). AddsFiles b c (f ∷ []))
    (index-is image img directory files none first now slice empty head rows same) last)

pub all-part : (a b c : Option (List NewFile)) (image : List ℕ) (img : Image) (directory : List Place) (files : List Rescued)
    (none first now slice : List ℕ) → none ≡ [] → first ≡ none ++ heading
    → now ≡ first ++ rows_from image img (owned directory files) (past_of 2 files) 1 files → slice ≡ now
    → AddsFiles a b (files_from image img 1 files) → AddsPart b c (new_file (codes "index.csv") slice ∷ [])
    → AddsPart a c (all_files image img directory files)
all-part a b c image img directory files none first now slice empty head rows same made last =
    part-then a b c (files_from image img 1 files) (index_of_files image img directory files ∷ []) made
    (subst (λ (f : NewFile). AddsPart b c (f ∷ []))
    (index-is image img directory files none first now slice empty head rows same) last)
