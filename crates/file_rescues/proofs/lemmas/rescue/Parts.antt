-- Files added one after another.
use Rattle.std.proofs.Common.{◌≡◌, ◌++◌, ◌∷◌, List, [], Option, Some, None, Ok, Err, Bool, true, not, inl, inr, ap, append_assoc, refl, subst, sym, take, ◌∙◌}
use Rattle.std.proofs.lemmas.List.{append-nil}
use Rattle.std.proofs.lemmas.Bool.{false≢true}
use Rattle.std.proofs.lemmas.Option.{slice_get-map}
use Rattle.std.proofs.lemmas.Slice.Eq.{bytes_eq-Decides}
use Rattle.std.specs.Prelude.{◌≢◌, ℕ, IsTrue, OnErr, Result, bytes_eq, false, if◌then◌else◌, map, option_map, slice_get}
use Rattle.file_rescues.specs.rescue.Memory.{file_in}
use Rattle.file_rescues.specs.declared.rescue.mem_folder.MemFile.{MemFile}
use Rattle.file_rescues.specs.rescue.Folders.{AddsFiles, AddsPart, BeginsNext, IsPartOf, LacksName, NewFile, new_file}

pub adds-none : (a : Option (List NewFile)) → AddsFiles a a []
adds-none None = tt
adds-none (Some had) = sym (append-nil had)

pub adds-both : (a b c : Option (List NewFile)) (xs ys : List NewFile) → AddsFiles a b xs → AddsFiles b c ys
    → AddsFiles a c (xs ++ ys)
adds-both None b c xs ys first more = tt
adds-both (Some had) None c xs ys first more = absurd first
adds-both (Some had) (Some has) None xs ys first more = absurd more
adds-both (Some had) (Some has) (Some all) xs ys first more =
    more ∙ ap (λ (l : List NewFile). l ++ ys) first ∙ append_assoc had xs ys

-- a part of more files behind these
next-behind : (xs front back these : List NewFile) → BeginsNext front back these
    → BeginsNext (xs ++ front) back (xs ++ these)
next-behind xs front [] these begins = absurd begins
next-behind xs front (next ∷ back) these begins = (
  begins.0,
  ap (λ (l : List NewFile). xs ++ l) begins.1
      ∙ sym (append_assoc xs front (new_file next.name (take begins.0 next.bytes) ∷ [])),
)

behind : (xs ys these : List NewFile) → IsPartOf ys these → IsPartOf (xs ++ ys) (xs ++ these)
behind xs ys these p = record {
  front = xs ++ p.front;
  back = p.back;
  split = ap (λ (l : List NewFile). xs ++ l) p.split ∙ sym (append_assoc xs p.front p.back);
  are = elim p.are [
    | inl all ↦ inl (ap (λ (l : List NewFile). xs ++ l) all)
    | inr part ↦ inr (next-behind xs p.front p.back these part)
  ];
}

pub part-then : (a b c : Option (List NewFile)) (xs ys : List NewFile) → AddsFiles a b xs → AddsPart b c ys
    → AddsPart a c (xs ++ ys)
part-then None b c xs ys first more = tt
part-then (Some had) None c xs ys first more = absurd first
part-then (Some had) (Some has) None xs ys first more = absurd more
part-then (Some had) (Some has) (Some all) xs ys first more = (
  xs ++ more.0,
  more.1 ∙ ap (λ (l : List NewFile). l ++ more.0) first ∙ append_assoc had xs more.0,
  behind xs ys more.0 more.2,
)

-- a part of these files, before more
next-before : (front back ys these : List NewFile) → BeginsNext front back these → BeginsNext front (back ++ ys) these
next-before front [] ys these begins = absurd begins
next-before front (next ∷ back) ys these begins = begins

before : (xs ys these : List NewFile) → IsPartOf xs these → IsPartOf (xs ++ ys) these
before xs ys these p = record {
  front = p.front;
  back = p.back ++ ys;
  split = ap (λ (l : List NewFile). l ++ ys) p.split ∙ append_assoc p.front p.back ys;
  are = elim p.are [
    | inl all ↦ inl all
    | inr part ↦ inr (next-before p.front p.back ys these part)
  ];
}

pub part-before : (a c : Option (List NewFile)) (xs ys : List NewFile) → AddsPart a c xs → AddsPart a c (xs ++ ys)
part-before None c xs ys part = tt
part-before (Some had) None xs ys part = absurd part
part-before (Some had) (Some has) xs ys part = (part.0, part.1, before xs ys part.0 part.2)

-- nothing was added
pub none-added : (a : Option (List NewFile)) (xs : List NewFile) → AddsPart a a xs
none-added None xs = tt
none-added (Some had) xs =
    ([], sym (append-nil had), record { front = []; back = xs; split = refl; are = inl refl })

-- all before these were added, and none of them
pub added-before : (a b : Option (List NewFile)) (xs ys : List NewFile) → AddsFiles a b xs → AddsPart a b (xs ++ ys)
added-before a b xs ys added = part-then a b b xs ys added (none-added b ys)

pub added-all : (a b : Option (List NewFile)) (xs : List NewFile) → AddsFiles a b xs → AddsPart a b xs
added-all a b xs added = subst (AddsPart a b) (append-nil xs) (added-before a b xs [] added)

-- what holds at an error
pub on-err : {T E P : Type 0} (r : Result T E) → P → OnErr r P
on-err (Ok x) p = tt
on-err (Err e) p = p

-- a folder in memory whose list took no file more
pub not-pushed : (ok err : Bool) (new more old : List MemFile) (x : NewFile) → err ≡ true → ok ≡ not err
    → new ≡ (if ok then more else old) → AddsPart (Some (map file_in old)) (Some (map file_in new)) (x ∷ [])
not-pushed ok err new more old x failed is now =
    let same : new ≡ old = now ∙ ap (λ (b : Bool). if b then more else old) (is ∙ ap not failed) in
    subst (λ (fs : List MemFile). AddsPart (Some (map file_in old)) (Some (map file_in fs)) (x ∷ [])) (sym same)
    (none-added (Some (map file_in old)) (x ∷ []))

-- a file has a name that was compared with it
pub is-named : (file : MemFile) (slice name : List ℕ) (same : Bool) → slice ≡ file.name.items → same ≡ bytes_eq slice name
    → same ≡ true → file.name.items ≡ name
is-named file slice name same is compared on = sym is ∙ (bytes_eq-Decides slice name).0 (sym compared ∙ on)

same-file : (files : List MemFile) (n : ℕ) (f g : MemFile) → slice_get files n ≡ Some f → slice_get files n ≡ Some g → f ≡ g
same-file files n f g at to = cc

-- or hasn't it
pub not-named : (files : List MemFile) (n : ℕ) (file : MemFile) (slice name : List ℕ) (same : Bool) → slice ≡ file.name.items
    → same ≡ bytes_eq slice name → same ≡ false → slice_get files n ≡ Some file → (other : MemFile)
    → slice_get files n ≡ Some other → other.name.items ≢ name
not-named files n file slice name same is compared off there other at named =
    let one : file ≡ other = same-file files n file other there at in
    false≢true (sym off ∙ compared ∙ (bytes_eq-Decides slice name).1
    (is ∙ ap (λ (f : MemFile). f.name.items) one ∙ named))

of-mapped : (o : Option MemFile) (file : NewFile) → option_map file_in o ≡ Some file
    → (f : MemFile) × (o ≡ Some f) × (f.name.items ≡ file.name)
of-mapped (Some f) file is = (f, refl, cc)
of-mapped None file is = cc

-- so no file of the folder has it
pub lacks : (files : List MemFile) (name : List ℕ) (had : Bool) → had ≡ false
    → ((k : ℕ) × (file : MemFile) × (slice_get files k ≡ Some file) × (file.name.items ≡ name) → IsTrue had)
    → LacksName (Some (map file_in files)) name
lacks files name had off has k file at named =
    let x = of-mapped (slice_get files k) file (sym (slice_get-map file_in files k) ∙ at) in
    false≢true (sym off ∙ has (k, x.0, x.1, x.2 ∙ named))
