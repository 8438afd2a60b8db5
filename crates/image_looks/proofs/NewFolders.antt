-- Files that are gathered, and then made in a folder.
use Rattle.std.proofs.Common.{◌≡◌, ◌++◌, ◌∷◌, ◌<◌, ◌+◌, [], ℕ, zero, suc, List, Some, Result, Ok, Err, arith, get_or, inl, length, map, refl, subst, sym, take, ⊎_elim}
use Rattle.std.specs.List.{All}
use Rattle.std.specs.Prelude.{⊤, OnErr, OnOk}
use Rattle.std.proofs.lemmas.List.{take_more}
use Rattle.std.proofs.lemmas.List.Elements.{All-append}
use Rattle.file_rescues.specs.declared.rescue.mem_folder.MemFile.{MemFile}
use Rattle.file_rescues.specs.rescue.Folders.{AddsFiles, AddsPart, BeginsNext, IsPartOf, NewFile, StaysInside, new_file}
use Rattle.file_rescues.specs.rescue.Memory.{file_in}
use Rattle.image_looks.specs.NewFolders.{AllStayInside}

-- files of a folder whose names stay inside it
abbrev Stay : List NewFile → Type 0
Stay [] = ⊤
Stay (x ∷ xs) = StaysInside x.name × Stay xs

to-names : (files : List MemFile) → AllStayInside files → Stay (map file_in files)
to-names [] all = tt
to-names (x ∷ xs) all = (all 0 x (omega arith), to-names xs (λ k d low. all (suc k) d (omega (arith, low))))

of-names : (files : List MemFile) → Stay (map file_in files) → AllStayInside files
of-names [] stay k d low = absurd (omega (arith, low))
of-names (x ∷ xs) stay zero d low = stay.0
of-names (x ∷ xs) stay (suc k) d low = of-names xs stay.1 k d (omega (arith, low))

joined : (front back : List NewFile) → Stay front → Stay back → Stay (front ++ back)
joined [] back first rest = rest
joined (x ∷ xs) back first rest = (first.0, joined xs back first.1 rest)

fronts : (front back : List NewFile) → Stay (front ++ back) → Stay front
fronts [] back stay = tt
fronts (x ∷ xs) back stay = (stay.0, fronts xs back stay.1)

backs : (front back : List NewFile) → Stay (front ++ back) → Stay back
backs [] back stay = stay
backs (x ∷ xs) back stay = backs xs back stay.1

next-stays : (front back these : List NewFile) → Stay (front ++ back) → BeginsNext front back these → Stay these
next-stays front [] these stay never = absurd never
next-stays front (next ∷ back) these stay (n, is) = subst Stay (sym is)
    (joined front _ (fronts front (next ∷ back) stay) ((backs front (next ∷ back) stay).0, tt))

part-stays : (files these : List NewFile) → Stay files → IsPartOf files these → Stay these
part-stays files these stay part =
    let split = subst Stay part.split stay in
    ⊎_elim (λ same. subst Stay (sym same) (fronts part.front part.back split))
    (λ next. next-stays part.front part.back these split next) part.are

more-stay : (old new : List MemFile) (these : List NewFile) (name bytes : List ℕ) → StaysInside name → AllStayInside old
    → map file_in new ≡ map file_in old ++ these → IsPartOf (new_file name bytes ∷ []) these → AllStayInside new
more-stay old new these name bytes inside all is part = of-names new (subst Stay (sym is)
    (joined (map file_in old) these (to-names old all) (part-stays (new_file name bytes ∷ []) these (inside, tt) part)))

-- a file that is gathered stays inside too, and so does a part of it
pub stays : {X : Type 0} (old new : List MemFile) (name bytes : List ℕ) (r : Result Unit X) → StaysInside name
    → AllStayInside old
    → OnOk r (AddsFiles (Some (map file_in old)) (Some (map file_in new)) (new_file name bytes ∷ []))
    → OnErr r (AddsPart (Some (map file_in old)) (Some (map file_in new)) (new_file name bytes ∷ [])) → AllStayInside new
stays old new name bytes (Ok x) inside all made part = more-stay old new (new_file name bytes ∷ []) name bytes inside all made
    (record { front = new_file name bytes ∷ []; back = []; split = refl; are = inl refl })
stays old new name bytes (Err e) inside all made (these, is, part) = more-stay old new these name bytes inside all is part

single : {X : Type 0} (P : X → Type 0) (x : X) → P x → All P (x ∷ [])
single P x is zero d low = is
single P x is (suc k) d low = absurd (omega (arith, low))

-- what is so of the elements so far, and of the next one, is so of one more
pub one-more : {X : Type 0} (P : X → Type 0) (xs : List X) (i : ℕ) (d : X) → i < length xs → All P (take i xs)
    → P (get_or xs i d) → All P (take (i + 1) xs)
one-more P xs i d low all is = subst (All P) (sym (take_more xs i d low))
    (All-append P (take i xs) (get_or xs i d ∷ []) all (single P (get_or xs i d) is))

-- what is so at Ok gives that too
pub at-ok : {T X : Type 0} {P Q : Type 0} (r : Result T X) → (P → Q) → OnOk r P → OnOk r Q
at-ok (Ok x) f p = f p
at-ok (Err e) f p = tt
