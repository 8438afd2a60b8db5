-- What is printed of images one after another.
use Rattle.std.proofs.Common.{◌≡◌, ◌<◌, ◌+◌, ◌++◌, ℕ, List, [], ◌∷◌, ap, arith, get_or, length, map, refl, subst, sym, take}
use Rattle.std.specs.Prelude.{IfErr, IfOk, None, Ok, Err, Option, Result, Some, max, Vec, take, vec_items}
use Rattle.std.specs.Io.KnownBytes.{Keeps}
use Rattle.std.specs.Borrow.{Bor}
use Rattle.std.proofs.lemmas.List.{map_more}
use Rattle.image_looks.specs.EachImage.{AreEach, AreHandedOn, IsCutOff, IsOneFrom, IsSeveralEnd, Loaded, as_loaded, IsReadAt}
use Rattle.opened_files.specs.Ends.{JobEnd}
use Rattle.command_faults.specs.declared.faults.CommandFault.TheVariants as faults
use Rattle.std.specs.declared.alloc.Global.{Global}
use Rattle.image_file.specs.paths.Rights.{Rights}
use Rattle.image_file.specs.paths.Standing.{Stands}
use Rattle.opened_files.specs.Extents.{taken_as}
use Rattle.opened_files.specs.HostFiles.{OfImage}
use Rattle.opened_files.specs.declared.extents.Extent.{Extent}
use Rattle.command_faults.specs.declared.faults.CommandFault.{CommandFault}

-- what was done with a greatest status comes to something else
pub several-weaker : (P Q : ℕ → Type 0) → ((n : ℕ) → P n → Q n) → (end : JobEnd) → IsSeveralEnd P end → IsSeveralEnd Q end
several-weaker P Q weaker (Ok None) done = weaker 0 done
several-weaker P Q weaker (Ok (Some found)) done = done
several-weaker P Q weaker (Err (faults.Several greatest)) (some, done) = (some, weaker greatest done)
several-weaker P Q weaker (Err _) done = done

-- or not all of it was
pub cut-off : (Done : ℕ → Type 0) (fault : CommandFault) → IsCutOff fault → IsSeveralEnd Done (Err fault)
cut-off Done faults.File why = why
cut-off Done faults.NoMemory why = why
cut-off Done _ why = absurd why

-- since the output failed
pub output-cut-off : {T : Type 0} (r : Result T CommandFault) → IfErr r (λ fault. fault ≡ faults.File) → IfErr r IsCutOff
output-cut-off (Ok it) is = tt
output-cut-off (Err fault) is = subst IsCutOff (sym is) tt

-- with this status something was done
pub several-done : (P : ℕ → Type 0) (greatest : ℕ) (end : JobEnd) → P greatest → IsSeveralEnd (λ n. n ≡ greatest) end
    → IsSeveralEnd P end
several-done P greatest end done ended =
    several-weaker (λ n. n ≡ greatest) P (λ n is. subst P (sym is) done) end ended

module _ {W : Type 0} (gives : List ℕ → Loaded → Type 0) (prints : List ℕ → Loaded → W → W → ℕ → Type 0)
  where
    -- one behind the others
    push : (paths : List (List ℕ)) (path : List ℕ) (old mid new : W) (greatest status : ℕ)
        → AreEach gives prints paths old mid greatest → IsOneFrom gives prints path mid new status
        → AreEach gives prints (paths ++ path ∷ []) old new (max status greatest)
    push [] path old mid new greatest status (same, zero') one =
        let none : max status greatest ≡ max status 0 = ap (max status) zero' in
        (new, status, 0, subst (λ (w : W). IsOneFrom gives prints path w new status) same one, (refl, refl), none)
    push (p ∷ ps) path old mid new greatest status (next, first, rest, one, others, most) last =
        let both : max status greatest ≡ max first (max status rest) = omega (arith, most) in
        (next, first, max status rest, one, push ps path next mid new rest status others last, both)

    pub none-yet : (old : W) → AreEach gives prints [] old old 0
    none-yet old = (refl, refl)

    -- of one path more
    pub one-more : (paths : List (Bor (List ℕ))) (i : ℕ) (d : Bor (List ℕ)) (old mid new : W) (greatest status : ℕ)
        → i < length paths
        → AreEach gives prints (map (λ (p : Bor (List ℕ)). p.now) (take i paths)) old mid greatest
        → IsOneFrom gives prints (get_or paths i d).now mid new status
        → AreEach gives prints (map (λ (p : Bor (List ℕ)). p.now) (take (i + 1) paths)) old new (max status greatest)
    one-more paths i d old mid new greatest status inside before one =
        subst (λ (all : List (List ℕ)). AreEach gives prints all old new (max status greatest))
        (sym (map_more (λ (p : Bor (List ℕ)). p.now) paths i d inside))
        (push (map (λ (p : Bor (List ℕ)). p.now) (take i paths)) (get_or paths i d).now old mid new greatest status
        before one)

    -- of one that was read
    pub one-read : {E : Type 0} (path : List ℕ) (read : Loaded) (old new : W) (shown : Result ℕ E) → gives path read
        → IfOk shown (λ status. prints path read old new status)
        → IfOk shown (IsOneFrom gives prints path old new)
    one-read path read old new (Ok status) given one = record { read = read; given = given; one = one }
    one-read path read old new (Err fault) given one = tt

    -- all of them, and what the output held back
    pub several-told : (contents : W → Option (List ℕ)) (paths : List (List ℕ)) (old mid new : W) (greatest : ℕ) (end : JobEnd)
        → AreEach gives prints paths old mid greatest
        → IsSeveralEnd (λ n. (n ≡ greatest) × Keeps (contents mid) (contents new)) end
        → IsSeveralEnd (AreHandedOn gives prints contents paths old new) end
    several-told contents paths old mid new greatest end each ended =
        several-weaker (λ n. (n ≡ greatest) × Keeps (contents mid) (contents new))
        (AreHandedOn gives prints contents paths old new)
        (λ n is. record {
          last = mid;
          each = subst (λ (m : ℕ). AreEach gives prints paths old mid m) (sym is.0) each;
          handed = is.1;
        }) end ended

loaded : (read : Result (Vec ℕ Global) CommandFault) (front : List ℕ) → IfOk read (λ image. vec_items image ≡ front)
    → IfOk (as_loaded read) (λ image. image ≡ front)
loaded (Ok image) front is = is
loaded (Err refusal) front is = tt

-- what was read of an image, as a job over several holds it
pub read-at : {H : Type 0} (rights : Rights H) (stands : H → List ℕ → Stands) (host : H) (extent : Extent) (path : List ℕ)
    (read : Result (Vec ℕ Global) CommandFault)
    → OfImage rights stands host path (λ all. IfOk read (λ image. vec_items image ≡ taken_as extent all))
    → IsReadAt rights stands host extent path (as_loaded read)
read-at rights stands host extent path read is =
    λ other none all holds. loaded read (taken_as extent all) (is other none all holds)
