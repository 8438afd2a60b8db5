-- What is done over the bytes that a host says, from what was read of its files.
use Rattle.std.proofs.Common.{◌≡◌, ℕ, List, inl, subst, ◌∙◌}
use Rattle.std.specs.Prelude.{IfSome, None, Option, Some, option_map, take}
use Rattle.std.specs.Io.Take.{take_inner, take_limit, take_remaining}
use Rattle.std.specs.declared.io.traits.Take.{Take}
use Rattle.image_file.specs.paths.Rights.{Rights}
use Rattle.image_file.specs.paths.Standing.{AreOf, Holds, Stands}
use Rattle.opened_files.specs.Ends.{JobEnd}
use Rattle.opened_files.specs.Extents.{taken_as}
use Rattle.opened_files.specs.declared.extents.Extent.{Extent}
use Rattle.opened_files.specs.HostFiles.{OfImage, OfText, OfWritten, RunEnds, TrimEnds}

-- what holds of the bytes that are left of a file holds of those that the host says
pub of-file : {H : Type 0} (stands : H → List ℕ → Stands) (host : H) (path : List ℕ) (left : Option (List ℕ))
    (P : List ℕ → Type 0) → AreOf stands host path left → IfSome left P
    → (all : List ℕ) → stands host path ≡ Holds all → P all
of-file stands host path left P are known all holds =
    let Known : Option (List ℕ) → Type 0 = λ o. IfSome o P in subst Known (are all holds) known

-- a run over what was read is one over the bytes that the host says
pub over-image : {H W : Type 0} (rights : Rights H) (stands : H → List ℕ → Stands) (host : H) (path : List ℕ)
    (old new : W) (end : JobEnd) (items slice : List ℕ) (P : List ℕ → Type 0)
    → OfImage rights stands host path (λ all. items ≡ take 174849 all) → slice ≡ items → P slice
    → OfImage rights stands host path (λ all. RunEnds old new end (P (take 174849 all)))
over-image rights stands host path old new end items slice P is same run =
    λ other none all holds. inl (subst P (same ∙ is other none all holds) run)

-- the same of what is taken of it
pub over-taken : {H W : Type 0} (rights : Rights H) (stands : H → List ℕ → Stands) (host : H) (path : List ℕ)
    (extent : Extent) (old new : W) (end : JobEnd) (items slice : List ℕ) (P : List ℕ → Type 0)
    → OfImage rights stands host path (λ all. items ≡ taken_as extent all) → slice ≡ items → P slice
    → OfImage rights stands host path (λ all. RunEnds old new end (P (taken_as extent all)))
over-taken rights stands host path extent old new end items slice P is same run =
    λ other none all holds. inl (subst P (same ∙ is other none all holds) run)

-- the same of an image that is written
pub over-written : {H W : Type 0} (stands : H → List ℕ → Stands) (host : H) (path : List ℕ) (old new : W) (end : JobEnd)
    (items slice : List ℕ) (P : List ℕ → Type 0)
    → OfWritten stands host path (λ all. items ≡ take 174849 all) → slice ≡ items → P slice
    → OfWritten stands host path (λ all. RunEnds old new end (P (take 174849 all)))
over-written stands host path old new end items slice P is same run =
    λ all holds. inl (subst P (same ∙ is all holds) run)

-- of a script, whole
pub over-text : {H W : Type 0} (stands : H → List ℕ → Stands) (host : H) (path : List ℕ) (old new : W) (end : JobEnd)
    (items slice : List ℕ) (P : List ℕ → Type 0)
    → OfText stands host path (λ all. items ≡ all) → slice ≡ items → P slice
    → OfText stands host path (λ all. RunEnds old new end (P all))
over-text stands host path old new end items slice P is same run =
    λ other all holds. inl (subst P (same ∙ is other all holds) run)

-- and of a longer one, and of two outputs
pub over-long : {H W E : Type 0} (rights : Rights H) (stands : H → List ℕ → Stands) (host : H) (path : List ℕ)
    (old new : W) (err new_err : E) (end : JobEnd) (items slice : List ℕ) (P : List ℕ → Type 0)
    → OfImage rights stands host path (λ all. items ≡ take 206115 all) → slice ≡ items → P slice
    → OfImage rights stands host path (λ all. TrimEnds old new err new_err end (P (take 206115 all)))
over-long rights stands host path old new err new_err end items slice P is same run =
    λ other none all holds. inl (subst P (same ∙ is other none all holds) run)

-- what is known of the front is known of the whole
front-of : (n : ℕ) (known : Option (List ℕ)) (bytes : List ℕ)
    → IfSome (option_map (take n) known) (λ all. bytes ≡ all) → IfSome known (λ all. bytes ≡ take n all)
front-of n None bytes given = tt
front-of n (Some all) bytes given = given

-- of the bytes that are left, those up to the limit were read
pub taken : {R : Type 0} (remaining : R → Option (List ℕ)) (t : Take R) (reader : R) (n : ℕ) (bytes : List ℕ)
    → take_limit t ≡ n → take_inner t ≡ reader → IfSome (take_remaining remaining t) (λ all. bytes ≡ all)
    → IfSome (remaining reader) (λ all. bytes ≡ take n all)
taken {R} remaining t reader n bytes limit inner given =
    front-of n (remaining reader) bytes
    (subst (λ (m : ℕ). IfSome (option_map (take m) (remaining reader)) (λ all. bytes ≡ all)) limit
    (subst (λ (r : R). IfSome (option_map (take t.limit) (remaining r)) (λ all. bytes ≡ all)) inner given))

-- the same of two images
pub over-images : {H W : Type 0} (rights : Rights H) (stands : H → List ℕ → Stands) (host : H)
    (before after : List ℕ) (old new : W) (end : JobEnd) (first second one_slice other_slice : List ℕ)
    (extent : Extent) (P : List ℕ → List ℕ → Type 0) → OfImage rights stands host before (λ all. first ≡ taken_as extent all)
    → OfImage rights stands host after (λ all. second ≡ taken_as extent all) → one_slice ≡ first → other_slice ≡ second
    → P one_slice other_slice
    → OfImage rights stands host before (λ one. OfImage rights stands host after (λ other.
    RunEnds old new end (P (taken_as extent one) (taken_as extent other))))
over-images rights stands host before after old new end first second one_slice other_slice extent P is are same same_too run =
    λ named none one holds named_too none_too other holds_too.
    inl (subst (λ (xs : List ℕ). P xs (taken_as extent other)) (same ∙ is named none one holds)
    (subst (λ (ys : List ℕ). P one_slice ys) (same_too ∙ are named_too none_too other holds_too) run))
