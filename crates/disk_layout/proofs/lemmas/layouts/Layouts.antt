-- Layouts: what the image determines, and what writes leave of them.
use Rattle.std.proofs.Common.{◌≡◌, ◌≢◌, ℕ, zero, suc, ◌+◌, ◌*◌, ◌⊎◌, inl, inr, Bool, true, false, List, []}
use Rattle.std.proofs.Common.{◌∷◌, map}
use Rattle.std.proofs.Common.{length, slice_index, refl, sym, ◌∙◌, ap, arith, IsFalse}
use Rattle.std.specs.Prelude.{Contains, slice_get, Some}
use Rattle.std.specs.List.{AllByRecursion}
use Rattle.std.proofs.lemmas.Bool.{cases_eq}
use Rattle.d64_image.specs.Images.{Image, sector}
use Rattle.d64_image.specs.declared.place.Place.{Place}
use Rattle.disk_layout.proofs.lemmas.chains.Chains.{IsChain-one, Names-one}
use Rattle.disk_layout.proofs.lemmas.lists.Once.{Contains-there}
use Rattle.disk_layout.specs.Directory.{IsDirectory, directory_start, used_slots}
use Rattle.disk_layout.specs.Layout.{File, HasChain, IsFile, IsLayout, IsRelFile, Layout, is_rel}
use Rattle.disk_layout.specs.Layout.{sides_for}
use Rattle.disk_layout.specs.declared.slot.Slot.{Slot}

pub IsDirectory-one : (img : Image) (ps qs : List Place) (es fs : List Slot) → IsDirectory img ps es
    → IsDirectory img qs fs → (ps ≡ qs) × (es ≡ fs)
IsDirectory-one img ps qs es fs d e =
    let same = IsChain-one img directory_start ps qs d.last e.last d.chain e.chain in
    (same.0, d.slots ∙ ap (used_slots img) same.0 ∙ sym e.slots)

pub HasChain-one : (img : Image) (f g : File) → f.slot ≡ g.slot → HasChain img f → HasChain img g
    → (f.blocks ≡ g.blocks) × (f.last ≡ g.last)
HasChain-one img f g same (p, named, chain) (q, named', chain') =
    let one : p ≡ q = Names-one g.slot.bytes 3 p q (rw (← same) named) named' in
    IsChain-one img q f.blocks g.blocks f.last g.last (rw (← one) chain) chain'

pub get-contains : {X : Type 0} (xs : List X) (k : ℕ) (x : X) → slice_get xs k ≡ Some x → Contains xs x
get-contains [] k x e = cc
get-contains (y ∷ ys) zero x e = (0, omega arith, cc)
get-contains (y ∷ ys) (suc k) x e = Contains-there x y ys (get-contains ys k x e)

-- the layout is determined by the image
same-lists : {X : Type 0} (xs ys : List X) → length xs ≡ length ys → ((k : ℕ) (x y : X) → slice_get xs k ≡ Some x
    → slice_get ys k ≡ Some y → x ≡ y) → xs ≡ ys
same-lists [] [] e h = refl
same-lists [] (y ∷ ys) e h = cc
same-lists (x ∷ xs) [] e h = cc
same-lists (x ∷ xs) (y ∷ ys) e h =
    let here : x ≡ y = h 0 x y refl refl in
    let rest : xs ≡ ys = same-lists xs ys (omega arith) (λ k. h (suc k)) in
    cc

get-first : {X : Type 0} (xs : List X) (k : ℕ) (x : X) → slice_get xs k ≡ Some x → (y : X) × (slice_get xs 0 ≡ Some y)
get-first [] k x e = cc
get-first (y ∷ ys) k x e = (y, refl)

sides-one : (img : Image) (f g : File) → f.slot ≡ g.slot → f.blocks ≡ g.blocks → IsRelFile img f → IsRelFile img g
    → f.sides ≡ g.sides
sides-one img f g same blocks r s = same-lists f.sides g.sides (r.count ∙ ap (λ b. sides_for (length b)) blocks
    ∙ sym s.count) each
  where
    each : (k : ℕ) (x y : Place) → slice_get f.sides k ≡ Some x → slice_get g.sides k ≡ Some y → x ≡ y
    each k x y e h =
        let (p, ep) = get-first f.sides k x e in
        let (q, eq) = get-first g.sides k y h in
        let first : p ≡ q = Names-one g.slot.bytes 21 p q (rw (← same) (r.first_side p ep)) (s.first_side q eq) in
        Names-one (sector img q) (4 + 2 * k) x y (rw (← first) ((r.sides 0 p ep).sides k x e))
        ((s.sides 0 q eq).sides k y h)

pub File-ext : (f g : File) → f.slot ≡ g.slot → f.blocks ≡ g.blocks → f.last ≡ g.last → f.sides ≡ g.sides → f ≡ g
File-ext f g a b c d = λ i. record { slot = a i; blocks = b i; last = c i; sides = d i }

pub IsFile-one : (img : Image) (f g : File) → f.slot ≡ g.slot → IsFile img f → IsFile img g → f ≡ g
IsFile-one img f g same a b = by_type (is_rel g.slot) refl
  where
    plain : IsFalse (is_rel g.slot) → (slice_index g.slot.bytes 3 ≡ 0) ⊎ (slice_index g.slot.bytes 3 ≢ 0) → f ≡ g
    plain n (inl z) =
        let x = a.empty (rw same n) (rw same z) in
        let y = b.empty n z in
        File-ext f g same (x.0 ∙ sym y.0) (x.1 ∙ sym y.1) (x.2 ∙ sym y.2)
    plain n (inr z) =
        let x = a.plain (rw same n) (rw same z) in
        let y = b.plain n z in
        let h = HasChain-one img f g same x.0 y.0 in
        File-ext f g same h.0 h.1 (x.1 ∙ sym y.1)

    by_type : (t : Bool) → is_rel g.slot ≡ t → f ≡ g
    by_type true e =
        let x = a.rel (rw same e) in
        let y = b.rel e in
        let h = HasChain-one img f g same x.chain y.chain in
        File-ext f g same h.0 h.1 (sides-one img f g same h.0 x y)
    by_type false e = plain e (cases_eq (slice_index g.slot.bytes 3) 0)

files-one : (img : Image) (fs gs : List File) → map (λ f. f.slot) fs ≡ map (λ f. f.slot) gs
    → AllByRecursion (IsFile img) fs → AllByRecursion (IsFile img) gs → fs ≡ gs
files-one img [] [] e a b = refl
files-one img [] (g ∷ gs) e a b = cc
files-one img (f ∷ fs) [] e a b = cc
files-one img (f ∷ fs) (g ∷ gs) e a b =
    let slot : f.slot ≡ g.slot = cc in
    let slots : map (λ f. f.slot) fs ≡ map (λ f. f.slot) gs = cc in
    let here : f ≡ g = IsFile-one img f g slot a.0 b.0 in
    let rest : fs ≡ gs = files-one img fs gs slots a.1 b.1 in
    cc

-- an image has one layout at most
pub IsLayout-one : (img : Image) (l m : Layout) → IsLayout img l → IsLayout img m → l ≡ m
IsLayout-one img l m a b =
    let d = IsDirectory-one img l.directory m.directory _ _ a.directory b.directory in
    let fs = files-one img l.files m.files d.1 a.files b.files in
    λ i. record { directory = d.0 i; files = fs i }
