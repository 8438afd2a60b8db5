-- What is drawn of an entry, from what was read.
use Rattle.std.proofs.Common.{◌≡◌, ◌+◌, ◌-◌, ◌/◌, ◌++◌, ◌∷◌, get_or, ◌<◌, map, inl, inr, ℕ, List, [], Option, Some}
use Rattle.std.proofs.Common.{None, length, min, take, refl, subst, sym, ap, ◌∙◌, arith, Bool, false, not}
use Rattle.std.specs.Prelude.{MatchOption, if◌then◌else◌}
use Rattle.std.proofs.Math.Seq.{take-length}
use Rattle.std.proofs.lemmas.List.{take_min}
use Rattle.d64_image.specs.Images.{Image, Sector}
use Rattle.d64_image.specs.declared.place.Place.{Place}
use Rattle.disk_layout.proofs.lemmas.chains.Names.{named-names, named-none}
use Rattle.disk_pictures.specs.Walks.{IsWalk}
use Rattle.disk_layout.specs.Chain.{named_at}
use Rattle.disk_layout.specs.Layout.{sides_for}
use Rattle.disk_pictures.proofs.Walked.{walk-of_chain}
use Rattle.disk_layout.specs.Directory.{IsDirectory, directory_start}
use Rattle.disk_layout.specs.Layout.{File}
use Rattle.disk_layout.specs.declared.slot.Slot.{Slot}
use Rattle.disk_layout.proofs.lemmas.lists.Lists.{all-push}
use Rattle.std.proofs.lemmas.List.{map-append, take_more}
use Rattle.disk_pictures.specs.Drawings.{AreDrawn, AreDrawnSides, GoesFrom, IsDrawn, IsDrawnFile, file_in}
use Rattle.disk_pictures.specs.declared.drawn_file.DrawnFile.{DrawnFile}

-- a walk from the place that the bytes at i name
pub goes-from : (img : Image) (bytes viewed : Sector) (i : ℕ) (o : Option Place) (ps : List Place) (u : ℕ)
    → viewed ≡ bytes
    → o ≡ named_at viewed i → MatchOption o ((ps ≡ []) × (u ≡ 0)) (λ p. IsWalk img p ps u) → GoesFrom img bytes i ps u
goes-from img bytes viewed i None ps u same e none =
    inr (named-none bytes i (sym (e ∙ ap (λ (bs : Sector). named_at bs i) same)), none.0, none.1)
goes-from img bytes viewed i (Some p) ps u same e walk =
    inl (p, named-names bytes i p (sym (e ∙ ap (λ (bs : Sector). named_at bs i) same)), walk)

needed : (n : ℕ) → (n + 120 - 1) / 120 ≡ sides_for n
needed n = let e : n + 120 - 1 ≡ n + 119 = omega arith in ap (λ (m : ℕ). m / 120) e

-- of the side sectors as many as the blocks need
pub sides-drawn : (img : Image) (bytes viewed : Sector) (o : Option Place) (ps found sides : List Place) (u n k : ℕ)
    → viewed ≡ bytes
    → o ≡ named_at viewed 21 → MatchOption o ((ps ≡ []) × (u ≡ 0)) (λ p. IsWalk img p ps u) → found ≡ ps
    → k ≡ min ((n + 120 - 1) / 120) (length found) → sides ≡ take k found → AreDrawnSides img bytes n sides
sides-drawn img bytes viewed o ps found sides u n k same e walk all few part =
    let many : k ≡ min (sides_for n) (length found) = few ∙ ap (λ (m : ℕ). min m (length found)) (needed n) in
    let kept : take k found ≡ take (sides_for n) found = ap (λ (m : ℕ). take m found) many
    ∙ take_min (sides_for n) found in
    (ps, u, goes-from img bytes viewed 21 o ps u same e walk, part ∙ kept ∙ ap (take (sides_for n)) all)

-- one entry more
pub drawn-more : (img : Image) (slots : List Slot) (i : ℕ) (s : Slot) (fs : List File) (f : File) → i < length slots
    → get_or slots i s ≡ s
    → AreDrawn img (take i slots) fs → f.slot ≡ s → IsDrawnFile img f → AreDrawn img (take (i + 1) slots) (fs ++ f ∷ [])
drawn-more img slots i s fs f inside here so_far same drawn = record {
  entries = map-append (λ (g : File). g.slot) fs (f ∷ []) ∙ ap (λ (ss : List Slot). ss ++ f.slot ∷ []) so_far.entries
      ∙ ap (λ (x : Slot). take i slots ++ x ∷ []) (same ∙ sym here) ∙ sym (take_more slots i s inside);
  files = all-push (IsDrawnFile img) fs f so_far.files drawn;
}

-- the same of entries as the code holds them
pub held-more : (img : Image) (slots : List Slot) (i : ℕ) (s : Slot) (fs new : List DrawnFile) (f : DrawnFile)
    → i < length slots → s ≡ get_or slots i s → AreDrawn img (take i slots) (map file_in fs) → f.slot ≡ s
    → IsDrawnFile img (file_in f) → new ≡ fs ++ f ∷ [] → AreDrawn img (take (i + 1) slots) (map file_in new)
held-more img slots i s fs new f inside here so_far same drawn more =
    subst (AreDrawn img (take (i + 1) slots)) (sym (ap (map file_in) more ∙ map-append file_in fs (f ∷ [])))
    (drawn-more img slots i s (map file_in fs) (file_in f) inside (sym here) so_far same drawn)

-- before the first, and after the last
pub held-none : (img : Image) (fs : List DrawnFile) → fs ≡ [] → AreDrawn img [] (map file_in fs)
held-none img fs none =
    subst (λ (gs : List DrawnFile). AreDrawn img [] (map file_in gs)) (sym none) (record { entries = refl; files = tt })

pub drawn-all : (img : Image) (slots : List Slot) (i : ℕ) (fs : List File) → i ≡ length slots
    → AreDrawn img (take i slots) fs → AreDrawn img slots fs
drawn-all img slots i fs end = subst (λ (ss : List Slot). AreDrawn img ss fs)
    (ap (λ (n : ℕ). take n slots) end ∙ take-length slots)

-- a list that was pushed to, where that was no error
pub pushed : {X : Type 0} (ok err : Bool) (new more old : List X) → err ≡ false → ok ≡ not err
    → new ≡ (if ok then more else old) → new ≡ more
pushed ok err new more old none is now = now ∙ ap (λ (b : Bool). if b then more else old) (is ∙ ap not none)

-- the directory's sectors are those that its links come to
pub drawn-is : (img : Image) (ps walked d : List Place) (slots : List Slot) (fs : List File) (u : ℕ)
    → IsDirectory img ps slots
    → IsWalk img directory_start walked u → d ≡ walked → AreDrawn img slots fs
    → IsDrawn img (record { directory = d; files = fs })
drawn-is img ps walked d slots fs u dir walk listed drawn =
    let same = walk-of_chain img directory_start ps walked dir.last u dir.chain walk in record {
      directory = subst (λ (qs : List Place). IsDirectory img qs (map (λ (f : File). f.slot) fs))
          (sym (listed ∙ same.0))
          (subst (λ (ss : List Slot). IsDirectory img ps ss) (sym drawn.entries) dir);
      files = drawn.files;
    }

-- the same of another image and another number of blocks, which are no others
pub sides-at : (img : Image) (bytes : Sector) (m n : ℕ) (sides : List Place) → m ≡ n → AreDrawnSides img bytes m sides
    → AreDrawnSides img bytes n sides
sides-at img bytes m n sides few drawn = subst (λ (k : ℕ). AreDrawnSides img bytes k sides) few drawn
