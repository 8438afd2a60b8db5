-- What can be reached of one entry after another.
use Rattle.std.proofs.Common.{◌≡◌, ◌<◌, ◌+◌, ◌++◌, ◌∷◌, ℕ, zero, suc, arith, List, [], Bool, false, not, ap, get_or, length, refl, subst, sym, take, ◌∙◌}
use Rattle.std.specs.List.{AllByRecursion}
use Rattle.std.specs.Prelude.{if◌then◌else◌}
use Rattle.std.proofs.Math.Seq.{take-length}
use Rattle.std.proofs.lemmas.List.{map-append, take_more}
use Rattle.d64_image.specs.Images.{Image}
use Rattle.disk_layout.proofs.lemmas.lists.Lists.{all-push}
use Rattle.disk_layout.specs.declared.slot.Slot.{Slot}
use Rattle.file_rescues.specs.rescue.Rescues.{AreRescued, IsRescued}
use Rattle.file_rescues.specs.declared.rescue.rescuing.Rescued.{Rescued}

-- one entry more
pub rescued-more : (image : List ℕ) (img : Image) (slots : List Slot) (i : ℕ) (s : Slot) (fs new : List Rescued) (f : Rescued)
    → i < length slots → s ≡ get_or slots i s → AreRescued image img (take i slots) fs → f.slot ≡ s → IsRescued image img f
    → new ≡ fs ++ f ∷ [] → AreRescued image img (take (i + 1) slots) new
rescued-more image img slots i s fs new f inside here so_far same rescued more =
    subst (AreRescued image img (take (i + 1) slots)) (sym more) (record {
      entries = map-append (λ (g : Rescued). g.slot) fs (f ∷ [])
          ∙ ap (λ (ss : List Slot). ss ++ f.slot ∷ []) so_far.entries
          ∙ ap (λ (x : Slot). take i slots ++ x ∷ []) (same ∙ here) ∙ sym (take_more slots i s inside);
      reached = all-push (IsRescued image img) fs f so_far.reached rescued;
    })

-- before the first, and after the last
pub rescued-none : (image : List ℕ) (img : Image) (fs : List Rescued) → fs ≡ [] → AreRescued image img [] fs
rescued-none image img fs none =
    subst (λ (gs : List Rescued). AreRescued image img [] gs) (sym none) (record { entries = refl; reached = tt })

pub rescued-all : (image : List ℕ) (img : Image) (slots : List Slot) (i : ℕ) (fs : List Rescued) → i ≡ length slots
    → AreRescued image img (take i slots) fs → AreRescued image img slots fs
rescued-all image img slots i fs end = subst (λ (ss : List Slot). AreRescued image img ss fs)
    (ap (λ (k : ℕ). take k slots) end ∙ take-length slots)

-- one of those of which this was reached
pub rescued-at : (image : List ℕ) (img : Image) (fs : List Rescued) (k : ℕ) (f : Rescued) → AllByRecursion (IsRescued image img) fs
    → k < length fs → f ≡ get_or fs k f → IsRescued image img f
rescued-at image img [] k f all inside is = absurd (omega (arith, inside))
rescued-at image img (x ∷ fs) zero f all inside is = subst (IsRescued image img) (sym is) all.0
rescued-at image img (x ∷ fs) (suc k) f all inside is = rescued-at image img fs k f all.1 (omega (arith, inside)) is

pub pushed : {X : Type 0} (ok err : Bool) (new more old : List X) → err ≡ false → ok ≡ not err
    → new ≡ (if ok then more else old) → new ≡ more
pushed ok err new more old none is now = now ∙ ap (λ (b : Bool). if b then more else old) (is ∙ ap not none)
