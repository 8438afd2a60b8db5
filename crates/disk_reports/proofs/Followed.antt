-- Entries followed one after another.
use Rattle.std.proofs.Common.{◌≡◌, ◌<◌, ◌+◌, ◌++◌, ◌∷◌, ℕ, List, [], Bool, false, not, ap, get_or, length, refl, subst, sym, take, ◌∙◌}
use Rattle.std.specs.Prelude.{if◌then◌else◌}
use Rattle.std.proofs.Math.Seq.{take-length}
use Rattle.std.proofs.lemmas.List.{map-append, take_more}
use Rattle.d64_image.specs.Images.{Image}
use Rattle.disk_layout.proofs.lemmas.lists.Lists.{all-push}
use Rattle.disk_layout.specs.declared.slot.Slot.{Slot}
use Rattle.disk_reports.specs.AllFaults.{AreFollowed}
use Rattle.disk_reports.specs.Trails.{IsTrail}
use Rattle.disk_reports.specs.declared.trail.Trail.{Trail}

-- one entry more
pub followed-more : (img : Image) (slots : List Slot) (i : ℕ) (s : Slot) (ts new : List Trail) (t : Trail)
    → i < length slots → s ≡ get_or slots i s → AreFollowed img (take i slots) ts → t.slot ≡ s → IsTrail img t
    → new ≡ ts ++ t ∷ [] → AreFollowed img (take (i + 1) slots) new
followed-more img slots i s ts new t inside here so_far same trail more =
    subst (AreFollowed img (take (i + 1) slots)) (sym more) (record {
      slots = map-append (λ (g : Trail). g.slot) ts (t ∷ [])
          ∙ ap (λ (ss : List Slot). ss ++ t.slot ∷ []) so_far.slots
          ∙ ap (λ (x : Slot). take i slots ++ x ∷ []) (same ∙ here) ∙ sym (take_more slots i s inside);
      followed = all-push (IsTrail img) ts t so_far.followed trail;
    })

-- before the first, and after the last
pub followed-none : (img : Image) (ts : List Trail) → ts ≡ [] → AreFollowed img [] ts
followed-none img ts none =
    subst (λ (gs : List Trail). AreFollowed img [] gs) (sym none) (record { slots = refl; followed = tt })

pub followed-all : (img : Image) (slots : List Slot) (i : ℕ) (ts : List Trail) → i ≡ length slots
    → AreFollowed img (take i slots) ts → AreFollowed img slots ts
followed-all img slots i ts end = subst (λ (ss : List Slot). AreFollowed img ss ts)
    (ap (λ (k : ℕ). take k slots) end ∙ take-length slots)

pub pushed : {X : Type 0} (ok err : Bool) (new more old : List X) → err ≡ false → ok ≡ not err
    → new ≡ (if ok then more else old) → new ≡ more
pushed ok err new more old none is now = now ∙ ap (λ (b : Bool). if b then more else old) (is ∙ ap not none)
