-- What is printed of a drawing holds of the image's layout, where it has one.
use Rattle.std.proofs.Common.{List, ℕ, Option, refl, subst}
use Rattle.std.specs.Io.KnownBytes.{Appends}
use Rattle.d64_image.specs.Images.{Sector}
use Rattle.d64_image.specs.Memory.{sectors_in}
use Rattle.disk_layout.specs.Layout.{IsLayout, Layout}
use Rattle.disk_pictures.proofs.Sound.{drawn-own}
use Rattle.disk_pictures.specs.Held.{drawn_in}
use Rattle.disk_pictures.specs.Outcomes.{IsDrawnAs, IsJudged}
use Rattle.disk_pictures.specs.declared.drawing.Drawing.{Drawing}
use Rattle.disk_pictures.specs.declared.verdicts.Verdict.{Verdict}

module _ {W : Type 0} (contents : W → Option (List ℕ)) (text : Verdict → Sector → Layout → List ℕ) (image : List ℕ)
    (drawing : Drawing) (v : Verdict) (judged : IsJudged image drawing v) (old new : W)
    (printed : Appends (contents old) (contents new) (text v drawing.map (drawn_in drawing))) where
  pub as-drawn : IsDrawnAs contents text image (drawn_in drawing) old new v.found
  as-drawn = record {
    verdict = v;
    judged = judged.judged;
    found_is = refl;
    printed = subst (λ (map : Sector). Appends (contents old) (contents new) (text v map (drawn_in drawing))) judged.map
        printed;
  }

  pub of-layout : (l : Layout) → IsLayout (sectors_in image) l → IsDrawnAs contents text image l old new v.found
  of-layout l is = subst (λ (m : Layout). IsDrawnAs contents text image m old new v.found)
      (drawn-own (sectors_in image) l (drawn_in drawing) is judged.judged.drawn) as-drawn
