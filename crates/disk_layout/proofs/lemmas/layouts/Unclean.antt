-- Whatever a check tells and holds, the image is not clean.
use Rattle.std.proofs.Common.{inl, inr, subst}
use Rattle.std.specs.Prelude.{Contains, IsTrue}
use Rattle.d64_image.specs.Images.{Image}
use Rattle.disk_layout.proofs.lemmas.layouts.Layouts.{IsLayout-one}
use Rattle.disk_layout.proofs.lemmas.layouts.Twice.{told-unsound}
use Rattle.disk_layout.proofs.lemmas.lists.Once.{all-in}
use Rattle.disk_layout.specs.Clean.{IsClean, IsCleanLayout, IsExactFile}
use Rattle.disk_layout.specs.Fault.{HoldsOfClean, nowhere}
use Rattle.disk_layout.specs.Layout.{File, IsLayout, IsSound, Layout, is_rel}
use Rattle.disk_layout.specs.declared.faults.Fault.{Fault}
use Rattle.disk_layout.specs.declared.faults.Fault.TheVariants.{
  BadLength,
  BadLink,
  BadSide,
  BadType,
  CountWrong,
  Device,
  Loop,
  MapWrong,
  OwnedTwice,
  Unclosed,
}

-- the layout of a clean image is its clean one
pub clean-of : (img : Image) (l : Layout) → IsLayout img l → IsClean img → IsCleanLayout img l
clean-of img l h (m, k) = let P : Layout → Type 0 = IsCleanLayout img in subst P (IsLayout-one img m l k.layout h) k

-- a relative file of a clean layout is exact
exact-of : (img : Image) (l : Layout) (f : File) → IsCleanLayout img l → Contains l.files f → IsTrue (is_rel f.slot)
    → IsExactFile img f
exact-of img l f k c rel = all-in (λ g. IsTrue (is_rel g.slot) → IsExactFile img g) l.files f k.files c rel

sound-of : (img : Image) → IsClean img → IsSound img
sound-of img (m, k) = (m, k.layout)

pub told-unclean : (img : Image) (f : Fault) → HoldsOfClean nowhere img f → ¬ (IsClean img)
told-unclean img (BadLink p) h c = told-unsound img (BadLink p) h (sound-of img c)
told-unclean img (Loop p) h c = told-unsound img (Loop p) h (sound-of img c)
told-unclean img (OwnedTwice p) h c = told-unsound img (OwnedTwice p) h (sound-of img c)
told-unclean img (BadType p) h c = told-unsound img (BadType p) h (sound-of img c)
told-unclean img (Unclosed p) h c = told-unsound img (Unclosed p) h (sound-of img c)
told-unclean img (BadSide p) (inl h) c = told-unsound img (BadSide p) h (sound-of img c)
told-unclean img (BadSide p) (inr (l, h, f, own, rel, j, at, wrong)) c =
    wrong ((exact-of img l f (clean-of img l h c) own rel).sides j p at)
told-unclean img (BadLength p) h c = told-unsound img (BadLength p) h (sound-of img c)
told-unclean img (CountWrong p) (l, h, f, own, wrong) c =
    wrong (exact-of img l f (clean-of img l h c) own.file own.rel).count
told-unclean img (MapWrong p) (l, h, inl wrong) c = wrong ((clean-of img l h c).map.marked p)
told-unclean img (MapWrong p) (l, h, inr (at, (t, low, high, wrong))) c =
    wrong ((clean-of img l h c).map.counts t low high)
told-unclean img (Device p) h c = absurd h
