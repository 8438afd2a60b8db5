-- What cuts a file short, a whole one hasn't.
use Rattle.std.proofs.Common.{ap, arith, inl, inr, length}
use Rattle.d64_image.specs.Images.{Image}
use Rattle.d64_image.specs.declared.place.Place.{Place}
use Rattle.disk_layout.specs.Layout.{File, Layout}
use Rattle.damaged_files.specs.cut.Cut.{HasStray, IsCutAt, IsShort}
use Rattle.disk_layout.specs.Listed.{HasStock}
use Rattle.disk_layout.specs.Whole.{IsWholeFile}
use Rattle.damaged_files.proofs.cut.laws.whole_is_uncut.Goals as goal

uncut : (img : Image) (l : Layout) (f : File) (p : Place) → IsWholeFile img l f → IsCutAt img l f p → ⊥
uncut img l f p whole (inr cut) =
    let (plain, _, more) = cut.counts in
    omega (arith, more, ap length cut.none, whole.counted plain)
uncut img l f p whole (inl cut) = short cut.short
  where
    short : IsShort img (HasStray img l) (HasStock l) f p → ⊥
    short (inl (rel, past)) = past.past (whole.listed rel past.side past.there)
    short (inr (inl ((plain, _, more), stray))) = omega (arith, more, whole.counted plain)
    short (inr (inr (kind, zeros))) = whole.ended kind p cut.last zeros

pub returns : goal.returns
returns c img l w is k f p there asked cut = uncut img l f p (w l is k f there) cut
