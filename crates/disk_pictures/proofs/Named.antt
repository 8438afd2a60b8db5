-- The parts of a sentence, as they are written one after another.
use Rattle.std.proofs.Common.{◌≡◌, ◌++◌, ℕ, length, refl}
use Rattle.std.specs.Prelude.{codes, decimal}
use Rattle.d64_image.specs.Images.{Sector}
use Rattle.disk_layout.specs.Layout.{Layout}
use Rattle.disk_layout.specs.View.{blocks_free}
use Rattle.disk_pictures.specs.Html.{html_of}
use Rattle.disk_pictures.specs.Sentences.{sentence_text, summary_text}
use Rattle.disk_pictures.specs.declared.verdicts.Verdict.{Verdict}

pub summary-written : (v : Verdict) (map : Sector) (l : Layout) (files free : ℕ) → files ≡ length l.files
    → free ≡ blocks_free map
    → sentence_text html_of l v.found v.cut ++ (decimal files ++ (codes " files, " ++ (decimal free
    ++ codes " of 664 blocks free"))) ≡ summary_text html_of v map l
unfolding summary_text
summary-written v map l files free a b = rw (a, b) refl
