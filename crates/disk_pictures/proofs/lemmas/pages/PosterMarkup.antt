-- The markup of a poster is the same, however bytes of the disk are shown, where what is shown has the same markup.
use Rattle.std.proofs.Common.{ℕ, List}
use Rattle.std.specs.Prelude.{codes, decimal, length, slice_range}
use Rattle.d64_image.specs.Images.{Sector}
use Rattle.disk_layout.specs.Directory.{type_byte}
use Rattle.disk_layout.specs.Layout.{File, Layout, count_field}
use Rattle.disk_pictures.specs.Html.{Show}
use Rattle.damaged_files.specs.reached.Names.{disk_name, name_of}
use Rattle.disk_pictures.specs.Pictures.{dashes}
use Rattle.disk_pictures.specs.Legends.{legend_of, poster_legend}
use Rattle.disk_pictures.specs.Posters.{line_start, paper, poster_begin, poster_drawing, poster_head, poster_line, poster_style, poster_text}
use Rattle.disk_pictures.specs.Posters.{poster_told}
use Rattle.disk_pictures.specs.declared.verdicts.Verdict.{Verdict}
use Rattle.damaged_files.specs.reached.Types.{type_text}
use Rattle.disk_pictures.proofs.lemmas.pages.PageMarkup.{IsSameMarkup, before, behind, both, each, on-drawing, on-summary}

module _ (f g : Show) (same : (bytes : List ℕ) → IsSameMarkup (f bytes) (g bytes)) (s u : Show)
    (alike-signs : (bytes : List ℕ) → IsSameMarkup (s bytes) (u bytes)) where
  on-head : (map : Sector) → IsSameMarkup (poster_head f s map) (poster_head g u map)
  unfolding poster_head
  on-head map =
      let name = disk_name map in
      behind poster_begin _ _
      (both (f name) (g name) _ _ (same name)
      (behind (codes "</title>\n<style>") _ _ (behind poster_style _ _ (behind dashes _ _
      (behind paper _ _
      (both (f name) (g name) _ _ (same name)
      (behind (codes "</text>\n<text class=\"told\" x=\"148.5\" y=\"33\"><tspan>") _ _
      (before (s name) (u name) _ (alike-signs name)))))))))

  on-told : (v : Verdict) (map : Sector) (l : Layout) → IsSameMarkup (poster_told f v map l) (poster_told g v map l)
  unfolding poster_told
  on-told v map l =
      let id = slice_range map 162 164 in
      let version = slice_range map 165 167 in
      let name = disk_name map in
      both (f id) (g id) _ _ (same id) (behind (codes " ") _ _ (both (f version) (g version) _ _ (same version)
      (behind (codes "</text>\n<text class=\"told\" x=\"148.5\" y=\"40\">") _ _
      (both _ _ _ _ (on-summary f g same v map l)
      (behind poster_drawing _ _
      (before (f name) (g name) _ (same name)))))))

  on-line : (n k : ℕ) (d : File) → IsSameMarkup (poster_line f s n k d) (poster_line g u n k d)
  unfolding poster_line
  on-line n k d =
      let name = name_of d.slot in
      behind (line_start n k) _ _
      (behind (codes "<text class=\"e\" x=\"10\" y=\"2.3\">") _ _
      (behind (decimal (count_field d.slot)) _ _ (behind (codes "</text><text x=\"11.5\" y=\"2.3\">") _ _
      (behind (type_text (codes "&lt;") (type_byte d.slot)) _ _ (behind (codes "</text><g transform=\"translate(19)\" clip-path=\"url(#n)\"><text y=\"2.3\">") _ _
      (both (f name) (g name) _ _ (same name) (behind (codes "</text></g><text x=\"41.5\" y=\"2.3\">") _ _
      (before (s name) (u name) _ (alike-signs name)))))))))

  pub on-poster : (v : Verdict) (map : Sector) (l : Layout)
      → IsSameMarkup (poster_text f s v map l) (poster_text g u v map l)
  unfolding poster_text
  on-poster v map l = both _ _ _ _ (on-head map) (both _ _ _ _ (on-told v map l)
      (both _ _ _ _ (on-drawing f g same v.found map l)
      (behind (poster_legend (legend_of v.found map l)) _ _
      (each (poster_line f s (length l.files)) (poster_line g u (length l.files)) (on-line (length l.files)) 0 l.files))))
