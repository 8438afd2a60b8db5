-- The markup of a tile is the same, however bytes of the disk and of its path are shown, where what is shown has the same
-- markup.
use Rattle.std.proofs.Common.{ℕ, List}
use Rattle.std.specs.Prelude.{codes}
use Rattle.d64_image.specs.Images.{Sector}
use Rattle.disk_layout.specs.Layout.{Layout}
use Rattle.disk_pictures.specs.Html.{Show}
use Rattle.damaged_files.specs.reached.Names.{disk_name}
use Rattle.disk_pictures.specs.Sheets.{caption, refused_head, refused_tile, small_drawing, tile_head, tile_text}
use Rattle.disk_pictures.specs.declared.verdicts.Verdict.{Verdict}
use Rattle.disk_pictures.proofs.lemmas.pages.PageMarkup.{IsSameMarkup, before, behind, both}

module _ (f g : Show) (same : (bytes : List ℕ) → IsSameMarkup (f bytes) (g bytes)) where
  pub on-refused : (path told : List ℕ) → IsSameMarkup (refused_tile f path told) (refused_tile g path told)
  unfolding refused_tile refused_head
  on-refused path told =
      before (refused_head f path) (refused_head g path) _
      (behind (codes "<figure class=\"bad\"><figcaption><code>") _ _ (before (f path) (g path) _ (same path)))

  module _ (s u : Show) (alike-signs : (bytes : List ℕ) → IsSameMarkup (s bytes) (u bytes)) where
    on-caption : (path : List ℕ) (v : Verdict) (map : Sector)
        → IsSameMarkup (caption f s path v map) (caption g u path v map)
    unfolding caption
    on-caption path v map =
        let name = disk_name map in
        behind (codes "</svg><figcaption><code>") _ _ (both (f path) (g path) _ _ (same path)
        (behind (codes "</code> <span>") _ _ (both (f name) (g name) _ _ (same name)
        (behind (codes "<bdi>") _ _ (before (s name) (u name) _ (alike-signs name))))))

    pub on-tile : (path : List ℕ) (v : Verdict) (map : Sector) (l : Layout)
        → IsSameMarkup (tile_text f s path v map l) (tile_text g u path v map l)
    unfolding tile_text
    on-tile path v map l = behind (tile_head v) _ _ (behind (small_drawing v.found map l) _ _ (on-caption path v map))
