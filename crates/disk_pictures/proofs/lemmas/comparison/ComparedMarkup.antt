-- The markup of a comparison is the same, however bytes of the disks are shown, where what is shown has the same markup.
use Rattle.std.proofs.Common.{ℕ, List, []}
use Rattle.std.specs.Prelude.{◌||◌, Option, None, Some, codes}
use Rattle.d64_image.specs.Images.{Image}
use Rattle.disk_layout.specs.Layout.{File}
use Rattle.disk_pictures.specs.ComparedPages.{changes_text, compared_head, compared_text, comparison_text, difference_row}
use Rattle.disk_pictures.specs.ComparedPages.{entry_head, entry_row, former_row, gone_by, gone_row, marks_text, row_by}
use Rattle.disk_pictures.specs.ComparedPages.{parts_text, row_end}
use Rattle.disk_pictures.specs.Comparisons.{Disk, are_bytes_changed, are_sectors_changed, counterpart, is_entry_changed}
use Rattle.disk_pictures.specs.Html.{Show}
use Rattle.damaged_files.specs.reached.Names.{disk_name, name_of}
use Rattle.disk_pictures.specs.Pictures.{look, tracks}
use Rattle.disk_pictures.proofs.lemmas.pages.PageMarkup.{IsSameMarkup, alike, before, behind, both, each, on-drawing, on-link, on-title}
use Rattle.disk_pictures.proofs.lemmas.pages.PageMarkup.{on-told, where-so}

module _ (f g : Show) (same : (bytes : List ℕ) → IsSameMarkup (f bytes) (g bytes)) (s u : Show)
    (alike-signs : (bytes : List ℕ) → IsSameMarkup (s bytes) (u bytes)) where
  on-compared : (a b : Disk) → IsSameMarkup (compared_text f a b) (compared_text g a b)
  unfolding compared_text
  on-compared a b =
      behind tracks _ _ (behind compared_head _ _ (both (f b.path) (g b.path) _ _ (same b.path)
      (behind (codes "</b> compared with <b>") _ _
      (both (f a.path) (g a.path) _ _ (same a.path) (behind (codes "</b>, ") _ _
      (before (f (disk_name a.map)) (g (disk_name a.map)) _ (same (disk_name a.map))))))))

  on-head : (k : ℕ) (d : File) (state parts : List ℕ)
      → IsSameMarkup (entry_head f s k d state parts) (entry_head g u k d state parts)
  unfolding entry_head
  on-head k d state parts =
      behind (codes "<tr><td><i class=\"") _ _ (behind (look k) _ _ (behind (codes "\"></i></td><td>") _ _
      (behind state _ _ (behind (codes "</td><td>") _ _ (before _ _ _ (on-link f g same s u alike-signs k (name_of d.slot)))))))

  on-difference : (a b : Image) (k : ℕ) (e d : File)
      → IsSameMarkup (difference_row f s a b k e d) (difference_row g u a b k e d)
  unfolding difference_row
  on-difference a b k e d = before _ _ _ (on-head k d (codes "changed")
      (parts_text (is_entry_changed e d) (are_sectors_changed a b d) (are_bytes_changed a b e d)))

  on-row : (a b : Image) (k : ℕ) (d : File) (o : Option File) → IsSameMarkup (row_by f s a b k d o) (row_by g u a b k d o)
  on-row a b k d None = before _ _ row_end (on-head k d (codes "new") [])
  on-row a b k d (Some e) = where-so (is_entry_changed e d || are_sectors_changed a b d) _ _ (on-difference a b k e d)

  on-entry : (a b : Disk) (k : ℕ) (d : File) → IsSameMarkup (entry_row f s a b k d) (entry_row g u a b k d)
  unfolding entry_row
  on-entry a b k d = on-row a.image b.image k d (counterpart a.layout.files b.layout.files k d)

  on-gone : (d : File) (o : Option File) → IsSameMarkup (gone_by f s d o) (gone_by g u d o)
  unfolding gone_row
  on-gone d None =
      let name = name_of d.slot in
      behind (codes "<tr><td></td><td>gone</td><td>") _ _ (both (f name) (g name) _ _ (same name)
      (behind (codes "<bdi>") _ _ (before (s name) (u name) _ (alike-signs name))))
  on-gone d (Some e) = alike []

  on-former : (a b : Disk) (k : ℕ) (d : File) → IsSameMarkup (former_row f s a b k d) (former_row g u a b k d)
  unfolding former_row
  on-former a b k d = on-gone d (counterpart b.layout.files a.layout.files k d)

  on-changes : (a b : Disk) → IsSameMarkup (changes_text f s a b) (changes_text g u a b)
  unfolding changes_text
  on-changes a b = both _ _ _ _ (each (entry_row f s a b) (entry_row g u a b) (on-entry a b) 0 b.layout.files)
      (each (former_row f s a b) (former_row g u a b) (on-former a b) 0 a.layout.files)

  pub on-comparison : (a b : Disk) → IsSameMarkup (comparison_text f s a b) (comparison_text g u a b)
  unfolding comparison_text
  on-comparison a b = both _ _ _ _ (on-title f g same s u alike-signs b.map)
      (both _ _ _ _ (on-told f g same b.verdict b.map b.layout) (both _ _ _ _ (on-drawing f g same b.verdict.found b.map b.layout)
      (behind (marks_text a.image b.image) _ _ (both _ _ _ _ (on-compared a b) (before _ _ _ (on-changes a b))))))
