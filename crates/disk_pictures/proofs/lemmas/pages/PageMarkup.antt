-- The markup of a page is the same, however bytes of the disk are shown, where what is shown has the same markup.
use Rattle.std.proofs.Common.{◌≡◌, ◌+◌, ℕ, List, [], ◌∷◌, ◌++◌, Bool, true, false, length, refl, sym, ap₂, ◌∙◌}
use Rattle.std.specs.Prelude.{None, Option, Some, codes, decimal, if◌then◌else◌, slice_get, slice_range}
use Rattle.std.proofs.lemmas.List.Elements.{filter-append}
use Rattle.d64_image.specs.Images.{Sector}
use Rattle.d64_image.specs.declared.place.Place.{Place}
use Rattle.disk_layout.specs.Layout.{File, Layout, count_field}
use Rattle.disk_layout.specs.Texts.{place_text}
use Rattle.disk_layout.specs.declared.faults.Fault.{Fault}
use Rattle.disk_pictures.specs.Html.{Show}
use Rattle.disk_pictures.specs.Drawings.{owner_of}
use Rattle.disk_pictures.specs.Markup.{is_markup, markup_of}
use Rattle.damaged_files.specs.reached.Names.{disk_name, name_of}
use Rattle.disk_pictures.specs.Pictures.{block_arc, dashes, drawing_head, drawing_text, file_group, group_head, look}
use Rattle.disk_pictures.specs.Pictures.{is_blocks, is_sides, legend_text, link_text, own_block, own_side, page_head, page_text}
use Rattle.disk_pictures.specs.Pictures.{ring_of, row_text, side_arc, style, title_text, told_text, tracks, verdict_class}
use Rattle.disk_pictures.specs.Sentences.{also_text, fault_sentence, named, owner_named, owners_of, sentence_text}
use Rattle.disk_pictures.specs.Sentences.{shared_text, sound_text, summary_text}
use Rattle.disk_pictures.specs.Texts.{numbered, verdict_text}
use Rattle.disk_layout.specs.declared.faults.Fault.TheVariants as fault
use Rattle.disk_pictures.specs.declared.owners.Owner.{Owner}
use Rattle.disk_pictures.specs.declared.verdicts.Verdict.{Verdict}
use Rattle.disk_pictures.specs.declared.owners.Owner.TheVariants as owner

-- the two have the same markup
pub record IsSameMarkup (a b : List ℕ) : Type 0 where
  pub same : markup_of a ≡ markup_of b

pub alike : (a : List ℕ) → IsSameMarkup a a
alike a = record { same = refl }

pub both : (a b x y : List ℕ) → IsSameMarkup a b → IsSameMarkup x y → IsSameMarkup (a ++ x) (b ++ y)
both a b x y p q = record {
  same = filter-append is_markup a x ∙ ap₂ (λ (s t : List ℕ). s ++ t) p.same q.same ∙ sym (filter-append is_markup b y);
}

pub behind : (a x y : List ℕ) → IsSameMarkup x y → IsSameMarkup (a ++ x) (a ++ y)
behind a x y p = both a a x y (alike a) p

pub before : (a b x : List ℕ) → IsSameMarkup a b → IsSameMarkup (a ++ x) (b ++ x)
before a b x p = both a b x x p (alike x)

pub where-so : (t : Bool) (a b : List ℕ) → IsSameMarkup a b → IsSameMarkup (if t then a else []) (if t then b else [])
where-so true a b p = p
where-so false a b p = alike []

pub each : {X : Type 0} (f g : ℕ → X → List ℕ) → ((n : ℕ) (x : X) → IsSameMarkup (f n x) (g n x)) → (k : ℕ) (xs : List X)
    → IsSameMarkup (numbered f k xs) (numbered g k xs)
unfolding numbered
each f g same k [] = alike []
each f g same k (x ∷ xs) = both _ _ _ _ (same k x) (each f g same (k + 1) xs)

module _ (f g : Show) (same : (bytes : List ℕ) → IsSameMarkup (f bytes) (g bytes)) where
  on-block : (name : List ℕ) (o n : ℕ) (p : Place) → IsSameMarkup (block_arc f name o n p) (block_arc g name o n p)
  unfolding block_arc
  on-block name o n p =
      behind (ring_of p) _ _ (behind (codes "><title>") _ _ (behind (place_text p) _ _
      (behind (codes " ") _ _ (before (f name) (g name) _ (same name)))))

  on-side : (name : List ℕ) (j : ℕ) (p : Place) → IsSameMarkup (side_arc f name j p) (side_arc g name j p)
  unfolding side_arc
  on-side name j p =
      behind (ring_of p) _ _ (behind (codes " class=\"s\"><title>") _ _ (behind (place_text p) _ _
      (behind (codes " ") _ _ (before (f name) (g name) _ (same name)))))

  on-file : (l : Layout) (k : ℕ) (d : File) → IsSameMarkup (file_group f l k d) (file_group g l k d)
  unfolding file_group
  on-file l k d =
      let blocks = each (own_block f l k d) (own_block g l k d)
      (λ n p. where-so (is_blocks k (owner_of l p)) _ _ (on-block (name_of d.slot) (n + 1) (length d.blocks) p)) 0
      d.blocks in
      let sides = each (own_side f l k d) (own_side g l k d)
      (λ n p. where-so (is_sides k (owner_of l p)) _ _ (on-side (name_of d.slot) n p)) 0 d.sides in
      behind (group_head k) _ _ (both _ _ _ _ blocks (before _ _ (codes "</g>\n") sides))

  pub on-drawing : (v : Option Fault) (map : Sector) (l : Layout)
      → IsSameMarkup (drawing_text f v map l) (drawing_text g v map l)
  unfolding drawing_text
  on-drawing v map l = behind _ _ _ (before _ _ _ (each (file_group f l) (file_group g l) (on-file l) 0 l.files))

  on-named : (file : Option File) → IsSameMarkup (named f file) (named g file)
  on-named None = alike []
  on-named (Some d) = same (name_of d.slot)

  on-owner : (l : Layout) (o : Owner) → IsSameMarkup (owner_named f l o) (owner_named g l o)
  on-owner l owner.Map = alike (codes "the map")
  on-owner l owner.Directory = alike (codes "the directory")
  on-owner l (owner.Blocks k) = on-named (slice_get l.files k)
  on-owner l (owner.Sides k) = behind (codes "the side sectors of ") _ _ (on-named (slice_get l.files k))
  on-owner l owner.Nobody = alike []

  on-shared : (l : Layout) (p : Place) (a b : Option Owner)
      → IsSameMarkup (shared_text f l p a b) (shared_text g l p a b)
  on-shared l p (Some a) (Some b) =
      behind (codes "Sector ") _ _ (behind (place_text p) _ _ (behind (codes " belongs to ") _ _
      (both _ _ _ _ (on-owner l a) (behind (codes " and to ") _ _ (before _ _ (codes "; ") (on-owner l b))))))
  on-shared l p None b = alike (shared_text f l p None b)
  on-shared l p (Some a) None = alike (shared_text f l p (Some a) None)

  on-fault : (l : Layout) (v : Fault) → IsSameMarkup (fault_sentence f l v) (fault_sentence g l v)
  on-fault l (fault.OwnedTwice p) = on-shared l p (slice_get (owners_of l p) 0) (slice_get (owners_of l p) 1)
  on-fault l (fault.BadLink p) = alike _
  on-fault l (fault.Loop p) = alike _
  on-fault l (fault.BadType p) = alike _
  on-fault l (fault.Unclosed p) = alike _
  on-fault l (fault.BadSide p) = alike _
  on-fault l (fault.BadLength p) = alike _
  on-fault l (fault.CountWrong p) = alike _
  on-fault l (fault.MapWrong p) = alike _
  on-fault l (fault.Device p) = alike _

  on-sentence : (l : Layout) (v : Option Fault) (cut : Option Place)
      → IsSameMarkup (sentence_text f l v cut) (sentence_text g l v cut)
  on-sentence l None cut = alike (sound_text cut)
  on-sentence l (Some v) cut = before _ _ (also_text cut) (on-fault l v)

  pub on-summary : (v : Verdict) (map : Sector) (l : Layout)
      → IsSameMarkup (summary_text f v map l) (summary_text g v map l)
  unfolding summary_text
  on-summary v map l = before _ _ _ (on-sentence l v.found v.cut)

  pub on-told : (v : Verdict) (map : Sector) (l : Layout)
      → IsSameMarkup (told_text f v map l) (told_text g v map l)
  unfolding told_text
  on-told v map l =
      let id = slice_range map 162 164 in
      let version = slice_range map 165 167 in
      let name = disk_name map in
      both (f id) (g id) _ _ (same id) (behind (codes " ") _ _ (both (f version) (g version) _ _ (same version)
      (behind (codes "</p>\n<p class=\"") _ _ (behind (verdict_class v) _ _ (behind (codes "\"><b>") _ _
      (behind (verdict_text v) _ _ (behind (codes "</b> ") _ _ (both _ _ _ _ (on-summary v map l)
      (behind drawing_head _ _
      (before (f name) (g name) (codes "</text></svg>\n<g transform=\"rotate(-90)\" aria-hidden=\"true\">\n") (same name)))))))))))

-- the parts with names as a C64 shows them
module _ (f g : Show) (same : (bytes : List ℕ) → IsSameMarkup (f bytes) (g bytes)) (s u : Show)
    (alike-signs : (bytes : List ℕ) → IsSameMarkup (s bytes) (u bytes)) where
  pub on-title : (map : Sector) → IsSameMarkup (title_text f s map) (title_text g u map)
  unfolding title_text
  on-title map =
      let name = disk_name map in
      behind page_head _ _
      (both (f name) (g name) _ _ (same name)
      (behind (codes "</title>\n<style>") _ _ (behind style _ _ (behind dashes _ _ (behind (codes "</style>\n<h1>") _ _
      (both (f name) (g name) _ _ (same name)
      (behind (codes "<bdi>") _ _ (before (s name) (u name) _ (alike-signs name)))))))))

  pub on-link : (k : ℕ) (name : List ℕ) → IsSameMarkup (link_text f s k name) (link_text g u k name)
  unfolding link_text
  on-link k name =
      behind (codes "<a href=\"#f") _ _
      (behind (decimal k) _ _ (behind (codes "\">") _ _ (both (f name) (g name) _ _ (same name)
      (behind (codes "</a><bdi>") _ _ (before (s name) (u name) _ (alike-signs name))))))

  on-row : (k : ℕ) (d : File) → IsSameMarkup (row_text f s k d) (row_text g u k d)
  unfolding row_text
  on-row k d =
      behind (codes "<tr><td><i class=\"") _ _
      (behind (look k) _ _ (behind (codes "\"></i></td><td>") _ _
      (behind (decimal (count_field d.slot)) _ _ (behind (codes "</td><td>") _ _
      (before (link_text f s k (name_of d.slot)) (link_text g u k (name_of d.slot)) _ (on-link k (name_of d.slot)))))))

  pub on-page : (v : Verdict) (map : Sector) (l : Layout)
      → IsSameMarkup (page_text f s v map l) (page_text g u v map l)
  unfolding page_text
  on-page v map l = both _ _ _ _ (on-title map) (both _ _ _ _ (on-told f g same v map l)
      (both _ _ _ _ (on-drawing f g same v.found map l)
      (behind tracks _ _ (behind legend_text _ _ (before _ _ _ (each (row_text f s) (row_text g u) on-row 0 l.files))))))
