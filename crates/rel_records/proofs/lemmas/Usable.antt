-- Of disks that can be used.
use Rattle.std.proofs.Common.{◌≡◌, ◌∙◌, ℕ, [], ◌∷◌, ◌++◌, List, IsTrue, length, slice_index, subst, sym}
use Rattle.std.specs.Prelude.{Contains, Some, flat_map, slice_get}
use Rattle.d64_image.specs.Images.{Image, Sector, put}
use Rattle.d64_image.specs.declared.place.Place.{Place}
use Rattle.disk_layout.proofs.lemmas.layouts.Agree.{owned-by_files}
use Rattle.disk_layout.proofs.lemmas.layouts.Frames.{IsLayout-put_block, all_blocks, block-no_side, block-owned}
use Rattle.disk_layout.proofs.lemmas.layouts.Frames.{unless-same}
use Rattle.disk_layout.proofs.lemmas.layouts.Layouts.{IsLayout-one, get-contains}
use Rattle.disk_layout.proofs.lemmas.layouts.Unclean.{clean-of}
use Rattle.disk_layout.proofs.lemmas.lists.Lists.{all-map}
use Rattle.disk_layout.proofs.lemmas.lists.Once.{EachOnce-right, all-in, flat_map-in}
use Rattle.disk_layout.proofs.lemmas.whole.Files.{AreExact}
use Rattle.disk_layout.specs.Chain.{byte}
use Rattle.disk_layout.specs.Clean.{IsClean, IsCleanLayout}
use Rattle.disk_layout.specs.Directory.{map_place}
use Rattle.disk_layout.specs.Layout.{File, IsLayout, Layout, file_owns, is_rel, owners}
use Rattle.disk_layout.specs.Map.{IsMapOf}
use Rattle.layout_check.specs.Keeping.{IsCleanBut}
use Rattle.rel_records.specs.Usable.{IsAsClean, IsUsable, IsUsableLayout, StaysClean}

-- the layout of such an image is that one
pub usable-of : (img : Image) (l : Layout) → IsLayout img l → IsUsable img → IsUsableLayout img l
usable-of img l h (m, (strays, k)) =
    let P : Layout → Type 0 = IsUsableLayout img in subst P (IsLayout-one img m l k.layout h) (strays, k)

-- a clean image has no such sectors
pub but-none : (img : Image) (l : Layout) → IsCleanLayout img l → IsCleanBut [] img l
but-none img l k = record { layout = k.layout; files = k.files; map = k.map }

pub clean-usable : (img : Image) → IsClean img → IsUsable img
clean-usable img (l, k) = (l, ([], but-none img l k))

pub stays-clean : (a c : Image) (l m : Layout) → StaysClean a l c m → IsCleanLayout a l → IsCleanLayout c m
stays-clean a c l m stays k = let now = stays [] (but-none a l k) in
    record { layout = now.layout; files = now.files; map = now.map }

-- what a clean image becomes is clean, and what a usable one becomes is usable, if it stays as clean as it was
pub clean-then : (a c : Image) (l m : Layout) → IsLayout a l → IsClean a → StaysClean a l c m → IsClean c
clean-then a c l m is clean stays = (m, stays-clean a c l m stays (clean-of a l is clean))

pub still-usable : (a c : Image) (l m : Layout) → IsLayout a l → IsUsable a → StaysClean a l c m → IsUsable c
still-usable a c l m is usable stays =
    let (strays, clean) = usable-of a l is usable in
    (m, (strays, stays strays clean))

-- one change after another
pub as-clean-then : (a b c : Image) (l m : Layout) → StaysClean a l b m → IsAsClean b m c → IsAsClean a l c
as-clean-then a b c l m first (k, second) = (k, λ strays clean. second strays (first strays clean))

-- its relative files have exact side sectors
pub exact-but : {strays : List Place} (img : Image) (l : Layout) (k : ℕ) (f : File) → IsCleanBut strays img l
    → slice_get l.files k ≡ Some f → IsTrue (is_rel f.slot) → AreExact img f
exact-but img l k f clean at rel j q there =
    (all-in _ l.files f clean.files (get-contains l.files k f at) rel).sides j q there

-- a write to a data block that keeps its link leaves an image as clean as it was
pub put_block-stays : (img : Image) (l : Layout) (p : Place) (b : Sector) → length img ≡ 683
    → Contains (all_blocks l.files) p → slice_index b 0 ≡ byte img p 0 → slice_index b 1 ≡ byte img p 1
    → StaysClean img l (put img p b) l
unfolding owners
put_block-stays img l p b full own e0 e1 strays k =
    let once = k.layout.once in
    let map = unless-same img p map_place b (λ e. once.0 (rw (← e) (owned-by_files l p (block-owned l.files p own)))) in
    record {
      layout = IsLayout-put_block img l p b full own e0 e1 k.layout;
      files = all-map _ _ l.files (λ f c h t. record {
        sides = λ j q at. sym (unless-same img p q b
            (λ e. block-no_side l.files (EachOnce-right l.directory (flat_map file_owns l.files) once.1) p own
            (rw e (flat_map-in (λ (g : File). g.sides) l.files f q c (get-contains f.sides j q at))))) ∙ (h t).sides j q at;
        count = (h t).count;
      }) k.files;
      map = subst (λ (s : Sector). IsMapOf s (strays ++ map_place ∷ owners l)) map k.map;
    }
