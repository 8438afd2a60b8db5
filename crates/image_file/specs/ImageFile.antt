-- A file that keeps the sectors of a disk at their places. Our own.
use Rattle.std.specs.Prelude.{◌≡◌, ◌≤◌, ℕ, List, Result, OnErr, OnOk, Some, length, true}
use Rattle.std.proofs.Common.{◌∙◌, arith, le_refl, refl}
use Rattle.d64_image.specs.Keeps.{Agrees, Keeps, KeptOnly}
use Rattle.d64_image.specs.Memory.{sectors_in}
use Rattle.image_file.specs.Durable.{AllStays}
use Rattle.image_file.specs.Lasting.{Lasting, seen}
use Rattle.image_file.specs.LastingImages.{image_of, now_image, only_now_image, stayed_image, whole_image}
use Rattle.image_file.specs.declared.durability.WritesAt.{Ghosts}
use Rattle.image_file.specs.declared.sectors.ImageFile.{ImageFile}

module _ {F : Type 0} {G : Ghosts F} where
  -- the file
  abbrev pub placed_file : ImageFile F G → F
  placed_file p = p.file

  -- the bytes of its file that are looked at
  abbrev pub seen_of : ImageFile F G → Lasting F
  seen_of p = seen G.whole.lasting p.sized

  -- The counts only grow, and it is an image's file as before.
  pub record GrowsOn (old new : ImageFile F G) : Type 0 where
    pub taken : old.taken ≤ new.taken
    pub failed : old.failed ≤ new.failed
    pub sized : new.sized ≡ old.sized

  -- Such a file keeps what an image's file holds whole: a sector that it took in part would be neither the old one nor the
  -- new.
  abbrev pub placed : Keeps (ImageFile F G)
  placed = record {
    kept = λ p. image_of ((seen_of p).bytes p.file);
    moment = λ p. (seen_of p).moment p.file;
    held = λ p t c. stayed_image (seen_of p) p.file t c;
    writes = λ p. p.taken;
    failures = λ p. p.failed;
    last = 18446744073709551615;
    whole = λ p c e. whole_image (seen_of p) p.file c e;
    now = λ p t le c e. now_image (seen_of p) p.file t le c e;
    only_now = λ p c h. only_now_image (seen_of p) p.file c h;
    up_to_last = λ p. p.fits;
    reached = GrowsOn;
    reached_same = λ p. record {
      taken = le_refl p.taken;
      failed = le_refl p.failed;
      sized = refl;
    };
    reached_then = λ a b c x y. record {
      taken = omega (arith, x.taken, y.taken);
      failed = omega (arith, x.failed, y.failed);
      sized = y.sized ∙ x.sized;
    };
  }

  -- It keeps what it kept, and kept nothing else in between.
  pub record KeepsOn (old new : ImageFile F G) : Type 0 where
    pub kept : placed.kept new ≡ placed.kept old
    pub only : KeptOnly placed old new (λ c. placed.kept old ≡ Some c)

  -- The file of an image with these bytes was taken up: it took no sector, and hasn't failed. It keeps what it holds, if
  -- that is known whole.
  pub record IsLoaded (image : List ℕ) (file : F) (p : ImageFile F G) : Type 0 where
    pub is_file : placed_file p ≡ file
    pub untaken : placed.writes p ≡ 0
    pub unfailed : placed.failures p ≡ 0
    pub sized : length image ≡ 174848 → p.sized ≡ true
    pub agrees : Agrees (placed.kept p) (sectors_in image)

  -- All that was written was synced.
  pub record BringsAll {E : Type 0} (old new : ImageFile F G) (result : Result Unit E) : Type 0 where
    pub lasting : OnOk result (AllStays G.held G.lasting (placed_file new))
    -- an error is returned only if the file failed
    pub failed : OnErr result (G.has_failed (placed_file new) ≡ true)
    pub passed : OnOk result (G.has_failed (placed_file new) ≡ G.has_failed (placed_file old))
    pub same : G.held (placed_file new) ≡ G.held (placed_file old)
    pub reached : placed.reached old new
    pub kept : KeepsOn old new
