-- A run over a file, which is synced at the end. All of it is our own.
use Rattle.std.specs.Prelude.{◌≡◌, ◌≢◌, ◌⊎◌, ◌≤◌, List, ℕ, Err, IfErr, OnOk, Some, length, true}
use Rattle.d64_image.specs.Images.{Image}
use Rattle.image_file.specs.Durable.{AllStays}
use Rattle.image_file.specs.LastingImages.{image_of}
use Rattle.image_file.specs.ImageFile.{IsLoaded, KeepsOn, placed, placed_file}
use Rattle.image_file.specs.declared.durability.WritesAt.{Ghosts}
use Rattle.command_faults.specs.declared.faults.CommandFault.TheVariants as faults
use Rattle.image_file.specs.declared.sectors.ImageFile.{ImageFile}
use Rattle.opened_files.specs.Ends.{JobEnd}

-- A run that ended as `end` left such a file. Then the rest of what was written was synced, and `ended` is reported.
pub record IsFinished {F : Type 0} {G : Ghosts F} (end : JobEnd) (left last : ImageFile F G) (ended : JobEnd) : Type 0 where
  -- What is reported is how the run ended, or `Device` for a sync that failed. A run that was refused is reported as it
  -- ended.
  pub told : (ended ≡ end) ⊎ (ended ≡ Err faults.Device)
  pub refused : IfErr end (λ fault. fault ≢ faults.File → ended ≡ end)
  -- if `Device` is reported in place of that, the file failed
  pub blamed : (ended ≡ end) ⊎ (G.has_failed (placed_file last) ≡ true)
  pub failed : G.has_failed (placed_file left) ≡ true → G.has_failed (placed_file last) ≡ true
  pub same : G.held (placed_file last) ≡ G.held (placed_file left)
  pub reached : placed.reached left last
  -- nothing is asked of the file after a refusal, nor of a file that failed
  pub alone : IfErr end (λ fault. fault ≢ faults.File → last ≡ left)
  -- it changes nothing of what the file keeps, at no moment
  pub brought : KeepsOn left last
  -- if the run was done, or only the output failed, all that the file holds stays
  pub there : OnOk ended (AllStays G.held G.lasting (placed_file last))
  pub stands : IfErr ended (λ fault. fault ≡ faults.File → AllStays G.held G.lasting (placed_file last))

-- A run over the image of a file that was passed in, and which was left as `after`, ended so.
pub record IsDurableRun {F : Type 0} {G : Ghosts F} (image : List ℕ) (file after : F)
    (ended : JobEnd) (IsRun : ImageFile F G → ImageFile F G → JobEnd → Type 0) : Type 0 where
  -- the file with its sectors at their places, as the run took it up, as it left it, and at the end
  pub first : ImageFile F G
  pub left : ImageFile F G
  pub last : ImageFile F G
  pub taken : IsLoaded image file first
  -- how the run itself ended
  pub end : JobEnd
  pub run : IsRun first left end
  pub finished : IsFinished end left last ended
  pub is_after : placed_file last ≡ after
  -- if the file failed in the run, it says so
  pub counted : 1 ≤ placed.failures left → G.has_failed after ≡ true
  -- What such a file keeps at any time of the run is the image of the bytes that the file holds, if that is known whole.
  pub holds : length image ≡ 174848 → (now : ImageFile F G) → placed.reached first now
      → placed.kept now ≡ image_of (G.whole.lasting.bytes (placed_file now))
  -- What stays at the end is the image that the run left, if that is known.
  pub remains : AllStays G.held G.lasting after → (c : Image) → placed.kept left ≡ Some c
      → image_of (G.lasting after) ≡ Some c
