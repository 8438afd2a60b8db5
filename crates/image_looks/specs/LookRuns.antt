-- What a job that looks at images comes to over the bytes that the host says. Our own.
use Rattle.std.specs.Prelude.{◌≡◌, ◌⊎◌, ◌++◌, ℕ, List, Option, codes}
use Rattle.file_rescues.specs.declared.rescue.choices.Choice.{Choice}
use Rattle.image_file.specs.Remains.{Remains}
use Rattle.image_file.specs.paths.Rights.{Rights}
use Rattle.image_file.specs.paths.Standing.{Stands}
use Rattle.image_file.specs.paths.Traces.{Traces}
use Rattle.image_looks.specs.Comparisons.{IsComparingRun}
use Rattle.image_looks.specs.declared.descriptions.ImageForm.{ImageForm}
use Rattle.std.specs.Io.KnownBytes.{Appends}
use Rattle.image_looks.specs.Descriptions.{IsDescribedFrom, heading_of}
use Rattle.image_looks.specs.EachImage.{AreHandedOn, IsSeveralEnd, IsReadAt}
use Rattle.opened_files.specs.Ends.{JobEnd}
use Rattle.image_looks.specs.Extents.{extent_of, form_extent}
use Rattle.image_looks.specs.Extracts.{IsExtractedTo}
use Rattle.opened_files.specs.Extents.{taken_as}
use Rattle.opened_files.specs.HostFiles.{OfImage, RunEnds}
use Rattle.opened_files.specs.declared.extents.Extent.TheVariants.{Whole}
use Rattle.image_looks.specs.Looks.{IsLook}
use Rattle.image_looks.specs.Overviews.{IsOverviewOf}
use Rattle.image_looks.specs.SheetPages.{IsSheetPrinted}
use Rattle.image_looks.specs.declared.kinds.Look.{Look}

module _ {H W : Type 0} (rights : Rights H) (stands : H → List ℕ → Stands) (contents : W → Option (List ℕ)) (host : H) where
  -- a look at the image at a path ended so
  abbrev pub IsLookedAt : Look → List ℕ → W → W → JobEnd → Type 0
  IsLookedAt what path old new end = OfImage rights stands host path
      (λ all. RunEnds old new end (IsLook contents what (taken_as (extent_of what) all) old new end))

  -- two of them were compared
  abbrev pub IsComparedOver : List ℕ → List ℕ → W → W → JobEnd → Type 0
  IsComparedOver before after old new end = OfImage rights stands host before (λ first.
      OfImage rights stands host after (λ second. RunEnds old new end
      (IsComparingRun contents before (taken_as Whole first) after (taken_as Whole second) old new end)))

  -- the images at these paths were drawn on a sheet
  abbrev pub AreDrawnOnSheet : List (List ℕ) → W → W → JobEnd → Type 0
  AreDrawnOnSheet paths old new end =
      IsSeveralEnd (IsSheetPrinted (IsReadAt rights stands host Whole) contents paths old new) end

  -- each of them was described in this form, after its heading
  abbrev pub AreDescribed : ImageForm → List (List ℕ) → W → W → JobEnd → Type 0
  AreDescribed form paths old new end = IsSeveralEnd (λ greatest. (below : W)
      × Appends (contents old) (contents below) (heading_of form)
      × AreHandedOn (IsReadAt rights stands host (form_extent form)) (IsDescribedFrom contents form) contents paths below new greatest) end

  -- what is asked of each of them was printed after a name
  abbrev pub AreOverviewed : Look → List (List ℕ) → W → W → JobEnd → Type 0
  AreOverviewed what paths old new end =
      IsSeveralEnd (AreHandedOn (IsReadAt rights stands host (extent_of what)) (IsOverviewOf contents what) contents paths old new) end

module _ {H F W : Type 0} (rights : Rights H) (stands : H → List ℕ → Stands) (traces : Traces H F) (remains : Remains F)
    (contents : W → Option (List ℕ)) (host : H) where
  -- The files of the image at a path were made in a folder at another, whose path may have a slash at its end.
  abbrev pub IsExtractedFrom : Choice → (path folder : List ℕ) → W → W → JobEnd → Type 0
  IsExtractedFrom choice path folder old new end = OfImage rights stands host path
      (λ all. RunEnds old new end ((at : List ℕ) × ((folder ≡ at) ⊎ (folder ≡ at ++ codes "/"))
      × IsExtractedTo remains traces contents host choice at (taken_as Whole all) old new end))
