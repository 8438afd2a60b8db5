-- What a survey returns of a layout. Our own.
use Rattle.std.specs.Prelude.{
  ℕ,
  ◌≡◌,
  ◌≢◌,
  ◌≤◌,
  ◌↔◌,
  ◌+◌,
  ◌*◌,
  List,
  ◌∷◌,
  ◌++◌,
  Contains,
  Some,
  flat_map,
  length,
  slice_get,
}
use Rattle.std.specs.List.{AllByRecursion}
use Rattle.d64_image.specs.History.{History}
use Rattle.d64_image.specs.Images.{Image}
use Rattle.d64_image.specs.declared.place.Place.{Place}
use Rattle.disk_layout.specs.Chain.{EachOnce}
use Rattle.disk_layout.specs.Directory.{map_place}
use Rattle.disk_layout.specs.Layout.{File, IsFile, IsLayout, Layout, file_owns, owners}
use Rattle.layout_check.specs.Calls.{Passes}
use Rattle.layout_check.specs.Exact.{ToldOfFiles}
use Rattle.layout_check.specs.Owners.{owner_of}
use Rattle.layout_check.specs.declared.survey_outcome.Findings.{Findings}
use Rattle.layout_check.specs.declared.survey_outcome.Survey.{Survey}
use Rattle.layout_check.specs.declared.owners.Owners.{Owners}

-- the map, the directory and what these files own
abbrev pub taken : List Place → List File → List Place
taken dir fs = map_place ∷ (dir ++ flat_map file_owns fs)

-- the table gives each sector's owner: 255 for nobody, 254 for the map and the directory, k for the k-th file
pub record IsTable (t : Owners) (dir : List Place) (fs : List File) : Type 0 where
  pub owned : (p : Place) → (owner_of t p ≢ 255) ↔ Contains (taken dir fs) p
  pub system : (p : Place) → Contains (map_place ∷ dir) p → owner_of t p ≡ 254
  pub own : (k : ℕ) (f : File) (p : Place) → slice_get fs k ≡ Some f → Contains (file_owns f) p → owner_of t p ≡ k

-- these files are in the image, no place has two owners, and the table gives each its owner
pub record IsSurveyed (img : Image) (dir : List Place) (fs : List File) (t : Owners) : Type 0 where
  pub files : AllByRecursion (IsFile img) fs
  pub once : EachOnce (taken dir fs)
  pub table : IsTable t dir fs

-- the survey has the owners and the entries of this layout
pub record IsSurveyOf (l : Layout) (s : Survey) : Type 0 where
  pub table : IsTable s.owners l.directory l.files
  pub once : EachOnce (map_place ∷ owners l)
  pub entries : s.entries ≡ length l.files
  pub few : s.entries ≤ 144
  -- the directory is on track 18
  pub on_track : AllByRecursion (λ p. p.track ≡ 18) l.directory

-- how many entries it counts
abbrev pub entries_of : Survey → ℕ
entries_of s = s.entries

-- the image is sound, and the survey is of its layout
abbrev pub IsToldBy : Image → Survey → Type 0
IsToldBy img s = (l : Layout) × IsLayout img l × IsSurveyOf l s

-- a call that finds a layout of the image, reads each owned sector at most twice, and checks whether its relative files
-- are exact
abbrev pub Surveys : {D : Type 0} → History D → D → D → Findings → Type 0
Surveys S old new found = (l : Layout) × IsLayout (S.image old) l × IsSurveyOf l found.survey
    × ToldOfFiles (S.image old) l.files found.unclean × Passes S old new (18 + 2 * length (owners l))
