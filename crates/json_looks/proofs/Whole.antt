-- What is printed of a whole image, and why it isn't.
use Rattle.std.proofs.Common.{◌≡◌, ◌∙◌, List, Option, ap, ap₂, subst, ℕ}
use Rattle.disk_layout.specs.declared.faults.Fault.{Fault}
use Rattle.std.specs.Prelude.{◌≢◌, MatchResult, Result, Ok, Err, take, if◌then◌else◌, length, true}
use Rattle.d64_image.specs.Memory.{sectors_in}
use Rattle.damaged_files.specs.reached.Sizes.{IsImageSize, disk_of, is_image_size}
use Rattle.disk_layout.specs.Fault.{HoldsOfDirectory, nowhere}
use Rattle.disk_layout.specs.Layout.{Layout}
use Rattle.disk_pictures.specs.Drawings.{IsDrawn}
use Rattle.disk_pictures.specs.Held.{drawn_in}
use Rattle.disk_pictures.specs.Missing.{IsDrawnOf}
use Rattle.disk_pictures.specs.declared.drawing.Drawing.{Drawing}
use Rattle.disk_pictures.specs.Outcomes.{IsDrawnAndJudged, IsPictureFault}
use Rattle.disk_pictures.specs.declared.verdicts.Verdict.{Verdict}
use Rattle.command_faults.specs.declared.faults.CommandFault.{CommandFault}
use Rattle.command_faults.specs.declared.faults.CommandFault.TheVariants as faults
use Rattle.json_looks.specs.Checks.{drawn_if, early_with, late_with}
use Rattle.d64_image.specs.declared.place.Place.{Place}
use Rattle.json_looks.specs.Objects.{IsObjectFault}
use Rattle.json_looks.specs.SectorMaps.{map_with}
use Rattle.serde_json.specs.Data.{Data}

-- an image that was drawn isn't printed only for memory or the output
pub drawn-why : (disk : List ℕ) (l : Layout) (v : Verdict) → IsDrawnAndJudged disk l v → (fault : CommandFault) → IsObjectFault fault
    → IsPictureFault disk fault
drawn-why disk l v judged faults.File why = (l, v, judged)
drawn-why disk l v judged faults.NoMemory why = judged.size
drawn-why disk l v judged _ why = absurd why

-- a map with the same members is the same
pub map-same : (name : List ℕ) (beyond files sectors gone those places : List Data) (short cut : Data) (found : Option Fault)
    → beyond ≡ gone → files ≡ those → sectors ≡ places → short ≡ cut
    → map_with name beyond files sectors short found ≡ map_with name gone those places cut found
map-same name beyond files sectors gone those places short cut found at of on is =
    ap₂ (λ (b f : List Data). map_with name b f sectors short found) at of
    ∙ ap₂ (λ (s : List Data) (d : Data). map_with name gone those s d found) on is

-- and so is a check
pub check-same : (disk id name sha1 sha256 verdict : List ℕ) (free size : ℕ) (place : Option Place)
    (beyond errors names gone unread those : List Data) (fewer short less cut : Data)
    → beyond ≡ gone → errors ≡ unread → names ≡ those → fewer ≡ less → short ≡ cut
    → early_with disk id free beyond errors names fewer (late_with name sha1 sha256 verdict size place short)
    ≡ early_with disk id free gone unread those less (late_with name sha1 sha256 verdict size place cut)
check-same disk id name sha1 sha256 verdict free size place beyond errors names gone unread those fewer short less cut at unreads of is ends =
    ap₂ (λ (b e : List Data). early_with disk id free b e names fewer (late_with name sha1 sha256 verdict size place short)) at unreads
    ∙ ap₂ (λ (n : List Data) (f : Data). early_with disk id free gone unread n f (late_with name sha1 sha256 verdict size place short)) of is
    ∙ ap (λ (s : Data). early_with disk id free gone unread those less (late_with name sha1 sha256 verdict size place s)) ends

-- the disk in an image of one of the six sizes is its first tracks
pub first-tracks : (image : List ℕ) → IsImageSize (length image) → disk_of image ≡ take 174848 image
first-tracks image sized = ap (λ b. if b then take 174848 image else image) sized

-- what is drawn of the first tracks is drawn of the image
pub drawn-beside : (image tracks : List ℕ) → tracks ≡ take 174848 image → (drawn : Result Drawing Fault)
    → MatchResult drawn (λ drawing. IsDrawn (sectors_in tracks) (drawn_in drawing)) (HoldsOfDirectory nowhere (sectors_in tracks))
    → IsDrawnOf image (drawn_if drawn)
drawn-beside image tracks is (Ok drawing) told = subst (λ (ts : List ℕ). IsDrawn (sectors_in ts) (drawn_in drawing)) is told
drawn-beside image tracks is (Err fault) told =
    (fault, subst (λ (ts : List ℕ). HoldsOfDirectory nowhere (sectors_in ts) fault) is told)
