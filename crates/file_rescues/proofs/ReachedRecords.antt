-- What is known of the records that were printed of a disk, sound or not.
use Rattle.std.proofs.Common.{◌≡◌, ◌⊎◌, ◌∙◌, List, Option, ap, inl, inr, length, refl, subst, ℕ}
use Rattle.std.specs.Prelude.{MatchOption, None, Some, unwrap_or}
use Rattle.std.specs.Io.KnownBytes.{Appends}
use Rattle.damaged_files.specs.cut.Told.{IsToldOfDisk}
use Rattle.d64_image.specs.Images.{Image, IsImage}
use Rattle.d64_image.specs.Memory.{sectors_in}
use Rattle.d64_image.specs.declared.place.Place.{Place}
use Rattle.disk_layout.specs.Fault.{Holds, nowhere}
use Rattle.disk_layout.specs.Layout.{File, IsSound, record_length}
use Rattle.disk_layout.specs.Records.{records}
use Rattle.disk_layout.specs.declared.faults.Fault.{Fault}
use Rattle.disk_layout.specs.declared.slot.Slot.{Slot}
use Rattle.command_faults.proofs.Loads.{by-load}
use Rattle.command_faults.specs.Faults.{IsLoadFault}
use Rattle.command_faults.specs.Outputs.{HandsPart}
use Rattle.command_faults.specs.declared.faults.CommandFault.{CommandFault}
use Rattle.command_faults.specs.declared.faults.CommandFault.TheVariants as faults
use Rattle.file_rescues.proofs.SoundRecords.{had-file, none-had}
use Rattle.file_rescues.specs.Bytes.{file_bytes}
use Rattle.file_rescues.specs.Faults.{keep_none}
use Rattle.file_rescues.specs.Forms.{records_as}
use Rattle.file_rescues.specs.Found.{HasNone, IsHad}
use Rattle.file_rescues.specs.Printed.{AreRecordsTaken, IsRecordsFault, IsRecordsPart}
use Rattle.file_rescues.specs.Records.{IsReachedFile, IsRecordFile, records_of}
use Rattle.file_rescues.specs.declared.finding.Candidates.TheVariants.{Closed}
use Rattle.file_rescues.specs.declared.finding.Kind.TheVariants.{Records}
use Rattle.file_rescues.specs.declared.forms.RecordForm.{RecordForm}

module _ {W : Type 0} (contents : W → Option (List ℕ)) (form : RecordForm) (image name : List ℕ) (old : W) where
  -- what an image has wrong that isn't loaded
  pub records-unloaded : (fault : CommandFault) → IsLoadFault image fault
      → IsRecordsFault contents form image name old old fault
  records-unloaded = by-load image (IsRecordsFault contents form image name old old)
      (λ told. (told, refl)) (λ told. (told, refl))

  -- the disk is that of the image, and sound, or has this fault first
  module _ (img : Image) (loaded : (length image ≡ 174848) × (img ≡ sectors_in image)) (whole : IsImage img)
      (first : Option Fault) (judged : MatchOption first (IsSound img) (Holds nowhere img)) (second : Image)
      (same : second ≡ img) where
    at : (P : Image → Type 0) → P second → P (sectors_in image)
    at P holds = subst P (same ∙ loaded.1) holds

    pub none-found : (ended : Option Fault) → HasNone second (Records Closed) name ended
        → IsRecordsFault contents form image name old old (keep_none first)
    none-found ended none = by first judged
      where
        none-here : HasNone (sectors_in image) (Records Closed) name ended
        none-here = at (λ i. HasNone i (Records Closed) name ended) none

        by : (f : Option Fault) → MatchOption f (IsSound img) (Holds nowhere img)
            → IsRecordsFault contents form image name old old (keep_none f)
        by None sound =
            let (l, is) = subst IsSound loaded.1 sound in (
              record { size = loaded.0; layout = l; is_layout = is; none = none-had _ l is name ended none-here },
              refl,
            )
        by (Some fault) holds = (
          loaded.0,
          inl (record { holds = rw loaded.1 at holds; ended = ended; none = none-here }, refl),
        )

    -- this was found, and these bytes are read of it
    module _ (new : W) (n : ℕ) (s : Slot) (blocks : List Place) (last : ℕ) (own : Option Fault)
        (had : IsHad second (Records Closed) name n s blocks last own)
        (ps : List Place) (are : ps ≡ blocks) where
      here : IsHad (sectors_in image) (Records Closed) name n s blocks last own
      here = at (λ i. IsHad i (Records Closed) name n s blocks last own) had

      abbrev text : List ℕ
      text = records_as form (records_of (record_length s) (file_bytes second ps last))

      text-is : text ≡ records_as form (records_of (record_length s) (file_bytes (sectors_in image) blocks last))
      text-is =
          ap (λ (i : Image). records_as form (records_of (record_length s) (file_bytes i ps last)))
          (same ∙ loaded.1)
          ∙ ap (λ (qs : List Place). records_as form (records_of (record_length s) (file_bytes (sectors_in image) qs last)))
          are

      sound-file : IsSound img → (f : File) × (is : IsRecordFile image name f) × (is.number ≡ n)
          × (text ≡ records_as form (records (sectors_in image) f))
      sound-file sound =
          let (l, is) = subst IsSound loaded.1 sound in
          let (f, is_first, all) =
          had-file (sectors_in image) l is name n s blocks last own (subst IsImage loaded.1 whole) here in (
            f,
            record { size = loaded.0; layout = l; is_layout = is; number = n; first = is_first },
            refl,
            text-is ∙ ap (records_as form) all,
          )

      abbrev reached-file : (fault : Fault) → Holds nowhere img fault → (told : Fault) → told ≡ unwrap_or own fault
          → IsReachedFile (sectors_in image) name told
      reached-file fault holds told is = record {
        first = fault;
        holds = rw loaded.1 at holds;
        number = n;
        slot = s;
        blocks = blocks;
        last = last;
        own = own;
        had = here;
        fault_is = is;
      }

      -- the output failed, or there was no memory
      pub put-failed : (why : CommandFault) → (why ≡ faults.File) ⊎ ((why ≡ faults.NoMemory) × (new ≡ old))
          → IsRecordsFault contents form image name old new why
      put-failed why (inr (is, unprinted)) = rw is (loaded.0, unprinted)
      put-failed why (inl is) = rw is (by first judged)
        where
          by : (f : Option Fault) → MatchOption f (IsSound img) (Holds nowhere img)
              → IsRecordsFault contents form image name old new faults.File
          by None sound = let file = sound-file sound in inl (file.0, file.1)
          by (Some fault) holds = inr (loaded.0, unwrap_or own fault, reached-file fault holds _ refl)

      pub printed-part : HandsPart (contents old) (contents new) text → IsRecordsPart contents form image name old new
      printed-part part = by first judged
        where
          by : (f : Option Fault) → MatchOption f (IsSound img) (Holds nowhere img)
              → IsRecordsPart contents form image name old new
          by None sound = let file = sound-file sound in inl (file.0, file.1, rw file.3 at part)
          by (Some fault) holds =
              inr (inr (unwrap_or own fault, reached-file fault holds _ refl, rw text-is at part))

      -- all of them were printed
      pub taken : (cut : Option Place) → IsSound img → IsToldOfDisk second (Some n) cut
          → Appends (contents old) (contents new) text → AreRecordsTaken contents form image name old new cut
      taken cut sound told printed = let file = sound-file sound in (
        record { file = file.0; is_file = file.1; printed = rw file.3 at printed },
        rw file.2 (rw (same ∙ loaded.1) at told),
      )

      pub reached : (fault told : Fault) → Holds nowhere img fault → told ≡ unwrap_or own fault
          → Appends (contents old) (contents new) text
          → IsRecordsFault contents form image name old new (faults.Layout told)
      reached fault told holds is printed = (
        loaded.0,
        inr (record { file = reached-file fault holds told is; printed = rw text-is at printed }),
      )
