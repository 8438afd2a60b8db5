-- What making an image leaves of a file that is written and sought. Our own.
use Rattle.std.specs.Prelude.{◌≡◌, ◌≢◌, ◌⊎◌, ℕ, length, List, [], ◌∷◌, ◌++◌, Option, None, Some, Result, Ok, Err, codes, drop, replicate, take}
use Rattle.std.specs.Io.KnownBytes.{Appends, Keeps}
use Rattle.std.specs.Io.Seek.{StaysAt}
use Rattle.d64_image.specs.Mirrors.{IsHanded, IsSought}
use Rattle.line_text.specs.Handed.{AppendsPart}
use Rattle.command_faults.specs.declared.faults.CommandFault.{CommandFault}
use Rattle.command_faults.specs.declared.faults.CommandFault.TheVariants as faults
use Rattle.image_file.specs.Remains.{put_in}

-- Bytes, and where they go in a file.
pub record Piece : Type 0 where
  pub at : ℕ
  pub bytes : List ℕ

-- the writes of an image: 18/1, where a directory begins, is spoiled first and written last
abbrev pub image_writes : List ℕ → List Piece
image_writes image =
    record { at = 91648; bytes = replicate 256 255 }
    ∷ record { at = 0; bytes = take 91648 image }
    ∷ record { at = 91904; bytes = drop 91904 image }
    ∷ record { at = 91648; bytes = take 256 (drop 91648 image) }
    ∷ []

module _ {F : Type 0} (position : F → Option ℕ) (bytes contents : F → Option (List ℕ)) where
  -- a file was sought to n and handed a prefix of these bytes, or all; or the seek failed, and it stayed
  abbrev pub IsHandedPart : F → F → ℕ → List ℕ → Type 0
  IsHandedPart old new n handed =
      (StaysAt (position old) (position new) × Keeps (bytes old) (bytes new))
      ⊎ ((ready : F) × IsSought position bytes old ready n × AppendsPart (contents ready) (contents new) handed)

  -- a file was handed these pieces one after another, each at its place, and nothing else
  abbrev pub AreWritten : F → F → List Piece → Type 0
  AreWritten old new [] = new ≡ old
  AreWritten old new (p ∷ ps) =
      (next : F) × IsHanded position bytes contents None old next p.at p.bytes × AreWritten next new ps

  -- a file was handed the first of these pieces, the last of them perhaps in part, and nothing else
  abbrev pub AreWrittenInPart : F → F → List Piece → Type 0
  AreWrittenInPart old new [] = ⊥
  AreWrittenInPart old new (p ∷ ps) =
      IsHandedPart old new p.at p.bytes
      ⊎ ((next : F) × IsHanded position bytes contents None old next p.at p.bytes × AreWrittenInPart next new ps)

  -- what writing these pieces came to
  abbrev pub IsWriting : F → F → List Piece → Result Unit CommandFault → Type 0
  IsWriting old new ps (Ok _) = AreWritten old new ps
  IsWriting old new ps (Err fault) = (fault ≡ faults.File) × AreWrittenInPart old new ps

  -- This is what a file holds: bytes that it is handed at n stand there, in the place of those from n on.
  abbrev pub SaysWhatItHolds : (F → Option (List ℕ)) → Type 0
  SaysWhatItHolds held = (old new : F) (n : ℕ) (handed all : List ℕ)
      → IsHanded position bytes contents None old new n handed → held old ≡ Some all → held new ≡ Some (put_in all n handed)

  -- An image of which this holds was written over a file. If it is known what the file held, it holds the image now, and
  -- after it what it held after as many bytes: writing doesn't end a file.
  pub record IsImageWritten (Is : List ℕ → Type 0) (old new : F) : Type 0 where
    pub image : List ℕ
    pub is : Is image
    pub written : AreWritten old new (image_writes image)
    pub holds : (held : F → Option (List ℕ)) → SaysWhatItHolds held → (all : List ℕ) → held old ≡ Some all
        → held new ≡ Some (image ++ drop 174848 all)

  -- a prefix of its writes was done
  pub record IsImageBegun (Is : List ℕ → Type 0) (old new : F) : Type 0 where
    pub image : List ℕ
    pub is : Is image
    pub written : AreWrittenInPart old new (image_writes image)

  -- An image was written over a file. If it is known what the file held, it holds the image now, and after it what it
  -- held after as many bytes.
  pub record IsImageHanded (image : List ℕ) (old new : F) : Type 0 where
    pub written : AreWritten old new (image_writes image)
    pub holds : (held : F → Option (List ℕ)) → SaysWhatItHolds held → (all : List ℕ) → held old ≡ Some all
        → held new ≡ Some (image ++ drop 174848 all)

  -- what copying an image and printing that came to. All of it was written, and the message was printed; or it has
  -- another size, and nothing was done. Or the file failed, and nothing was printed; or the output failed
  abbrev pub IsImageCopied : {W : Type 0} → (W → Option (List ℕ)) → (image : List ℕ) → F → F → W → W
      → Result Unit CommandFault → Type 0
  IsImageCopied told image file after old new (Ok _) = (length image ≡ 174848)
      × IsImageHanded image file after × Appends (told old) (told new) (codes "COPIED\n")
  IsImageCopied told image file after old new (Err faults.ImageSize) =
      (length image ≢ 174848) × (after ≡ file) × (new ≡ old)
  IsImageCopied told image file after old new (Err faults.File) = (length image ≡ 174848)
      × ((AreWrittenInPart file after (image_writes image) × (new ≡ old))
      ⊎ (IsImageHanded image file after × AppendsPart (told old) (told new) (codes "COPIED\n")))
  IsImageCopied told image file after old new (Err _) = ⊥

  -- what making such an image and printing that came to. All of it was written, and the message was printed; or the file
  -- failed, and nothing was printed. Or the output failed; or there was no memory, and nothing was done
  abbrev pub IsImageMade : {W : Type 0} → (W → Option (List ℕ)) → (List ℕ → Type 0) → F → F → W → W
      → Result Unit CommandFault → Type 0
  IsImageMade told Is file after old new (Ok _) =
      IsImageWritten Is file after × Appends (told old) (told new) (codes "FORMATTED\n")
  IsImageMade told Is file after old new (Err faults.File) =
      (IsImageBegun Is file after × (new ≡ old))
      ⊎ (IsImageWritten Is file after × AppendsPart (told old) (told new) (codes "FORMATTED\n"))
  IsImageMade told Is file after old new (Err faults.NoMemory) = (after ≡ file) × (new ≡ old)
  IsImageMade told Is file after old new (Err _) = ⊥
