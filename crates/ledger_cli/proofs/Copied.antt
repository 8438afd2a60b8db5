-- An image handed over to a file, and one that is copied to it, by how its steps ended.
use Rattle.std.proofs.Common.{◌≡◌, ◌∙◌, ◌++◌, ℕ, List, Option, Some, Result, Ok, Err, ap, arith, inl, inr, refl, subst, sym}
use Rattle.std.proofs.Common.{length, take, drop, length-take, length-drop, replicate}
use Rattle.std.specs.Prelude.{IfErr, OnOk, codes}
use Rattle.std.specs.Io.KnownBytes.{Appends}
use Rattle.line_text.specs.Handed.{AppendsPart}
use Rattle.image_file.proofs.lemmas.replacing.Filled.{in_three}
use Rattle.command_faults.specs.declared.faults.CommandFault.{CommandFault}
use Rattle.command_faults.specs.declared.faults.CommandFault.TheVariants as faults
use Rattle.ledger_cli.specs.Making.{AreWritten, AreWrittenInPart, IsImageCopied, IsImageHanded, image_writes}
use Rattle.ledger_cli.proofs.Put.{image_put}

-- a file that says what it holds has the image, and what it held behind
pub image_handed : {F : Type 0} (position : F → Option ℕ) (bytes contents : F → Option (List ℕ)) (old new : F)
    (image : List ℕ) → length image ≡ 174848 → AreWritten position bytes contents old new (image_writes image)
    → IsImageHanded position bytes contents image old new
image_handed position bytes contents old new image size w = record {
  written = w;
  holds = λ held says all is.
      let first = says old w.0 91648 (replicate 256 255) all w.1 is in
      let second = says w.0 w.2.0 0 (take 91648 image) _ w.2.1 first in
      let third = says w.2.0 w.2.2.0 91904 (drop 91904 image) _ w.2.2.1 second in
      let fourth = says w.2.2.0 w.2.2.2.0 91648 (take 256 (drop 91648 image)) _ w.2.2.2.1 third in
      ap held w.2.2.2.2 ∙ fourth
      ∙ ap Some (image_put all (take 91648 image) (replicate 256 255) (take 256 (drop 91648 image)) (drop 91904 image)
      91648 91904 174848 (omega (arith, size, length-take 91648 image))
      (omega (arith, size, length-take 256 (drop 91648 image), length-drop 91648 image)) refl
      (omega (arith, size, length-drop 91904 image))
      ∙ ap (λ (x : List ℕ). x ++ drop 174848 all) (in_three image 91648 256 91904 refl));
}

module _ {F W : Type 0} (position : F → Option ℕ) (bytes contents : F → Option (List ℕ)) (told : W → Option (List ℕ))
    (image : List ℕ) (file after : F) (old new : W) (size : length image ≡ 174848) where
  -- the file failed
  pub copied_in_part : (fault : CommandFault)
      → (fault ≡ faults.File) × AreWrittenInPart position bytes contents file after (image_writes image)
      → new ≡ old → IsImageCopied position bytes contents told image file after old new (Err fault)
  copied_in_part fault part silent =
      subst (λ f. IsImageCopied position bytes contents told image file after old new (Err f)) (sym part.0)
      (size, inl (part.1, silent))

  -- it was copied, and that was said, or a part of it
  pub copied : IsImageHanded position bytes contents image file after → (result : Result Unit CommandFault)
      → OnOk result (Appends (told old) (told new) (codes "COPIED\n"))
      → IfErr result (λ fault. (fault ≡ faults.File) × AppendsPart (told old) (told new) (codes "COPIED\n"))
      → IsImageCopied position bytes contents told image file after old new result
  copied whole (Ok _) said part = (size, whole, said)
  copied whole (Err fault) said part =
      subst (λ f. IsImageCopied position bytes contents told image file after old new (Err f)) (sym part.0)
      (size, inr (whole, part.1))
