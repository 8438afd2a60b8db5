-- What is said of an image that was made holds of one path and one image.
use Rattle.std.proofs.Common.{◌≡◌, [], ◌∷◌, ℕ, List, Some, ap, arith, length, refl, sym, ◌∙◌}
use Rattle.image_file.specs.Replacing.{NowAll}
use Rattle.opened_files.specs.Makings.{IsMadeAt}
use Rattle.test_files.specs.OneFile.{Left, Made, Stage, one_remains, one_traces, stage_bytes}

module _ (path image : List ℕ) where
  -- it can hold
  pub one-made : IsMadeAt (one_remains path image) (one_traces path image) tt path image
  one-made = record {
    end = [];
    written = record { made = Made; left = Left; at = (refl, refl); held = λ _. refl; lasting = λ _ s is. is };
    moved = (refl, refl);
  }

  one-bytes : (bytes : List ℕ) (left : Stage) → NowAll (one_remains path image) left (λ s. s ≡ bytes) → bytes ≡ image
  one-bytes bytes Made all =
      let no : 0 ≡ 1 = ap length (all [] tt ∙ sym (all (0 ∷ []) tt)) in absurd (omega (arith, no))
  one-bytes bytes Left all = sym (all image refl)

  -- and holds of nothing else
  pub only-made : (other bytes : List ℕ) → IsMadeAt (one_remains path image) (one_traces path image) tt other bytes
      → (other ≡ path) × (bytes ≡ image)
  only-made other bytes is = (
    is.moved.1,
    one-bytes bytes is.written.left
        (is.written.lasting (ap (λ (f : Stage). Some (stage_bytes path image f)) is.written.at.1)),
  )
