-- What was gathered, what was seen before, and how it was told.
use Rattle.std.proofs.Common.{◌≡◌, ℕ, List, Option, Result, Ok, Err, ap, inl, inr, map, refl, subst, ◌∙◌, ◌++◌}
use Rattle.std.specs.Prelude.{IfErr, IfOk, MatchResult}
use Rattle.std.proofs.lemmas.Result.{err_from_is_err_and}
use Rattle.command_faults.specs.declared.faults.CommandFault.{CommandFault}
use Rattle.command_faults.specs.declared.faults.CommandFault.TheVariants as faults
use Rattle.disk_pictures.specs.Missing.{IsMissingFault}
use Rattle.file_rescues.specs.rescue.Memory.{file_in, files_in}
use Rattle.image_looks.proofs.ExtractSaid.{gathered}
use Rattle.image_looks.specs.Extracts.{IsExtractTold, IsUnseen, extracted_text, refusal_of}
use Rattle.opened_files.specs.Losses.{IsSeen}
use Rattle.image_looks.proofs.extracting.extract_run.Goals as goal

either : {T E : Type 0} (P : T → Type 0) (Q : E → Type 0) (r : Result T E) → IfOk r P → IfErr r Q → MatchResult r P Q
either P Q (Ok x) ok err = ok
either P Q (Err e) ok err = err

unseen : (image : List ℕ) (fault : CommandFault) → IsMissingFault image fault → IsUnseen image fault
unseen image faults.ImageSize none = inr (refl, none)
unseen image faults.NoMemory size = inl refl
unseen image _ none = absurd none

pub returns-in_err-errors : goal.returns-in_err-errors
returns-in_err-errors g c =
    let p = err_from_is_err_and c.from_residual.result c.from_residual.ensures.1 in
    inl (c.in_err-errors.field-0.0, unseen c.args.image.now _ c.in_err-errors.ensures.err, p.1 ∙ ap Err p.2, refl)

pub returns-in_err-lack : goal.returns-in_err-lack
returns-in_err-lack g c =
    let p = err_from_is_err_and c.from_residual-in_err-lack.result c.from_residual-in_err-lack.ensures.1 in
    rw (p.1, p.2, c.in_err-lack.ensures.err) (inl (faults.NoMemory, inl refl, refl, refl))

pub returns-in_err-text : goal.returns-in_err-text
returns-in_err-text g c =
    let p = err_from_is_err_and c.from_residual-in_err-text.result c.from_residual-in_err-text.ensures.1 in
    rw (p.1, p.2, c.in_err-text.ensures.err) (inl (faults.NoMemory, inl refl, refl, refl))

pub returns-in-Ok : goal.returns-in-Ok
returns-in-Ok g c = inr (
  c.extract_image-ended.result,
  c.in_ok-lack.lack,
  c.in_ok-errors.errors.items,
  c.extract_image-ended.new.folder.files.files.items,
  gathered (λ it. files_in it.files) c.args.choice c.args.image.now c.new-gathered.result c.extract_image-ended.new.folder
      c.extract_image-ended.result (ap (map file_in) c.new-gathered.ensures)
      (either _ _ c.extract_image-ended.result c.extract_image-ended.ensures.ok c.extract_image-ended.ensures.err),
  subst (λ (disk : List ℕ). IsSeen disk c.in_ok-lack.lack) c.disk_in.ensures c.in_ok-lack.ensures.ok,
  c.in_ok-errors.ensures.ok,
  inl (
    subst (λ (text : List ℕ). IsExtractTold g.W.Write.contents (refusal_of c.extract_image-ended.result c.in_ok-lack.lack) text
        c.in_ok-errors.errors.items c.args.out.now c.tell_extracted.new.out c.tell_extracted.result)
        (c.as_slice-in-Ok.ensures.value ∙ c.in_ok-text.ensures.ok
        ∙ ap (λ (m : List ℕ). extracted_text c.in_ok-lack.lack ++ m) c.as_slice.ensures.value)
        (subst (λ (m : List ℕ). IsExtractTold g.W.Write.contents (refusal_of c.extract_image-ended.result c.in_ok-lack.lack)
        c.as_slice-in-Ok.result.now m c.args.out.now c.tell_extracted.new.out c.tell_extracted.result)
        c.as_slice-in-Ok-2.ensures.value
        (subst (λ (r : Option CommandFault). IsExtractTold g.W.Write.contents r c.as_slice-in-Ok.result.now
        c.as_slice-in-Ok-2.result.now c.args.out.now c.tell_extracted.new.out c.tell_extracted.result)
        c.extract_refusal.ensures c.tell_extracted.ensures)),
    c.in-Ok.ensures.made,
  ),
)

pub returns : goal.returns
returns g c = inr (
  c.extract_image-ended.result,
  c.in_ok-lack.lack,
  c.in_ok-errors.errors.items,
  c.extract_image-ended.new.folder.files.files.items,
  gathered (λ it. files_in it.files) c.args.choice c.args.image.now c.new-gathered.result c.extract_image-ended.new.folder
      c.extract_image-ended.result (ap (map file_in) c.new-gathered.ensures)
      (either _ _ c.extract_image-ended.result c.extract_image-ended.ensures.ok c.extract_image-ended.ensures.err),
  subst (λ (disk : List ℕ). IsSeen disk c.in_ok-lack.lack) c.disk_in.ensures c.in_ok-lack.ensures.ok,
  c.in_ok-errors.ensures.ok,
  inr (c.in-Err.ensures.err.0, c.in-Err.ensures.err.1, c.in-Err.fault, refl, c.in-Err.ensures.err.2, refl),
)
