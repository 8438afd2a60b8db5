-- An image that was made at a path, and how its job ends, from what came of each step.
use Rattle.std.proofs.Common.{◌≡◌, [], ℕ, List, Option, Result, Ok, Err, Some, inl, inr, refl, subst, sym, ◌∙◌}
use Rattle.std.specs.Prelude.{IfErr, IfOk, OnOk}
use Rattle.std.specs.Io.KnownBytes.{Appends}
use Rattle.command_faults.specs.declared.faults.CommandFault.{CommandFault}
use Rattle.command_faults.specs.declared.faults.CommandFault.TheVariants as faults
use Rattle.image_file.specs.Remains.{Remains}
use Rattle.image_file.specs.Replacing.{NowAll}
use Rattle.image_file.specs.paths.Rights.{Make, Write}
use Rattle.image_file.specs.paths.Traces.{IsWrittenOver, Traces}
use Rattle.line_text.specs.Handed.{AppendsPart}
use Rattle.opened_files.specs.Ends.{JobEnd, as_run}
use Rattle.opened_files.specs.Makings.{IsMadeAt, IsNewEnd}
use Rattle.opened_files.specs.Rights.{aside_of}

-- what holds of the value of a call, if that is Ok
pub at-ok : {T E : Type 0} (P : T → Type 0) (result : Result T E) (it : T) → IfOk result P → result ≡ Ok it → P it
at-ok {T} {E} P result it known is = subst (λ (r : Result T E). IfOk r P) is known

-- what holds of all ends
pub on-any : {T E : Type 0} (result : Result T E) (X : Type 0) → X → OnOk result X
on-any (Ok it) X x = x
on-any (Err error) X x = tt

-- a file was opened to be written, and written over
pub written-over : {H F E : Type 0} (remains : Remains F) (traces : Traces H F) (host : H) (path image : List ℕ)
    (opened file left : F) (ended : Result Unit E) (done : Unit {0}) → traces.opened host Write path opened
    → remains.held file ≡ remains.held opened → OnOk ended (NowAll remains left (λ s. s ≡ image))
    → OnOk ended ((all : List ℕ) → remains.held file ≡ Some all → remains.held left ≡ Some image) → ended ≡ Ok done
    → IsWrittenOver remains traces host path image
written-over {H} {F} {E} remains traces host path image opened file left ended done at same lasting held is = record {
  opened = opened;
  left = left;
  at = at;
  held = λ all known. subst (λ (r : Result Unit E). OnOk r ((all : List ℕ) → remains.held file ≡ Some all
      → remains.held left ≡ Some image)) is held all (same ∙ known);
  lasting = subst (λ (r : Result Unit E). OnOk r (NowAll remains left (λ s. s ≡ image))) is lasting;
}

-- it was made under another name, filled, and got its path
pub made-at : {H F E : Type 0} (remains : Remains F) (traces : Traces H F) (host at : H) (path to end image : List ℕ)
    (made left : F) (result : Result Unit E) → at ≡ host → to ≡ path → traces.opened at Make (aside_of to end) made
    → OnOk result (remains.held made ≡ Some [] → remains.held left ≡ Some image)
    → OnOk result (NowAll remains left (λ s. s ≡ image)) → OnOk result (traces.moved at (aside_of to end) to)
    → OnOk result (IsMadeAt remains traces host path image)
made-at remains traces host at path to end image made left (Ok _) same along opened held lasting moved =
    subst (λ h. IsMadeAt remains traces h path image) same
    (subst (λ p. IsMadeAt remains traces at p image) along (record {
      end = end;
      written = record { made = made; left = left; at = opened; held = held; lasting = λ empty. lasting };
      moved = moved;
    }))
made-at remains traces host at path to end image made left (Err _) same along opened held lasting moved = tt

module _ {W : Type 0} (contents : W → Option (List ℕ)) (Made : Type 0) (text : List ℕ) (old new : W) (end : JobEnd) where
  -- it was made, and that was said, or a part of it
  pub new-end : (put : Result Unit CommandFault) → end ≡ as_run put → Made
      → OnOk put (Appends (contents old) (contents new) text)
      → IfErr put (λ fault. (fault ≡ faults.File) × AppendsPart (contents old) (contents new) text)
      → IsNewEnd contents Made text old new end
  new-end (Ok _) ended made said part = subst (IsNewEnd contents Made text old new) (sym ended) (made, said)
  new-end (Err fault) ended made said part = subst (IsNewEnd contents Made text old new) (sym ended)
      (inr (part.0, made, part.1))

-- it wasn't made
pub unmade : {W : Type 0} (contents : W → Option (List ℕ)) (Made : Type 0) (text : List ℕ) (out : W) (end : JobEnd)
    (refusal : CommandFault) → end ≡ Err refusal → IsNewEnd contents Made text out out end
unmade contents Made text out end refusal ended = subst (IsNewEnd contents Made text out out) (sym ended) (inl refl)
