-- A file that is handed back by a run over its mirror.
use Rattle.std.proofs.Common.{◌≡◌, ◌⊎◌, Result, Err, subst, sym, ⊎_elim}
use Rattle.d64_image.specs.KeptMirrors.{is_broken}
use Rattle.d64_image.specs.declared.kept_mirror.KeptMirror.{KeptMirror}
use Rattle.d64_image.specs.declared.sector_file.SectorFile.{Ghosts}

-- what holds of the file that is handed back, and of what is reported of it, by whether the mirror broke
pub handed-back : {F T E : Type 0} {G : Ghosts F} {device : E} (P : F → F → Result T E → Type 0) (start b : KeptMirror F G)
    (file : F) (r : Result T E) (out : F × Result T E) → start.file ≡ file → out.0 ≡ b.file
    → (is_broken b → P start.file b.file (Err device)) → ((is_broken b → ⊥) → P start.file b.file r)
    → (is_broken b × (out.1 ≡ Err device)) ⊎ ((is_broken b → ⊥) × (out.1 ≡ r)) → P file out.0 out.1
handed-back {F} {T} {E} P start b file r out first after broken whole end =
    let from : (e : Result T E) → out.1 ≡ e → P start.file b.file e → P file out.0 out.1 =
    λ e is p. subst (λ f. P f out.0 out.1) first
    (subst (λ a. P start.file a out.1) (sym after) (subst (λ x. P start.file b.file x) (sym is) p)) in
    ⊎_elim (λ x. from _ x.1 (broken x.0)) (λ x. from r x.1 (whole x.0)) end
