-- What is printed of a repair, line by line, and what a failure on the way tells.
use Rattle.std.proofs.Common.{◌≡◌, ◌+◌, ◌++◌, ℕ, true, false, refl, List, Option, Result, Ok, Err}
use Rattle.std.proofs.Common.{ap, subst, sym, ◌∙◌}
use Rattle.std.proofs.lemmas.Bool.{false≢true}
use Rattle.std.specs.Prelude.{IfErr, bytes_eq, codes, drop, flat_map, take}
use Rattle.std.specs.Result.{is_err}
use Rattle.std.specs.Io.KnownBytes.{Appends, Keeps}
use Rattle.std.proofs.KnownBytes.{Appends-kept, Appends-trans}
use Rattle.d64_image.proofs.Moments.{failed_later}
use Rattle.d64_image.specs.History.{Failed, History, TellsFailure}
use Rattle.d64_image.specs.Images.{Image, Sector, sector}
use Rattle.d64_image.proofs.Order.{text-left, text-more}
use Rattle.d64_image.specs.Places.{index_of, places}
use Rattle.d64_image.specs.declared.place.Place.{Place}
use Rattle.disk_layout.specs.Directory.{map_place}
use Rattle.disk_layout.specs.Texts.{place_text}
use Rattle.command_faults.proofs.Parts.{part-behind, part-longer}
use Rattle.command_faults.specs.Outputs.{HandsPart}
use Rattle.disk_changes.specs.mended.Repairs.{TellsKeep, changed_text, freed_at, is_freed, kept_text, mended_at, mended_text}
use Rattle.command_faults.specs.declared.faults.CommandFault.{CommandFault}
use Rattle.command_faults.specs.declared.faults.CommandFault.TheVariants as faults

-- the line of one place more, and a beginning of it
module _ (a b c : Option (List ℕ)) (old new now : Image) (had has : Sector) (same : now ≡ new) (i : ℕ) (p : Place)
    (at : index_of p ≡ i)
    (before : Appends a b (flat_map (mended_at old new had has) (take i places))) where
  pub place-more : Appends b c (mended_at old now had has p)
      → Appends a c (flat_map (mended_at old new had has) (take (i + 1) places))
  place-more more = subst (Appends a c) (text-more (mended_at old new had has) i p at)
      (Appends-trans a b c _ _ before (subst (λ (img : Image). Appends b c (mended_at old img had has p)) same more))

  pub place-part : HandsPart b c (mended_at old now had has p)
      → HandsPart a c (flat_map (mended_at old new had has) places)
  place-part part =
      let line = mended_at old new had has in
      let front = flat_map line (take i places) in
      let rest = flat_map line (drop (i + 1) places) in
      subst (HandsPart a c) (ap (λ (t : List ℕ). t ++ rest) (text-more line i p at) ∙ text-left line (i + 1))
      (part-longer a c (front ++ line p) rest (part-behind a b c front (line p) before
      (subst (λ (img : Image). HandsPart b c (mended_at old img had has p)) same part)))

-- the lines of all, by the maps of the two disks
pub changed-is : (old new now : Image) (had has : Sector) → now ≡ new → had ≡ sector old map_place
    → has ≡ sector new map_place → flat_map (mended_at old now had has) places ≡ changed_text old new
unfolding changed_text
changed-is old new now had has same was is =
    ap (λ (img : Image). flat_map (mended_at old img had has) places) same
    ∙ ap (λ (x : Sector). flat_map (mended_at old new x has) places) was
    ∙ ap (λ (x : Sector). flat_map (mended_at old new (sector old map_place) x) places) is

-- and how it ends
pub all-printed : (a b c d : Option (List ℕ)) (old new : Image) (n : ℕ) → Appends a b (changed_text old new)
    → Appends b c (kept_text n) → Keeps c d → Appends a d (mended_text old new n)
unfolding mended_text
all-printed a b c d old new n tracks end kept =
    Appends-kept a c d _ (Appends-trans a b c (changed_text old new) (kept_text n) tracks end) kept

-- or where it stops
pub part-tracks : (a b : Option (List ℕ)) (old new : Image) (n : ℕ) → HandsPart a b (changed_text old new)
    → HandsPart a b (mended_text old new n)
unfolding mended_text
part-tracks a b old new n part = part-longer a b (changed_text old new) (kept_text n) part

pub part-end : (a b c : Option (List ℕ)) (old new : Image) (n : ℕ) → Appends a b (changed_text old new)
    → HandsPart b c (kept_text n) → HandsPart a c (mended_text old new n)
unfolding mended_text
part-end a b c old new n tracks part = part-behind a b c (changed_text old new) (kept_text n) tracks part

-- what is told where the output alone can fail
pub tells-output : {D T : Type 0} (S : History D) (a b : D) (r : Result T CommandFault) → S.failures b ≡ S.failures a
    → IfErr r (λ fault. fault ≡ faults.File) → TellsKeep S a b r
tells-output S a b (Ok x) same told = same
tells-output S a b (Err fault) same told = subst (λ (f : CommandFault). TellsKeep {T = ℕ} S a b (Err f)) (sym told) same

-- only the output and the device fail
pub by-tell : {D : Type 0} (S : History D) (a b : D) (P : CommandFault → Type 0)
    → (S.failures b ≡ S.failures a → P faults.File) → (Failed S a b → P faults.Device)
    → (fault : CommandFault) → TellsKeep {T = Unit} S a b (Err fault) → P fault
by-tell S a b P file device faults.File told = file told
by-tell S a b P file device faults.Device told = device told
by-tell S a b P file device _ told = absurd told

-- what a call tells behind others that met no failure
pub tells-after : {D T : Type 0} (S : History D) (a b c : D) (r : Result T CommandFault) → S.failures b ≡ S.failures a
    → TellsKeep S b c r → TellsKeep S a c r
tells-after S a b c (Ok x) same told = told ∙ same
tells-after {T = T} S a b c (Err fault) same told =
    by-tell S b c (λ f. TellsKeep {T = T} S a c (Err f)) (λ told. told ∙ same) (failed_later S a b c same) fault told

-- what a read of the device tells
pub failed-there : {D T E : Type 0} (S : History D) (a b : D) (r : Result T E) → is_err r ≡ true
    → TellsFailure S a b r → Failed S a b
failed-there S a b (Ok x) is told = absurd (false≢true is)
failed-there S a b (Err e) is told = told

pub as-told : {D T E : Type 0} (S : History D) (a b : D) (r : Result T E) → is_err r ≡ false
    → TellsFailure S a b r → S.failures b ≡ S.failures a
as-told S a b (Ok x) is told = told
as-told S a b (Err e) is told = absurd (false≢true (sym is))

-- where the sectors that were read are the same, at most the line of one that became free
pub same-line : (old new : Image) (had has : Sector) (p : Place) (x y : List ℕ) → x ≡ sector old p → y ≡ sector new p
    → true ≡ bytes_eq x y → freed_at had has p ≡ mended_at old new had has p
same-line old new had has p x y left right is =
    rw (sym (is ∙ ap (λ (z : List ℕ). bytes_eq z y) left ∙ ap (λ (z : List ℕ). bytes_eq (sector old p) z) right)) refl

-- and where they aren't, its line
pub other-line : (old new : Image) (had has : Sector) (p : Place) (x y : List ℕ) → x ≡ sector old p → y ≡ sector new p
    → false ≡ bytes_eq x y → codes "MENDED " ++ place_text p ++ codes "\n" ≡ mended_at old new had has p
other-line old new had has p x y left right is =
    rw (sym (is ∙ ap (λ (z : List ℕ). bytes_eq z y) left ∙ ap (λ (z : List ℕ). bytes_eq (sector old p) z) right)) refl

-- the line of a sector that became free
pub freed-line : (had has : Sector) (p : Place) → true ≡ is_freed had has p
    → codes "FREED " ++ place_text p ++ codes "\n" ≡ freed_at had has p
freed-line had has p is = rw (sym is) refl
