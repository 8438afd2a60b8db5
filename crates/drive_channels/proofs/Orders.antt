-- Which row of the table a command meets, and what is known after a repair.
use Rattle.std.proofs.Common.{ℕ, ◌≡◌, inl, inr, Bool, true, false, IsTrue, List, [], ◌∷◌, slice_index, sym, ap, subst}
use Rattle.d64_image.specs.Images.{Image}
use Rattle.disk_layout.specs.Clean.{IsClean}
use Rattle.drive_channels.specs.Inside.{IsKnown, Remembers}
use Rattle.drive_channels.specs.Spelling.{BeginsWithP, IsInitialize, IsValidate}
use Rattle.drive_channels.specs.State.{View}
use Rattle.drive_channels.specs.Tables.{Commands, Moves, ValidatesTo}
use Rattle.drive_channels.specs.declared.open_files.OpenFiles.{OpenFiles}

pub truth : (b : Bool) → b ≡ true → IsTrue b
truth b is = is

pub no-truth : (b : Bool) → b ≡ false → IsTrue b → ⊥
no-truth b is h = cc

-- a text whose first byte is 80
pub begins-p : (text : List ℕ) → slice_index text 0 ≡ 80 → BeginsWithP text
begins-p [] h = cc
begins-p (x ∷ xs) h = (xs, ap (λ (y : ℕ). y ∷ xs) h)

not-empty : (x : ℕ) (rest text : List ℕ) → text ≡ x ∷ rest → text ≡ [] → ⊥
not-empty x rest text is none = cc

-- P comes to its own row
pub meets-p : (x : View) (text : List ℕ) (y : View) → ¬ (IsValidate text) → ¬ (IsInitialize text)
    → (p : BeginsWithP text) → Moves x text y → Commands x text y
meets-p x text y no-v no-i p row = inr (not-empty 80 p.0 text p.1, inr (no-v, inr (no-i, inl (p, row))))

-- and so does V
some-validate : (text : List ℕ) → IsValidate text → text ≡ [] → ⊥
some-validate text v none = elim v [
  | inl e ↦ not-empty _ _ text e none
  | inr (inl e) ↦ not-empty _ _ text e none
  | inr (inr (inl e)) ↦ not-empty _ _ text e none
  | inr (inr (inr e)) ↦ not-empty _ _ text e none
]

pub meets-v : (x : View) (text : List ℕ) (y : View) → IsValidate text → ValidatesTo x.image y.image y.status
    → y ≡ record x { image = y.image; status = y.status } → Commands x text y
meets-v x text y v row same = inr (some-validate text v, inl (v, (row, same)))

-- what is known of a clean disk stays, since it isn't written
pub known-after : (old new : Image) (k : OpenFiles) → IsKnown old k → (IsClean old → new ≡ old) → IsKnown new k
known-after old new k known same = record {
  fresh = known.fresh;
  remembered = λ checked. let m = known.remembered checked in subst (λ (i : Image). Remembers i k.last k.before)
      (sym (same m.clean)) m;
}
