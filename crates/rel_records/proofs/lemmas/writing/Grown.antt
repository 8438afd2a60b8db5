-- A record is written after growth: what is left of both, and what was held.
use Rattle.std.proofs.Common.{List, ap₂, append-nil, arith, inl, inr, refl, subst, sym, ℕ, ◌+◌, ◌∙◌, ◌≡◌}
use Rattle.d64_image.proofs.Moments.{at_end, changes_then, changes_weaker}
use Rattle.d64_image.specs.History.{Changes, History}
use Rattle.d64_image.specs.Images.{Image}
use Rattle.disk_layout.specs.Layout.{File, Layout, record_length}
use Rattle.disk_layout.specs.Records.{records}
use Rattle.rel_records.proofs.lemmas.Kept.{has-others, leaves_leaves, leaves_then}
use Rattle.rel_records.specs.File.{IsFileOf, length_of}
use Rattle.rel_records.specs.Others.{HasRecords, KeepsRelFiles, LeavesRecords}
use Rattle.disk_layout.specs.Whole.{KeepsWhole}
use Rattle.rel_records.specs.Written.{IsGrowingBy, IsWriting, grown_by, with_half, with_written}
use Rattle.rel_records.specs.declared.rel_file.RelFile.{RelFile}

-- the record length that the file keeps
pub size-kept : (a b : Image) (l m : Layout) (n k : ℕ) (f g : File) (v w : RelFile) → IsFileOf a l n f v
    → IsFileOf b m k g w → length_of w ≡ length_of v → record_length g.slot ≡ record_length f.slot
size-kept a b l m n k f g v w of to same = sym to.shows.size ∙ same ∙ of.shows.size

-- what is kept of other files stays of every image that is held
pub growing-others : (a c : Image) (l : Layout) (n : ℕ) (f : File) (m : ℕ) → IsGrowingBy a l n f m c
    → KeepsRelFiles a c l n
growing-others a c l n f m (k, le, has, kept) = has-others a c l n _ has

pub writing-others : (a c : Image) (l : Layout) (n : ℕ) (f : File) (m r pos : ℕ) (text : List ℕ)
    → IsWriting a l n f m r pos text c → KeepsRelFiles a c l n
writing-others a c l n f m r pos text (inl growing) = growing-others a c l n f m growing
writing-others a c l n f m r pos text (inr (inl (has, kept))) = has-others a c l n _ has
writing-others a c l n f m r pos text (inr (inr (has, kept))) = has-others a c l n _ has

module _ (a b : Image) (l : Layout) (n : ℕ) (f : File) (m : ℕ) (w : RelFile)
    (h : LeavesRecords a b l n (grown_by (record_length f.slot) m (records a f)) w) (size : record_length h.file.slot
    ≡ record_length f.slot) where
  no-more : grown_by (record_length h.file.slot) 0 (records b h.file) ≡ grown_by (record_length f.slot) m (records a f)
  no-more = append-nil (records b h.file) ∙ h.records

  -- an image held while the record is written
  pub writing-then : KeepsWhole a l f m b → (c : Image) (r pos : ℕ) (text : List ℕ)
      → IsWriting b h.layout n h.file 0 r pos text c → IsWriting a l n f m r pos text c
  writing-then grew c r pos text (inl (k, none, has, kept)) =
      let e : k ≡ 0 = omega (arith, none) in
      let P : List (List ℕ) → Type 0 = HasRecords b c h.layout n in
      let Q : ℕ → Type 0 = λ j. HasRecords b c h.layout n (grown_by (record_length h.file.slot) j (records b h.file)) in
      inl (
        m,
        omega arith,
        leaves_then a b c l n _ _ w h (subst P no-more (subst Q e has)),
        λ never wa. kept (λ h'. refl) (grew never wa),
      )
  writing-then grew c r pos text (inr (inl (has, kept))) =
      let P : List (List ℕ) → Type 0 = HasRecords b c h.layout n in
      inr (inl (
        leaves_then a b c l n _ _ w h
            (subst P (ap₂ (λ (L : ℕ) (rs : List (List ℕ)). with_half L r pos text rs) size no-more) has),
        λ never wa. kept (λ h'. refl) (grew never wa),
      ))
  writing-then grew c r pos text (inr (inr (has, kept))) =
      let P : List (List ℕ) → Type 0 = HasRecords b c h.layout n in
      inr (inr (
        leaves_then a b c l n _ _ w h
            (subst P (ap₂ (λ (L : ℕ) (rs : List (List ℕ)). with_written L r pos text rs) size no-more) has),
        λ never wa. kept (λ h'. refl) (grew never wa),
      ))

  -- what is left once it is
  pub written-then : (c : Image) (r pos : ℕ) (text : List ℕ)
      → LeavesRecords b c h.layout n (with_written (record_length h.file.slot) r pos text (records b h.file)) w
      → LeavesRecords a c l n (with_written (record_length f.slot) r pos text
      (grown_by (record_length f.slot) m (records a f))) w
  written-then c r pos text k =
      let P : List (List ℕ) → Type 0 = λ rs. LeavesRecords b c h.layout n rs w in
      leaves_leaves a b c l n _ _ w w h
      (subst P (ap₂ (λ (L : ℕ) (rs : List (List ℕ)). with_written L r pos text rs) size h.records) k)

-- what was held over both
pub changes-grown : {D : Type 0} (S : History D) (x y z : D) (l : Layout) (n : ℕ) (f : File) (m : ℕ) (w : RelFile)
    (h : LeavesRecords (S.image x) (S.image y) l n (grown_by (record_length f.slot) m (records (S.image x) f)) w)
    → record_length h.file.slot ≡ record_length f.slot → (i j r pos : ℕ) (text : List ℕ)
    → Changes S x y i (IsGrowingBy (S.image x) l n f m)
    → Changes S y z j (IsWriting (S.image y) h.layout n h.file 0 r pos text)
    → Changes S x z (i + j) (IsWriting (S.image x) l n f m r pos text)
changes-grown S x y z l n f m w h size i j r pos text growing writing =
    let P : Image → Type 0 = IsWriting (S.image x) l n f m r pos text in
    let grew = (at_end S x y _ growing.held).3 in
    changes_then S x y z i j (i + j) P (omega arith)
    (changes_weaker S x y i i _ P (omega arith) (λ c is. inl is) growing)
    (changes_weaker S y z j j _ P (omega arith) (λ c is. writing-then (S.image x) (S.image y) l n f m w h size grew c r pos
    text is) writing)

-- growth that fails
pub changes-growing : {D : Type 0} (S : History D) (x y : D) (l : Layout) (n : ℕ) (f : File) (m i j r pos : ℕ)
    (text : List ℕ) → Changes S x y i (IsGrowingBy (S.image x) l n f m)
    → Changes S x y (i + j) (IsWriting (S.image x) l n f m r pos text)
changes-growing S x y l n f m i j r pos text growing = changes_weaker S x y i (i + j) _ _ (omega arith) (λ c is. inl is)
    growing
