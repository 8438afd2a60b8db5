-- The bytes of a file, block by block.
use Rattle.std.proofs.Common.{◌≡◌, ◌∙◌, ◌*◌, ◌+◌, ◌-◌, ◌<◌, ◌≤◌, ℕ, List, [], ◌∷◌, ◌++◌, Option, ap, arith, drop}
use Rattle.std.proofs.Common.{get_or, length, length-append, length-drop, max, refl, subst, sym, take}
use Rattle.std.specs.Io.KnownBytes.{Appends}
use Rattle.std.proofs.KnownBytes.{Appends-trans}
use Rattle.std.proofs.Math.Seq.{take-append-add, take-nil}
use Rattle.std.proofs.lemmas.Grind.{flat_map-append}
use Rattle.std.proofs.lemmas.List.{append-nil, take-append-drop, take_all, take_more}
use Rattle.command_faults.proofs.Parts.{part-behind, part-longer}
use Rattle.command_faults.specs.Outputs.{HandsPart}
use Rattle.d64_image.specs.Images.{Image, IsImage, sector}
use Rattle.d64_image.specs.declared.place.Place.{Place}
use Rattle.disk_layout.proofs.lemmas.growth.GrowthRecords.{joined-append}
use Rattle.disk_layout.proofs.lemmas.records.Joined.{joined-cons, joined-nil, length-joined, sector-long}
use Rattle.disk_layout.specs.Records.{joined}
use Rattle.line_text.specs.petscii.Characters.{readable_byte}
use Rattle.file_rescues.specs.Bytes.{file_bytes}
use Rattle.file_rescues.specs.Forms.{bytes_as}
use Rattle.file_rescues.specs.declared.forms.ByteForm.{ByteForm}
use Rattle.file_rescues.specs.declared.forms.ByteForm.TheVariants as forms

-- a form of bytes one after another
pub as-nil : (form : ByteForm) → bytes_as form [] ≡ []
as-nil forms.Plain = refl
as-nil (forms.Text set) = refl

as-append : (form : ByteForm) (xs ys : List ℕ) → bytes_as form xs ++ bytes_as form ys ≡ bytes_as form (xs ++ ys)
as-append forms.Plain xs ys = refl
as-append (forms.Text set) xs ys = sym (flat_map-append (readable_byte set) xs ys)

joined-one : (img : Image) (p : Place) → joined img (p ∷ []) ≡ drop 2 (sector img p)
joined-one img p = joined-cons img p [] ∙ ap (λ (zs : List ℕ). drop 2 (sector img p) ++ zs) (joined-nil img)
    ∙ append-nil (drop 2 (sector img p))

-- a block that another follows gives all of its bytes
pub whole-block : (img : Image) (p : Place) → IsImage img → take 254 (drop 2 (sector img p)) ≡ drop 2 (sector img p)
whole-block img p w =
    take_all 254 (drop 2 (sector img p)) (omega (arith, length-drop 2 (sector img p), sector-long img p w))

-- one block more
pub joined-more : (img : Image) (ps : List Place) (p : Place)
    → joined img (ps ++ p ∷ []) ≡ joined img ps ++ drop 2 (sector img p)
joined-more img ps p = joined-append img ps (p ∷ []) ∙ ap (λ (zs : List ℕ). joined img ps ++ zs) (joined-one img p)

-- the blocks before the last give all of their bytes, and the last one those up to its last index
pub file-split : (img : Image) (front : List Place) (p : Place) (u : ℕ) → IsImage img
    → file_bytes img (front ++ p ∷ []) u ≡ joined img front ++ take (max u 1 - 1) (drop 2 (sector img p))
unfolding file_bytes
file-split img front p u w =
    let count : 254 * (length (front ++ p ∷ []) - 1) + max u 1 - 1 ≡ length (joined img front) + (max u 1 - 1) =
    omega (arith, length-append front (p ∷ []), length-joined img front w) in
    rw (count, joined-more img front p) (take-append-add (joined img front) (drop 2 (sector img p)) (max u 1 - 1))

-- the bytes of a block up to its last index, as they are taken from it
pub bytes-up-to : (read bytes : List ℕ) (end last : ℕ) → end ≡ max last 1 → read ≡ bytes
    → take (end + 1 - 2) (drop 2 read) ≡ take (max last 1 - 1) (drop 2 bytes)
bytes-up-to read bytes end last ends same =
    let count : end + 1 - 2 ≡ max last 1 - 1 = omega (arith, ends) in
    ap (λ (n : ℕ). take n (drop 2 read)) count ∙ ap (λ (xs : List ℕ). take (max last 1 - 1) (drop 2 xs)) same

-- a file without blocks has no bytes
pub file-none : (img : Image) (blocks : List Place) (u : ℕ) → length blocks ≤ 0 → [] ≡ file_bytes img blocks u
unfolding file_bytes
file-none img [] u none = sym (ap (take (254 * (0 - 1) + max u 1 - 1)) (joined-nil img)
    ∙ take-nil (254 * (0 - 1) + max u 1 - 1))
file-none img (p ∷ ps) u none = absurd (omega (arith, none))

-- the bytes of one block more
blocks-more : (img here : Image) (ps : List Place) (i : ℕ) (p : Place) → IsImage img → here ≡ img → i < length ps
    → get_or ps i p ≡ p
    → joined img (take i ps) ++ take (max 255 1 - 1) (drop 2 (sector here p)) ≡ joined img (take (i + 1) ps)
blocks-more img here ps i p w same inside is =
    let taken : take (i + 1) ps ≡ take i ps ++ p ∷ [] = take_more ps i p inside
    ∙ ap (λ (q : Place). take i ps ++ q ∷ []) is in
    let whole : take (max 255 1 - 1) (drop 2 (sector here p)) ≡ drop 2 (sector img p) =
    ap (λ (x : Image). take 254 (drop 2 (sector x p))) same ∙ whole-block img p w in
    ap (λ (zs : List ℕ). joined img (take i ps) ++ zs) whole
    ∙ sym (ap (joined img) taken ∙ joined-more img (take i ps) p)

-- one block's bytes more, printed
pub block-more : (a b c : Option (List ℕ)) (form : ByteForm) (img here : Image) (ps : List Place) (i : ℕ) (p : Place)
    → IsImage img → here ≡ img
    → i < length ps → get_or ps i p ≡ p → Appends a b (bytes_as form (joined img (take i ps)))
    → Appends b c (bytes_as form (take (max 255 1 - 1) (drop 2 (sector here p))))
    → Appends a c (bytes_as form (joined img (take (i + 1) ps)))
block-more a b c form img here ps i p w same inside is before more =
    subst (Appends a c) (as-append form _ _ ∙ ap (bytes_as form) (blocks-more img here ps i p w same inside is))
    (Appends-trans a b c _ _ before more)

-- the bytes of the whole blocks and of the last one are the file's
file-is : (img : Image) (blocks : List Place) (p : Place) (u : ℕ) → IsImage img → 1 ≤ length blocks
    → get_or blocks (length blocks - 1) p ≡ p
    → file_bytes img blocks u
    ≡ joined img (take (length blocks - 1) blocks) ++ take (max u 1 - 1) (drop 2 (sector img p))
file-is img blocks p u w some is =
    let front : List Place = take (length blocks - 1) blocks in
    let whole : blocks ≡ front ++ p ∷ [] =
    sym (take_all ((length blocks - 1) + 1) blocks (omega (arith, some)))
    ∙ take_more blocks (length blocks - 1) p (omega (arith, some)) ∙ ap (λ (q : Place). front ++ q ∷ []) is in
    ap (λ (ps : List Place). file_bytes img ps u) whole ∙ file-split img front p u w

-- the whole blocks and the last one, printed
pub file-printed : (a b c : Option (List ℕ)) (form : ByteForm) (img here : Image) (blocks : List Place) (p : Place)
    (u : ℕ) → IsImage img → here ≡ img
    → 1 ≤ length blocks → get_or blocks (length blocks - 1) p ≡ p
    → Appends a b (bytes_as form (joined img (take (length blocks - 1) blocks)))
    → Appends b c (bytes_as form (take (max u 1 - 1) (drop 2 (sector here p))))
    → Appends a c (bytes_as form (file_bytes img blocks u))
file-printed a b c form img here blocks p u w same some is before last =
    subst (Appends a c) (as-append form _ _ ∙ ap (bytes_as form) (sym (file-is img blocks p u w some is)))
    (Appends-trans a b c _ _ before (subst (λ (x : Image). Appends b c
    (bytes_as form (take (max u 1 - 1) (drop 2 (sector x p))))) same last))

-- a beginning of a block's bytes behind those of the blocks before it is one of the bytes of all
pub block-part : (a b c : Option (List ℕ)) (form : ByteForm) (img here : Image) (ps : List Place) (i : ℕ) (p : Place)
    → IsImage img → here ≡ img
    → i < length ps → get_or ps i p ≡ p → Appends a b (bytes_as form (joined img (take i ps)))
    → HandsPart b c (bytes_as form (take (max 255 1 - 1) (drop 2 (sector here p))))
    → HandsPart a c (bytes_as form (joined img ps))
block-part a b c form img here ps i p w same inside is before part =
    let whole = blocks-more img here ps i p w same inside is in
    let all : bytes_as form (joined img (take (i + 1) ps)) ++ bytes_as form (joined img (drop (i + 1) ps))
    ≡ bytes_as form (joined img ps) =
    as-append form _ _ ∙ ap (bytes_as form)
    (sym (joined-append img (take (i + 1) ps) (drop (i + 1) ps))
    ∙ ap (joined img) (take-append-drop (i + 1) ps)) in
    subst (HandsPart a c) all (part-longer a c _ _
    (subst (HandsPart a c) (as-append form _ _ ∙ ap (bytes_as form) whole) (part-behind a b c _ _ before part)))

-- what was printed of the whole blocks is a beginning of the file, and so is that with what was of the last one
pub front-part : (a b : Option (List ℕ)) (form : ByteForm) (img : Image) (blocks : List Place) (p : Place) (u : ℕ)
    → IsImage img → 1 ≤ length blocks → get_or blocks (length blocks - 1) p ≡ p
    → HandsPart a b (bytes_as form (joined img (take (length blocks - 1) blocks)))
    → HandsPart a b (bytes_as form (file_bytes img blocks u))
front-part a b form img blocks p u w some is part =
    subst (HandsPart a b) (as-append form _ _ ∙ ap (bytes_as form) (sym (file-is img blocks p u w some is)))
    (part-longer a b _ (bytes_as form (take (max u 1 - 1) (drop 2 (sector img p)))) part)

pub end-part : (a b c : Option (List ℕ)) (form : ByteForm) (img here : Image) (blocks : List Place) (p : Place)
    (u : ℕ) → IsImage img → here ≡ img
    → 1 ≤ length blocks → get_or blocks (length blocks - 1) p ≡ p
    → Appends a b (bytes_as form (joined img (take (length blocks - 1) blocks)))
    → HandsPart b c (bytes_as form (take (max u 1 - 1) (drop 2 (sector here p))))
    → HandsPart a c (bytes_as form (file_bytes img blocks u))
end-part a b c form img here blocks p u w same some is before part =
    subst (HandsPart a c) (as-append form _ _ ∙ ap (bytes_as form) (sym (file-is img blocks p u w some is)))
    (part-behind a b c _ _ before (subst (λ (x : Image). HandsPart b c
    (bytes_as form (take (max u 1 - 1) (drop 2 (sector x p))))) same part))
