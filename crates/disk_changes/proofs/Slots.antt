-- The slots of a directory, one after another.
use Rattle.std.proofs.Common.{◌≡◌, ◌<◌, ◌+◌, ◌++◌, ◌∷◌, ◌∙◌, ℕ, List, [], ap, ap₂, append_assoc, append-nil, arith, get_or, length, refl, sym, take}
use Rattle.std.specs.Prelude.{Contains}
use Rattle.std.proofs.lemmas.Grind.{flat_map-append}
use Rattle.std.proofs.lemmas.List.{length-take-le, take_more}
use Rattle.d64_image.specs.Images.{Image, sector}
use Rattle.d64_image.specs.declared.place.Place.{Place}
use Rattle.disk_changes.specs.Sorts.{all_slots, with_entries, with_entry}
use Rattle.disk_layout.proofs.lemmas.counts.Recount.{filter-out, flat_map-out, slot-number}
use Rattle.disk_layout.proofs.lemmas.counts.Slots.{slots-eight, slots_at}
use Rattle.disk_layout.specs.Directory.{slot_in, slots_in}
use Rattle.disk_layout.specs.declared.slot.Slot.{Slot}
use Rattle.file_rescues.specs.rescue.Deleted.{deleted_slots, is_deleted}

-- one slot of a sector more
pub slot-more : (old now new : List Slot) (p : Place) (bytes : List ℕ) (n : ℕ) → n < 8
    → now ≡ old ++ take n (slots_in p bytes) → new ≡ now ++ slot_in p bytes n ∷ []
    → new ≡ old ++ take (n + 1) (slots_in p bytes)
slot-more old now new p bytes n low before pushed =
    let s = slot_in p bytes n in
    let inside : n < length (slots_in p bytes) = omega (arith, low, slots-eight p bytes) in
    pushed ∙ ap (λ (xs : List Slot). xs ++ s ∷ []) before ∙ append_assoc old (take n (slots_in p bytes)) (s ∷ [])
    ∙ ap (λ (xs : List Slot). old ++ xs) (sym (take_more (slots_in p bytes) n s inside
    ∙ ap (λ (x : Slot). take n (slots_in p bytes) ++ x ∷ []) (slots_at p bytes n s low)))

-- one sector more
pub sector-more : (img : Image) (ps : List Place) (k : ℕ) (p : Place) (bytes : List ℕ) (now new : List Slot)
    → k < length ps → get_or ps k p ≡ p → bytes ≡ sector img p → now ≡ all_slots img (take k ps)
    → new ≡ now ++ slots_in p bytes → new ≡ all_slots img (take (k + 1) ps)
sector-more img ps k p bytes now new inside is read before more =
    let f : Place → List Slot = λ q. slots_in q (sector img q) in
    more ∙ ap (λ (xs : List Slot). xs ++ slots_in p bytes) before
    ∙ ap (λ (b : List ℕ). all_slots img (take k ps) ++ slots_in p b) read
    ∙ ap (λ (xs : List Slot). all_slots img (take k ps) ++ xs) (sym (append-nil (f p)))
    ∙ sym (flat_map-append f (take k ps) (p ∷ []))
    ∙ ap (all_slots img) (sym (take_more ps k p inside ∙ ap (λ (q : Place). take k ps ++ q ∷ []) is))

-- a slot of a directory is one of eight
pub slot-low : (img : Image) (ps : List Place) (s : Slot) → Contains (all_slots img ps) s → s.number < 8
slot-low img ps s there =
    let (p, on, e) = flat_map-out (λ p. slots_in p (sector img p)) ps s there in
    (slot-number p (sector img p) s e).0

pub deleted-low : (img : Image) (ps : List Place) (s : Slot) → Contains (deleted_slots img ps) s → s.number < 8
deleted-low img ps s there = slot-low img ps s (filter-out is_deleted (all_slots img ps) s there).0

-- one entry more
entry-more : (img : Image) (ss ts : List Slot) (s t : Slot) → length ts ≡ length ss
    → with_entries img (ss ++ s ∷ []) (ts ++ t ∷ []) ≡ with_entry (with_entries img ss ts) s t
entry-more img [] [] s t same = refl
entry-more img (x ∷ ss) (y ∷ ts) s t same = entry-more (with_entry img x y) ss ts s t (omega (arith, same))
entry-more img [] (y ∷ ts) s t same = absurd (omega (arith, same))
entry-more img (x ∷ ss) [] s t same = absurd (omega (arith, same))

pub taken-more : (img now new : Image) (ss ts : List Slot) (k : ℕ) (s t : Slot) → k < length ss → length ts ≡ length ss
    → get_or ss k s ≡ s → get_or ts k t ≡ t → now ≡ with_entries img (take k ss) (take k ts)
    → new ≡ with_entry now s t → new ≡ with_entries img (take (k + 1) ss) (take (k + 1) ts)
taken-more img now new ss ts k s t inside many at put before one =
    let low : k < length ts = omega (arith, inside, many) in
    one ∙ ap (λ (i : Image). with_entry i s t) before
    ∙ sym (entry-more img (take k ss) (take k ts) s t
    (omega (arith, inside, low, length-take-le k ss, length-take-le k ts)))
    ∙ ap₂ (with_entries img)
    (sym (take_more ss k s inside ∙ ap (λ (x : Slot). take k ss ++ x ∷ []) at))
    (sym (take_more ts k t low ∙ ap (λ (x : Slot). take k ts ++ x ∷ []) put))
