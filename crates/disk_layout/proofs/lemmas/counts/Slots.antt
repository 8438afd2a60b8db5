-- The slots of a directory sector, one by one.
use Rattle.std.proofs.Common.{
  ◌≡◌,
  ◌≢◌,
  ℕ,
  zero,
  suc,
  ◌+◌,
  ◌<◌,
  List,
  [],
  ◌∷◌,
  ◌++◌,
  length,
  get_or,
  take,
  true,
  false,
  refl,
  sym,
  ◌∙◌,
  ap,
  arith,
  append_assoc,
  append-nil,
}
use Rattle.std.specs.Prelude.{filter}
use Rattle.std.proofs.lemmas.List.{take_more, take_all}
use Rattle.std.proofs.lemmas.List.Elements.{filter-append}
use Rattle.std.proofs.lemmas.Bool.Decides.{nat_tests}
use Rattle.d64_image.specs.declared.place.Place.{Place}
use Rattle.disk_layout.specs.Directory.{is_used, slot_in, slots_in, type_byte}
use Rattle.disk_layout.specs.declared.slot.Slot.{Slot}

pub slots_at : (p : Place) (bytes : List ℕ) (n : ℕ) (d : Slot) → n < 8
    → get_or (slots_in p bytes) n d ≡ slot_in p bytes n
unfolding slots_in
slots_at p bytes zero d h = refl
slots_at p bytes (suc zero) d h = refl
slots_at p bytes (suc (suc zero)) d h = refl
slots_at p bytes (suc (suc (suc zero))) d h = refl
slots_at p bytes (suc (suc (suc (suc zero)))) d h = refl
slots_at p bytes (suc (suc (suc (suc (suc zero))))) d h = refl
slots_at p bytes (suc (suc (suc (suc (suc (suc zero)))))) d h = refl
slots_at p bytes (suc (suc (suc (suc (suc (suc (suc zero))))))) d h = refl
slots_at p bytes (suc (suc (suc (suc (suc (suc (suc (suc n)))))))) d h = absurd (omega arith)

pub slots-eight : (p : Place) (bytes : List ℕ) → length (slots_in p bytes) ≡ 8
unfolding slots_in
slots-eight p bytes = refl

slots_more : (p : Place) (bytes : List ℕ) (n : ℕ) → n < 8 → take (n + 1) (slots_in p bytes) ≡ take n (slots_in p bytes)
    ++ slot_in p bytes n ∷ []
slots_more p bytes n h =
    let d = slot_in p bytes n in
    let lt : n < length (slots_in p bytes) = omega (arith, slots-eight p bytes) in
    take_more (slots_in p bytes) n d lt ∙ ap (λ s. take n (slots_in p bytes) ++ s ∷ []) (slots_at p bytes n d h)

used_more : (p : Place) (bytes : List ℕ) (n : ℕ) → n < 8 → filter is_used (take (n + 1) (slots_in p bytes))
    ≡ filter is_used (take n (slots_in p bytes)) ++ filter is_used (slot_in p bytes n ∷ [])
used_more p bytes n h = ap (filter is_used) (slots_more p bytes n h)
    ∙ filter-append is_used (take n (slots_in p bytes)) (slot_in p bytes n ∷ [])

keeps : (s : Slot) → type_byte s ≢ 0 → filter is_used (s ∷ []) ≡ s ∷ []
keeps s h = let e : is_used s ≡ true = grind (arith, nat_tests) in rw e refl

drops : (s : Slot) → type_byte s ≡ 0 → filter is_used (s ∷ []) ≡ []
drops s h = let e : is_used s ≡ false = grind (arith, nat_tests) in rw e refl

-- a slot that is used is appended
pub push-used : (old now new : List Slot) (p : Place) (bytes : List ℕ) (n : ℕ) → n < 8
    → now ≡ old ++ filter is_used (take n (slots_in p bytes)) → type_byte (slot_in p bytes n) ≢ 0
    → new ≡ now ++ slot_in p bytes n ∷ [] → new ≡ old ++ filter is_used (take (n + 1) (slots_in p bytes))
push-used old now new p bytes n h e used pushed =
    pushed ∙ ap (λ xs. xs ++ slot_in p bytes n ∷ []) e ∙ append_assoc old _ _
    ∙ ap (λ xs. old ++ xs) (sym (used_more p bytes n h ∙ ap (λ xs. filter is_used (take n (slots_in p bytes)) ++ xs)
    (keeps (slot_in p bytes n) used)))

pub skip-free : (old now : List Slot) (p : Place) (bytes : List ℕ) (n : ℕ) → n < 8
    → now ≡ old ++ filter is_used (take n (slots_in p bytes)) → type_byte (slot_in p bytes n) ≡ 0
    → now ≡ old ++ filter is_used (take (n + 1) (slots_in p bytes))
skip-free old now p bytes n h e free = e
    ∙ ap (λ xs. old ++ xs) (sym (used_more p bytes n h ∙ ap (λ xs. filter is_used (take n (slots_in p bytes)) ++ xs)
    (drops (slot_in p bytes n) free) ∙ append-nil (filter is_used (take n (slots_in p bytes)))))

pub all-slots : (p : Place) (bytes : List ℕ) → take 8 (slots_in p bytes) ≡ slots_in p bytes
all-slots p bytes = take_all 8 (slots_in p bytes) (omega (arith, slots-eight p bytes))
