-- Files of GEOS with sectors past track 35: their records, one after another.
use Rattle.std.proofs.Common.{◌≡◌, ◌<◌, ◌≤◌, ◌+◌, ◌*◌, ◌-◌, ◌∙◌, ◌++◌, ◌∷◌, ℕ, zero, suc, Bool, false, true, List, [], None, Option, Some, ap, arith, get_or, inl, inr, length, min, refl, subst, sym}
use Rattle.std.specs.List.{AllByRecursion, list_any}
use Rattle.std.specs.Prelude.{◌&&◌, if◌then◌else◌, nat_eq, slice_get, slice_index}
use Rattle.std.proofs.lemmas.Bool.Decides.{eqb_tells}
use Rattle.std.proofs.lemmas.Option.{get_or_from_slice_get, slice_get_within}
use Rattle.disk_layout.specs.declared.slot.Slot.{Slot}
use Rattle.geos_files.specs.Entries.{is_like_geos}
use Rattle.long_chains.specs.Chains.{byte_in, chain_of, if_ended}
use Rattle.long_chains.specs.Sectors.{HasSector, has_more_tracks, sector_at}
use Rattle.long_chains.proofs.Sizes.{few, inside}
use Rattle.geos_files.specs.Long.{are_records_named, at_most, behind, if_taken, is_past, long_geos, named_parts, parts_of, past_only}
use Rattle.geos_files.specs.Long.{record_chain, records_to, with_nth, with_record, without_pairs}

-- what holds of each holds of one
pub all-at : (P : ℕ → Type 0) (ns : List ℕ) (k n : ℕ) → AllByRecursion P ns → k < length ns → n ≡ get_or ns k n → P n
all-at P [] k n all low is = absurd (omega (arith, low))
all-at P (m ∷ ns) zero n all low is = subst P (sym is) all.0
all-at P (m ∷ ns) (suc k) n all low is = all-at P ns k n all.1 (omega (arith, low)) is

-- the bytes of one of these sectors lie in the image
pub one-inside : (image ns : List ℕ) (k n : ℕ) → AllByRecursion (HasSector image) ns → slice_get ns k ≡ Some n
    → 256 * n + 256 ≤ length image
one-inside image ns k n all is =
    inside image n (all-at (HasSector image) ns k n all (slice_get_within ns k n is) (sym (get_or_from_slice_get ns k n n is)))

-- the second byte of a pair
pub second-byte : (image : List ℕ) (b k at : ℕ) → at ≡ 256 * b + (2 * k + 2) → slice_index image (at + 1) ≡ byte_in image b (2 * k + 3)
second-byte image b k at is =
    let e : at + 1 ≡ 256 * b + (2 * k + 3) = omega (arith, is) in ap (λ (i : ℕ). slice_index image i) e

module _ (image : List ℕ) (b : ℕ) (had : List ℕ) where
  -- before the first record
  pub records-none : (pairs : List ℕ) → pairs ≡ [] → Some (had, pairs) ≡ records_to image b had 0
  unfolding records_to
  records-none pairs none = ap (λ (bs : List ℕ). Some (had, bs)) none

  one-more : (k : ℕ) → records_to image b had (k + 1) ≡ with_nth image b k (records_to image b had k)
  unfolding records_to
  one-more k = let e : k + 1 ≡ suc k = omega arith in ap (records_to image b had) e

  -- one record more, or one that isn't there
  pub records-next : (k : ℕ) (ns bs : List ℕ) (t s : ℕ) (o : Option (List ℕ × List ℕ)) → Some (ns, bs) ≡ records_to image b had k
      → t ≡ byte_in image b (2 * k + 2) → s ≡ byte_in image b (2 * k + 3)
      → o ≡ with_record image s (ns, bs) (at_most (min 255 (800 - length ns)) (record_chain image t s))
      → o ≡ records_to image b had (k + 1)
  records-next k ns bs t s o so_far first second is =
      is
      ∙ ap (λ (x : ℕ). with_record image s (ns, bs) (at_most (min 255 (800 - length ns)) (record_chain image x s))) first
      ∙ ap (λ (x : ℕ). with_record image x (ns, bs)
      (at_most (min 255 (800 - length ns)) (record_chain image (byte_in image b (2 * k + 2)) x))) second
      ∙ ap (with_nth image b k) so_far ∙ sym (one-more k)

  -- without one there are none behind
  later-none : (j k : ℕ) → None ≡ records_to image b had k → None ≡ records_to image b had (k + j)
  later-none zero k none = none ∙ (let e : k ≡ k + 0 = omega arith in ap (records_to image b had) e)
  later-none (suc j) k none =
      let e : k + j + 1 ≡ k + suc j = omega arith in
      ap (with_nth image b (k + j)) (later-none j k none) ∙ sym (one-more (k + j)) ∙ ap (records_to image b had) e

  pub none-there : (k : ℕ) → k < 127 → None ≡ records_to image b had (k + 1) → None ≡ records_to image b had 127
  none-there k low none =
      let e : k + 1 + (126 - k) ≡ 127 = omega (arith, low) in later-none (126 - k) (k + 1) none ∙ ap (records_to image b had) e

-- a number that isn't another one
pub not-equal : (a b : ℕ) → (a ≡ b → ⊥) → nat_eq a b ≡ false
not-equal a b other = elim (eqb_tells a b) [
  | inl is ↦ absurd (other is.1)
  | inr isnt ↦ isnt.0
]

-- a chain and no pairs
alone : (r : Bool) (ns : List ℕ) → if_taken r (ns, []) ≡ without_pairs (if_ended r ns)
alone true ns = refl
alone false ns = refl

chosen : (b : Bool) (parts : List ℕ × List ℕ) → if_taken b parts ≡ (if b then Some parts else None)
chosen true parts = refl
chosen false parts = refl

module _ (image : List ℕ) (s : Slot) where
  abbrev info_of : Option ℕ
  info_of = sector_at image (slice_index s.bytes 21) (slice_index s.bytes 22)

  abbrev first_of : Option ℕ
  first_of = sector_at image (slice_index s.bytes 3) (slice_index s.bytes 4)

  -- the image hasn't one of the blocks that the entry names
  pub no-info : None ≡ info_of → None ≡ named_parts image s
  unfolding named_parts
  no-info none = ap (λ (o : Option ℕ). parts_of image s (are_records_named s) o first_of) none

  pub no-first : (info : ℕ) → Some info ≡ info_of → None ≡ first_of → None ≡ named_parts image s
  unfolding named_parts
  no-first info there none =
      ap (λ (o : Option ℕ). parts_of image s (are_records_named s) (Some info) o) none
      ∙ ap (λ (o : Option ℕ). parts_of image s (are_records_named s) o first_of) there

  named-by : (b : Bool) (info first : ℕ) → are_records_named s ≡ b → Some info ≡ info_of → Some first ≡ first_of
      → parts_of image s b (Some info) (Some first) ≡ named_parts image s
  unfolding named_parts
  named-by b info first is there also =
      ap (λ (c : Bool). parts_of image s c (Some info) (Some first)) (sym is)
      ∙ ap (λ (o : Option ℕ). parts_of image s (are_records_named s) (Some info) o) also
      ∙ ap (λ (o : Option ℕ). parts_of image s (are_records_named s) o first_of) there

  -- a file of one chain
  pub named-chain : (info first : ℕ) (r : Bool) (had new pairs : List ℕ) → (slice_index s.bytes 23 ≡ 1 → ⊥) → Some info ≡ info_of
      → Some first ≡ first_of → had ≡ info ∷ [] → pairs ≡ []
      → if_ended r new ≡ behind had (at_most 799 (chain_of image (slice_index s.bytes 3) (slice_index s.bytes 4)))
      → if_taken r (new, pairs) ≡ named_parts image s
  named-chain info first r had new pairs other there also begun none is =
      ap (λ (bs : List ℕ). if_taken r (new, bs)) none ∙ alone r new ∙ ap without_pairs is
      ∙ ap (λ (ns : List ℕ). without_pairs (behind ns
      (at_most 799 (chain_of image (slice_index s.bytes 3) (slice_index s.bytes 4))))) begun
      ∙ named-by false info first (not-equal (slice_index s.bytes 23) 1 other) there also

  -- a file with records
  pub named-records : (info first : ℕ) (o : Option (List ℕ × List ℕ)) (had : List ℕ) → are_records_named s ≡ true
      → Some info ≡ info_of → Some first ≡ first_of → had ≡ info ∷ first ∷ [] → o ≡ records_to image first had 127
      → o ≡ named_parts image s
  named-records info first o had is there also begun are =
      are ∙ ap (λ (ns : List ℕ). records_to image first ns 127) begun ∙ named-by true info first is there also

  -- which files are taken
  pub no-tracks : has_more_tracks image ≡ false → None ≡ long_geos image s
  unfolding long_geos
  no-tracks is = ap (λ (b : Bool). if b && is_like_geos s then past_only (named_parts image s) else None) (sym is)

  by-entry : (b : Bool) → has_more_tracks image ≡ true → is_like_geos s ≡ b
      → (if b then past_only (named_parts image s) else None) ≡ long_geos image s
  unfolding long_geos
  by-entry b more is =
      ap (λ (c : Bool). if c then past_only (named_parts image s) else None) (sym is)
      ∙ ap (λ (c : Bool). if c && is_like_geos s then past_only (named_parts image s) else None) (sym more)

  pub not-like : has_more_tracks image ≡ true → is_like_geos s ≡ false → None ≡ long_geos image s
  not-like more is = by-entry false more is

  pub not-named : has_more_tracks image ≡ true → is_like_geos s ≡ true → None ≡ named_parts image s → None ≡ long_geos image s
  not-named more is none = ap past_only none ∙ by-entry true more is

  pub named-past : (b : Bool) (ns bs : List ℕ) → has_more_tracks image ≡ true → is_like_geos s ≡ true
      → Some (ns, bs) ≡ named_parts image s → b ≡ list_any is_past ns → if_taken b (ns, bs) ≡ long_geos image s
  named-past b ns bs more is are past =
      chosen b (ns, bs) ∙ ap (λ (c : Bool). if c then Some (ns, bs) else None) past ∙ ap past_only are ∙ by-entry true more is
