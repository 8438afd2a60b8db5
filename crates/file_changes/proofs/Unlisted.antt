-- The type of an entry cleared: the layout has its file no longer.
use Rattle.std.proofs.Common.{◌≡◌, ◌≢◌, ℕ, ◌<◌, ◌≤◌, ◌+◌, ◌*◌, inl, inr, List, [], ◌∷◌, ◌++◌, ap, append_assoc, arith}
use Rattle.std.proofs.Common.{drop, false, length, slice_index, subst, suc, sym, take, ◌∙◌, ◌-◌}
use Rattle.std.proofs.lemmas.Grind.{flat_map-append}
use Rattle.std.proofs.lemmas.List.{map-append}
use Rattle.std.proofs.lemmas.List.Elements.{Contains-append_cases, Contains-append_left, Contains-append_right}
use Rattle.std.specs.List.{AllByRecursion}
use Rattle.std.specs.Prelude.{Some, flat_map, nat_eq, not, slice_get, slice_range}
use Rattle.d64_image.proofs.Images.{is_sector, length-put, put-put, put-sector, sector-put_same}
use Rattle.d64_image.specs.Images.{Image, IsImage, Sector, put, sector}
use Rattle.d64_image.specs.Offsets.{overwritten}
use Rattle.d64_image.specs.declared.place.Place.{Place}
use Rattle.disk_layout.proofs.lemmas.chains.Chains.{IsChain-frame}
use Rattle.disk_layout.proofs.lemmas.counts.CountWrites.{slot-byte}
use Rattle.disk_layout.proofs.lemmas.counts.Recount.{split-at, split-one}
use Rattle.disk_layout.proofs.lemmas.growth.Commit.{all-join, all-left, all-right, keeps-other}
use Rattle.disk_layout.proofs.lemmas.layouts.Frames.{files-frame}
use Rattle.disk_layout.proofs.lemmas.lists.Once.{EachOnce-right}
use Rattle.disk_layout.specs.Chain.{EachOnce}
use Rattle.disk_layout.specs.Directory.{directory_start, is_used, map_place, slot_in, type_byte, used_slots}
use Rattle.disk_layout.specs.Layout.{File, IsFile, IsLayout, Layout, file_owns, owners}
use Rattle.rel_records.proofs.lemmas.creation.InSlot.{put-links}
use Rattle.rel_records.proofs.lemmas.directory.NewSlots.{used_before, used_behind, used_slots-free, used_slots-new}
use Rattle.file_changes.proofs.Overwritten.{over-before, over-in, over-slots}
use Rattle.file_changes.proofs.Reslotted.{not-before, not-behind, place, slots-split, slots_of, split, unowned}
use Rattle.file_changes.specs.Entries.{without_file}
use Rattle.file_changes.specs.Patches.{patched}

-- elements left out of a list of which each comes once
once-without : {X : Type 0} (xs ys zs : List X) → EachOnce (xs ++ (ys ++ zs)) → EachOnce (xs ++ zs)
once-without [] ys zs h = EachOnce-right ys zs h
once-without (x ∷ xs) ys zs h = (
  λ c. h.0 (elim (Contains-append_cases xs zs x c) [
    | inl d ↦ Contains-append_left xs (ys ++ zs) x d
    | inr d ↦ Contains-append_right xs (ys ++ zs) x (Contains-append_right ys zs x d)
  ]),
  once-without xs ys zs h.1,
)

module _ (a : Image) (l : Layout) (n : ℕ) (f : File) (h : IsLayout a l) (at : slice_get l.files n ≡ Some f)
    (image : IsImage a) where
  abbrev p : Place
  p = f.slot.sector

  abbrev k : ℕ
  k = f.slot.number

  abbrev x : Sector
  x = sector a f.slot.sector

  abbrev none : List ℕ
  none = 0 ∷ []

  abbrev y : Sector
  y = overwritten (sector a f.slot.sector) (32 * f.slot.number + 2) (0 ∷ [])

  abbrev b : Image
  b = patched a f.slot.sector (32 * f.slot.number + 2) (0 ∷ [])

  low : f.slot.number < 8
  low = (place a l n f h at).1

  long : length (sector a f.slot.sector) ≡ 256
  long = (is_sector a f.slot.sector image).size

  all : 32 * f.slot.number + 2 + length {A = ℕ} (0 ∷ []) ≤ length (sector a f.slot.sector)
  all = omega (arith, long, low)

  there : sector b f.slot.sector ≡ y
  there = sector-put_same a p y image.size

  cleared : type_byte (slot_in p y k) ≡ 0
  cleared =
      let z : 32 * k + 2 - (32 * k + 2) ≡ 0 = omega arith in
      slot-byte y k 2 (omega arith) ∙ over-in x none (32 * k + 2) all (32 * k + 2) (omega arith) (omega arith)
      ∙ ap (slice_index none) z

  free : is_used (slot_in p (sector b p) k) ≡ false
  free = ap (λ z. is_used (slot_in p z k)) there ∙ ap (λ t. not (nat_eq t 0)) cleared

  apart : (j : ℕ) → j < 8 → j ≢ k → slot_in p (sector b p) j ≡ slot_in p x j
  apart j lt ne = ap (λ (bs : List ℕ). record { sector = f.slot.sector; number = j; bytes = bs })
      (ap (λ (z : Sector). slice_range z (32 * j) (32 * j + 32)) there
      ∙ sym (over-slots x none k 2 long low (omega arith) j lt ne))

  -- the old sector put back is the old image
  back-again : put b p x ≡ a
  back-again = put-put a p y x ∙ put-sector a p

  slots-now : slots_of (take n l.files) ++ slots_of (drop (suc n) l.files) ≡ used_slots b l.directory
  slots-now =
      let (front, back, e) = split-at l.directory p (place a l n f h at).0 in
      let once : EachOnce (front ++ p ∷ back) = rw e at h.directory.chain.once in
      let used = ap is_used (sym (place a l n f h at).2) ∙ (place a l n f h at).3 in
      let old : used_before b front p k ++ f.slot ∷ used_behind b p k back
      ≡ slots_of (take n l.files) ++ f.slot ∷ slots_of (drop (suc n) l.files) =
      ap (λ s. used_before b front p k ++ s ∷ used_behind b p k back) (place a l n f h at).2
      ∙ sym (used_slots-new b front back p k x (put-long a) once low apart used)
      ∙ ap (λ i. used_slots i (front ++ p ∷ back)) back-again
      ∙ ap (used_slots a) (sym e) ∙ sym h.directory.slots ∙ slots-split a l n f h at in
      let both = split-one (used_before b front p k) (used_behind b p k back) _ _ f.slot old
      (not-before a l n f h at) (not-behind a l n f h at) in
      ap (λ zs. zs ++ slots_of (drop (suc n) l.files)) (sym both.0) ∙ ap (λ zs. used_before b front p k ++ zs) (sym both.1)
      ∙ sym (used_slots-free b front back p k low free) ∙ ap (used_slots b) (sym e)
    where
      put-long : (i : Image) → length b ≡ 683
      put-long i = length-put a p y ∙ image.size

  once-now : EachOnce (map_place ∷ owners (without_file l n))
  unfolding owners
  once-now =
      let A : List Place = flat_map file_owns (take n l.files) in
      let B : List Place = flat_map file_owns (drop (suc n) l.files) in
      let old : flat_map file_owns l.files ≡ A ++ (file_owns f ++ B) =
      ap (flat_map file_owns) (split a l n f h at) ∙ flat_map-append file_owns (take n l.files) (f ∷ drop (suc n) l.files) in
      let was : EachOnce ((map_place ∷ (l.directory ++ A)) ++ (file_owns f ++ B)) =
      subst EachOnce (ap (λ (ps : List Place). map_place ∷ ps) (ap (λ (ps : List Place). l.directory ++ ps) old
      ∙ sym (append_assoc l.directory A (file_owns f ++ B)))) h.once in
      subst EachOnce (ap (λ (ps : List Place). map_place ∷ ps) (append_assoc l.directory A B
      ∙ ap (λ (ps : List Place). l.directory ++ ps)
      (sym (flat_map-append file_owns (take n l.files) (drop (suc n) l.files)))))
      (once-without (map_place ∷ (l.directory ++ A)) (file_owns f) B was)

  pub unlisted : IsLayout (patched a f.slot.sector (32 * f.slot.number + 2) (0 ∷ [])) (without_file l n)
  unlisted =
      let now : AllByRecursion (IsFile b) (take n l.files ++ f ∷ drop (suc n) l.files) =
      rw (split a l n f h at) at (files-frame a b l.files (keeps-other a p y l.files (unowned a l n f h at)) h.files) in
      record {
        directory = record {
          last = h.directory.last;
          chain = IsChain-frame a b directory_start l.directory h.directory.last (put-links a p y image.size (
            sym (over-before x none (32 * k + 2) all 0 (omega arith)),
            sym (over-before x none (32 * k + 2) all 1 (omega arith)),
          ) l.directory) h.directory.chain;
          on_track = h.directory.on_track;
          not_map = h.directory.not_map;
          slots = map-append (λ (z : File). z.slot) (take n l.files) (drop (suc n) l.files) ∙ slots-now;
        };
        files = all-join (IsFile b) (take n l.files) (drop (suc n) l.files)
            (all-left (IsFile b) (take n l.files) (f ∷ drop (suc n) l.files) now)
            (all-right (IsFile b) (take n l.files) (f ∷ drop (suc n) l.files) now).1;
        once = once-now;
      }
