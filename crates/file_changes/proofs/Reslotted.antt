-- One entry of the directory rewritten: the layout has it in the place of the old one.
use Rattle.std.proofs.Common.{◌≡◌, ◌≢◌, ℕ, ◌<◌, List, ◌∷◌, ◌++◌, ap, drop, length, map, slice_index}
use Rattle.std.proofs.Common.{subst, suc, sym, take, true, ◌∙◌}
use Rattle.std.proofs.lemmas.Grind.{flat_map-append}
use Rattle.std.proofs.lemmas.List.{map-append}
use Rattle.std.specs.List.{AllByRecursion}
use Rattle.std.specs.Prelude.{Contains, Some, flat_map, nat_eq, not, slice_get}
use Rattle.d64_image.specs.Images.{Image, Sector, put, sector}
use Rattle.d64_image.specs.declared.place.Place.{Place}
use Rattle.disk_layout.proofs.lemmas.counts.Faces.{IsFile-slot, IsLayout-directory, SameFace, with_slot}
use Rattle.disk_layout.proofs.lemmas.counts.Recount.{around, slot-there, split-one, used_slots-one}
use Rattle.disk_layout.proofs.lemmas.counts.Recounts.{slot-of}
use Rattle.disk_layout.proofs.lemmas.growth.Commit.{all-join, all-left, all-right, keeps-other}
use Rattle.disk_layout.proofs.lemmas.layouts.Frames.{files-frame, unless-same}
use Rattle.disk_layout.proofs.lemmas.layouts.Layouts.{get-contains}
use Rattle.disk_layout.proofs.lemmas.lists.Once.{Contains-here, EachOnce-apart, EachOnce-right, flat_map-in}
use Rattle.disk_layout.specs.Chain.{EachOnce}
use Rattle.disk_layout.specs.Directory.{is_used, slot_in, used_slots}
use Rattle.disk_layout.specs.Layout.{File, IsFile, IsLayout, Layout, file_owns, owners}
use Rattle.disk_layout.specs.declared.slot.Slot.{Slot}
use Rattle.layout_check.proofs.lemmas.finding.Listed.{entries-once}
use Rattle.rel_records.proofs.lemmas.creation.InSlot.{put-links}

abbrev pub slots_of : List File → List Slot
slots_of fs = map (λ f. f.slot) fs

-- file n of a layout stands between those before and those behind it
module _ (a : Image) (l : Layout) (n : ℕ) (f : File) (h : IsLayout a l) (at : slice_get l.files n ≡ Some f) where
  abbrev pub before : List File
  before = take n l.files

  abbrev pub behind : List File
  behind = drop (suc n) l.files

  pub split : l.files ≡ take n l.files ++ f ∷ drop (suc n) l.files
  split = around l.files n f at

  pub own : Contains l.files f
  own = get-contains l.files n f at

  -- its entry stands in the directory
  pub place : Contains l.directory f.slot.sector × (f.slot.number < 8)
      × (f.slot ≡ slot_in f.slot.sector (sector a f.slot.sector) f.slot.number) × (is_used f.slot ≡ true)
  place = slot-there a l.directory f.slot (slot-of a l f h own)

  pub slots-split : slots_of l.files ≡ slots_of before ++ f.slot ∷ slots_of behind
  slots-split = ap slots_of split ∙ map-append (λ (x : File). x.slot) before (f ∷ behind)

  each : EachOnce (slots_of before ++ f.slot ∷ slots_of behind)
  each = subst EachOnce slots-split (entries-once a l.directory (slots_of l.files) h.directory)

  pub not-before : ¬ (Contains (slots_of before) f.slot)
  not-before c = EachOnce-apart (slots_of before) (f.slot ∷ slots_of behind) each f.slot c
      (Contains-here f.slot (slots_of behind))

  pub not-behind : ¬ (Contains (slots_of behind) f.slot)
  not-behind = (EachOnce-right (slots_of before) (f.slot ∷ slots_of behind) each).0

  -- no file owns its directory sector
  pub unowned : ¬ (Contains (flat_map file_owns l.files) f.slot.sector)
  unfolding owners
  unowned = EachOnce-apart l.directory (flat_map file_owns l.files) h.once.1 f.slot.sector place.0

  pub owned-stays : (b : Sector) (g : File) (q : Place) → Contains l.files g → Contains (file_owns g) q
      → sector (put a f.slot.sector b) q ≡ sector a q
  owned-stays b g q c d = sym (unless-same a f.slot.sector q b (λ e.
      let P : Place → Type 0 = Contains (flat_map file_owns l.files) in
      unowned (subst P (sym e) (flat_map-in file_owns l.files g q c d))))

  -- its directory sector is written with bytes that change its entry alone, and nothing of that but what a layout
  -- doesn't judge
  module _ (b : Sector) (full : length a ≡ 683)
      (others : (k : ℕ) → k < 8 → k ≢ f.slot.number
      → slot_in f.slot.sector (sector a f.slot.sector) k ≡ slot_in f.slot.sector b k)
      (links : (slice_index (sector a f.slot.sector) 0 ≡ slice_index b 0)
      × (slice_index (sector a f.slot.sector) 1 ≡ slice_index b 1))
      (face : SameFace f.slot (slot_in f.slot.sector b f.slot.number)) where
    abbrev p : Place
    p = f.slot.sector

    abbrev new : Slot
    new = slot_in f.slot.sector b f.slot.number

    abbrev g : File
    g = with_slot f (slot_in f.slot.sector b f.slot.number)

    used : is_used new ≡ true
    used = ap (λ n. not (nat_eq n 0)) (sym face.kind) ∙ place.3

    slots-now : used_slots (put a p b) l.directory ≡ slots_of before ++ new ∷ slots_of behind
    slots-now =
        let (xs, ys, e, d) = used_slots-one a l.directory p f.slot.number b full h.directory.chain.once place.0 place.1
        others (ap is_used (sym place.2) ∙ place.3) used in
        let old : xs ++ f.slot ∷ ys ≡ slots_of before ++ f.slot ∷ slots_of behind =
        ap (λ s. xs ++ s ∷ ys) place.2 ∙ sym e ∙ sym h.directory.slots ∙ slots-split in
        let both = split-one xs ys (slots_of before) (slots_of behind) f.slot old not-before not-behind in
        d ∙ ap (λ zs. zs ++ new ∷ ys) both.0 ∙ ap (λ zs. slots_of before ++ new ∷ zs) both.1

    same-owns : flat_map file_owns (before ++ g ∷ behind) ≡ flat_map file_owns l.files
    same-owns = flat_map-append file_owns before (g ∷ behind)
        ∙ sym (ap (flat_map file_owns) split ∙ flat_map-append file_owns before (f ∷ behind))

    pub reslotted : IsLayout (put a f.slot.sector b) (record {
      directory = l.directory;
      files = take n l.files ++ with_slot f (slot_in f.slot.sector b f.slot.number) ∷ drop (suc n) l.files;
    })
    reslotted =
        let now : AllByRecursion (IsFile (put a p b)) (before ++ f ∷ behind) =
        rw split at (files-frame a (put a p b) l.files (keeps-other a p b l.files unowned) h.files) in
        let right = all-right (IsFile (put a p b)) before (f ∷ behind) now in
        IsLayout-directory a (put a p b) l (before ++ g ∷ behind) h (put-links a p b full links l.directory)
        (map-append (λ (x : File). x.slot) before (g ∷ behind) ∙ sym slots-now)
        (all-join (IsFile (put a p b)) before (g ∷ behind)
        (all-left (IsFile (put a p b)) before (f ∷ behind) now)
        (IsFile-slot (put a p b) f new face right.0, right.1))
        same-owns
