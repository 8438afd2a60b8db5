-- A file whose blocks stay, and whose last index rises: empty records in the room that its last blocks have left.
use Rattle.std.proofs.Common.{
  ◌≡◌,
  ℕ,
  ◌+◌,
  ◌-◌,
  ◌*◌,
  ◌<◌,
  ◌≤◌,
  inl,
  inr,
  true,
  false,
  List,
  ◌∷◌,
  ◌++◌,
  length,
  get_or,
  slice_index,
  refl,
  sym,
  ◌∙◌,
  ap,
  subst,
  arith,
  IsTrue,
  IsFalse,
}
use Rattle.std.specs.Prelude.{Contains, slice_get, Some, flat_map, replicate}
use Rattle.std.specs.List.{AllByRecursion}
use Rattle.std.proofs.lemmas.Bool.{cases_lt}
use Rattle.std.proofs.lemmas.List.Elements.{Contains-append_left}
use Rattle.std.proofs.lemmas.Grind.{flat_map-append}
use Rattle.d64_image.proofs.Images.{sector-put_same}
use Rattle.d64_image.specs.Images.{Image, IsImage, Sector, put, sector}
use Rattle.d64_image.specs.declared.place.Place.{Place}
use Rattle.disk_layout.proofs.lemmas.chains.Chains.{Leads-frame, SameLinks, chain-front, chain-last, links-agree}
use Rattle.disk_layout.proofs.lemmas.growth.Commit.{IsLayout-replace, all-right, alone, keeps-other, own-once}
use Rattle.disk_layout.proofs.lemmas.growth.SideWrites.{same-layout}
use Rattle.disk_layout.proofs.lemmas.layouts.Layouts.{get-contains}
use Rattle.disk_layout.proofs.lemmas.layouts.Frames.{IsSide-frame, unless-same}
use Rattle.disk_layout.proofs.lemmas.lists.Once.{EachOnce-apart}
use Rattle.disk_layout.proofs.lemmas.records.Fillers.{pieces-fill}
use Rattle.disk_layout.proofs.lemmas.records.Joined.{joined-at, joined-block, length-joined}
use Rattle.disk_layout.proofs.lemmas.records.Pieces.{pieces-same}
use Rattle.disk_layout.specs.Chain.{EachOnce, EndsAt, IsChain, byte}
use Rattle.disk_layout.specs.Directory.{map_place}
use Rattle.disk_layout.specs.Layout.{
  File,
  IsFile,
  IsLayout,
  IsRelFile,
  IsSide,
  Layout,
  exchanged,
  file_owns,
  is_rel,
  owners,
  record_length,
}
use Rattle.disk_layout.specs.Records.{empty_record, filler, joined, pieces, record_count, records}
use Rattle.disk_layout.specs.Visited.{room}

-- the file with another last index
abbrev pub ended : File → ℕ → File
ended f u = record { slot = f.slot; blocks = f.blocks; last = u; sides = f.sides }

-- a write to block r that changes only bytes behind the records keeps them
pub records-past : (img : Image) (f : File) (r : ℕ) (p : Place) (b : Sector) → IsImage img → IsImage (put img p b)
    → EachOnce f.blocks → slice_get f.blocks r ≡ Some p → record_count (length f.blocks) f.last (record_length f.slot)
    * record_length f.slot ≤ 254 * length f.blocks
    → ((j : ℕ) → j < 254 → 254 * r + j < record_count (length f.blocks) f.last (record_length f.slot) * record_length
    f.slot → slice_index b (2 + j) ≡ byte img p (2 + j)) → records (put img p b) f ≡ records img f
unfolding records
records-past img f r p b w v once at fit same =
    pieces-same (record_length f.slot) (record_count (length f.blocks) f.last (record_length f.slot))
    (joined (put img p b) f.blocks) (joined img f.blocks)
    (rw (length-joined (put img p b) f.blocks v) fit) (rw (length-joined img f.blocks w) fit) bytes
  where
    inside : (j : ℕ) → j < 254 → 254 * r + j < record_count (length f.blocks) f.last (record_length f.slot)
        * record_length f.slot → get_or (joined (put img p b) f.blocks) (254 * r + j) 0 ≡ get_or (joined img f.blocks)
        (254 * r + j) 0
    inside j h low =
        joined-at (put img p b) f.blocks r j p v at h
        ∙ ap (λ s. slice_index s (2 + j)) (sector-put_same img p b w.size)
        ∙ same j h low
        ∙ sym (joined-at img f.blocks r j p w at h)

    bytes : (i : ℕ) → i < record_count (length f.blocks) f.last (record_length f.slot) * record_length f.slot
        → get_or (joined (put img p b) f.blocks) i 0 ≡ get_or (joined img f.blocks) i 0
    bytes i low = elim (cases_lt i (254 * r)) [
      | inl x ↦ joined-block img f.blocks r p b w v once at i (inl x)
      | inr x ↦ elim (cases_lt i (254 * r + 254)) [
        | inl y ↦ let e : 254 * r + (i - 254 * r) ≡ i = omega arith in
            subst (λ (m : ℕ). get_or (joined (put img p b) f.blocks) m 0 ≡ get_or (joined img f.blocks) m 0) e
            (inside (i - 254 * r) (omega arith) (rw e low))
        | inr y ↦ joined-block img f.blocks r p b w v once at i (inr y)
      ]
    ]

-- a file that has c records, and another of that record length and of c + m: the same bytes up to the records, and the
-- filler's from there on
pub records-more : (a b : Image) (f g : File) (c m : ℕ) → IsImage a → IsImage b
    → record_length g.slot ≡ record_length f.slot → 0 < record_length f.slot
    → record_count (length f.blocks) f.last (record_length f.slot) ≡ c
    → record_count (length g.blocks) g.last (record_length f.slot) ≡ c + m
    → c * record_length f.slot ≤ 254 * length f.blocks → (c + m) * record_length f.slot ≤ 254 * length g.blocks
    → ((i : ℕ) → i < c * record_length f.slot → get_or (joined a f.blocks) i 0 ≡ get_or (joined b g.blocks) i 0)
    → ((i : ℕ) → c * record_length f.slot ≤ i → i < (c + m) * record_length f.slot
    → get_or (joined b g.blocks) i 0 ≡ filler (record_length f.slot) (c + m) i)
    → records b g ≡ records a f ++ replicate m (empty_record (record_length f.slot))
unfolding records
records-more a b f g c m w v same pos before now fits room low high =
    ap (λ L. pieces L (record_count (length g.blocks) g.last L) (joined b g.blocks)) same
    ∙ ap (λ k. pieces (record_length f.slot) k (joined b g.blocks)) now
    ∙ pieces-fill (record_length f.slot) c m (joined a f.blocks) (joined b g.blocks) pos
    (rw (length-joined a f.blocks w) fits) (rw (length-joined b g.blocks v) room) low high
    ∙ ap (λ k. pieces (record_length f.slot) k (joined a f.blocks) ++ replicate m (empty_record (record_length f.slot)))
    (sym before)

-- a file that owns the same in another's place
pub owners-same : (l : Layout) (before after : List File) (f g : File) → file_owns f ≡ file_owns g
    → owners (exchanged l before f after) ≡ owners (exchanged l before g after)
unfolding owners
owners-same l before after f g e =
    ap (λ ps. l.directory ++ ps) (flat_map-append file_owns before (f ∷ after)
    ∙ ap (λ ps. flat_map file_owns before ++ (ps ++ flat_map file_owns after)) e
    ∙ sym (flat_map-append file_owns before (g ∷ after)))

-- the chain ends with another index
IsChain-ended : (a b : Image) (p : Place) (ps : List Place) (u w : ℕ) → (c : IsChain a p ps u) → SameLinks a b c.front
    → EndsAt b c.last w → IsChain b p ps w
IsChain-ended a b p ps u w c same end = record {
  front = c.front;
  last = c.last;
  places = c.places;
  leads = Leads-frame a b p c.last c.front same c.leads;
  ends = end;
  once = c.once;
}

-- a write of a file's last block that ends it with another index changes the file's last index, and keeps all else
pub IsLayout-ended : (a : Image) (l : Layout) (before after : List File) (f : File) (u : ℕ) (bytes : Sector)
    → length a ≡ 683 → IsLayout a l → l.files ≡ before ++ f ∷ after → (r : IsRelFile a f) → IsTrue (is_rel f.slot)
    → slice_index bytes 0 ≡ 0 → slice_index bytes 1 ≡ u
    → IsLayout (put a r.chain.2.last bytes) (exchanged l before (ended f u) after)
IsLayout-ended a l before after f u bytes full h split r rel zero index =
    let c = r.chain.2 in
    let last = c.last in
    let mine : Contains f.blocks last = chain-last a r.chain.0 f.blocks f.last c in
    let once = once-here in
    let own : Contains (file_owns f) last = Contains-append_left f.blocks f.sides last mine in
    let only = alone l before after f once last own in
    let each = own-once l before after f once in
    let there : sector (put a last bytes) last ≡ bytes = sector-put_same a last bytes full in
    let old = all-right (IsFile a) before (f ∷ after) (let P : List File
    → Type 0 = λ fs. AllByRecursion (IsFile a) fs in subst P split h.files) in
    let file : IsRelFile (put a last bytes) (ended f u) = record {
      chain = (
        r.chain.0,
        r.chain.1,
        IsChain-ended a (put a last bytes) r.chain.0 f.blocks f.last u c
            (links-agree a (put a last bytes) c.front
            (λ q d. unless-same a last q bytes (λ e. (chain-front a r.chain.0 f.blocks f.last c q d).1 (sym e))))
            (rw there (zero, index)),
      );
      length_low = r.length_low;
      length_high = r.length_high;
      count = r.count;
      first_side = r.first_side;
      sides = λ j q e. IsSide-frame a (put a last bytes) (ended f u) j q
          (unless-same a last q bytes (λ s. EachOnce-apart f.blocks f.sides each last mine
          (rw s (get-contains f.sides j q e)))) (same-side j q (r.sides j q e));
    } in
    IsLayout-replace a (put a last bytes) l before after f (ended f u) h split refl
    (λ q d. unless-same a last q bytes (λ e. only.directory (rw e d)))
    (keeps-other a last bytes before only.before)
    (keeps-other a last bytes after only.after)
    (record {
      closed = old.0.closed;
      rel = λ t. file;
      empty = λ t z. absurd (differ t rel);
      plain = λ t z. absurd (differ t rel);
    })
    (let Q : List Place → Type 0 = λ ps. EachOnce (map_place ∷ ps) in subst Q same-owners once)
  where
    once-here : EachOnce (map_place ∷ owners (exchanged l before f after))
    once-here = let P : Layout → Type 0 = λ k. EachOnce (map_place ∷ owners k) in
        subst P (sym (same-layout l before after f split)) h.once

    same-owners : owners (exchanged l before f after) ≡ owners (exchanged l before (ended f u) after)
    same-owners = owners-same l before after f (ended f u) refl

    same-side : (j : ℕ) (q : Place) → IsSide a f j q → IsSide a (ended f u) j q
    same-side j q s = record {
      number = s.number;
      length_byte = s.length_byte;
      sides = s.sides;
      link = s.link;
      pointers = s.pointers;
    }

    differ : IsFalse (is_rel f.slot) → IsTrue (is_rel f.slot) → ⊥
    differ n t = let e : true ≡ false = sym t ∙ n in cc
