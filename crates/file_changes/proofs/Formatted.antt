-- An empty disk: 18/0 without a map and an empty directory are written, and a repair makes the map.
use Rattle.std.proofs.Common.{◌≡◌, ◌≢◌, ℕ, ◌≤◌, ◌+◌, ◌++◌, [], ◌∷◌, List, Err, Ok, Result, ap, arith, drop, inl, inr}
use Rattle.std.proofs.Common.{length, refl, replicate, sym, take, ◌∙◌}
use Rattle.std.proofs.lemmas.Nat.Bits.{bit_at-zero}
use Rattle.std.specs.Result.{IsErrAnd}
use Rattle.d64_image.proofs.Images.{length-put, sector-put_other, sector-put_same}
use Rattle.d64_image.proofs.Moments.{at_end, failed_later, then, weaker, writing}
use Rattle.d64_image.specs.Calls.{WritesSector}
use Rattle.d64_image.specs.History.{Changes, History, HeldOnly}
use Rattle.d64_image.specs.Images.{Image, Sector, put, sector}
use Rattle.d64_image.specs.Places.{first_place}
use Rattle.d64_image.specs.declared.faults.DeviceFault.{DeviceFault}
use Rattle.d64_image.specs.declared.place.Place.{Place}
use Rattle.disk_layout.proofs.lemmas.lists.Once.{Contains-cases, Contains-nil}
use Rattle.disk_layout.specs.Blank.{names_of}
use Rattle.disk_layout.specs.Clean.{IsCleanLayout}
use Rattle.disk_layout.specs.Directory.{directory_start, map_place, slots_in, used_slots}
use Rattle.disk_layout.specs.Layout.{IsLayout, owners}
use Rattle.disk_layout.specs.Map.{map_bit}
use Rattle.disk_layout.specs.Rest.{header_of}
use Rattle.disk_layout.specs.declared.faults.Fault.{Fault}
use Rattle.layout_check.specs.Repaired.{Repairs}
use Rattle.layout_check.specs.declared.survey_outcome.Survey.{Survey}
use Rattle.file_changes.proofs.Mapped.{IsRemapped, remap-clean, remap-writes, remaps, repair-failed}
use Rattle.file_changes.specs.Formats.{Formats, SameOutside, empty_directory, empty_header, empty_layout}

-- 18/0 before the map is made
abbrev pub start_header : List ℕ → List ℕ → Sector
start_header name id = (18 ∷ 1 ∷ 65 ∷ 0 ∷ []) ++ (replicate 140 0 ++ names_of name id)

sectors-apart : map_place ≢ directory_start
sectors-apart e = let z : ◌≡◌ {A = ℕ} 0 1 = ap (λ (p : Place). p.sector) e in omega (arith, z)

-- a disk with an empty directory
laid : (img : Image) → sector img directory_start ≡ empty_directory → IsLayout img empty_layout
unfolding owners used_slots slots_in
laid img e = record {
  directory = record {
    last = 255;
    chain = record {
      front = [];
      last = directory_start;
      places = refl;
      leads = refl;
      ends = rw e (refl, refl);
      once = (Contains-nil directory_start, tt);
    };
    on_track = (refl, tt);
    not_map = λ c. elim (Contains-cases map_place directory_start [] c) [
      | inl same ↦ sectors-apart (sym same)
      | inr d ↦ Contains-nil map_place d
    ];
    slots = rw e refl;
  };
  files = tt;
  once = (
    λ c. elim (Contains-cases map_place directory_start [] c) [
      | inl same ↦ sectors-apart (sym same)
      | inr d ↦ Contains-nil map_place d
    ],
    (Contains-nil directory_start, tt),
  );
}

module _ (a : Image) (name id : List ℕ) (full : length a ≡ 683) where
  abbrev one : Image
  one = put a map_place (start_header name id)

  abbrev two : Image
  two = put one directory_start empty_directory

  outside : SameOutside a one
  outside p ne nd = sector-put_other a map_place p _ (λ e. ne (sym e))

  outside-two : SameOutside a two
  outside-two p ne nd = sector-put_other one directory_start p _ (λ e. nd (sym e)) ∙ outside p ne nd

  long-one : length one ≡ 683
  long-one = length-put a map_place _ ∙ full

  directory-two : sector two directory_start ≡ empty_directory
  directory-two = sector-put_same one directory_start empty_directory long-one

  map-two : sector two map_place ≡ start_header name id
  map-two = sector-put_other one directory_start map_place _ (λ e. sectors-apart (sym e))
      ∙ sector-put_same a map_place (start_header name id) full

  header-two : header_of two ≡ empty_header name id
  header-two = ap (λ (z : List ℕ). take 4 z ++ drop 144 z) map-two

  -- the map of a clean empty disk calls 1/0 free, and this one doesn't
  map-changed : (c : Image) → IsCleanLayout c empty_layout → sector c map_place ≢ sector two map_place
  unfolding owners
  map-changed c clean same =
      let free = (clean.map.marked first_place).1 (λ on. elim (Contains-cases first_place map_place (directory_start ∷ []) on) [
        | inl e ↦ (let z : ◌≡◌ {A = ℕ} 18 1 = ap (λ (p : Place). p.track) e in omega (arith, z))
        | inr more ↦ elim (Contains-cases first_place directory_start [] more) [
          | inl e ↦ (let z : ◌≡◌ {A = ℕ} 18 1 = ap (λ (p : Place). p.track) e in omega (arith, z))
          | inr none ↦ Contains-nil first_place none
        ]
      ]) in
      let zero : map_bit (start_header name id) 1 0 ≡ 0 = bit_at-zero 0 in
      omega (arith, free, ap (λ (z : Sector). map_bit z 1 0) (same ∙ map-two), zero)

module _ {D : Type 0} (S : History D) (a b c : D) (name id : List ℕ) (bytes dir : Sector)
    (first : bytes ≡ start_header name id) (second : dir ≡ empty_directory) (mp ds : Place) (at-map : mp ≡ map_place)
    (at-dir : ds ≡ directory_start) where
  abbrev i : Image
  i = S.image a

  one-is : put (S.image a) mp bytes ≡ one (S.image a) name id (S.whole a).size
  one-is = ap (λ (p : Place). put (S.image a) p bytes) at-map ∙ ap (put (S.image a) map_place) first

  held-one : {T : Type 0} (r : Result T DeviceFault) {fault : DeviceFault} → WritesSector S a b mp bytes fault r
      → HeldOnly S a b (SameOutside (S.image a))
  held-one r w = writing S a b _ _ _ w.held (λ p ne nd. refl) (λ p ne nd. sector-put_other (S.image a) mp p bytes
      (λ e. ne (sym e ∙ at-map)))

  module _ (w : WritesSector {T = Unit {0}} {E = DeviceFault} S a b mp bytes (record {}) (Ok (tt {0}))) where
    outside-b : SameOutside (S.image a) (S.image b)
    outside-b p ne nd = ap (λ (z : Image). sector z p) w.ok ∙ sector-put_other (S.image a) mp p bytes (λ e. ne (sym e ∙ at-map))

    held-two : {T : Type 0} (r : Result T DeviceFault) {fault : DeviceFault}
        → WritesSector S b c ds dir fault r → HeldOnly S b c (SameOutside (S.image a))
    held-two r v = writing S b c _ _ _ v.held outside-b (λ p ne nd. sector-put_other (S.image b) ds p dir
        (λ e. nd (sym e ∙ at-dir)) ∙ outside-b p ne nd)

    module _ (v : WritesSector {T = Unit {0}} {E = DeviceFault} S b c ds dir (record {}) (Ok (tt {0}))) (d : D)
        (r : Result Survey Fault) (repairs : Repairs S c d r) where
      now : S.image c ≡ two (S.image a) name id (S.whole a).size
      now = v.ok ∙ ap (λ (p : Place). put (S.image b) p dir) at-dir
          ∙ ap (λ (z : Image). put z directory_start dir) (w.ok ∙ one-is)
          ∙ ap (put (one (S.image a) name id (S.whole a).size) directory_start) second

      empty : IsLayout (S.image c) empty_layout
      empty = laid (S.image c) (ap (λ (z : Image). sector z directory_start) now
          ∙ directory-two (S.image a) name id (S.whole a).size)

      remapped : HeldOnly S c d (IsRemapped (S.image c) empty_layout)
      remapped = remaps S c d empty_layout empty tt r repairs

      outside-c : SameOutside (S.image a) (S.image c)
      outside-c p ne nd = ap (λ (z : Image). sector z p) now ∙ outside-two (S.image a) name id (S.whole a).size p ne nd

      moments : Changes S a d 3 (SameOutside (S.image a))
      moments = record {
        held = then S a b d _ (held-one (Ok (tt {0})) w) (then S b c d _ (held-two (Ok (tt {0})) v)
            (weaker S c d _ _ (λ z re p ne nd. re.elsewhere p ne ∙ outside-c p ne nd) remapped));
        writes = omega (arith, w.counted, v.counted, remap-writes S c d empty_layout empty tt r repairs);
      }

      reads : S.reads d ≤ S.reads a + 4179
      reads = omega (arith, w.reads, v.reads, repairs.reads)

    pub formats-done : WritesSector {T = Unit {0}} {E = DeviceFault} S b c ds dir (record {}) (Ok (tt {0})) → (d : D)
        (x : Survey) → Repairs S c d (Ok x) → Formats S a d name id (Ok (tt {0}))
    formats-done v d x repairs =
        let last = at_end S c d _ (remapped v d (Ok x) repairs) in
        let clean : IsCleanLayout (S.image d) empty_layout =
        remap-clean S c d empty_layout (empty v d (Ok x) repairs) tt (Ok x) repairs in
        let same = now v d (Ok x) repairs in
        record {
          ok = record {
            nothing = record {
              clean = clean;
              header = last.header ∙ ap header_of same ∙ header-two (S.image a) name id (S.whole a).size;
              spare = repairs.spare (λ e. map-changed (S.image a) name id (S.whole a).size (S.image d) clean
                  (e ∙ ap (λ (z : Image). sector z map_place) same));
              directory = last.elsewhere directory_start (λ e. sectors-apart (sym e))
                  ∙ ap (λ (z : Image). sector z directory_start) same
                  ∙ directory-two (S.image a) name id (S.whole a).size;
            };
            rest = λ p ne nd. last.elsewhere p ne ∙ outside-c v d (Ok x) repairs p ne nd;
          };
          moments = moments v d (Ok x) repairs;
          reads = reads v d (Ok x) repairs;
          failures = repairs.failures ∙ v.failures ∙ w.failures;
        }

    pub formats-failed : WritesSector {T = Unit {0}} {E = DeviceFault} S b c ds dir (record {}) (Ok (tt {0})) → (d : D)
        (fault : Fault) → Repairs S c d (Err fault) → (e : DeviceFault) → Formats S a d name id (Err e)
    formats-failed v d fault repairs e = record {
      ok = tt;
      moments = moments v d (Err fault) repairs;
      reads = reads v d (Err fault) repairs;
      failures = failed_later S a c d (v.failures ∙ w.failures) (repair-failed Survey S c d (S.failed_at d) (S.image c) fault
          (empty_layout, empty v d (Err fault) repairs) repairs.err repairs.failures);
    }

    -- the second write failed
    pub formats-half : (r : Result (Unit {0}) DeviceFault) (e : DeviceFault) {fault : DeviceFault}
        → WritesSector {T = Unit {0}} {E = DeviceFault} S b c ds dir fault (Err e) → IsErrAnd r (λ x. x ≡ e)
        → Formats S a c name id r
    formats-half (Ok x) e v is = absurd is
    formats-half (Err x) e v is = record {
      ok = tt;
      moments = record {
        held = then S a b c _ (held-one (Ok (tt {0})) w) (held-two (Err e) v);
        writes = omega (arith, w.counted, v.uncounted);
      };
      reads = omega (arith, w.reads, v.reads);
      failures = failed_later S a b c w.failures v.failures;
    }

  -- the first did
  pub formats-none : (r : Result (Unit {0}) DeviceFault) (e : DeviceFault) {fault : DeviceFault}
      → WritesSector {T = Unit {0}} {E = DeviceFault} S a b mp bytes fault (Err e) → IsErrAnd r (λ x. x ≡ e)
      → Formats S a b name id r
  formats-none (Ok x) e w is = absurd is
  formats-none (Err x) e w is = record {
    ok = tt;
    moments = record { held = held-one (Err e) w; writes = omega (arith, w.uncounted) };
    reads = omega (arith, w.reads);
    failures = w.failures;
  }
