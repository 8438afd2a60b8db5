-- A map made from the owners, sector by sector.
use Rattle.std.proofs.Common.{ℕ, ◌≡◌, ◌≢◌, ◌<◌, ◌≤◌, ◌+◌, min, Some, None, List, sym, ◌∙◌, ap, refl, arith, subst}
use Rattle.std.proofs.Common.{inl, inr, ◌++◌, ◌*◌, ◌/◌, ◌%◌, ◌-◌, length, length-append, append_assoc, slice_index}
use Rattle.std.specs.Prelude.{drop, replicate, take}
use Rattle.std.proofs.Math.ListN.{get_or-append}
use Rattle.std.proofs.Math.Seq.{drop-append_seam, take-append_seam}
use Rattle.std.proofs.lemmas.List.{get_or-append_right, get_or-replicate, length-drop, length-replicate, length-take}
use Rattle.std.proofs.lemmas.Slice.{put_mid-paste}
use borrow.Rule.Slice.PartMut.{put_mid}
use Rattle.std.proofs.lemmas.Nat.Bits.{bit_at-zero}
use Rattle.std.proofs.lemmas.Bool.{cases_eq}
use Rattle.d64_image.proofs.Places.{place_at-some, few_sectors}
use Rattle.d64_image.specs.Geometry.{sectors_on}
use Rattle.d64_image.specs.Places.{place_at}
use Rattle.d64_image.specs.declared.place.Place.{Place}
use Rattle.disk_layout.proofs.lemmas.lists.Sums.{sum-same}
use Rattle.disk_layout.specs.Free.{IsWithoutFree}
use Rattle.disk_layout.specs.Map.{IsFree, IsGiven, map_bit, map_count}
use Rattle.layout_check.proofs.lemmas.mending.Ones.{marked-all, marked-next, marked-past, ones-all, ones-free}
use Rattle.layout_check.proofs.lemmas.mending.Ones.{ones-none, ones-past}
use Rattle.layout_check.proofs.lemmas.mending.Ones.{ones-same, ones-taken, ones_to}
use Rattle.layout_check.specs.Made.{HasNoSpare, IsMadeMap, IsMadeTrack, KeepsTracks, SameHeader}
use Rattle.layout_check.specs.Marked.{IsMarked, IsRightTrack}
use Rattle.layout_check.specs.Owners.{owner_of}
use Rattle.layout_check.specs.declared.owners.Owners.{Owners}

-- a track made as far as its sectors below i
pub record IsMadeTo (old now : List ℕ) (t : Owners) (track i : ℕ) : Type 0 where
  pub marked : (p : Place) → p.track ≡ track → p.sector < i → IsMarked now t p
  pub none : (s : ℕ) → i ≤ s → s < 24 → map_bit now track s ≡ 0
  pub spare : HasNoSpare now track
  pub count : map_count now track ≡ ones_to now track i
  pub few : map_count now track ≤ i
  pub keeps : KeepsTracks old now track

pub made-start : (old : List ℕ) (t : Owners) (track : ℕ) → IsWithoutFree old track → IsMadeTo old old t track 0
made-start old t track h = record {
  marked = λ p on low. absurd (omega arith);
  none = λ s from low. h.bits s low;
  spare = λ s from low. h.bits s low;
  count = h.count ∙ sym (ones-none old track);
  few = omega (arith, h.count);
  keeps = record { bits = λ u s ne low. refl; counts = λ u ne. refl; header = (refl, refl) };
}

pub made-past : (old now : List ℕ) (t : Owners) (track i : ℕ) → None ≡ place_at track i → IsMadeTo old now t track i
    → IsMadeTo old now t track (i + 1)
made-past old now t track i off h = record {
  marked = marked-past now t track i off h.marked;
  none = λ s from low. h.none s (omega arith) low;
  spare = h.spare;
  count = h.count ∙ sym (ones-past now track i off);
  few = omega (arith, h.few);
  keeps = h.keeps;
}

-- the next sector is owned: its bit stays 0
pub made-owned : (old now : List ℕ) (t : Owners) (track i : ℕ) (p : Place) → i < 24 → Some p ≡ place_at track i
    → owner_of t p ≢ 255 → IsMadeTo old now t track i → IsMadeTo old now t track (i + 1)
made-owned old now t track i p low at owned h =
    let both = place_at-some track i p (sym at) in
    let zero_bit : map_bit now p.track p.sector ≡ 0 = ap (λ (n : ℕ). map_bit now n p.sector) both.0
    ∙ ap (map_bit now track) both.1 ∙ h.none i (omega arith) low in
    let taken : ¬ (IsFree now p) = λ f. omega (arith, zero_bit, f) in
    record {
      marked = marked-next now t track i p at h.marked ((λ f. absurd (taken f)), (λ e. absurd (owned e)));
      none = λ s from below. h.none s (omega arith) below;
      spare = h.spare;
      count = h.count ∙ sym (ones-taken now track i p at taken);
      few = omega (arith, h.few);
      keeps = h.keeps;
    }

-- the next sector isn't owned: it is given
pub made-free : (old now new : List ℕ) (t : Owners) (track i : ℕ) (p : Place) → i < 24 → Some p ≡ place_at track i
    → owner_of t p ≡ 255 → IsGiven now new p → IsMadeTo old now t track i → IsMadeTo old new t track (i + 1)
made-free old now new t track i p low at free given h =
    by (place_at-some track i p (sym at)).0 (place_at-some track i p (sym at)).1
  where
    by : p.track ≡ track → p.sector ≡ i → IsMadeTo old new t track (i + 1)
    by on sector =
        let within : i < sectors_on track = rw (← sector, ← on) p.on_disk in
        record {
          marked = marked-next new t track i p at (λ q here below. kept q here below) ((λ _. free), (λ _. given.bit));
          none = λ s from below. same s (omega arith) below ∙ h.none s (omega arith) below;
          spare = λ s from below. same s (omega arith) below ∙ h.spare s from below;
          count = ap (map_count new) (sym on) ∙ given.count ∙ small ∙ sym (ones-free new track i p at given.bit
              ∙ ap (λ n. n + 1) before);
          few = omega (arith, ap (map_count new) on, ap (map_count now) on, given.count, h.few);
          keeps = record {
            bits = λ u s ne below. given.rest.bits u s below (inl (λ e. ne (e ∙ on))) ∙ h.keeps.bits u s ne below;
            counts = λ u ne. given.rest.counts u (λ e. ne (e ∙ on)) ∙ h.keeps.counts u ne;
            header = (given.rest.header.0 ∙ h.keeps.header.0, given.rest.header.1 ∙ h.keeps.header.1);
          };
        }
      where
        same : (s : ℕ) → s ≢ i → s < 24 → map_bit new track s ≡ map_bit now track s
        same s ne below = given.rest.bits track s below (inr (λ e. ne (e ∙ sector)))

        kept : (q : Place) → q.track ≡ track → q.sector < i → IsMarked new t q
        kept q here below =
            let old_bit : map_bit new q.track q.sector ≡ map_bit now q.track q.sector =
            given.rest.bits q.track q.sector (omega arith) (inr (λ e. omega (arith, e, sector))) in
            let m = h.marked q here below in
            ((λ f. m.0 (sym old_bit ∙ f)), (λ e. old_bit ∙ m.1 e))

        before : ones_to new track i ≡ ones_to now track i
        before = ones-same new now track i (λ s below. same s (omega arith) (omega (arith, low)))

        small : min (map_count now p.track + 1) 255 ≡ ones_to now track i + 1
        small = omega (arith, ap (map_count now) on, h.count, h.few, low)

pub made-end : (old now : List ℕ) (t : Owners) (track i : ℕ) → 24 ≤ i → IsMadeTo old now t track i
    → IsMadeTrack old now t track
made-end old now t track i all h = record {
  right = record { marked = marked-all now t track i all h.marked; count = h.count ∙ ones-all now track i all };
  spare = h.spare;
  keeps = h.keeps;
}

pub not-taken : (old now : List ℕ) (t : Owners) (track i : ℕ) (p : Place) → i < 24 → Some p ≡ place_at track i
    → IsMadeTo old now t track i → ¬ (IsFree now p)
not-taken old now t track i p low at h free =
    let both = place_at-some track i p (sym at) in
    let zero_bit : map_bit now p.track p.sector ≡ 0 = ap (λ (n : ℕ). map_bit now n p.sector) both.0
    ∙ ap (map_bit now track) both.1 ∙ h.none i (omega arith) low in
    omega (arith, zero_bit, free)

-- the bytes of the map cleared
pub cleared : List ℕ → List ℕ
cleared old = take 4 old ++ (replicate 140 0 ++ drop 144 old)

cleared-at : (old : List ℕ) (n : ℕ) → length old ≡ 256 → 4 ≤ n → n < 144 → slice_index (cleared old) n ≡ 0
unfolding cleared
cleared-at old n long low high =
    get_or-append_right (take 4 old) (replicate 140 0 ++ drop 144 old) 4 n 0 (omega (arith, length-take 4 old)) low
    ∙ get_or-append (replicate 140 0) (drop 144 old) 0 (n - 4) (omega (arith, length-replicate {A = ℕ} 140 0))
    ∙ get_or-replicate {A = ℕ} 140 (n - 4) 0 0 (omega arith)

pub cleared-none : (old : List ℕ) (t : ℕ) → length old ≡ 256 → 1 ≤ t → t ≤ 35 → IsWithoutFree (cleared old) t
cleared-none old t long low high = record {
  count = cleared-at old (4 * t) long (omega arith) (omega arith);
  bits = λ s below. let z : slice_index (cleared old) (4 * t + 1 + s / 8) ≡ 0 =
      cleared-at old (4 * t + 1 + s / 8) long (omega arith) (omega arith) in rw z (bit_at-zero (s % 8));
}

take-front : (xs ys : List ℕ) (n : ℕ) → n ≡ length xs → take n (xs ++ ys) ≡ xs
take-front xs ys n e = ap (λ k. take k (xs ++ ys)) e ∙ take-append_seam xs ys

drop-past : (xs ys zs : List ℕ) (n : ℕ) → n ≡ length xs + length ys → drop n (xs ++ (ys ++ zs)) ≡ zs
drop-past xs ys zs n e =
    ap (λ k. drop k (xs ++ (ys ++ zs))) (e ∙ sym (length-append xs ys))
    ∙ ap (drop (length (xs ++ ys))) (sym (append_assoc xs ys zs)) ∙ drop-append_seam (xs ++ ys) zs

pub cleared-header : (old : List ℕ) → length old ≡ 256 → SameHeader old (cleared old)
unfolding cleared
cleared-header old long = (
  take-front (take 4 old) (replicate 140 0 ++ drop 144 old) 4 (omega (arith, length-take 4 old)),
  drop-past (take 4 old) (replicate 140 0) (drop 144 old) 144
      (omega (arith, length-take 4 old, length-replicate {A = ℕ} 140 0)),
)

-- the map made as far as the tracks below n
pub record IsMadeBelow (old now : List ℕ) (t : Owners) (n : ℕ) : Type 0 where
  pub right : (track : ℕ) → 1 ≤ track → track < n → IsRightTrack now t track
  pub spare : (track : ℕ) → 1 ≤ track → track < n → HasNoSpare now track
  pub none : (track : ℕ) → n ≤ track → track ≤ 35 → IsWithoutFree now track
  pub header : SameHeader old now

pub below-start : (old now : List ℕ) (t : Owners) → length old ≡ 256 → now ≡ cleared old → IsMadeBelow old now t 1
below-start old now t long e = let P : List ℕ → Type 0 = λ b. IsMadeBelow old b t 1 in subst P (sym e) (record {
  right = λ track low high. absurd (omega arith);
  spare = λ track low high. absurd (omega arith);
  none = λ track low high. cleared-none old track long (omega arith) high;
  header = cleared-header old long;
})

right-kept : (a b : List ℕ) (t : Owners) (track : ℕ) → ((s : ℕ) → s < 24 → map_bit b track s ≡ map_bit a track s)
    → map_count b track ≡ map_count a track → IsRightTrack a t track → IsRightTrack b t track
right-kept a b t track bits count h = record {
  marked = λ p on.
      let low : p.sector < 24 = omega (arith, p.on_disk, few_sectors p.track) in
      let same : map_bit b p.track p.sector ≡ map_bit a p.track p.sector = ap (λ (n : ℕ). map_bit b n p.sector) on
      ∙ bits p.sector low ∙ ap (λ (n : ℕ). map_bit a n p.sector) (sym on) in
      let m = h.marked p on in
      ((λ f. m.0 (sym same ∙ f)), (λ e. same ∙ m.1 e));
  count = count ∙ h.count ∙ sum-same (map_bit a track) (map_bit b track) (sectors_on track)
      (λ s below. sym (bits s (omega (arith, below, few_sectors track))));
}

pub below-next : (old now new : List ℕ) (t : Owners) (n : ℕ) → IsMadeBelow old now t n → IsMadeTrack now new t n
    → IsMadeBelow old new t (n + 1)
below-next old now new t n h made = record {
  right = λ track low high. elim (cases_eq track n) [
    | inl e ↦ rw e made.right
    | inr ne ↦ right-kept now new t track (λ s below. made.keeps.bits track s ne below) (made.keeps.counts track ne)
        (h.right track low (omega arith))
  ];
  spare = λ track low high. elim (cases_eq track n) [
    | inl e ↦ rw e made.spare
    | inr ne ↦ (λ s past below. made.keeps.bits track s ne below ∙ h.spare track low (omega arith) s past below)
  ];
  none = λ track low high. record {
    count = made.keeps.counts track (omega arith) ∙ (h.none track (omega arith) high).count;
    bits = λ s below. made.keeps.bits track s (omega arith) below ∙ (h.none track (omega arith) high).bits s below;
  };
  header = (made.keeps.header.0 ∙ h.header.0, made.keeps.header.1 ∙ h.header.1);
}

pub below-all : (old now : List ℕ) (t : Owners) (n : ℕ) → 35 < n → IsMadeBelow old now t n → IsMadeMap old now t
below-all old now t n all h = record {
  right = λ track low high. h.right track low (omega arith);
  spare = λ track low high. h.spare track low (omega arith);
  header = h.header;
}

-- the bytes of the map filled with zeros
pub filled : (old ys : List ℕ) → length old ≡ 256 → ys ≡ replicate (length (take 140 (drop 4 old))) 0
    → put_mid 4 140 old ys ≡ cleared old
unfolding cleared
filled old ys whole e =
    let long : length (take 140 (drop 4 old)) ≡ 140 = omega (
      arith,
      length-take 140 (drop 4 old),
      length-drop 4 old,
      whole,
    ) in
    put_mid-paste 4 140 old ys (replicate 140 0) 140 (e ∙ ap (λ (n : ℕ). replicate n 0) long) refl refl
    ∙ append_assoc (take 4 old) (replicate 140 0) (drop 144 old)
