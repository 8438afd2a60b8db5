-- The data blocks of a file, listed from its side sectors.
use Rattle.std.proofs.Common.{◌≡◌, ℕ, zero, suc, ◌+◌, ◌-◌, ◌*◌, ◌<◌, ◌≤◌, List, [], ◌∷◌, ◌++◌, Option, Some, IsSome}
use Rattle.std.proofs.Common.{length, refl, sym, ◌∙◌, ap, arith, subst, take, drop, min}
use Rattle.std.specs.Prelude.{slice_get, slice_index}
use Rattle.std.proofs.Math.Seq.{take-add}
use Rattle.std.proofs.lemmas.List.{length-drop, length-take, take_all}
use Rattle.std.proofs.lemmas.Option.{slice_get_within}
use Rattle.d64_image.specs.Images.{Image, Sector, sector}
use Rattle.d64_image.specs.declared.place.Place.{Place}
use Rattle.disk_layout.proofs.lemmas.chains.Names.{named-is}
use Rattle.disk_layout.proofs.lemmas.counts.Recount.{slot-there}
use Rattle.disk_layout.proofs.lemmas.counts.Recounts.{slot-of}
use Rattle.disk_layout.specs.Chain.{named_at}
use Rattle.disk_layout.specs.Layout.{File, Layout}
use Rattle.rel_records.proofs.lemmas.reading.Opened.{file-in, file-rel}
use Rattle.rel_records.proofs.lemmas.steps.Sided.{get-there}
use Rattle.rel_records.specs.File.{IsFileOf}
use Rattle.rel_records.specs.declared.rel_file.RelFile.{RelFile}
use Rattle.rel_records.specs.reading.Sides.{NamesEach}

-- what is named is there
pub named-there : (bytes : Sector) (qs : List Place) (at k : ℕ) (r : Option Place) → k < length qs
    → NamesEach bytes at qs → r ≡ named_at bytes (at + 2 * k) → (q : Place) × (slice_get qs k ≡ Some q) × (r ≡ Some q)
named-there bytes qs at k r lt named is =
    let (q, there) = get-there qs k lt in
    (q, there, is ∙ named-is bytes (at + 2 * k) q (named k q there))

pub some-of : (r : Option Place) (q : Place) → r ≡ Some q → IsSome r
some-of r q e = let P : Option Place → Type 0 = IsSome in subst P (sym e) refl

-- one more
pub take-one : (xs : List Place) (k : ℕ) (x : Place) → slice_get xs k ≡ Some x → take (k + 1) xs ≡ take k xs ++ x ∷ []
take-one [] k x e = cc
take-one (y ∷ xs) zero x e = let s : y ≡ x = cc in ap (λ z. z ∷ []) s
take-one (y ∷ xs) (suc k) x e =
    let n : suc k + 1 ≡ suc (k + 1) = omega arith in
    ap (λ m. take m (y ∷ xs)) n ∙ ap (λ ys. y ∷ ys) (take-one xs k x e)

pub listed-more : (bytes : Sector) (qs now next start : List Place) (at k : ℕ) (r : Option Place) (x : Place)
    → k < length qs → NamesEach bytes at qs → r ≡ named_at bytes (at + 2 * k) → r ≡ Some x → now ≡ start ++ take k qs
    → next ≡ now ++ x ∷ [] → next ≡ start ++ take (k + 1) qs
listed-more bytes qs now next start at k r x lt named is some so_far push =
    let (q, there, found) = named-there bytes qs at k r lt named is in
    let both : Some x ≡ Some q = sym some ∙ found in
    let same : x ≡ q = cc in
    push ∙ ap (λ ys. ys ++ x ∷ []) so_far ∙ regroup start (take k qs) (x ∷ [])
    ∙ ap (λ ys. start ++ ys) (ap (λ y. take k qs ++ y ∷ []) same ∙ sym (take-one qs k q there))
  where
    regroup : (a b c : List Place) → (a ++ b) ++ c ≡ a ++ (b ++ c)
    regroup [] b c = refl
    regroup (x ∷ a) b c = ap (λ ys. x ∷ ys) (regroup a b c)

get-take-back : (xs : List Place) (n k : ℕ) (q : Place) → slice_get (take n xs) k ≡ Some q → slice_get xs k ≡ Some q
get-take-back [] zero k q e = e
get-take-back [] (suc n) k q e = e
get-take-back (x ∷ xs) zero k q e = cc
get-take-back (x ∷ xs) (suc n) zero q e = e
get-take-back (x ∷ xs) (suc n) (suc k) q e = get-take-back xs n k q e

get-drop-back : (xs : List Place) (a k : ℕ) → slice_get (drop a xs) k ≡ slice_get xs (a + k)
get-drop-back [] zero k = refl
get-drop-back [] (suc a) k = refl
get-drop-back (x ∷ xs) zero k = ap (slice_get (x ∷ xs)) (let e : k ≡ 0 + k = omega arith in e)
get-drop-back (x ∷ xs) (suc a) k = let e : suc a + k ≡ suc (a + k) = omega arith in rw e (get-drop-back xs a k)

module _ (img : Image) (l : Layout) (n : ℕ) (f : File) (v : RelFile) (of : IsFileOf img l n f v) where
  -- the blocks that side sector i points to
  pub piece-named : (i : ℕ) (side : Place) (bytes : Sector) → slice_get v.sides.items i ≡ Some side
      → bytes ≡ sector img side → NamesEach bytes 16 (take 120 (drop (120 * i) f.blocks))
  piece-named i side bytes at read k q e =
      let at' : slice_get f.sides i ≡ Some side = ap (λ ps. slice_get ps i) (sym of.shows.sides) ∙ at in
      let low : k < 120 = omega (
        arith,
        slice_get_within (take 120 (drop (120 * i) f.blocks)) k q e,
        length-take 120 (drop (120 * i) f.blocks),
      ) in
      let there : slice_get f.blocks (120 * i + k) ≡ Some q = sym (get-drop-back f.blocks (120 * i) k)
      ∙ get-take-back (drop (120 * i) f.blocks) 120 k q e in
      let names = ((file-rel img l n f v of).sides i side at').pointers k q low there in
      (ap (λ b. slice_index b (16 + 2 * k)) read ∙ names.0, ap (λ b. slice_index b (16 + 2 * k + 1)) read ∙ names.1)

  pub piece-long : (i len : ℕ) (now : List Place) → now ≡ take (120 * i) f.blocks → len ≡ length now
      → i < length v.sides.items → length (take 120 (drop (120 * i) f.blocks)) ≡ min (v.blocks - len) 120
  piece-long i len now e is lt =
      let m : length now ≡ length (take (120 * i) f.blocks) = ap length e in
      omega (
        arith,
        m,
        is,
        length-take (120 * i) f.blocks,
        length-take 120 (drop (120 * i) f.blocks),
        length-drop (120 * i) f.blocks,
        of.shows.blocks,
        v.count,
        lt,
      )

  -- listed so far and no more than there are
  pub len-low : (i len : ℕ) (now : List Place) → now ≡ take (120 * i) f.blocks → len ≡ length now → len ≤ v.blocks
  len-low i len now e is =
      let m : length now ≡ length (take (120 * i) f.blocks) = ap length e in
      omega (arith, m, is, length-take (120 * i) f.blocks, of.shows.blocks)

  pub piece-joined : (i : ℕ) (now next : List Place) → now ≡ take (120 * i) f.blocks
      → next ≡ now ++ take 120 (drop (120 * i) f.blocks) → next ≡ take (120 * (i + 1)) f.blocks
  piece-joined i now next e more =
      let s : 120 * (i + 1) ≡ 120 * i + 120 = omega arith in
      more ∙ ap (λ xs. xs ++ take 120 (drop (120 * i) f.blocks)) e ∙ sym (take-add (120 * i) 120 f.blocks)
      ∙ ap (λ k. take k f.blocks) (sym s)

  pub all-listed : (i : ℕ) (now : List Place) → length v.sides.items ≤ i → now ≡ take (120 * i) f.blocks
      → now ≡ f.blocks
  all-listed i now le e = e ∙ take_all (120 * i) f.blocks (omega (arith, le, v.count, of.shows.blocks))

  -- the slot's number
  pub number-low : v.number < 8
  number-low =
      let there = slot-there img l.directory f.slot (slot-of img l f of.layout (file-in img l n f v of)) in
      omega (arith, of.shows.number, there.1)
