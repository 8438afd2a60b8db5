-- A chain of sectors that holds some bytes is a chain of the disk, and these are its data.
use Rattle.std.proofs.Common.{◌≡◌, ◌≤◌, ◌<◌, ◌+◌, ◌*◌, ◌-◌, ℕ, List, [], ◌∷◌, ◌++◌, ap, append-nil, arith, drop}
use Rattle.std.proofs.Common.{length, length-drop, length-take, max, refl, replicate, slice_index, subst, take, ◌∙◌}
use Rattle.std.proofs.lemmas.List.{take-append-drop, take_all}
use Rattle.std.proofs.Math.Seq.{take-append-add, take-append_seam}
use Rattle.d64_image.specs.Images.{Image, sector}
use Rattle.d64_image.specs.declared.place.Place.{Place}
use Rattle.disk_layout.proofs.lemmas.records.Joined.{joined-cons, joined-nil}
use Rattle.disk_layout.specs.Chain.{EachOnce, EndsAt, IsChain, Leads}
use Rattle.disk_layout.specs.Records.{joined}
use Rattle.disk_layout.specs.Side.{padded}
use Rattle.file_changes.specs.PutWrites.{Fills}
use Rattle.file_changes.specs.Puts.{HoldsChain}

-- the index of the last used byte of n bytes in so many sectors
abbrev pub last_index : ℕ → ℕ → ℕ
last_index n count = n - 254 * (count - 1) + 1

-- the links lead from the first sector to the last, which has that index
record LeadsToEnd (img : Image) (p : Place) (ps : List Place) (n : ℕ) : Type 0 where
  front : List Place
  last : Place
  split : p ∷ ps ≡ front ++ last ∷ []
  leads : Leads img p front last
  ends : EndsAt img last (last_index n (length ps + 1))

leads-to : (img : Image) (p : Place) (ps : List Place) (bytes : List ℕ) → HoldsChain img (p ∷ ps) bytes
    → 254 * length ps < length bytes → length bytes ≤ 254 * length ps + 254 → LeadsToEnd img p ps (length bytes)
leads-to img p [] bytes h low high = record {
  front = [];
  last = p;
  split = refl;
  leads = refl;
  ends = (
    ap (λ s. slice_index s 0) h.0,
    ap (λ s. slice_index s 1) h.0 ∙ omega (arith, high, length-take 254 bytes),
  );
}
leads-to img p (q ∷ qs) bytes h low high =
    let more = leads-to img q qs (drop 254 bytes) h.1 (omega (arith, low, length-drop 254 bytes))
    (omega (arith, high, low, length-drop 254 bytes)) in
    let P : ℕ → Type 0 = EndsAt img more.last in
    record {
      front = p ∷ more.front;
      last = more.last;
      split = ap (λ xs. p ∷ xs) more.split;
      leads = (q, refl, (ap (λ s. slice_index s 0) h.0, ap (λ s. slice_index s 1) h.0), more.leads);
      ends = subst P (omega (arith, low, length-drop 254 bytes)) more.ends;
    }

pub is-chain : (img : Image) (p : Place) (ps : List Place) (bytes : List ℕ) → HoldsChain img (p ∷ ps) bytes
    → Fills (length bytes) (length (p ∷ ps)) → EachOnce (p ∷ ps)
    → IsChain img p (p ∷ ps) (last_index (length bytes) (length (p ∷ ps)))
is-chain img p ps bytes h fills once =
    let to = leads-to img p ps bytes h (omega (arith, fills.low)) (omega (arith, fills.high)) in
    let P : ℕ → Type 0 = EndsAt img to.last in
    record {
      front = to.front;
      last = to.last;
      places = to.split;
      leads = to.leads;
      ends = subst P (omega arith) to.ends;
      once = once;
    }

-- the data bytes of one sector
sector-data : (img : Image) (p : Place) (ps : List Place) (bytes : List ℕ) → HoldsChain img (p ∷ ps) bytes
    → drop 2 (sector img p) ≡ take 254 bytes ++ replicate (254 - length (take 254 bytes)) 0
unfolding padded
sector-data img p [] bytes h = ap (drop 2) h.0
sector-data img p (q ∷ qs) bytes h = ap (drop 2) h.0

holds-bytes : (img : Image) (p : Place) (ps : List Place) (bytes : List ℕ) → HoldsChain img (p ∷ ps) bytes
    → 254 * length ps < length bytes → length bytes ≤ 254 * length ps + 254
    → take (length bytes) (joined img (p ∷ ps)) ≡ bytes
holds-bytes img p [] bytes h low high =
    let all : take 254 bytes ≡ bytes = take_all 254 bytes (omega (arith, high)) in
    let zs : List ℕ = replicate (254 - length (take 254 bytes)) 0 in
    let P : List ℕ → Type 0 = λ xs. joined img (p ∷ []) ≡ xs ++ zs in
    let is : joined img (p ∷ []) ≡ take 254 bytes ++ zs = joined-cons img p []
    ∙ ap (λ xs. drop 2 (sector img p) ++ xs) (joined-nil img) ∙ append-nil (drop 2 (sector img p))
    ∙ sector-data img p [] bytes h in
    ap (take (length bytes)) (subst P all is) ∙ take-append_seam bytes zs
holds-bytes img p (q ∷ qs) bytes h low high =
    let xs : List ℕ = take 254 bytes in
    let ys : List ℕ = joined img (q ∷ qs) in
    let long : length xs ≡ 254 = omega (arith, low, length-take 254 bytes) in
    let more = holds-bytes img q qs (drop 254 bytes) h.1 (omega (arith, low, length-drop 254 bytes))
    (omega (arith, high, low, length-drop 254 bytes)) in
    let none : 254 - length xs ≡ 0 = omega (arith, long) in
    let here : drop 2 (sector img p) ≡ xs = sector-data img p (q ∷ qs) bytes h
    ∙ ap (λ (n : ℕ). xs ++ replicate n 0) none ∙ append-nil xs in
    let sum : length bytes ≡ length xs + length (drop 254 bytes) = omega (arith, long, low, length-drop 254 bytes) in
    ap (take (length bytes)) (joined-cons img p (q ∷ qs) ∙ ap (λ zs. zs ++ ys) here)
    ∙ ap (λ (n : ℕ). take n (xs ++ ys)) sum ∙ take-append-add xs ys (length (drop 254 bytes))
    ∙ ap (λ zs. xs ++ zs) more ∙ take-append-drop 254 bytes

-- the data of a file of these sectors
pub chain-data : (img : Image) (p : Place) (ps : List Place) (bytes : List ℕ) → HoldsChain img (p ∷ ps) bytes
    → Fills (length bytes) (length (p ∷ ps))
    → take (254 * (length (p ∷ ps) - 1) + max (last_index (length bytes) (length (p ∷ ps))) 1 - 1)
    (joined img (p ∷ ps)) ≡ bytes
chain-data img p ps bytes h fills =
    let sum : 254 * (length (p ∷ ps) - 1) + max (last_index (length bytes) (length (p ∷ ps))) 1 - 1 ≡ length bytes =
    omega (arith, fills.low) in
    ap (λ (n : ℕ). take n (joined img (p ∷ ps))) sum
    ∙ holds-bytes img p ps bytes h (omega (arith, fills.low)) (omega (arith, fills.high))
