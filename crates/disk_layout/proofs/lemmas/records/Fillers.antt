-- Records appended by bytes: where the bytes behind are FF at each record's start and 00 elsewhere.
use Rattle.std.proofs.Common.{
  List,
  ap,
  arith,
  drop,
  get_or,
  length,
  suc,
  sym,
  zero,
  ℕ,
  ◌*◌,
  ◌++◌,
  ◌+◌,
  ◌-◌,
  ◌<◌,
  ◌∙◌,
  ◌≡◌,
  ◌≤◌,
}
use Rattle.std.proofs.Math.Nat.{mul-mod_left}
use Rattle.std.proofs.lemmas.Bool.Decides.{nat_tests}
use Rattle.std.proofs.lemmas.Grind.{same_number_lists}
use Rattle.std.proofs.lemmas.List.{get_or-drop, get_or-replicate, length-drop, length-replicate, same_lists}
use Rattle.std.proofs.lemmas.Nat.{mod-mul-add}
use Rattle.std.specs.Prelude.{replicate, ◌%◌}
use Rattle.disk_layout.proofs.lemmas.records.Pieces.{
  length-piece,
  length-pieces,
  piece,
  piece-byte,
  pieces-at,
  pieces-more,
  pieces-same,
  row-le,
}
use Rattle.disk_layout.specs.Records.{empty_record, filler, pieces}

-- where a record begins
pub filler-first : (L total k : ℕ) → k < total → 0 < L → filler L total (k * L) ≡ 255
filler-first L total k below pos =
    let z : k * L % L ≡ 0 = mul-mod_left k L in
    let lt : k * L < total * L = omega (arith, row-le k total L below) in
    grind (arith, nat_tests)

filler-rest : (L total k j : ℕ) → 0 < j → j < L → filler L total (k * L + j) ≡ 0
filler-rest L total k j pos below =
    let z : (k * L + j) % L ≡ j = mod-mul-add k L j below in
    grind (arith, nat_tests)

empty-long : (L : ℕ) → 0 < L → length (empty_record L) ≡ L
empty-long L pos = omega (arith, length-replicate {A = ℕ} (L - 1) 0)

empty-byte : (L total k j : ℕ) → j < L → k < total → get_or (empty_record L) j 0 ≡ filler L total (k * L + j)
empty-byte L total k zero h below = let e : k * L + 0 ≡ k * L = omega arith in
    rw e (sym (filler-first L total k below (omega arith)))
empty-byte L total k (suc j) h below = get_or-replicate (L - 1) j 0 0 (omega arith)
    ∙ sym (filler-rest L total k (suc j) (omega arith) h)

-- a file whose bytes stay up to its records and are the filler's from there on has its records and empty ones
pub pieces-fill : (L c m : ℕ) (xs ys : List ℕ) → 0 < L → c * L ≤ length xs → (c + m) * L ≤ length ys
    → ((i : ℕ) → i < c * L → get_or xs i 0 ≡ get_or ys i 0) → ((i : ℕ) → c * L ≤ i → i < (c + m) * L
    → get_or ys i 0 ≡ filler L (c + m) i) → pieces L (c + m) ys ≡ pieces L c xs ++ replicate m (empty_record L)
pieces-fill L c m xs ys pos fx fy low high =
    pieces-more L c m ys ∙ cc (
      pieces-same L c xs ys fx (omega (arith, part)) low,
      same_lists (pieces L m zs) (replicate m (empty_record L)) (length-pieces L m zs
          ∙ sym (length-replicate {A = List ℕ} m (empty_record L))) each,
    )
  where
    zs : List ℕ
    zs = drop (c * L) ys

    part : (c + m) * L ≡ c * L + m * L
    part = grind arith

    each : (k : ℕ) (d : List ℕ) → k < length (pieces L m zs)
        → get_or (pieces L m zs) k d ≡ get_or (replicate m (empty_record L)) k d
    each k d h =
        let below : k < m = rw length-pieces at h in
        let row = row-le k m L below in
        let long : length zs ≡ length ys - c * L = length-drop (c * L) ys in
        let fit : k * L + L ≤ length zs = omega (arith, part) in
        pieces-at L m zs k d below
        ∙ same_number_lists (piece L k zs) (empty_record L) (length-piece L k zs fit ∙ sym (empty-long L pos)) (λ j lt.
        let inside : j < L = rw (length-piece L k zs fit) at lt in
        let there : c * L + (k * L + j) ≡ (c + k) * L + j = grind arith in
        piece-byte L k zs j inside
        ∙ get_or-drop (c * L) ys (k * L + j) 0
        ∙ high (c * L + (k * L + j)) (omega arith) (omega (arith, part))
        ∙ ap (filler L (c + m)) there
        ∙ sym (empty-byte L (c + m) (c + k) j inside (omega arith)))
        ∙ sym (get_or-replicate m k (empty_record L) d below)
